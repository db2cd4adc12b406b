-- Whole runs: the word follows its source from the start, and comes to no state but on the way.
use mathlib.Core.Path.{◌≡◌, refl, sym, ap, ◌∙◌, subst, fun_ext}
use mathlib.Core.Logic.{◌≢◌, ◌⊎◌, inl, inr, ⊎_elim}
use mathlib.Core.Bool.{Bool, true, false, cond}
use mathlib.Core.Option.{Option, none, some, map, none-ne-some, some-injective}
use mathlib.Core.List.{List, []}
use Prim.Native.Nat.{ℕ, zero, suc, pred, ◌+◌, ◌-◌, ◌*◌, ◌≤◌, ◌<◌}
use native.Mathlib.Numerals.{add-one}
use native.Mathlib.Omega.{arith}
use lib.IntN.{pos}
use lib.ListN.{length}
use lib.Dec.{eqb, ltb}
use borrow.Author.Tests.{eqb-true, eqb-false, lt-ltb, le-ltb, ltb-true, ltb-false}
use Rattle.theory.specs.Basics.{at, and_then, default}
use Rattle.theory.specs.Runs.{register, Room, Goes, stay, move, each}
use Rattle.theory.specs.ProgramText.{loop, while, clear, increment, copy, Command, plain, opens, closes, variables, Block, lines}
use Rattle.theory.specs.Source as S
use Rattle.theory.specs.Source.{State, depth, passes_after}
use Rattle.theory.specs.Word as W
use Rattle.theory.specs.Translation.{scratch, counter, word}
use Rattle.theory.specs.Translation.{loop_charge, endloop_charge, command_charge, charge}
use Rattle.theory.specs.Machines.{fresh_source, fresh_word, holding, ones}
use Rattle.theory.specs.declared.End.TheVariants.{Halted}
use Rattle.theory.proofs.Joins.{join, inversion, compare}
use Rattle.theory.proofs.Steps.{standing, step_forward}
use Rattle.theory.proofs.Partners.{named_below, depth_end}
use Rattle.theory.proofs.Sites.{place, site, place-start}
use Rattle.theory.proofs.Matching.{Roomy, Match}
use Rattle.theory.proofs.Simulate.{Result, simulate}
use Rattle.theory.proofs.Stops.{here, stop_both}

-- The counts at the start

counts : ℕ → (ℕ → ℕ) → ℕ → ℕ
counts K v zero = 0
counts K v (suc i) = cond (ltb i K) (v i) 0

start_is : (K : ℕ) (v : ℕ → ℕ) → fresh_word K v ≡ standing 1 (counts K v)
unfolding standing counts
start_is K v = λ x. record { place = pos 1; registers = fun_ext {f = holding K v} {g = λ j. ones (counts K v j)} go x }
  where
    out : (t : Bool) (i : ℕ) → cond t (ones (v i)) [] ≡ ones (cond t (v i) 0)
    out true i = refl
    out false i = refl

    go : (j : ℕ) → holding K v j ≡ ones (counts K v j)
    go zero = refl
    go (suc i) = out (ltb i K) i

counts_in : (K : ℕ) (v : ℕ → ℕ) (i : ℕ) → i < K → counts K v (register i) ≡ v i
unfolding counts
counts_in K v i h = rw add-one (ap (λ t. cond t (v i) 0) (lt-ltb i K h))

counts_out : (K : ℕ) (v : ℕ → ℕ) (j : ℕ) → K < j → counts K v j ≡ 0
unfolding counts
counts_out K v zero h = refl
counts_out K v (suc i) h = ap (λ t. cond t (v i) 0) (le-ltb i K (omega arith))

-- Every step is charged

loop_pays : (x : ℕ) → 0 < loop_charge x
loop_pays zero = omega arith
loop_pays (suc x) = omega arith

endloop_pays : (x : ℕ) → 0 < endloop_charge x
endloop_pays zero = omega arith
endloop_pays (suc x) = omega arith

command_pays : (p : List Command) (s : State) (c : Command) → 0 < command_charge p s c
command_pays p s (plain (clear i)) = omega arith
command_pays p s (plain (increment i)) = omega arith
command_pays p s (plain (copy i j)) = go (eqb i j)
  where
    go : (t : Bool) → 0 < cond t 2 (2 * s.values i + 7 * s.values j + 6)
    go true = omega arith
    go false = omega arith
command_pays p s (opens loop i) = loop_pays (s.values i)
command_pays p s (opens while i) = omega arith
command_pays p s (closes loop i) = endloop_pays (passes_after p s)
command_pays p s (closes while i) = omega arith

step_pays : (room : Room) (p : List Command) (s s' : State) → S.step room p s ≡ some s' → 0 < charge p s
unfolding S.step charge
step_pays room p s s' x = go (at p s.line) x
  where
    go : (o : Option Command) → and_then o (S.perform room p s) ≡ some s' → 0 < default 0 (map (command_charge p s) o)
    go none y = absurd (none-ne-some s' y)
    go (some c) y = command_pays p s c

module _ (room : Room) (b : Block) (R : Roomy room (variables (lines b)) (word b)) where
  abbrev p : List Command
  p = lines b

  abbrev K : ℕ
  K = variables (lines b)

  abbrev at-line : State → (ℕ → ℕ) → W.State
  at-line = here room b

  abbrev pub SourceRunIn : State → ℕ → State → Type 0
  SourceRunIn = Goes (S.step room (lines b)) (charge (lines b))

  abbrev pub WordRunIn : W.State → ℕ → W.State → Type 0
  WordRunIn = Goes (W.step room (word b)) each

  -- From t the word goes in c steps to where s is
  abbrev pub Followed : W.State → ℕ → State → Type 0
  Followed t c s = (n : ℕ → ℕ) × WordRunIn t c (here room b s n) × Match room (variables (lines b)) (lines b) s n

  one_step : (s s' : State) (n : ℕ → ℕ) → Match room K p s n → S.step room p s ≡ some s' → Result room K p (word b) s n (charge p s) s'
  one_step s s' n M e = simulate room K p (word b) R s n M (λ l c h. (site b l c h, named_below p l c h)) s' e

  follow : {s s' : State} {c : ℕ} → SourceRunIn s c s' → (n : ℕ → ℕ) → Match room K p s n → Followed (at-line s n) c s'
  follow stay n M = (n, stay, M)
  follow (move {s} {s'} e g) n M =
      let r : Result room K p (word b) s n (charge p s) s' = one_step s s' n M e in
      let f : _ = follow g r.0 r.2 in
      (f.0, join r.1 f.1, f.2)

  -- Each state that the word comes to from a match has a step, or is where the word stops for a source state that has none: both are
  -- halted, or neither
  abbrev pub Reached : State → W.State → Type 0
  Reached s t =
      ((t' : W.State) × (W.step room (word b) t ≡ some t'))
      ⊎ ((c : ℕ) × (s' : State) × SourceRunIn s c s'
      × ((((S.machine room (lines b)).ended s' ≡ some Halted) × ((W.machine room (word b)).ended t ≡ some Halted))
      ⊎ (((S.machine room (lines b)).ended s' ≡ none) × ((W.machine room (word b)).ended t ≡ none))))

  -- by the number f that the steps m of the word are below: every source step takes some of them
  reach : (f m : ℕ) → m < f → (s : State) (n : ℕ → ℕ) (t : W.State) → Match room K p s n → WordRunIn (at-line s n) m t → Reached s t
  reach zero m h s n t M g = absurd (omega arith)
  reach (suc f) m h s n t M g = go (S.step room p s) refl (λ m' l s' n' M' g'. reach f m' l s' n' t M' g')
    where
      last : S.step room p s ≡ none → Reached s t
      last e =
          let x : _ = stop_both room b R s n M e in
          let same : (y : t ≡ x.1) → (W.machine room (word b)).ended t ≡ (W.machine room (word b)).ended x.1 =
          ap (W.machine room (word b)).ended in
          let found : t ≡ x.1 → Reached s t = λ y. inr (
            0,
            s,
            stay,
            ⊎_elim
                (λ z. inl (z.0, same y ∙ z.1))
                (λ z. inr (z.0, same y ∙ z.1))
                x.4,
          ) in
          ⊎_elim
          (λ y. ⊎_elim (λ z. found z.1) (λ z. inl (z.0, z.2)) (inversion y.2))
          (λ y. ⊎_elim (λ z. found (sym z.1)) (λ z. absurd (none-ne-some z.0 (sym x.3 ∙ z.2))) (inversion y.2))
          (compare g x.2)

      onward : (s' : State) → S.step room p s ≡ some s' → Reached s' t → Reached s t
      onward s' e (inl z) = inl z
      onward s' e (inr z) = inr (charge p s + z.0, z.1, move e z.2, z.3)

      go : (o : Option State) → S.step room p s ≡ o
          → ((m' : ℕ) → m' < f → (s' : State) (n' : ℕ → ℕ) → Match room K p s' n' → WordRunIn (at-line s' n') m' t → Reached s' t)
          → Reached s t
      go none e rec = last e
      go (some s') e rec =
          let r : Result room K p (word b) s n (charge p s) s' = one_step s s' n M e in
          let paid : 0 < charge p s = step_pays room p s s' e in
          let there : W.State = at-line s' r.0 in
          ⊎_elim
          (λ y. let e₁ : m + y.0 ≡ charge p s = y.1 in ⊎_elim
          (λ z. let e₂ : y.0 ≡ 0 = z.0 in
          onward s' e (rec 0 (omega arith) s' r.0 r.2 (subst (λ u. WordRunIn there 0 u) (sym z.1) stay)))
          (λ z. inl (z.0, z.2))
          (inversion y.2))
          (λ y. let e₁ : charge p s + y.0 ≡ m = y.1 in onward s' e (rec y.0 (omega arith) s' r.0 r.2 y.2))
          (compare g r.1)

  -- From the start
  module _ (v : ℕ → ℕ) (fit : (i : ℕ) → i < variables (lines b) → room (register i) (v i) ≡ true) where
    start : Match room K p (fresh_source v) (counts K v)
    start = record {
      from_first = omega arith;
      to_end = omega arith;
      held = counts_in K v;
      empty = counts_out K v (scratch K) (omega arith);
      counted = λ d. counts_out K v (counter K d) (omega arith);
      idle = λ d h. refl;
      fit = fit;
    }

    abbrev second : W.State
    second = at-line (fresh_source v) (counts K v)

    -- F1
    first : W.step room (word b) (fresh_word K v) ≡ some second
    unfolding word
    first = ap (W.step room (word b)) (start_is K v) ∙ step_forward room (word b) 1 (counts K v) 1 (place K p 1) refl (place-start K p)

    pub followed : (c : ℕ) (s : State) → SourceRunIn (fresh_source v) c s → Followed (fresh_word (variables (lines b)) v) (1 + c) s
    followed c s g = let f : _ = follow g (counts K v) start in (f.0, move first f.1, f.2)

    pub reached : (m : ℕ) (t : W.State) → WordRunIn (fresh_word (variables (lines b)) v) m t
        → Reached (fresh_source v) t
    reached m t g = ⊎_elim
        (λ z. inl (second, ap (W.step room (word b)) (sym z.1) ∙ first))
        (λ z. reach (suc z.1) z.1 (omega arith) (fresh_source v) (counts K v) t start
        (subst (λ u. WordRunIn u z.1 t) (some-injective z.0 second (sym z.2 ∙ first)) z.3))
        (inversion g)

  -- Where the source has halted, nothing is in the registers beyond its variables
  rest_empty : (s : State) (n : ℕ → ℕ) → Match room K p s n → s.line ≡ suc (length p) → (j : ℕ) → K < j → n j ≡ 0
  rest_empty s n M h j l = go (eqb j (scratch K)) refl
    where
      go : (t : Bool) → eqb j (scratch K) ≡ t → n j ≡ 0
      go true e = ap n (eqb-true j (scratch K) e) ∙ M.empty
      go false e =
          let ne : j ≢ scratch K = eqb-false j (scratch K) e in
          let d : ℕ = j - (K + 2) in
          let j_is : j ≡ counter K d = omega arith in
          let outside : depth p s.line ≡ 0 = ap (depth p) h ∙ depth_end b in
          ap n j_is ∙ (M.counted d ∙ ap pred (M.idle d (omega arith)))

  pub final_registers : (s : State) (n : ℕ → ℕ) → Match room (variables (lines b)) (lines b) s n → s.line ≡ suc (length (lines b))
      → (r : ℕ) → 0 < r → (here room b s n).registers r ≡ holding (variables (lines b)) s.values r
  unfolding standing
  final_registers s n M h zero l = absurd (omega arith)
  final_registers s n M h (suc i) l = go (ltb i K) refl
    where
      go : (t : Bool) → ltb i K ≡ t → ones (n (suc i)) ≡ cond t (ones (s.values i)) []
      go true e = ap ones (ap n (sym (add-one i)) ∙ M.held i (ltb-true i K e))
      go false e = let past : K ≤ i = ltb-false i K e in ap ones (rest_empty s n M h (suc i) (omega arith))
