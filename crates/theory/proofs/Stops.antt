-- Where a source state that its word matches has no step, the word comes to a state that has none; and both are halted, or neither is.
use mathlib.Core.Path.{◌≡◌, refl, sym, ap, ◌∙◌, subst}
use mathlib.Core.Logic.{◌≢◌, ◌⊎◌, inl, inr}
use mathlib.Core.Bool.{Bool, true, false, cond, true≢false}
use mathlib.Core.Option.{Option, none, some, none-ne-some}
use mathlib.Core.List.{List}
use Prim.Native.Nat.{ℕ, zero, suc, ◌+◌, ◌*◌, ◌≤◌, ◌<◌}
use native.Mathlib.Omega.{arith}
use lib.ListN.{length}
use lib.Dec.{eqb}
use borrow.Author.Tests.{eqb-true, eqb-false, eq-eqb, ne_eqb}
use Rattle.theory.specs.Basics.{at, given, put, and_then}
use Rattle.theory.specs.Runs.{register, Room, unlimited, Goes, stay, each}
use Rattle.theory.specs.ProgramText.{loop, while, clear, increment, copy, Command, plain, opens, closes, indices, above, variables}
use Rattle.theory.specs.ProgramText.{Block, lines}
use Rattle.theory.specs.Source as S
use Rattle.theory.specs.Source.{State, set_variable}
use Rattle.theory.specs.Word as W
use Rattle.theory.specs.Word.{Instruction}
use Rattle.theory.specs.Translation.{scratch, touching, copying, word}
use Rattle.theory.specs.declared.End.{End}
use Rattle.theory.specs.declared.End.TheVariants.{Halted}
use Rattle.theory.proofs.Unlimited.{word_live}
use Rattle.theory.proofs.Endings.{ended_stops}
use Rattle.theory.proofs.Cells.{at_there, Sits}
use Rattle.theory.proofs.Steps.{standing, step-append, step_full}
use Rattle.theory.proofs.Partners.{named_below}
use Rattle.theory.proofs.Sites.{place, Line, site, place_end}
use Rattle.theory.proofs.Matching.{Roomy, fits, Match}
use Rattle.theory.proofs.Paths.{Fits, fills}

-- A command that cannot be done: an increment, or a copy, that has no room

abbrev pub NoRoom : Room → State → Command → Type 0
NoRoom room s c =
    ((i : ℕ) × (c ≡ plain (increment i)) × (room (register i) (suc (s.values i)) ≡ false))
    ⊎ ((i : ℕ) × (j : ℕ) × (c ≡ plain (copy i j)) × (room (register i) (s.values j) ≡ false))

refused : (t : Bool) (s : State) → given t s ≡ none → t ≡ false
refused true s e = absurd (none-ne-some s (sym e))
refused false s e = refl

pub stuck : (room : Room) (p : List Command) (s : State) (c : Command) → S.perform room p s c ≡ none → NoRoom room s c
stuck room p s (plain (clear i)) e = absurd (none-ne-some _ (sym e))
stuck room p s (plain (increment i)) e =
    inl (i, refl, refused (room (register i) (suc (s.values i))) (set_variable s i (suc (s.values i))) e)
stuck room p s (plain (copy i j)) e = inr (i, j, refl, refused (room (register i) (s.values j)) (set_variable s i (s.values j)) e)
stuck room p s (opens loop i) e = absurd (none-ne-some _ (sym e))
stuck room p s (opens while i) e = absurd (none-ne-some _ (sym e))
stuck room p s (closes loop i) e = absurd (none-ne-some _ (sym e))
stuck room p s (closes while i) e = absurd (none-ne-some _ (sym e))

-- Where there is room for nothing and not for x, there is a largest amount with room
edge : (room : Room) (r x : ℕ) → room r 0 ≡ true → room r x ≡ false → (m : ℕ) × (m < x) × (room r m ≡ true) × (room r (suc m) ≡ false)
edge room r zero h e = absurd (true≢false (sym h ∙ e))
edge room r (suc x) h e = go (room r x) refl (λ f. edge room r x h f)
  where
    Edge : ℕ → Type 0
    Edge x = (m : ℕ) × (m < x) × (room r m ≡ true) × (room r (suc m) ≡ false)

    go : (t : Bool) → room r x ≡ t → (room r x ≡ false → Edge x) → Edge (suc x)
    go true f rec = (x, omega arith, f, e)
    go false f rec = let y : Edge x = rec f in let l : y.0 < x = y.1 in (y.0, omega arith, y.2, y.3)

-- The steps e that a word does of a source step for which there is no room: none of an increment; of a copy of j into i, whose register
-- has room for m and no more, those that clear i, move m 1s and take one more. The value of j has room in its own register
abbrev pub Unfinished : Room → List Command → State → ℕ → Type 0
Unfinished room p s e =
    ((i : ℕ) × (at p s.line ≡ some (plain (increment i))) × (e ≡ 0))
    ⊎ ((i : ℕ) × (j : ℕ) × (m : ℕ) × (at p s.line ≡ some (plain (copy i j))) × (room (register i) m ≡ true)
    × (room (register i) (suc m) ≡ false) × (room (register j) (suc m) ≡ true) × (e ≡ 2 * s.values i + 2 + 4 * m + 1))

module _ (room : Room) (b : Block) where
  abbrev p : List Command
  p = lines b

  abbrev K : ℕ
  K = variables (lines b)

  abbrev w : List Instruction
  w = word b

  abbrev SourceEnd : State → Option End
  SourceEnd s = (S.machine room (lines b)).ended s

  abbrev WordEnd : W.State → Option End
  WordEnd t = (W.machine room (word b)).ended t

  abbrev pub here : State → (ℕ → ℕ) → W.State
  here s n = standing (place K p s.line) n

  -- From a source state that has no step the word goes e steps on and has none either: both are halted, or neither
  abbrev pub Stopped : State → (ℕ → ℕ) → Type 0
  Stopped s n =
      (e : ℕ) × (t : W.State) × Goes (W.step room (word b)) each (here s n) e t × (W.step room (word b) t ≡ none)
      × (((SourceEnd s ≡ some Halted) × (WordEnd t ≡ some Halted) × (e ≡ 0))
      ⊎ ((SourceEnd s ≡ none) × (WordEnd t ≡ none) × Unfinished room (lines b) s e))

  pub halted_line : (s : State) → SourceEnd s ≡ some Halted → s.line ≡ suc (length p)
  halted_line s h = go (eqb s.line (suc (length p))) refl h
    where
      go : (t : Bool) → eqb s.line (suc (length p)) ≡ t → given t Halted ≡ some Halted → s.line ≡ suc (length p)
      go true e f = eqb-true s.line (suc (length p)) e
      go false e f = absurd (none-ne-some Halted f)

  pub word_halts : (s : State) (n : ℕ → ℕ) → s.line ≡ suc (length p) → WordEnd (here s n) ≡ some Halted
  unfolding standing
  word_halts s n h =
      let q : place K p s.line ≡ suc (length w) = ap (place K p) h ∙ place_end b in
      rw (eq-eqb (place K p s.line) (suc (length w)) q)

  both_halted : (s : State) (n : ℕ → ℕ) → s.line ≡ suc (length p) → Stopped s n
  both_halted s n h = (
    0,
    here s n,
    stay,
    ended_stops (W.machine room w) (word_live room w) (here s n) Halted (word_halts s n h),
    inl (rw (eq-eqb s.line (suc (length p)) h), word_halts s n h, refl),
  )

  module _ (R : Roomy room (variables (lines b)) (word b)) where
    both_full : (s : State) (n : ℕ → ℕ) → Match room K p s n → (c : Command) → at p s.line ≡ some c → s.line ≤ length p
        → NoRoom room s c → Stopped s n
    both_full s n M c e l (inr (i, j, c-is, h)) = go (eqb i j) refl
      where
        e' : at p s.line ≡ some (plain (copy i j))
        e' = e ∙ ap {B = Option Command} some c-is

        L : Line K p w s.line (copy i j)
        L = site b s.line (plain (copy i j)) e'

        here_place : ℕ
        here_place = place K p s.line

        below : above (indices (plain (copy i j))) ≤ K
        below = named_below p s.line (plain (copy i j)) e'

        i_below : i < K
        i_below = omega (arith, below)

        j_below : j < K
        j_below = omega (arith, below)

        source_on : SourceEnd s ≡ none
        source_on = rw (ne_eqb s.line (suc (length p)) λ z. omega arith)

        go : (t : Bool) → eqb i j ≡ t → Stopped s n
        go true q =
            let same : i ≡ j = eqb-true i j q in
            absurd (true≢false (sym (M.fit j j_below) ∙ (ap (λ k. room (register k) (s.values j)) (sym same) ∙ h)))
        go false q =
            let ne : i ≢ j = eqb-false i j q in
            let x : ℕ = s.values j in
            let here_code : Sits w here_place (copying (register j) (register i) (scratch K)) =
            subst (λ t. Sits w here_place (cond t (touching (register j)) (copying (register j) (register i) (scratch K)))) q
            L.line_code in
            let room_j : Fits room (register j) x = fits room K w R (register j) x (M.fit j j_below) in
            let room_i : Fits room (register i) (s.values i) = fits room K w R (register i) (s.values i) (M.fit i i_below) in
            let y : _ = edge room (register i) x (room_i 0 (omega arith)) h in
            let m : ℕ = y.0 in
            let l' : m < x = y.1 in
            let q' : ℕ = suc (suc (suc (suc (suc (suc here_place))))) in
            let spare : room (scratch K) m ≡ true =
            R.in_named q' (scratch K) j m here_code.1.1.1.1.1.1.0 (omega arith) j_below (room_j m (omega arith)) in
            let f : _ = fills room w n (register j) (register i) (scratch K) (λ z. ne (omega arith)) (λ z. omega (arith, j_below))
            (λ z. omega (arith, i_below)) here_place here_code x (s.values i) m (M.held j j_below) (M.held i i_below) M.empty l'
            (fits room K w R (register i) m y.2) y.3 (fits room K w R (scratch K) m spare) in (
              2 * s.values i + 2 + 4 * m + 1,
              f.0,
              f.2,
              f.3,
              inr (
                source_on,
                word_live unlimited w f.0 f.1 f.4,
                inr (i, j, m, e', y.2, y.3, room_j (suc m) (omega arith), refl),
              ),
            )
    both_full s n M c e l (inl (i, c-is, h)) =
        let q : ℕ = place K p s.line in
        let e' : at p s.line ≡ some (plain (increment i)) = e ∙ ap {B = Option Command} some c-is in
        let L : Line K p w s.line (increment i) = site b s.line (plain (increment i)) e' in
        let below : _ = named_below p s.line (plain (increment i)) e' in
        let value : n (register i) ≡ s.values i = M.held i (omega arith) in
        let more : ℕ → ℕ = put n (register i) (suc (s.values i)) in
        let goes : W.step unlimited w (standing q n) ≡ some (standing (suc q) more) =
        step-append unlimited w q n (register i) (s.values i) (suc q) more L.line_code.0 value refl refl refl in (
          0,
          here s n,
          stay,
          step_full room w q n (register i) (s.values i) L.line_code.0 value h,
          inr (
            rw (ne_eqb s.line (suc (length p)) λ z. omega arith),
            word_live unlimited w (standing q n) (standing (suc q) more) goes,
            inl (i, e', refl),
          ),
        )

    pub stop_both : (s : State) (n : ℕ → ℕ) → Match room K p s n → S.step room p s ≡ none → Stopped s n
    unfolding S.step
    stop_both s n M e = go (eqb s.line (suc (length p))) refl
      where
        go : (t : Bool) → eqb s.line (suc (length p)) ≡ t → Stopped s n
        go true x = both_halted s n (eqb-true s.line (suc (length p)) x)
        go false x =
            let ne : s.line ≢ suc (length p) = eqb-false s.line (suc (length p)) x in
            let l : s.line ≤ length p = omega (arith, M.to_end) in
            let c : (a : Command) × (at p s.line ≡ some a) = at_there p s.line M.from_first l in
            both_full s n M c.0 c.1 l (stuck room p s c.0 (sym (ap (λ o. and_then o (S.perform room p s)) c.1) ∙ e))

  -- Where every register has room for any amount, a source that has no step has halted
  pub stuck_halted : ((r n : ℕ) → room r n ≡ true) → (s : State) (n : ℕ → ℕ) → Match room K p s n → S.step room p s ≡ none
      → SourceEnd s ≡ some Halted
  unfolding S.step
  stuck_halted roomy s n M e = go (eqb s.line (suc (length p))) refl
    where
      no : (c : Command) → NoRoom room s c → ⊥
      no c (inl (i, c-is, h)) = true≢false (sym (roomy (register i) (suc (s.values i))) ∙ h)
      no c (inr (i, j, c-is, h)) = true≢false (sym (roomy (register i) (s.values j)) ∙ h)

      go : (t : Bool) → eqb s.line (suc (length p)) ≡ t → SourceEnd s ≡ some Halted
      go true x = rw x
      go false x =
          let ne : s.line ≢ suc (length p) = eqb-false s.line (suc (length p)) x in
          let l : s.line ≤ length p = omega (arith, M.to_end) in
          let c : (a : Command) × (at p s.line ≡ some a) = at_there p s.line M.from_first l in
          absurd (no c.0 (stuck room p s c.0 (sym (ap (λ o. and_then o (S.perform room p s)) c.1) ∙ e)))
