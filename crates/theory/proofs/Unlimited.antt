-- Runs with a budget and unlimited runs: the steps of the one are steps of the other, what each end says of the last state, and a run that
-- is some steps on.
use mathlib.Core.Path.{◌≡◌, refl, sym, ap, ◌∙◌}
use mathlib.Core.Logic.{◌≢◌, ◌⊎◌, inl, inr, ⊎_elim}
use mathlib.Core.Bool.{Bool, true, false, cond, ◌&&◌}
use mathlib.Core.Option.{Option, none, some, none-ne-some, some-injective}
use mathlib.Core.List.{List}
use Prim.Native.Nat.{ℕ, suc, ◌+◌, ◌≤◌}
use native.Mathlib.Nat.{add-zero, zero-add, suc-add, add-suc}
use native.Mathlib.Numerals.{one-add}
use native.Mathlib.Omega.{arith}
use lib.IntN.{ℤ, pos, negsuc}
use lib.ListN.{length}
use lib.Dec.{ltb, leb, eqb}
use borrow.Author.Tests.{lt-ltb, ne_eqb, le-leb}
use Rattle.theory.specs.Limits.{last_count}
use Rattle.theory.specs.Basics.{at, given, and_then}
use Rattle.theory.specs.Runs.{Room, unlimited, within_each, Machine, run, Goes, stay, move, each}
use Rattle.theory.specs.ProgramText.{Command, plain, opens, closes, clear, increment, copy, loop, while}
use Rattle.theory.specs.Source as S
use Rattle.theory.specs.Word as W
use Rattle.theory.specs.Word.{Instruction, append, forward, backward, cases}
use Rattle.theory.specs.Claims.{SourceUnlimited, WordUnlimited}
use Rattle.theory.specs.declared.End.{End}
use Rattle.theory.specs.declared.End.TheVariants.{Halted, Strayed, Spent, Full}
use Rattle.theory.proofs.Budgets.{run_induction, run_step, advanced}
use Rattle.theory.proofs.Cells.{at-within}

-- A run of one step function is a run of any other that does its steps too
module _ {S : Type 0} {next next' : S → Option S} {cost : S → ℕ} where
  pub goes_by : ((s s' : S) → next s ≡ some s' → next' s ≡ some s') → {s t : S} {m : ℕ} → Goes next cost s m t → Goes next' cost s m t
  goes_by also stay = stay
  goes_by also (move {s} {s'} e g) = move (also s s' e) (goes_by also g)

module _ {S : Type 0} (M : Machine S) where
  -- The steps taken lead from the first state to the last
  pub run_goes : (b n : ℕ) (s : S) → Goes M.next each s (run M b n s).steps (run M b n s).state
  run_goes = run_induction M (λ b n s o. Goes M.next each s o.steps o.state) (record {
    ended = λ b n s e h. stay;
    spent = λ n s h. stay;
    counted = λ b n s h t. stay;
    full = λ b n s h t x. stay;
    step = λ b n s s' o h t x g. rw one-add at (move x g);
  })

  -- Halted or strayed: so is the last state
  pub run_ends : (b n : ℕ) (s : S) → (run M b n s).end ≢ Spent → (run M b n s).end ≢ Full
      → M.ended (run M b n s).state ≡ some (run M b n s).end
  run_ends = run_induction M (λ b n s o. o.end ≢ Spent → o.end ≢ Full → M.ended o.state ≡ some o.end) (record {
    ended = λ b n s e h _ _. h;
    spent = λ n s h p _. absurd (p refl);
    counted = λ b n s h t p _. absurd (p refl);
    full = λ b n s h t x _ q. absurd (q refl);
    step = λ b n s s' o h t x later. later;
  })

  -- Full: the last state has not ended, and has no step
  pub run_fills : ((s : S) → M.ended s ≢ some Full) → (b n : ℕ) (s : S) → (run M b n s).end ≡ Full
      → (M.ended (run M b n s).state ≡ none) × (M.next (run M b n s).state ≡ none)
  run_fills never = run_induction M (λ b n s o. o.end ≡ Full → (M.ended o.state ≡ none) × (M.next o.state ≡ none)) (record {
    ended = λ b n s e h q. absurd (never s (h ∙ ap {B = Option End} some q));
    spent = λ n s h q. (h, (cc));
    counted = λ b n s h t q. (h, (cc));
    full = λ b n s h t x q. (h, x);
    step = λ b n s s' o h t x later. later;
  })

  -- Where a state that has a step has not ended, k steps bring a run k steps on
  pub run-after : ((s s' : S) → M.next s ≡ some s' → M.ended s ≡ none) → {s t : S} {k : ℕ} → Goes M.next each s k t
      → (b n : ℕ) → n + k ≤ last_count → run M (k + b) n s ≡ advanced k (run M b (n + k) t)
  run-after live stay b n h = simp (zero-add, add-zero)
  run-after live (move {s} {s'} {m} e g) b n h =
      let live_here : M.ended s ≡ none = live s s' e in
      let below : ltb n last_count ≡ true = lt-ltb n last_count (omega arith) in
      let later : run M (m + b) (suc n) s' ≡ advanced m (run M b (suc n + m) _) = run-after live g b (suc n) (omega arith) in
      rw (one-add m, suc-add m b, run_step M (m + b) n s s' live_here below, later, suc-add n m, ← (add-suc n m), suc-add m)

-- Both machines

-- `cc` finds the equation where two different ends are said to be equal
never : ◌≡◌ {A = ℕ} 0 1 → ⊥
never z = omega arith

given-more : {A : Type 0} (t t' : Bool) (x y : A) → (t ≡ true → t' ≡ true) → given t x ≡ some y → given t' x ≡ some y
given-more true t' x y more e = rw (more refl) e
given-more false t' x y more e = absurd (none-ne-some y e)

-- More room takes no step away
module _ (room room' : Room) (more : (r n : ℕ) → room r n ≡ true → room' r n ≡ true) where
  source_performs : (p : List Command) (s s' : S.State) (c : Command) → S.perform room p s c ≡ some s' → S.perform room' p s c ≡ some s'
  source_performs p s s' (plain (clear i)) e = e
  source_performs p s s' (plain (increment i)) e =
      given-more (room (i + 1) (suc (s.values i))) (room' (i + 1) (suc (s.values i))) _ s' (more _ _) e
  source_performs p s s' (plain (copy i j)) e = given-more (room (i + 1) (s.values j)) (room' (i + 1) (s.values j)) _ s' (more _ _) e
  source_performs p s s' (opens loop i) e = e
  source_performs p s s' (opens while i) e = e
  source_performs p s s' (closes loop i) e = e
  source_performs p s s' (closes while i) e = e

  pub source_more : (p : List Command) (s s' : S.State) → S.step room p s ≡ some s' → S.step room' p s ≡ some s'
  unfolding S.step
  source_more p s s' = go (at p s.line)
    where
      go : (c : Option Command) → and_then c (S.perform room p s) ≡ some s' → and_then c (S.perform room' p s) ≡ some s'
      go none e = e
      go (some c) e = source_performs p s s' c e

  word_performs : (s s' : W.State) (i : Instruction) → W.perform room s i ≡ some s' → W.perform room' s i ≡ some s'
  word_performs s s' (append x n) e =
      given-more (room n (suc (length (s.registers n)))) (room' n (suc (length (s.registers n)))) _ s' (more _ _) e
  word_performs s s' (forward n) e = e
  word_performs s s' (backward n) e = e
  word_performs s s' (cases n) e = e

  pub word_more : (w : List Instruction) (s s' : W.State) → W.step room w s ≡ some s' → W.step room' w s ≡ some s'
  unfolding W.step
  word_more w s s' = go (W.fetch w s.place)
    where
      go : (i : Option Instruction) → and_then i (W.perform room s) ≡ some s' → and_then i (W.perform room' s) ≡ some s'
      go none e = e
      go (some i) e = word_performs s s' i e

-- A state that has a step has not ended
pub source_live : (room : Room) (p : List Command) (s s' : S.State) → S.step room p s ≡ some s' → (S.machine room p).ended s ≡ none
unfolding S.step
source_live room p s s' = go (at p s.line) refl
  where
    go : (c : Option Command) → at p s.line ≡ c → and_then c (S.perform room p s) ≡ some s'
        → given (eqb s.line (suc (length p))) Halted ≡ none
    go none h e = absurd (none-ne-some s' e)
    go (some c) h e =
        let within_p : s.line ≤ length p = (at-within p s.line c h).1 in
        rw (ne_eqb s.line (suc (length p)) λ z. omega arith)

word_live_at : (w : List Instruction) (q : ℤ) (i : Instruction) → W.fetch w q ≡ some i → W.ended_at (length w) q ≡ none
word_live_at w (negsuc n) i h = absurd (none-ne-some i h)
word_live_at w (pos n) i h =
    let (low, high) = at-within w n i h in
    rw (ne_eqb n (suc (length w)) (λ z. omega arith), le-leb 1 n low, le-leb n (length w) high)

pub word_live : (room : Room) (w : List Instruction) (s s' : W.State) → W.step room w s ≡ some s' → (W.machine room w).ended s ≡ none
unfolding W.step
word_live room w s s' = go (W.fetch w s.place) refl
  where
    go : (i : Option Instruction) → W.fetch w s.place ≡ i → and_then i (W.perform room s) ≡ some s'
        → W.ended_at (length w) s.place ≡ none
    go none h e = absurd (none-ne-some s' e)
    go (some i) h e = word_live_at w s.place i h

-- A source ends only as halted by itself, a word as halted or strayed; neither as spent or full
source_ends : (room : Room) (p : List Command) (s : S.State) (e : End) → (S.machine room p).ended s ≡ some e → e ≡ Halted
source_ends room p s e = go (eqb s.line (suc (length p)))
  where
    go : (t : Bool) → given t Halted ≡ some e → e ≡ Halted
    go true h = sym (some-injective Halted e h)
    go false h = absurd (none-ne-some e h)

word_ends : (room : Room) (w : List Instruction) (s : W.State) (e : End) → (W.machine room w).ended s ≡ some e → (e ≡ Halted) ⊎ (e ≡ Strayed)
word_ends room w s e = go s.place
  where
    either : (t u : Bool) → cond t (some Halted) (cond u none (some Strayed)) ≡ some e → (e ≡ Halted) ⊎ (e ≡ Strayed)
    either true u h = inl (sym (some-injective Halted e h))
    either false true h = absurd (none-ne-some e h)
    either false false h = inr (sym (some-injective Strayed e h))

    go : (q : ℤ) → W.ended_at (length w) q ≡ some e → (e ≡ Halted) ⊎ (e ≡ Strayed)
    go (pos n) h = either (eqb n (suc (length w))) (leb 1 n && leb n (length w)) h
    go (negsuc n) h = inr (sym (some-injective Strayed e h))

pub source_not_full : (room : Room) (p : List Command) (s : S.State) → (S.machine room p).ended s ≢ some Full
source_not_full room p s h = let e : Full ≡ Halted = source_ends room p s Full h in never (cc)

pub source_not_spent : (room : Room) (p : List Command) (s : S.State) → (S.machine room p).ended s ≢ some Spent
source_not_spent room p s h = let e : Spent ≡ Halted = source_ends room p s Spent h in never (cc)

pub word_not_full : (room : Room) (w : List Instruction) (s : W.State) → (W.machine room w).ended s ≢ some Full
word_not_full room w s h = ⊎_elim (λ (e : Full ≡ Halted). never (cc)) (λ (e : Full ≡ Strayed). never (cc)) (word_ends room w s Full h)

pub word_not_spent : (room : Room) (w : List Instruction) (s : W.State) → (W.machine room w).ended s ≢ some Spent
word_not_spent room w s h = ⊎_elim (λ (e : Spent ≡ Halted). never (cc)) (λ (e : Spent ≡ Strayed). never (cc)) (word_ends room w s Spent h)

pub source_unlimited : SourceUnlimited
source_unlimited p capacity b n s =
    let M = S.machine (within_each capacity) p in (
      goes_by (source_more (within_each capacity) unlimited (λ r n t. refl) p) (run_goes M b n s),
      λ h. run_ends M b n s (λ e. never (cc)) (λ e. never (cc)) ∙ ap {B = Option End} some h,
    )

pub word-unlimited : WordUnlimited
word-unlimited w capacity b n s =
    let M = W.machine (within_each capacity) w in
    (goes_by (word_more (within_each capacity) unlimited (λ r n t. refl) w) (run_goes M b n s), run_ends M b n s)
