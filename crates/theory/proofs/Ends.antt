-- What an end says of the state where a run stands: full, that its next step has no room; spent, that budget or count is used up.
use mathlib.Core.Path.{◌≡◌, refl, sym, ap, ◌∙◌}
use mathlib.Core.Logic.{◌≢◌, ◌⊎◌, inl, inr}
use mathlib.Core.Bool.{Bool, true, false, cond, ◌&&◌}
use mathlib.Core.Option.{Option, none, some, none-ne-some}
use mathlib.Core.List.{List}
use Prim.Native.Nat.{ℕ, suc, ◌+◌, ◌≤◌, ◌<◌}
use native.Mathlib.Omega.{arith}
use lib.IntN.{ℤ, pos, negsuc}
use lib.ListN.{length}
use lib.Dec.{eqb, leb}
use borrow.Author.Tests.{eqb-false, leb-true, leb-false, ltb-false}
use Rattle.theory.specs.Limits.{last_count}
use Rattle.theory.specs.Basics.{at, and_then}
use Rattle.theory.specs.Runs.{register, Room, Machine, Outcome, unlimited, within_each, within}
use Rattle.theory.specs.ProgramText.{Command}
use Rattle.theory.specs.Source as S
use Rattle.theory.specs.Word as W
use Rattle.theory.specs.Word.{Instruction, append, forward, backward, cases}
use Rattle.theory.specs.Machines.{capacity_of, run_source, run_word, word_state}
use Rattle.theory.specs.Claims.{SourceFull, WordFull, SourceLacksRoom, WordLacksRoom, SpentMeans, SpentRightly}
use Rattle.theory.specs.declared.End.{End}
use Rattle.theory.specs.declared.End.TheVariants.{Halted, Strayed, Spent}
use Rattle.theory.proofs.Faults.{and_first, and_second, given_none}
use Rattle.theory.proofs.Cells.{at_there}
use Rattle.theory.proofs.Budgets.{run_induction}
use Rattle.theory.proofs.Unlimited.{run_fills, source_not_full, source_not_spent, word_not_full, word_not_spent}
use Rattle.theory.proofs.Stops.{NoRoom, stuck}
use Rattle.theory.proofs.GoodSource.{Stood, source_is_stood, run-stands}

-- Full: the source

module _ (p : List Command) (capacity : ℕ → ℕ) (s : S.State) where
  lacks : (c : Command) → at p s.line ≡ some c → NoRoom (within_each capacity) s c → SourceLacksRoom p capacity s
  lacks c e (inl (i, c-is, h)) =
      inl (i, e ∙ ap {B = Option Command} some c-is, leb-false (suc (s.values i)) (capacity (register i)) h)
  lacks c e (inr (i, j, c-is, h)) =
      inr (i, j, e ∙ ap {B = Option Command} some c-is, leb-false (s.values j) (capacity (register i)) h)

  goes : SourceLacksRoom p capacity s → (s' : S.State) × (S.step unlimited p s ≡ some s')
  unfolding S.step
  goes (inl (i, e, h)) = (S.set_variable s i (suc (s.values i)), rw e)
  goes (inr (i, j, e, h)) = (S.set_variable s i (s.values j), rw e)

  -- at a line of the program, or the one after its last
  source_stuck : 0 < s.line → s.line ≤ suc (length p) → (S.machine (within_each capacity) p).ended s ≡ none
      → S.step (within_each capacity) p s ≡ none → SourceLacksRoom p capacity s
  unfolding S.step
  source_stuck low high live e =
      let ne : s.line ≢ suc (length p) = eqb-false s.line (suc (length p)) (given_none (eqb s.line (suc (length p))) Halted live) in
      let c : (a : Command) × (at p s.line ≡ some a) = at_there p s.line low (omega arith) in
      let room : Room = within_each capacity in
      lacks c.0 c.1 (stuck room p s c.0 (sym (ap (λ o. and_then o (S.perform room p s)) c.1) ∙ e))

pub source_full : SourceFull
unfolding run_source
source_full p accepted s b good h =
    let capacity : ℕ → ℕ = capacity_of s.capacities in
    let M : Machine S.State = S.machine (within_each capacity) p in
    let o : Outcome S.State = run_source p s b in
    let stops : _ = run_fills M (source_not_full (within_each capacity) p) b s.steps s.state h in
    let stood : Stood p capacity o.state = run-stands p accepted s b (source_is_stood p s good).1 in
    let lack : _ = source_stuck p capacity o.state stood.line.0 stood.line.1 stops.0 stops.1 in
    (lack, goes p capacity o.state lack)

-- Full: the word

module _ (w : List Instruction) (capacity : ℕ → ℕ) (s : W.State) where
  -- a place that has not ended is one of the word's
  there : (q : ℤ) → W.ended_at (length w) q ≡ none → (i : Instruction) × (W.fetch w q ≡ some i)
  there (negsuc n) e = absurd (none-ne-some Strayed (sym e))
  there (pos n) e = go (eqb n (suc (length w))) (leb 1 n && leb n (length w)) refl e
    where
      go : (t u : Bool) → (leb 1 n && leb n (length w)) ≡ u → cond t (some Halted) (cond u none (some Strayed)) ≡ none
          → (i : Instruction) × (at w n ≡ some i)
      go true u x e = absurd (none-ne-some Halted (sym e))
      go false false x e = absurd (none-ne-some Strayed (sym e))
      go false true x e =
          at_there w n (leb-true 1 n (and_first (leb 1 n) (leb n (length w)) x))
          (leb-true n (length w) (and_second (leb 1 n) (leb n (length w)) x))

  word-lacks : (i : Instruction) → W.fetch w s.place ≡ some i → W.perform (within_each capacity) s i ≡ none
      → WordLacksRoom w capacity s
  word-lacks (append x n) f e =
      let more : ℕ = suc (length (s.registers n)) in
      (x, n, f, leb-false more (capacity n) (given_none (leb more (capacity n)) _ e))
  word-lacks (forward n) f e = absurd (none-ne-some _ (sym e))
  word-lacks (backward n) f e = absurd (none-ne-some _ (sym e))
  word-lacks (cases n) f e = absurd (none-ne-some _ (sym e))

  word_goes : WordLacksRoom w capacity s → (t : W.State) × (W.step unlimited w s ≡ some t)
  unfolding W.step
  word_goes (x, n, f, h) = (W.appended n s x, rw f)

  word_stuck : (W.machine (within_each capacity) w).ended s ≡ none → W.step (within_each capacity) w s ≡ none → WordLacksRoom w capacity s
  unfolding W.step
  word_stuck live e =
      let i : (i : Instruction) × (W.fetch w s.place ≡ some i) = there s.place live in
      word-lacks i.0 i.1 (sym (ap (λ o. and_then o (W.perform (within_each capacity) s)) i.1) ∙ e)

pub word_full : WordFull
unfolding run_word
word_full w m p b h =
    let M : Machine W.State = W.machine (within_each (capacity_of m.capacities)) w in
    let o : Outcome W.State = run_word w m p b in
    let stops : _ = run_fills M (word_not_full (within_each (capacity_of m.capacities)) w) b p.steps (word_state m p) h in
    let lack : _ = word_stuck w (capacity_of m.capacities) o.state stops.0 stops.1 in
    (lack, word_goes w (capacity_of m.capacities) o.state lack)

-- Spent, of a machine whose states never end so by themselves
spent_means : {S : Type 0} (M : Machine S) → ((s : S) → M.ended s ≢ some Spent) → SpentMeans M
spent_means {S} M never = run_induction M Means (record {
  ended = λ b n s e h x. absurd (never s (h ∙ ap {B = Option End} some x));
  spent = λ n s h x. (inl refl, h);
  counted = λ b n s h t x. (inr (let l : last_count ≤ n = ltb-false n last_count t in omega arith), h);
  full = λ b n s h t y x. absurd (let z : ◌≡◌ {A = ℕ} 0 1 = cc in omega arith);
  step = λ b n s s' o h t y later x. (either b n o.steps (later x).0, (later x).1);
})
  where
    Means : ℕ → ℕ → S → Outcome S → Type 0
    Means b n s o = o.end ≡ Spent → ((o.steps ≡ b) ⊎ (last_count ≤ n + o.steps)) × (M.ended o.state ≡ none)

    either : (b n k : ℕ) → (k ≡ b) ⊎ (last_count ≤ suc n + k) → (suc k ≡ suc b) ⊎ (last_count ≤ n + suc k)
    either b n k (inl e) = inl (ap suc e)
    either b n k (inr l) = inr (omega arith)

pub spent_rightly : SpentRightly
spent_rightly = (
  λ p capacity. spent_means (S.machine (within_each capacity) p) (source_not_spent (within_each capacity) p),
  λ w capacity. spent_means (W.machine (within_each capacity) w) (word_not_spent (within_each capacity) w),
)
