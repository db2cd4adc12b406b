-- From fresh states of equal values, where no scratch or counter register has less room than a variable and neither run is spent, the
-- source is full exactly when its word is; and the word's steps.
use mathlib.Core.Path.{◌≡◌, refl, sym, ap, ◌∙◌, subst}
use mathlib.Core.Logic.{◌≢◌, ◌⊎◌, inl, inr, ⊎_elim, ◌↔◌}
use mathlib.Core.Bool.{Bool, true, false}
use mathlib.Core.Option.{none, none-ne-some}
use mathlib.Core.List.{List}
use Prim.Native.Nat.{ℕ, zero, suc, ◌+◌, ◌≤◌, ◌<◌}
use native.Mathlib.Omega.{arith}
use lib.Dec.{eqb}
use borrow.Author.Tests.{eqb-true, eqb-false, le-leb, lt-ltb, leb-true, leb-false}
use Rattle.theory.specs.Basics.{at}
use Rattle.theory.specs.Runs.{register, Room, Machine, Outcome, run, unlimited, within_each}
use Rattle.theory.specs.ProgramText.{Command, variables, Block, lines, block_of}
use Rattle.theory.specs.Source as S
use Rattle.theory.specs.Word as W
use Rattle.theory.specs.Word.{one, Instruction, append}
use Rattle.theory.specs.Translation.{word, word_of, charge}
use Rattle.theory.specs.Machines.{fresh_source, fresh_word}
use Rattle.theory.specs.TurnedDown.{largest, names_above, is_roomy, rule_21}
use Rattle.theory.specs.Claims.{Accepted, SourceRun, Fitting, FullTogether, filling, StepsTogether}
use Rattle.theory.specs.declared.End.TheVariants.{Halted, Spent, Full}
use Rattle.theory.proofs.Faults.{or_given, unless_none}
use Rattle.theory.proofs.Unlimited.{goes_by, run_goes, source_more, source_live, source_not_full, word_live, word_not_full}
use Rattle.theory.proofs.Nesting.{well_nested}
use Rattle.theory.proofs.Joins.{join, only_end, at_cost}
use Rattle.theory.proofs.Endings.{run_stops, full_where}
use Rattle.theory.proofs.Cells.{all-at}
use Rattle.theory.proofs.Matching.{Roomy}
use Rattle.theory.proofs.Stops.{Unfinished, Stopped, stop_both}
use Rattle.theory.proofs.Whole.{SourceRunIn, Followed, followed}

-- Whatever the room is
module _ (room : Room) (v : ℕ → ℕ) (budget budget' : ℕ) where
  abbrev pub source_outcome : List Command → Outcome S.State
  source_outcome p = run (S.machine room p) budget 0 (fresh_source v)

  abbrev pub word_outcome : List Command → List Instruction → Outcome W.State
  word_outcome p w = run (W.machine room w) budget' 0 (fresh_word (variables p) v)

  -- The steps e that the word does after those that the charges cover
  abbrev pub Last : List Command → ℕ → Type 0
  Last p e =
      (((source_outcome p).end ≢ Full) × (e ≡ 0)) ⊎ (((source_outcome p).end ≡ Full) × Unfinished room p (source_outcome p).state e)

  -- Both are full or neither is; and c, of the source's steps, covers all of the word's but its first and those
  abbrev pub Alike : List Command → List Instruction → Type 0
  Alike p w =
      (((source_outcome p).end ≡ Full) ↔ ((word_outcome p w).end ≡ Full))
      × (c : ℕ) × (e : ℕ) × SourceRun p (fresh_source v) c (source_outcome p).state × ((word_outcome p w).steps ≡ 1 + c + e) × Last p e

  abbrev Together : List Command → List Instruction → Type 0
  Together p w =
      ((i : ℕ) → i < variables p → room (register i) (v i) ≡ true) → Roomy room (variables p) w
      → (source_outcome p).end ≢ Spent → (word_outcome p w).end ≢ Spent → Alike p w

  module _ (b : Block) (fit : (i : ℕ) → i < variables (lines b) → room (register i) (v i) ≡ true)
      (R : Roomy room (variables (lines b)) (word b)) (paid : (source_outcome (lines b)).end ≢ Spent)
      (paid' : (word_outcome (lines b) (word b)).end ≢ Spent) where
    abbrev K : ℕ
    K = variables (lines b)

    abbrev M : Machine S.State
    M = S.machine room (lines b)

    abbrev N : Machine W.State
    N = W.machine room (word b)

    abbrev s : S.State
    s = (source_outcome (lines b)).state

    abbrev t : W.State
    t = (word_outcome (lines b) (word b)).state

    source_charged : (c : ℕ) × SourceRunIn room b R (fresh_source v) c s
    source_charged = at_cost (charge (lines b)) (run_goes M budget 0 (fresh_source v))

    word_follows : Followed room b R (fresh_word K v) (1 + source_charged.0) s
    word_follows = followed room b R v fit source_charged.0 s source_charged.1

    both_stop : Stopped room b s word_follows.0
    both_stop = stop_both room b R s word_follows.0 word_follows.2
        (run_stops M (source_live room (lines b)) (source_not_full room (lines b)) budget 0 (fresh_source v) paid)

    same_end : ((word_outcome (lines b) (word b)).steps ≡ 1 + source_charged.0 + both_stop.0) × (t ≡ both_stop.1)
    same_end = only_end (run_goes N budget' 0 (fresh_word K v)) (join word_follows.1 both_stop.2)
        (run_stops N (word_live room (word b)) (word_not_full room (word b)) budget' 0 (fresh_word K v) paid') both_stop.3

    not_ended_together : (M.ended s ≡ none) ↔ (N.ended t ≡ none)
    not_ended_together = ⊎_elim
        (λ z. (
          (λ e. absurd (none-ne-some Halted (sym e ∙ z.0))),
          (λ e. absurd (none-ne-some Halted (sym e ∙ (ap N.ended same_end.1 ∙ z.1)))),
        ))
        (λ z. ((λ e. ap N.ended same_end.1 ∙ z.1), (λ e. z.0)))
        both_stop.4

    source_full : ((source_outcome (lines b)).end ≡ Full) ↔ (M.ended s ≡ none)
    source_full = full_where M (source_live room (lines b)) (source_not_full room (lines b)) budget 0 (fresh_source v) paid

    full_both : ((source_outcome (lines b)).end ≡ Full) ↔ ((word_outcome (lines b) (word b)).end ≡ Full)
    full_both =
        let its_word : _ = full_where N (word_live room (word b)) (word_not_full room (word b)) budget' 0 (fresh_word K v) paid' in
        (λ h. its_word.1 (not_ended_together.0 (source_full.0 h)), λ h. source_full.1 (not_ended_together.1 (its_word.0 h)))

    last_steps : Last (lines b) both_stop.0
    last_steps = ⊎_elim
        (λ z. inl (λ h. absurd (none-ne-some Halted (sym (source_full.0 h) ∙ z.0)), z.2))
        (λ z. inr (source_full.1 z.0, z.2))
        both_stop.4

    charged_run : SourceRun (lines b) (fresh_source v) source_charged.0 s
    charged_run = goes_by (source_more room unlimited (λ r n h. refl) (lines b)) source_charged.1

  of_block : (b : Block) → Together (lines b) (word b)
  of_block b fit R paid paid' = (
    full_both b fit R paid paid',
    (source_charged b fit R paid paid').0,
    (both_stop b fit R paid paid').0,
    charged_run b fit R paid paid',
    (same_end b fit R paid paid').0,
    last_steps b fit R paid paid',
  )

  together : (p : List Command) → Accepted p → Together p (word_of p)
  unfolding word_of
  together p a = subst (λ l. Together l (word (block_of p))) (well_nested p a) (of_block (block_of p))

-- Registers of these capacities: what rule 21 says

module _ (capacity : ℕ → ℕ) where
  at_most_largest : (K i : ℕ) → i < K → capacity (register i) ≤ largest capacity K
  unfolding largest
  at_most_largest zero i l = absurd (omega arith)
  at_most_largest (suc K) i l = go (eqb i K) refl (at_most_largest K i)
    where
      go : (t : Bool) → eqb i K ≡ t → (i < K → capacity (register i) ≤ largest capacity K)
          → capacity (register i) ≤ largest capacity (suc K)
      go true e rec =
          let same : capacity (register i) ≡ capacity (register K) = ap (λ k. capacity (register k)) (eqb-true i K e) in omega arith
      go false e rec =
          let ne : i ≢ K = eqb-false i K e in
          let below : capacity (register i) ≤ largest capacity K = rec (omega arith) in omega arith

  each-roomy : (p : List Command) → rule_21 capacity p ≡ none → Roomy (within_each capacity) (variables p) (word_of p)
  unfolding rule_21
  each-roomy p h = record {
    less = λ r n e. let more : suc n ≤ capacity r = leb-true (suc n) (capacity r) e in le-leb n (capacity r) (omega arith);
    in_named = λ q r i n e l k x.
        let named : is_roomy capacity (variables p) (append one r) ≡ true =
        all-at (is_roomy capacity (variables p)) (word_of p) q (append one r) (unless_none _ 21 0 h) e in
        let enough : largest capacity (variables p) ≤ capacity r =
        leb-true _ _ (or_given (names_above (variables p) (append one r)) _ named (lt-ltb (variables p) r l)) in
        let small : n ≤ capacity (register i) = leb-true n (capacity (register i)) x in
        le-leb n (capacity r) (omega (arith, at_most_largest (variables p) i k));
  }

  -- Of a register that has room for m and no more, m is the capacity
  filled : (p : List Command) (s : S.State) (e : ℕ) → Unfinished (within_each capacity) p s e → e ≡ filling capacity (at p s.line) s
  filled p s e (inl (i, c, z)) = rw c z
  filled p s e (inr (i, j, m, c, low, high, _, z)) =
      let l : m ≤ capacity (register i) = leb-true m (capacity (register i)) low in
      let l' : capacity (register i) < suc m = leb-false (suc m) (capacity (register i)) high in
      rw c (omega (arith, z))

  -- A variable's capacity is that of its register
  pub within_together : (p : List Command) → Accepted p → (v : ℕ → ℕ) → Fitting p capacity v → (budget budget' : ℕ)
      → (source_outcome (within_each capacity) v budget budget' p).end ≢ Spent
      → (word_outcome (within_each capacity) v budget budget' p (word_of p)).end ≢ Spent
      → Alike (within_each capacity) v budget budget' p (word_of p)
  within_together p a v fit budget budget' =
      together (within_each capacity) v budget budget' p a (λ i l. le-leb (v i) (capacity (register i)) (fit.1 i l))
      (each-roomy p fit.0)

pub full_together : FullTogether
full_together p a capacity v fit budget budget' paid paid' = (within_together capacity p a v fit budget budget' paid paid').0

pub steps_together : StepsTogether
steps_together p a capacity v fit budget budget' paid paid' =
    let (_, c, e, source, steps, last) = within_together capacity p a v fit budget budget' paid paid' in
    let s : Outcome S.State = source_outcome (within_each capacity) v budget budget' p in (
      c,
      source,
      λ x. ⊎_elim (λ z. let none_left : e ≡ 0 = z.1 in omega arith) (λ z. absurd (x z.0)) last,
      λ x. ⊎_elim (λ z. absurd (z.0 x)) (λ z. steps ∙ ap (λ k. 1 + c + k) (filled capacity p s.state e z.1)) last,
    )
