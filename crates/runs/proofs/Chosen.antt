-- A run on lengths, on registers that hold 1s alone, is the run of the definition.
use mathlib.Core.Path.{◌≡◌, refl, sym, ap, ◌∙◌}
use mathlib.Core.Bool.{Bool, true, false}
use mathlib.Core.List.{List}
use Prim.Native.Nat.{ℕ, ◌≤◌, ◌<◌}
use borrow.Author.Tests.{leb-true}
use lib.ListN.{length, get_or}
use Rattle.std.specs.Prelude.{Option}
use Rattle.theory.specs.Runs.{Outcome}
use Rattle.theory.specs.Word as W
use Rattle.theory.specs.Word.{Entry}
use Rattle.theory.specs.Machines.{Memory, store_of, lengths_of, run_word}
use Rattle.theory.specs.TurnedDown.{instructions}
use Rattle.theory.proofs.Faults.{and_first}
use Rattle.theory.proofs.GoodMemory.{memory-is_good, contents-stored}
use Rattle.word.specs.Answers.{zipped}
use Rattle.memory.specs.declared.answers.Position.{Position}
use Rattle.memory.specs.declared.answers.Run.{Run}
use Rattle.memory.specs.Calls.{memory, position, handed, ran}
use Rattle.registers.specs.Fresh.{fresh_registers}
use Rattle.ones.specs.Ones.{holds_ones, relaid}
use Rattle.ones.proofs.Laws.{ones-memory, ones-relaid, ones-counted}
use Rattle.rings.specs.Calls.{usable_called}
use Rattle.rings.proofs.Answered.{all_done}
use Rattle.countable.specs.Countable.{is_countable}
use Rattle.counts.specs.Counts.{Counts, counted_outcome, CountsTo}
use Rattle.countable.proofs.Tested.{none_unusable}
use Rattle.runs.specs.Chosen.{RanOnes}

module _ (capacities store lengths kinds operands : List ℕ) (at : Position) (budget : ℕ)
    (h : holds_ones (memory capacities store lengths) ≡ true) where
  abbrev m : Memory
  m = memory capacities store lengths

  abbrev t : List Entry
  t = zipped kinds operands

  abbrev o : Outcome W.State
  o = counted_outcome capacities lengths at kinds operands budget

  -- the store holds what the lengths give
  laid : store ≡ store_of capacities (length capacities) (fresh_registers lengths)
  laid =
      let (good, are) = ones-memory m h in
      sym (contents-stored m (memory-is_good m good)) ∙ ap (store_of capacities (length capacities)) are

  outcome : run_word (instructions t) m (position at) budget ≡ o
  unfolding run_word
  outcome = rw (ones-memory m h).1

  -- each length is within its capacity
  within : (i : ℕ) → i < length capacities → get_or lengths i 0 ≤ get_or capacities i 0
  within i l =
      let place = (memory-is_good m (ones-memory m h).0).places i l in
      leb-true (get_or lengths i 0) (get_or capacities i 0) (and_first _ _ (and_first _ _ place))

  -- The store, laid anew for lengths within the capacities, holds what these give
  laid_anew : (after : List ℕ) → length after ≡ length capacities → ((i : ℕ) → i < length capacities → get_or after i 0 ≤ get_or capacities i 0)
      → relaid capacities lengths after store ≡ store_of capacities (length capacities) (fresh_registers after)
  laid_anew after paired fits =
      ap (relaid capacities lengths after) laid
      ∙ ones-relaid capacities lengths after (memory-is_good m (ones-memory m h).0).lengths paired (λ i l. (within i l, fits i l))

  unchanged : relaid capacities lengths lengths store ≡ store
  unchanged = laid_anew lengths (memory-is_good m (ones-memory m h).0).lengths within ∙ sym laid

  module _ (after : List ℕ) (f : ℕ → List W.Symbol) (c : Counts capacities after f) where
    stored_anew : relaid capacities lengths after store ≡ store_of capacities (length capacities) f
    stored_anew = laid_anew after c.paired (λ i l. c.within i) ∙ ap (store_of capacities (length capacities)) (sym c.are)

    counted_anew : after ≡ lengths_of (length capacities) f
    counted_anew = sym (rw (c.are, ← c.paired) (ones-counted after))

  pub ran-ones : (r : Option Run) (after : List ℕ)
      → CountsTo (is_countable capacities lengths kinds operands) capacities lengths at o r after
      → RanOnes m at budget t r (relaid capacities lengths after store) after
  ran-ones r after = go (is_countable capacities lengths kinds operands) refl
    where
      go : (b : Bool) → is_countable capacities lengths kinds operands ≡ b → CountsTo b capacities lengths at o r after
          → RanOnes m at budget t r (relaid capacities lengths after store) after
      go true e (s, is, did) =
          let called : usable_called m at budget t ≡ ran m at o =
          all_done m at budget t (ones-memory m h).0 (none_unusable capacities lengths kinds operands e) ∙ ap (ran m at) outcome in
          rw (is, called) (same_call s did.is (stored_anew after o.state.registers did.counts)
          (counted_anew after o.state.registers did.counts))
        where
          same_call : (s : Run) → s ≡ (ran m at o).run → relaid capacities lengths after store ≡ (ran m at o).store
              → after ≡ (ran m at o).lengths → handed s (relaid capacities lengths after store) after ≡ ran m at o
          same_call s a b c = λ i. handed (a i) (b i) (c i)
      go false e (is, same) = rw (is, same) (unchanged, refl)
