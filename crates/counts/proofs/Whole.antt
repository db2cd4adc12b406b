-- A whole run on lengths: from outside, and from inside.
use mathlib.Core.Path.{◌≡◌, refl, ap, ◌∙◌}
use mathlib.Core.Option.{some}
use mathlib.Core.List.{List}
use Prim.Native.Nat.{ℕ, ◌+◌, ◌≤◌}
use native.Mathlib.Nat.{add-zero}
use lib.ListN.{length}
use Rattle.theory.specs.Limits.{last_count}
use Rattle.theory.specs.Runs.{Outcome}
use Rattle.theory.specs.Word as W
use Rattle.theory.specs.Word.{ended_at}
use Rattle.theory.specs.declared.End.TheVariants.{Strayed}
use Rattle.theory.proofs.Budgets.{run-ended, count-within}
use Rattle.memory.specs.declared.answers.Position.{Position}
use Rattle.memory.specs.Calls.{stands_outside}
use Rattle.registers.specs.Fresh.{fresh_registers}
use Rattle.underway.specs.declared.Stop.{Stop}
use Rattle.underway.specs.Places.{bias, placed}
use Rattle.underway.specs.Ends.{ran_to}
use Rattle.underway.specs.Inside.{Stopped, machine_of}
use Rattle.underway.proofs.Instructions.{instructions-length}
use Rattle.underway.proofs.Entered.{ran_is}
use Rattle.countable.specs.Countable.{Countable}
use Rattle.counts.specs.Counts.{Counts, counted_outcome, lengths_run, RanAs}

module _ (capacities lengths kinds operands : List ℕ) (cs : Countable capacities lengths kinds operands) (at : Position) (budget : ℕ) where
  abbrev start : W.State
  start = record { place = at.place; registers = fresh_registers lengths }

  abbrev o : Outcome W.State
  o = counted_outcome capacities lengths at kinds operands budget

  pub whole_outside : ended_at (length kinds) at.place ≡ some Strayed → RanAs capacities at o (stands_outside at) lengths
  whole_outside h =
      let size = instructions-length (length capacities) kinds operands cs.usable.paired cs.usable.each in
      let e = run-ended (machine_of capacities kinds operands) budget at.steps start Strayed
      (ap (λ (L : ℕ). ended_at L at.place) size ∙ h) in
      record {
        is = rw (e, add-zero);
        counts = rw e (record { are = refl; paired = cs.paired; within = cs.within });
      }

  pub whole_inside : (n : ℕ) → placed (bias + n) ≡ at.place
      → lengths_run capacities lengths kinds operands (bias + n) at.steps budget ≡ o
  whole_inside n h = rw h

  pub whole-ran : (s : Stop) (after : List ℕ) → Stopped (Counts capacities after) o s → at.steps ≤ last_count
      → RanAs capacities at o (ran_to at.steps s) after
  whole-ran s after h l = record {
    is = ran_is (Counts capacities after) o at.steps s h
        (count-within (machine_of capacities kinds operands) budget at.steps start l);
    counts = h.held;
  }
