-- A run on lengths, between its stretches.
use mathlib.Core.Path.{◌≡◌, refl}
use mathlib.Core.Bool.{false}
use mathlib.Core.List.{List}
use Prim.Native.Nat.{ℕ, ◌+◌, ◌-◌, ◌≤◌, ◌<◌}
use native.Mathlib.Omega.{arith}
use lib.ListN.{length}
use Rattle.std.specs.Prelude.{Some, None, Ok, Err}
use Rattle.theory.specs.Word as W
use Rattle.theory.specs.declared.End.TheVariants.{Full}
use Rattle.registers.specs.Fresh.{fresh_registers}
use Rattle.underway.specs.Places.{bias, state}
use Rattle.underway.specs.Ends.{Allowance, goes_on, end_at}
use Rattle.underway.specs.Inside.{Stopped}
use Rattle.underway.proofs.Running as U
use Rattle.counts.specs.declared.steps.Stride.{Stride}
use Rattle.countable.specs.Countable.{Countable}
use Rattle.counts.specs.Counts.{Counts, lengths_run}
use Rattle.counts.specs.Strides.{Strode, Stretched}
use Rattle.counts.proofs.Stretching.{still_countable}

module _ (capacities lengths₀ kinds operands : List ℕ) (from steps budget allowed : ℕ) where
  abbrev start : W.State
  start = state from (fresh_registers lengths₀)

  -- After k steps the run stands here, with these lengths
  pub record Counting (lengths : List ℕ) (here k : ℕ) : Type 0 where
    pub runs : U.Running capacities kinds operands start steps budget allowed (fresh_registers lengths) here k
    pub countable : Countable capacities lengths kinds operands

  pub counting_start : Countable capacities lengths₀ kinds operands → from < 2000000 → Counting lengths₀ from 0
  counting_start c near = record {
    runs = U.running_start capacities kinds operands start steps budget allowed (fresh_registers lengths₀) from refl near;
    countable = c;
  }

  module _ {lengths : List ℕ} {here k : ℕ} (c : Counting lengths here k) (al : Allowance budget steps allowed) where
    pub counting_over : goes_on here (bias + length kinds) k allowed ≡ false
        → Stopped (Counts capacities lengths) (lengths_run capacities lengths₀ kinds operands from steps budget)
        (record { end = end_at here (bias + length kinds); steps = k; here = here })
    counting_over = U.running_over capacities kinds operands start steps budget allowed c.countable.usable al c.runs
        (Counts capacities lengths) (record { are = refl; paired = c.countable.paired; within = c.countable.within })

    -- A stride from there
    module _ (a : bias < here) (b : here ≤ bias + length kinds) (l : k < allowed) {after : List ℕ} where
      pub counting_full : Strode capacities lengths kinds operands here (allowed - k) None after
          → Stopped (Counts capacities after) (lengths_run capacities lengths₀ kinds operands from steps budget)
          (record { end = Full; steps = k; here = here })
      counting_full h =
          U.running_full capacities kinds operands start steps budget allowed c.countable.usable al c.runs
          (Counts capacities after)
          (rw h.1 (record { are = refl; paired = c.countable.paired; within = c.countable.within })) a b l h.0

      pub counting_goes : (s : Stride) → Strode capacities lengths kinds operands here (allowed - k) (Some s) after
          → Counting after s.there (k + s.steps)
      counting_goes s h = record {
        runs = U.running_goes capacities kinds operands start steps budget allowed c.countable.usable al c.runs h.0
            (omega (arith, h.2)) (omega (arith, h.3, c.countable.usable.count));
        countable = still_countable c.countable h.4;
      }

    -- A stretch from there
    module _ {after : List ℕ} where
      pub counting_reached_full : (s : Stride) → Stretched capacities lengths kinds operands here (allowed - k) (Err s) after
          → Stopped (Counts capacities after) (lengths_run capacities lengths₀ kinds operands from steps budget)
          (record { end = Full; steps = k + s.steps; here = s.there })
      counting_reached_full s h =
          U.running_full capacities kinds operands start steps budget allowed c.countable.usable al
          (U.running_goes capacities kinds operands start steps budget allowed c.countable.usable al c.runs h.0
          (omega (arith, h.1)) (omega (arith, h.3, c.countable.usable.count)))
          (Counts capacities after) h.4 h.2 h.3 (omega (arith, h.1)) h.5

      pub counting_reached : (s : Stride) → Stretched capacities lengths kinds operands here (allowed - k) (Ok s) after
          → Counting after s.there (k + s.steps)
      counting_reached s h = record {
        runs = U.running_goes capacities kinds operands start steps budget allowed c.countable.usable al c.runs h.0
            (omega (arith, h.2, c.runs.done)) h.3;
        countable = still_countable c.countable h.4;
      }
