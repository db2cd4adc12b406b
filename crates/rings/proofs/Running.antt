-- A run from inside, between its steps: the registers that the lent store holds.
use mathlib.Core.Path.{◌≡◌, refl, sym, ◌∙◌}
use mathlib.Core.Bool.{true, false}
use mathlib.Core.List.{List, [], ◌∷◌}
use Prim.Native.Nat.{ℕ, zero, suc, ◌+◌, ◌-◌, ◌≤◌, ◌<◌}
use native.Mathlib.Omega.{arith}
use borrow.Author.Tests.{leb-true}
use lib.Dec.{leb}
use lib.ListN.{length, get_or}
use Rattle.std.specs.Prelude.{Some, None}
use Rattle.theory.specs.Basics.{all}
use Rattle.theory.specs.Limits.{most_capacity}
use Rattle.theory.specs.Runs.{stay, move}
use Rattle.theory.specs.Word as W
use Rattle.theory.specs.Word.{Symbol}
use Rattle.theory.specs.Machines.{Memory, contents, is_limited, is_sized, is_memory}
use Rattle.theory.specs.declared.End.TheVariants.{Full}
use Rattle.theory.proofs.Faults.{and_first, and_second}
use Rattle.theory.proofs.GoodMemory.{memory-is_good, contents_fit, contents-stored, contents-counted}
use Rattle.theory.proofs.Joins.{ends}
use Rattle.rule10.specs.Lent.{Sized}
use Rattle.registers.specs.Held.{Held}
use Rattle.memory.specs.Calls.{memory}
use Rattle.rule10.proofs.Sizes.{are_sized}
use Rattle.underway.specs.Places.{bias, state}
use Rattle.underway.specs.Ends.{Allowance, goes_on, end_at}
use Rattle.underway.specs.Inside.{Usables, Stopped}
use Rattle.underway.proofs.Running as U
use Rattle.rings.specs.Ring.{Ring, Zeros}
use Rattle.rings.specs.Steps.{Performed, run_from}
use Rattle.rings.proofs.Rings.{held_ring}

-- What rule 10 says of the sizes
each_some : (l : List ℕ) → all (is_limited most_capacity) l ≡ true → (i : ℕ) → i < length l → 1 ≤ get_or l i 0
each_some [] h i k = absurd (omega arith)
each_some (n ∷ l) h zero k =
    let first = and_first (is_limited most_capacity n) (all (is_limited most_capacity) l) h in
    leb-true 1 n (and_first (leb 1 n) (leb n most_capacity) first)
each_some (n ∷ l) h (suc i) k = each_some l (and_second (is_limited most_capacity n) (all (is_limited most_capacity) l) h) i (omega arith)

module _ (capacities store lengths : List ℕ) (good : is_memory (memory capacities store lengths) ≡ true) where
  abbrev m : Memory
  m = memory capacities store lengths

  pub memory-sized : Sized capacities store lengths
  unfolding is_memory
  memory-sized = are_sized m (and_first (is_sized m) _ good)

  memory_some : (i : ℕ) → i < length capacities → 1 ≤ get_or capacities i 0
  memory_some = each_some capacities (memory-is_good m good).capacities

  memory_held : Held capacities (contents m) store lengths
  memory_held =
      let g = memory-is_good m good in
      record { stored = sym (contents-stored m g); counted = sym (contents-counted m g); fits = contents_fit m g }

module _ (capacities store₀ lengths₀ kinds operands : List ℕ) (from steps budget allowed : ℕ) where
  abbrev start : W.State
  start = state from (contents (memory capacities store₀ lengths₀))

  pub record Running (store lengths starts : List ℕ) (here k : ℕ) : Type 0 where
    pub registers : ℕ → List Symbol
    pub held : Ring capacities registers store lengths starts
    pub runs : U.Running capacities kinds operands start steps budget allowed registers here k
    pub stores : length store ≡ length store₀
    pub counts : length lengths ≡ length lengths₀

  pub running_start : (starts : List ℕ) → is_memory (memory capacities store₀ lengths₀) ≡ true → Zeros (length capacities) starts
      → from < 2000000 → Running store₀ lengths₀ starts from 0
  running_start starts good zeros near = record {
    registers = contents (memory capacities store₀ lengths₀);
    held = held_ring (memory_held capacities store₀ lengths₀ good) (memory_some capacities store₀ lengths₀ good) zeros;
    runs = U.running_start capacities kinds operands start steps budget allowed (contents (memory capacities store₀ lengths₀)) from refl
        near;
    stores = refl;
    counts = refl;
  }

  module _ {store lengths starts : List ℕ} {here k : ℕ} (r : Running store lengths starts here k)
      (u : Usables (length capacities) kinds operands) (al : Allowance budget steps allowed) where
    pub running_over : goes_on here (bias + length kinds) k allowed ≡ false
        → Stopped (λ f. Ring capacities f store lengths starts)
        (run_from kinds operands (memory capacities store₀ lengths₀) from steps budget)
        (record { end = end_at here (bias + length kinds); steps = k; here = here })
    running_over = U.running_over capacities kinds operands start steps budget allowed u al r.runs
        (λ f. Ring capacities f store lengths starts) r.held

    module _ (a : bias < here) (b : here ≤ bias + length kinds) (l : k < allowed) {store' lengths' starts' : List ℕ} where
      pub running_full : ((i : W.Instruction) → W.kind i ≡ get_or kinds (here - bias - 1) 0
          → W.operand i ≡ get_or operands (here - bias - 1) 0
          → Performed capacities r.registers here i None store' lengths' starts')
          → Stopped (λ f. Ring capacities f store' lengths' starts')
          (run_from kinds operands (memory capacities store₀ lengths₀) from steps budget)
          (record { end = Full; steps = k; here = here })
      running_full did =
          let (i, is, kind, operand) = U.here_is capacities kinds operands u here a b in
          let (full, held) = did i kind operand in
          U.running_full capacities kinds operands start steps budget allowed u al r.runs
          (λ f. Ring capacities f store' lengths' starts') held a b l
          (U.next_is capacities kinds operands u here a b r.registers i is ∙ full)

      pub running_step : (there : ℕ)
          → ((i : W.Instruction) → W.kind i ≡ get_or kinds (here - bias - 1) 0 → W.operand i ≡ get_or operands (here - bias - 1) 0
          → Performed capacities r.registers here i (Some there) store' lengths' starts')
          → length store' ≡ length store → length lengths' ≡ length lengths → Running store' lengths' starts' there (k + 1)
      running_step there did st le =
          let (i, is, kind, operand) = U.here_is capacities kinds operands u here a b in
          let (g, went, held, near) = did i kind operand in
          record {
            registers = g;
            held = held;
            runs = U.running_goes capacities kinds operands start steps budget allowed u al r.runs
                (ends (omega arith) refl (move (U.next_is capacities kinds operands u here a b r.registers i is ∙ went) stay))
                (omega arith) (omega (arith, near, u.count));
            stores = st ∙ r.stores;
            counts = le ∙ r.counts;
          }
