-- A line's numbers by its kind, and a register's capacity in the list.
use mathlib.Core.Path.{◌≡◌}
use mathlib.Core.Bool.{Bool, true, false, cond}
use mathlib.Core.List.{List}
use Prim.Native.Nat.{ℕ, suc, ◌+◌, ◌-◌, ◌≤◌, ◌<◌}
use native.Mathlib.Numerals.{add-one}
use native.Mathlib.Omega.{arith}
use borrow.Author.Tests.{le-leb, lt-leb, eq-eqb, ne_eqb}
use lib.Dec.{eqb, leb}
use lib.ListN.{get_or}
use Rattle.theory.specs.Runs.{register}
use Rattle.theory.specs.Translation.{counter}
use Rattle.theory.specs.Machines.{capacity_of}
use Rattle.capacities.specs.Room.{roomy, line_passes, next_depth}

module _ (capacities : List ℕ) where
  pub variable-at : (i : ℕ) → capacity_of capacities (register i) ≡ get_or capacities i 0
  variable-at i = rw (add-one i)

  pub counter_at : (K d : ℕ) → capacity_of capacities (counter K d) ≡ get_or capacities (K + 1 + d) 0
  counter_at K d = let e : counter K d ≡ suc (K + 1 + d) = omega arith in rw e

module _ (most : ℕ) (capacities : List ℕ) (K d i j : ℕ) where
  abbrev ok : ℕ → Bool
  ok = roomy most capacities

  pub same_copied : (k : ℕ) → k ≡ 3 → i ≡ j → true ≡ line_passes ok K d k i j
  same_copied k e h = rw (eq-eqb k 3 e, eq-eqb i j h)

  pub two_copied : (k : ℕ) → k ≡ 3 → (i ≡ j → ⊥) → leb most (get_or capacities K 0) ≡ line_passes ok K d k i j
  two_copied k e h = rw (eq-eqb k 3 e, ne_eqb i j h, variable-at capacities K)

  pub scratch_short : (k : ℕ) → k ≡ 4 → get_or capacities K 0 < most → false ≡ line_passes ok K d k i j
  scratch_short k e h = rw (e, variable-at capacities K, lt-leb most (get_or capacities K 0) h)

  pub counter_tested : (k : ℕ) → k ≡ 4 → most ≤ get_or capacities K 0 → leb most (get_or capacities (K + 1 + d) 0) ≡ line_passes ok K d k i j
  counter_tested k e h = rw (e, variable-at capacities K, counter_at capacities K d, le-leb most (get_or capacities K 0) h)

  pub nothing_named : (k : ℕ) → (k ≡ 3 → ⊥) → (k ≡ 4 → ⊥) → true ≡ line_passes ok K d k i j
  nothing_named k h g = rw (ne_eqb k 3 h, ne_eqb k 4 g)

-- A line is inside one loop more at most than the line before it
pub no_deeper : (d k n : ℕ) → d ≤ n → next_depth d k ≤ n + 1
no_deeper d k n h = go (eqb k 4) (eqb k 5)
  where
    go : (s t : Bool) → cond s (suc d) (cond t (d - 1) d) ≤ n + 1
    go true t = let e : suc d ≤ n + 1 = omega arith in e
    go false true = let e : d - 1 ≤ n + 1 = omega arith in e
    go false false = let e : d ≤ n + 1 = omega arith in e
