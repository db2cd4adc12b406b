-- Tests for 1s: one register's place after the other, and what they say of the memory.
use mathlib.Core.Path.{◌≡◌, refl}
use mathlib.Core.Bool.{Bool, true, false, and-true, and-false}
use mathlib.Core.List.{List}
use Prim.Native.Nat.{ℕ, suc, ◌+◌, ◌-◌, ◌≤◌, ◌<◌}
use native.Mathlib.Numerals.{add-one}
use native.Mathlib.Omega.{arith}
use lib.Dec.{eqb}
use lib.ListN.{length, take, drop, get_or}
use Rattle.theory.specs.Basics.{sum, all, all_below}
use Rattle.theory.specs.Machines.{Memory, offset, is_sized, is_memory}
use Rattle.theory.proofs.GoodMemory.{both, all_below_fails}
use Rattle.theory.proofs.Offsets.{offset-next, place_inside}
use Rattle.rule10.specs.Lent.{memory}
use Rattle.rule10.proofs.Sizes.{not_memory}
use Rattle.ones.specs.Ones.{is_ones, only_ones, holds_ones}

module _ (capacities store lengths : List ℕ) where
  -- The first i registers, whose places end before byte `from`, hold 1s alone
  pub record OnesTo (from i : ℕ) : Type 0 where
    pub few : i ≤ length capacities
    pub starts : from ≡ offset capacities (suc i)
    pub pass : all_below i (is_ones (memory capacities store lengths)) ≡ true

  pub ones_none : OnesTo 0 0
  ones_none = record { few = omega arith; starts = refl; pass = refl }

  module _ {from i : ℕ} (h : OnesTo from i) where
    pub ones_inside : length store ≡ sum capacities → from + get_or capacities i 0 ≤ length store
    ones_inside room = omega (arith, h.starts, place_inside capacities i)

    pub ones-all : length capacities ≤ i → only_ones (memory capacities store lengths) ≡ true
    unfolding only_ones
    ones-all l =
        let end : length capacities ≡ i = omega (arith, h.few) in
        rw end h.pass

    -- What the test of the part that is its place says of register i
    module _ {to : ℕ} (l : i < length capacities) (ends : to ≡ from + get_or capacities i 0) {r : Bool}
        (is : r ≡ all (eqb 49) (take (get_or lengths i 0) (take (to - from) (drop from store)))) where
      tested : r ≡ is_ones (memory capacities store lengths) i
      tested =
          let d : to - from ≡ get_or capacities i 0 = omega arith in
          rw (d, h.starts) at is

      pub ones_fail : r ≡ false → only_ones (memory capacities store lengths) ≡ false
      unfolding only_ones
      ones_fail e = all_below_fails (length capacities) (is_ones (memory capacities store lengths)) i l (rw (← tested) e)

      pub ones-more : r ≡ true → OnesTo to (i + 1)
      ones-more e = record {
        few = omega arith;
        starts = rw (add-one i) (omega (arith, h.starts, offset-next capacities i));
        pass = rw (add-one i) (both _ _ h.pass (rw (← tested) e));
      }

-- The memory
module _ (m : Memory) where
  pub not-sized : is_sized m ≡ false → holds_ones m ≡ false
  unfolding holds_ones
  not-sized h = rw (not_memory m h)

  pub not-ones : only_ones m ≡ false → holds_ones m ≡ false
  unfolding holds_ones
  not-ones h = rw h (and-false (is_memory m))

  pub by_memory : only_ones m ≡ true → holds_ones m ≡ is_memory m
  unfolding holds_ones
  by_memory h = rw h (and-true (is_memory m))
