-- Places of unequal size, "following one another in register order": where each begins and ends, that they lie inside the sum of all, and
-- that no two meet. Places count from 0, the offset of place i being that of register i + 1.
use mathlib.Core.Path.{◌≡◌, refl, ap}
use mathlib.Core.List.{List, [], ◌∷◌}
use Prim.Native.Nat.{ℕ, zero, suc, ◌+◌, ◌-◌, ◌*◌, ◌≤◌, ◌<◌}
use native.Mathlib.Nat.{zero-add, suc-add, suc-mul}
use native.Mathlib.Omega.{arith}
use lib.ListN.{length, get_or, take}
use lib.Seq.{take_all, take-length}
use Rattle.theory.specs.Basics.{sum}
use Rattle.theory.specs.Machines.{offset}

-- A place ends where the next begins. Past the list each has no byte, and the sum stays
pub offset-next : (capacities : List ℕ) (i : ℕ) → offset capacities (suc (suc i)) ≡ offset capacities (suc i) + get_or capacities i 0
offset-next [] zero = refl
offset-next [] (suc i) = refl
offset-next (c ∷ l) zero = omega arith
offset-next (c ∷ l) (suc i) = let later : sum (take (suc i) l) ≡ sum (take i l) + get_or l i 0 = offset-next l i in omega arith

module _ (capacities : List ℕ) where
  pub offset-whole : offset capacities (suc (length capacities)) ≡ sum capacities
  offset-whole = ap sum (take-length capacities)

  pub offset_past : (i : ℕ) → length capacities ≤ i → offset capacities (suc i) ≡ sum capacities
  offset_past i l = ap sum (take_all i capacities l)

  rises_by : (i k : ℕ) → offset capacities (suc i) ≤ offset capacities (suc (k + i))
  rises_by i zero = rw (zero-add i) (omega arith)
  rises_by i (suc k) = rw (suc-add k i) (omega (arith, rises_by i k, offset-next capacities (k + i)))

  pub offset-rises : (i j : ℕ) → i ≤ j → offset capacities (suc i) ≤ offset capacities (suc j)
  offset-rises i j l =
      let e : j - i + i ≡ j = omega arith in
      rw e at (rises_by i (j - i))

  -- Two places don't meet
  pub places_apart : (i j : ℕ) → i < j → offset capacities (suc i) + get_or capacities i 0 ≤ offset capacities (suc j)
  places_apart i j l = omega (arith, offset-next capacities i, offset-rises (suc i) j l)

  -- They lie inside
  pub place_inside : (i : ℕ) → offset capacities (suc i) + get_or capacities i 0 ≤ sum capacities
  place_inside i =
      let end : ℕ = suc i + length capacities in
      omega (arith, places_apart i end (omega arith), offset_past end (omega arith))

  -- No offset is large where no capacity is
  pub offset_bound : (most : ℕ) → ((i : ℕ) → get_or capacities i 0 ≤ most) → (i : ℕ) → offset capacities (suc i) ≤ i * most
  offset_bound most h zero = omega arith
  offset_bound most h (suc i) = omega (arith, offset-next capacities i, offset_bound most h i, h i, suc-mul i most)
