-- The table of offsets, cell by cell: as it is read, and as it is filled.
use mathlib.Core.Path.{◌≡◌, refl, sym, ◌∙◌}
use mathlib.Core.List.{List}
use Prim.Native.Nat.{ℕ, suc, ◌+◌, ◌*◌, ◌≤◌, ◌<◌}
use native.Mathlib.Nat.{suc-mul}
use native.Mathlib.Numerals.{add-one}
use native.Mathlib.Omega.{arith}
use lib.ListN.{length, take, set, get_or, replicate, length-replicate, length-set}
use lib.Seq.{take-suc, take-suc-set, take_all}
use Rattle.theory.specs.Basics.{sum}
use Rattle.theory.specs.Machines.{offset}
use Rattle.theory.proofs.GoodMemory.{length-cells, get_or-cells}
use Rattle.theory.proofs.Offsets.{offset-next, place_inside}
use Rattle.layout.specs.Offsets.{offsets_of}

-- A list that agrees with another up to i, set at i to what stands there
pub agrees_next : (l : List ℕ) (i v : ℕ) (w : List ℕ) → i < length l → i < length w → take i l ≡ take i w → v ≡ get_or w i 0
    → take (i + 1) (set l i v) ≡ take (i + 1) w
agrees_next l i v w h k same e = rw (add-one i, take-suc-set l i v h, take-suc w i 0 k, same, e)

module _ (capacities : List ℕ) where
  pub length_offsets : length (offsets_of capacities) ≡ 65
  unfolding offsets_of
  length_offsets = length-cells 65 (λ i. offset capacities (suc i))

  pub offsets_at : (i : ℕ) → i < 65 → get_or (offsets_of capacities) i 0 ≡ offset capacities (suc i)
  unfolding offsets_of
  offsets_at i l = get_or-cells 65 (λ j. offset capacities (suc j)) 0 i l

  -- A table of them: where place i begins and ends
  module _ (table : List ℕ) (is : table ≡ offsets_of capacities) (i : ℕ) (l : i < 64) where
    pub table_at : get_or table i 0 ≡ offset capacities (suc i)
    table_at = rw is (offsets_at i (omega arith))

    pub table-after : get_or table (i + 1) 0 ≡ offset capacities (suc (suc i))
    table-after = rw is (offsets_at (i + 1) (omega arith) ∙ rw (add-one i))

    pub table-next : get_or table (i + 1) 0 ≡ get_or table i 0 + get_or capacities i 0
    table-next = omega (arith, table_at, table-after, offset-next capacities i)

    pub table_inside : get_or table (i + 1) 0 ≤ sum capacities
    table_inside = omega (arith, table-after, offset-next capacities i, place_inside capacities i)

  -- The offsets of the first i places and the next are in the table; the last of them is `end`, a sum of so many numbers of 16 bits
  pub record Summed (i end : ℕ) (table : List ℕ) : Type 0 where
    pub few : i ≤ 64
    pub size : length table ≡ 65
    pub sum : end ≡ offset capacities (suc i)
    pub low : end ≤ i * 65535
    pub agrees : take (i + 1) table ≡ take (i + 1) (offsets_of capacities)

  pub summed_none : Summed 0 0 (replicate 65 0)
  unfolding offsets_of
  summed_none = record { few = omega arith; size = length-replicate {A = ℕ} 65 0; sum = refl; low = omega arith; agrees = refl }

  pub summed_next : (i end n : ℕ) (table : List ℕ) → Summed i end table → i < 64 → n ≡ get_or capacities i 0 → n < 65536
      → Summed (i + 1) (end + n) (set table (i + 1) (end + n))
  summed_next i end n table h l e few =
      let next : end + n ≡ offset capacities (suc (i + 1)) = rw (add-one i) (omega (arith, offset-next capacities i, h.sum)) in
      let there : end + n ≡ get_or (offsets_of capacities) (i + 1) 0 = next ∙ sym (offsets_at (i + 1) (omega arith)) in
      record {
        few = omega arith;
        size = length-set table (i + 1) (end + n) ∙ h.size;
        sum = next;
        low = rw (add-one i) (omega (arith, suc-mul i 65535, h.low));
        agrees = agrees_next table (i + 1) (end + n) (offsets_of capacities) (omega (arith, h.size)) (omega (arith, length_offsets))
            h.agrees there;
      }

  pub summed_all : (i end : ℕ) (table : List ℕ) → Summed i end table → 64 ≤ i → table ≡ offsets_of capacities
  summed_all i end table h l =
      let mine : take (i + 1) table ≡ table = take_all (i + 1) table (omega (arith, h.size)) in
      let whole : take (i + 1) (offsets_of capacities) ≡ offsets_of capacities
      = take_all (i + 1) (offsets_of capacities) (omega (arith, length_offsets)) in
      sym mine ∙ h.agrees ∙ whole
