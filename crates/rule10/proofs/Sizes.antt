-- Rule 10, one test after the other.
use mathlib.Core.Path.{◌≡◌, refl, ◌∙◌}
use mathlib.Core.Bool.{Bool, true, false, ◌&&◌, false≢true}
use mathlib.Core.List.{List, [], ◌∷◌}
use Prim.Native.Nat.{ℕ, zero, suc, ◌≤◌, ◌<◌}
use native.Mathlib.Omega.{arith}
use borrow.Author.Tests.{le-leb, lt-leb, leb-true, eq-eqb, ne_eqb, eqb-true}
use lib.Dec.{eqb, leb}
use lib.ListN.{length, get_or}
use Rattle.theory.specs.Basics.{sum, all}
use Rattle.theory.specs.Limits.{most_capacity}
use Rattle.theory.specs.Machines.{Memory, count, offset, is_limited, is_sized, is_memory}
use Rattle.theory.proofs.Faults.{and_first, and_second}
use Rattle.theory.proofs.Offsets.{offset-whole}
use Rattle.rule10.specs.Lent.{Sized, places_laid}

module _ (m : Memory) where
  abbrev limited : Bool
  limited = all (is_limited most_capacity) m.capacities

  pub no_registers : count m < 1 → is_sized m ≡ false
  no_registers h = rw (lt-leb 1 (count m) h)

  module _ (r : 1 ≤ count m) where
    pub many_registers : 64 < count m → is_sized m ≡ false
    many_registers h = rw (le-leb 1 (count m) r, lt-leb (count m) 64 h)

    module _ (r' : count m ≤ 64) where
      pub other_capacity : limited ≡ false → is_sized m ≡ false
      other_capacity h = rw (le-leb 1 (count m) r, le-leb (count m) 64 r', h)

      module _ (c : limited ≡ true) where
        pub other_store : (length m.store ≡ offset m.capacities (suc (count m)) → ⊥) → is_sized m ≡ false
        other_store h = rw (le-leb 1 (count m) r, le-leb (count m) 64 r', c) (rw (ne_eqb _ _ h))

        pub by_lengths : length m.store ≡ offset m.capacities (suc (count m)) → is_sized m ≡ eqb (length m.lengths) (count m)
        by_lengths s = rw (le-leb 1 (count m) r, le-leb (count m) 64 r', c) (rw (eq-eqb _ _ s))

four : (a b c d : Bool) → (a && b && c && d) ≡ true → (a ≡ true) × (b ≡ true) × (c ≡ true) × (d ≡ true)
four true true true d h = (refl, refl, refl, h)
four true true false d h = absurd (false≢true h)
four true false c d h = absurd (false≢true h)
four false b c d h = absurd (false≢true h)

within : (most n : ℕ) → is_limited most n ≡ true → n ≤ most
within most n h = leb-true n most (and_second (leb 1 n) (leb n most) h)

all-within : (most : ℕ) (l : List ℕ) → all (is_limited most) l ≡ true → (i : ℕ) → get_or l i 0 ≤ most
all-within most [] h i = omega arith
all-within most (n ∷ l) h zero = within most n (and_first (is_limited most n) (all (is_limited most) l) h)
all-within most (n ∷ l) h (suc i) = all-within most l (and_second (is_limited most n) (all (is_limited most) l) h) i

-- What the sizes say, and what is left of the rule where they are so
module _ (m : Memory) (h : is_sized m ≡ true) where
  parts : (is_limited 64 (count m) ≡ true) × (limited m ≡ true)
      × (eqb (length m.store) (offset m.capacities (suc (count m))) ≡ true) × (eqb (length m.lengths) (count m) ≡ true)
  parts = four (is_limited 64 (count m)) (limited m)
      (eqb (length m.store) (offset m.capacities (suc (count m)))) (eqb (length m.lengths) (count m)) h

  whole : length m.store ≡ sum m.capacities
  whole = eqb-true (length m.store) (offset m.capacities (suc (count m))) parts.2 ∙ offset-whole m.capacities

  pub are_sized : Sized m.capacities m.store m.lengths
  are_sized = record {
    room = whole;
    paired = eqb-true (length m.lengths) (count m) parts.3;
    registers = within 64 (count m) parts.0;
    symbols = all-within 1024 m.capacities parts.1;
  }

  pub by_places : is_memory m ≡ places_laid (count m) m.capacities m.store m.lengths
  unfolding is_memory places_laid
  by_places = rw h

pub not_memory : (m : Memory) → is_sized m ≡ false → is_memory m ≡ false
unfolding is_memory
not_memory m h = rw h
