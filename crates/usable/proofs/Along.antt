-- Entries of a table, one after the other, up to the first that a machine cannot do; and the largest operand, by the kind.
use mathlib.Core.Path.{◌≡◌, refl, ap, ◌∙◌}
use mathlib.Core.Bool.{Bool, true, false, ◌&&◌}
use mathlib.Core.Option.{none, some}
use mathlib.Core.List.{List, ◌∷◌}
use Prim.Native.Nat.{ℕ, zero, suc, ◌+◌, ◌≤◌, ◌<◌, min}
use native.Mathlib.Numerals.{add-one}
use native.Mathlib.Omega.{arith}
use borrow.Author.Tests.{le-leb, lt-leb, lt-ltb, le-ltb, ltb-true, ne_eqb}
use lib.Dec.{ltb}
use lib.ListN.{length, drop, get_or, drop_of_length-le, get_or-eq_default}
use lib.Seq.{drop-cons}
use Rattle.theory.specs.Word.{Entry}
use Rattle.theory.specs.Machines.{is_limited}
use Rattle.theory.specs.TurnedDown.{first_along, next_entry}
use Rattle.theory.proofs.Words.{entry}
use Rattle.word.specs.Answers.{zipped}
use Rattle.word.proofs.Zipped.{zipped-length, zipped-at}
use Rattle.usable.specs.Usable.{most_operand, unusable}

-- Kinds

module _ (registers kind : ℕ) where
  pub goes : 3 ≤ kind → kind < 5 → 600000 ≡ most_operand registers kind
  goes low high =
      rw (le-leb 1 kind (omega arith), le-leb kind 5 (omega arith), le-ltb kind 3 low, ne_eqb kind 5 (λ e. omega arith))

  pub appends : 1 ≤ kind → kind < 3 → registers ≡ most_operand registers kind
  appends low high = rw (le-leb 1 kind low, le-leb kind 5 (omega arith), lt-ltb kind 3 high)

  pub no_kind : kind < 1 → 0 ≡ most_operand registers kind
  no_kind h = rw (lt-leb 1 kind h)

  pub high_kind : 5 < kind → 0 ≡ most_operand registers kind
  high_kind h = rw (le-leb 1 kind (omega arith), lt-leb kind 5 h)

no_operand : (n : ℕ) → is_limited 0 n ≡ false
no_operand zero = refl
no_operand (suc n) = rw (le-leb 1 (suc n) (omega arith), lt-leb (suc n) 0 (omega arith))

-- Entry i of two lists

module _ (registers : ℕ) (ks ns : List ℕ) (i : ℕ) where
  abbrev can : Bool
  can = is_limited (most_operand registers (get_or ks i 0)) (get_or ns i 0)

  pub among : i < length ks → i < length (zipped ks ns)
  among h = omega (arith, zipped-length ks ns)

  here : i < length (zipped ks ns) → drop i (zipped ks ns) ≡ entry (get_or ns i 0) (get_or ks i 0) ∷ drop (suc i) (zipped ks ns)
  here h = drop-cons (zipped ks ns) i (entry 0 0) h ∙ ap {B = List Entry} (λ e. e ∷ drop (suc i) (zipped ks ns)) (zipped-at ks ns i)

  pub stops : i < length (zipped ks ns) → (ltb i 8192 && can) ≡ false
      → first_along next_entry (unusable registers) i (drop i (zipped ks ns)) ≡ some i
  unfolding first_along
  stops h not-can = rw (here h, not-can)

  pub goes_on : i < length ks → i < 8192 → can ≡ true
      → first_along next_entry (unusable registers) i (drop i (zipped ks ns))
      ≡ first_along next_entry (unusable registers) (i + 1) (drop (i + 1) (zipped ks ns))
  unfolding first_along
  goes_on h few does = rw (here (among h), add-one i, lt-ltb i 8192 few, does)

  pub ends : length ks ≤ i → length ns ≤ i → first_along next_entry (unusable registers) i (drop i (zipped ks ns)) ≡ none
  unfolding first_along
  ends h k = rw (drop_of_length-le (zipped ks ns) {i = i} (omega (arith, zipped-length ks ns)))

  pub stops_here : i < length ks → i < 8192 → can ≡ false
      → first_along next_entry (unusable registers) i (drop i (zipped ks ns)) ≡ some i
  stops_here h few not-can = stops (among h) (rw (lt-ltb i 8192 few) not-can)

  -- past one of the lists, or the most instructions
  module _ (is : i ≡ min 8192 (min (length ks) (length ns))) where
    pub stops_operands : i < length ks → first_along next_entry (unusable registers) i (drop i (zipped ks ns)) ≡ some i
    stops_operands h = stops (among h) (go (ltb i 8192) refl)
      where
        go : (t : Bool) → ltb i 8192 ≡ t → (t && can) ≡ false
        go true e =
            let few : i < 8192 = ltb-true i 8192 e in
            rw (get_or-eq_default ns 0 {n = i} (omega arith))
        go false e = refl

    pub stops_kinds : i < length ns → length ks ≤ i → first_along next_entry (unusable registers) i (drop i (zipped ks ns)) ≡ some i
    stops_kinds h k = stops (omega (arith, zipped-length ks ns)) (go (ltb i 8192) refl)
      where
        go : (t : Bool) → ltb i 8192 ≡ t → (t && can) ≡ false
        go true e = rw (get_or-eq_default ks 0 {n = i} k) (no_operand (get_or ns i 0))
        go false e = refl
