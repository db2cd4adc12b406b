-- A table that the test lets pass can be run on lengths.
use mathlib.Core.Path.{◌≡◌, refl}
use mathlib.Core.Logic.{◌≢◌}
use mathlib.Core.Bool.{Bool, true, false, ◌&&◌, false≢true}
use mathlib.Core.Option.{Option, none, some}
use mathlib.Core.List.{List, [], ◌∷◌}
use Prim.Native.Nat.{ℕ, zero, suc, ◌≤◌, ◌<◌}
use native.Mathlib.Omega.{arith}
use borrow.Author.Tests.{leb-true, le-leb, lt-leb, eqb-true, eq-eqb, ne_eqb}
use lib.Dec.{eqb, leb}
use lib.ListN.{length, get_or}
use Rattle.theory.specs.Basics.{all}
use Rattle.theory.specs.Limits.{most_registers}
use Rattle.theory.proofs.Faults.{and_first, and_second}
use Rattle.word.specs.Answers.{zipped}
use Rattle.registers.specs.Fresh.{values_within}
use Rattle.registers.proofs.CanHold.{each_within}
use Rattle.usable.specs.Usable.{first_unusable}
use Rattle.underway.proofs.AllUsable.{all_usable}
use Rattle.countable.specs.Countable.{no_2, has_counts, is_none, is_countable, Countable}

no_hash_at : (ks : List ℕ) → all no_2 ks ≡ true → (i : ℕ) → i < length ks → get_or ks i 0 ≢ 2
no_hash_at [] h i l = absurd (omega arith)
no_hash_at (k ∷ ks) h zero l = λ e.
    let first : no_2 k ≡ true = and_first (no_2 k) (all no_2 ks) h in
    false≢true (rw (eq-eqb k 2 e) at first)
no_hash_at (k ∷ ks) h (suc i) l = no_hash_at ks (and_second (no_2 k) (all no_2 ks) h) i (omega arith)

none_of : (o : Option ℕ) → is_none o ≡ true → o ≡ none
none_of none h = refl
none_of (some i) h = let z : ◌≡◌ {A = Bool} false true = h in cc

-- The tests, one after the other

module _ (capacities lengths kinds : List ℕ) where
  pub too_many : most_registers < length capacities → has_counts capacities lengths kinds ≡ false
  unfolding has_counts
  too_many h = rw (lt-leb (length capacities) most_registers h)

  pub unpaired : length lengths ≢ length capacities → has_counts capacities lengths kinds ≡ false
  unfolding has_counts
  unpaired h = rw (ne_eqb (length lengths) (length capacities) h) (go (leb (length capacities) most_registers))
    where
      go : (b : Bool) → (b && false && values_within capacities lengths && all no_2 kinds) ≡ false
      go true = refl
      go false = refl

  module _ (few : length capacities ≤ most_registers) (paired : length lengths ≡ length capacities) where
    pub not_within : values_within capacities lengths ≡ false → has_counts capacities lengths kinds ≡ false
    unfolding has_counts
    not_within h = rw (le-leb (length capacities) most_registers few, eq-eqb (length lengths) (length capacities) paired, h)

    pub by_kinds : values_within capacities lengths ≡ true → has_counts capacities lengths kinds ≡ all no_2 kinds
    unfolding has_counts
    by_kinds h = rw (le-leb (length capacities) most_registers few, eq-eqb (length lengths) (length capacities) paired, h)

module _ (capacities lengths kinds operands : List ℕ) where
  pub countable : is_countable capacities lengths kinds operands ≡ true → Countable capacities lengths kinds operands
  unfolding is_countable has_counts
  countable h =
      let a = leb (length capacities) most_registers in
      let b = eqb (length lengths) (length capacities) in
      let c = values_within capacities lengths in
      let d = all no_2 kinds in
      let e = is_none (first_unusable (length capacities) (zipped kinds operands)) in
      let counts = and_first (a && b && c && d) e h in
      let sized = and_first (a && b && c) d counts in
      let paired = and_first (a && b) c sized in
      let few : length capacities ≤ most_registers = leb-true (length capacities) most_registers (and_first a b paired) in
      record {
        few = few;
        paired = eqb-true (length lengths) (length capacities) (and_second a b paired);
        within = each_within capacities lengths (and_second (a && b) c sized);
        no_hash = no_hash_at kinds (and_second (a && b && c) d counts);
        usable = all_usable (length capacities) kinds operands (none_of _ (and_second (a && b && c && d) e h)) (omega (arith, few));
      }

  pub none_unusable : is_countable capacities lengths kinds operands ≡ true
      → first_unusable (length capacities) (zipped kinds operands) ≡ none
  unfolding is_countable
  none_unusable h = none_of _ (and_second (has_counts capacities lengths kinds) _ h)

  pub no_counts : has_counts capacities lengths kinds ≡ false → is_countable capacities lengths kinds operands ≡ false
  unfolding is_countable
  no_counts h = rw h

  pub by_search : has_counts capacities lengths kinds ≡ true
      → is_countable capacities lengths kinds operands ≡ is_none (first_unusable (length capacities) (zipped kinds operands))
  unfolding is_countable
  by_search h = rw h
