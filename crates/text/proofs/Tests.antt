-- Tests along a list, from a place on; and the test of a symbol by its distance from the middle between # and 1.
use mathlib.Core.Path.{◌≡◌, refl}
use mathlib.Core.Bool.{Bool, true, false, ◌&&◌}
use mathlib.Core.List.{List}
use mathlib.Core.Logic.{⊎_elim}
use Prim.Native.Nat.{ℕ, ◌+◌, ◌-◌, ◌≤◌, ◌<◌}
use native.Mathlib.Nat.{eq-zero-or-pos}
use native.Mathlib.Numerals.{add-one}
use native.Mathlib.Omega.{arith}
use borrow.Author.Tests.{ne_eqb}
use lib.ListN.{length, drop, get_or, drop_of_length-le}
use lib.Seq.{drop-cons}
use Rattle.theory.specs.Basics.{all}
use Rattle.theory.specs.Word.{is_symbol}

and_false : (b : Bool) → (b && false) ≡ false
and_false true = refl
and_false false = refl

and_true : (b : Bool) → (b && true) ≡ b
and_true true = refl
and_true false = refl

module _ (f : ℕ → Bool) (l : List ℕ) (i : ℕ) where
  pub all-next : i < length l → f (get_or l i 0) ≡ true → all f (drop i l) ≡ all f (drop (i + 1) l)
  all-next h t = rw (drop-cons l i 0 h, add-one i, t)

  pub all_fails : (ok : Bool) → i < length l → f (get_or l i 0) ≡ false → (ok && all f (drop i l)) ≡ false
  all_fails ok h t = rw (drop-cons l i 0 h, t) (and_false ok)

  pub all_passed : (ok : Bool) → length l ≤ i → (ok && all f (drop i l)) ≡ ok
  all_passed ok h = rw (drop_of_length-le l {i = i} h) (and_true ok)

-- A byte, and how far it is from 42
module _ (b d : ℕ) (e : d ≡ (b - 42) + (42 - b)) where
  pub symbol_at : d ≡ 7 → is_symbol b ≡ true
  symbol_at h =
      ⊎_elim
      (λ l. let q : b ≡ 49 = omega arith in rw q)
      (λ l. let q : b ≡ 35 = omega arith in rw q)
      (eq-zero-or-pos (42 - b))

  pub other_at : (d ≡ 7 → ⊥) → is_symbol b ≡ false
  other_at h = rw (ne_eqb b 49 (λ q. h (omega (arith, q))), ne_eqb b 35 (λ q. h (omega (arith, q))))
