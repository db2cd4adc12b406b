-- The few facts on signed places: by cases on the sign, once.

use mathlib.Core.Path.{◌≡◌, refl, ap, ◌∙◌, subst}
use mathlib.Core.Bool.{Bool, true, false}
use Prim.Native.Nat.{ℕ, zero, suc, ◌-◌, ◌<◌, ◌≤◌, ◌^◌}
use native.Mathlib.Omega.{arith}
use borrow.Author.Tests.{lt-ltb, le-ltb, ltb-true}
use lib.Dec.{T}
use lib.IntN.{ℤ, pos, negsuc, neg_ℤ, sub_ℕ, nat_abs, ◌-ℤ◌, +ℤ_idl}
use lib.Signed.{lt_z, non_neg}
use mir.Syntax.{w32}
use mir.Val.{SFits, to_z}
use mir.Facts.{sfits_lit, to_z_pos}
use Rattle.underway.specs.Places.{number_of}

pub sfits_neg : (n : ℕ) → n < 2 ^ 31 → SFits w32 (neg_ℤ (pos n))
sfits_neg zero h = sfits_lit tt
sfits_neg (suc n) h = record { sfits = omega arith }

pub zero_less : (n : ℕ) → pos 0 -ℤ pos n ≡ neg_ℤ (pos n)
zero_less n = +ℤ_idl (neg_ℤ (pos n))

pub sub_ge : (a n : ℕ) → n ≤ a → pos (a - n) ≡ sub_ℕ a n
sub_ge a n h = simp (le-ltb a n h)

pub sub_lt : (a n : ℕ) → a < n → neg_ℤ (pos (n - a)) ≡ sub_ℕ a n
sub_lt a n h =
    let e : n - a ≡ suc (n - suc a) = omega arith in
    simp (lt-ltb a n h) (rw e)

pub not_below : (z : ℤ) → lt_z z (pos 0) ≡ false → T (non_neg z)
not_below (pos n) e = tt
not_below (negsuc n) e = subst T e tt

pub is_below : (z : ℤ) → lt_z z (pos 0) ≡ true → 0 ≡ number_of z
is_below (pos zero) e = refl
is_below (pos (suc n)) e = let h : suc n < 0 = ltb-true (suc n) 0 e in absurd (omega arith)
is_below (negsuc n) e = refl

pub abs_is : (z : ℤ) → lt_z z (pos 0) ≡ false → nat_abs z ≡ number_of z
abs_is (pos n) e = refl
abs_is (negsuc n) e = let z : ◌≡◌ {A = Bool} true false = e in cc

pub negated : (n : ℕ) → n < 2 ^ 31 → pos 0 -ℤ to_z w32 n ≡ neg_ℤ (pos n)
negated n h = ap (λ (z : ℤ). pos 0 -ℤ z) (to_z_pos w32 h) ∙ zero_less n
