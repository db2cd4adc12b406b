-- Numbers compared, and the flag in which a loop with no early end keeps whether a test has passed everywhere.
use mathlib.Core.Path.{◌≡◌, refl, sym, ◌∙◌}
use mathlib.Core.Bool.{Bool, true, false, ◌&&◌}
use mathlib.Core.Logic.{◌⊎◌, inl, inr, ⊎_elim}
use Prim.Native.Nat.{ℕ, ◌-◌, ◌≤◌, ◌<◌}
use native.Mathlib.Nat.{eq-zero-or-pos}
use native.Mathlib.Omega.{arith}

pub lt_or_le : (a b : ℕ) → (a < b) ⊎ (b ≤ a)
lt_or_le a b = ⊎_elim (λ e. inr (omega arith)) (λ l. inl (omega arith)) (eq-zero-or-pos (b - a))

-- No test both passes and fails
pub not_both : (t : Bool) → t ≡ true → t ≡ false → ⊥
not_both t p q = let z : ◌≡◌ {A = Bool} true false = sym p ∙ q in let x : ◌≡◌ {A = ℕ} 0 1 = cc in omega arith

-- The flag, the test here, and those behind it
pub flag_kept : (ok t rest : Bool) → t ≡ true → (ok && (t && rest)) ≡ (ok && rest)
flag_kept ok t rest e = rw e

pub flag_fallen : (ok t rest : Bool) → t ≡ false → (ok && (t && rest)) ≡ false
flag_fallen true t rest e = rw e
flag_fallen false t rest e = refl

pub flag_last : (ok rest : Bool) → rest ≡ true → (ok && rest) ≡ ok
flag_last true rest e = e
flag_last false rest e = refl
