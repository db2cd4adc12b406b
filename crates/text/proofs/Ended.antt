-- Rule 2's last byte.
use mathlib.Core.Path.{◌≡◌, refl, sym}
use mathlib.Core.Bool.{◌||◌}
use mathlib.Core.List.{[], ◌∷◌}
use Prim.Native.Nat.{ℕ, suc, ◌-◌}
use native.Mathlib.Omega.{arith}
use borrow.Author.Tests.{ne_eqb}
use lib.Dec.{eqb}
use lib.ListN.{length, get_or}
use Rattle.theory.specs.Text.{Bytes, ends_in_LF}

pub last_byte : (t : Bytes) → (length t ≡ 0 → ⊥) → eqb (get_or t (length t - 1) 0) 10 ≡ (eqb (length t) 0 || ends_in_LF t)
unfolding ends_in_LF
last_byte [] n = absurd (n refl)
last_byte (b ∷ t) n =
    let e : suc (length t) - 1 ≡ length t = omega arith in
    rw (e, ne_eqb (suc (length t)) 0 n) (sym (go b t))
  where
    go : (b : ℕ) (t : Bytes) → ends_in_LF (b ∷ t) ≡ eqb (get_or (b ∷ t) (length t) 0) 10
    go b [] = refl
    go b (c ∷ t) = go c t
