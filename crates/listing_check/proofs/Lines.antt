-- The lines of a list of numbers: as many as a fourth of the numbers, and each by its numbers.
use mathlib.Core.Path.{◌≡◌, refl, ap}
use mathlib.Core.Option.{Option}
use mathlib.Core.List.{List, [], ◌∷◌}
use Prim.Native.Nat.{ℕ, zero, suc, ◌+◌, ◌*◌, ◌<◌}
use native.Mathlib.Omega.{arith}
use lib.ListN.{length, get_or}
use Rattle.listing.specs.Listing.{Line}
use Rattle.listing_check.specs.Lined.{line_of, no_numbers, numbers_at, lined, Whole}

fewer : {k r o h : ℕ} {l : List ℕ} {n : ℕ} → Whole (k ∷ r ∷ o ∷ h ∷ l) (suc n) → Whole l n
fewer w = record { from = omega (arith, w.from); upto = omega (arith, w.upto) }

pub lined-length : (l : List ℕ) (n : ℕ) → Whole l n → length (lined l) ≡ n
unfolding lined
lined-length [] n w = omega (arith, w.from)
lined-length (k ∷ []) n w = omega (arith, w.from)
lined-length (k ∷ r ∷ []) n w = omega (arith, w.from)
lined-length (k ∷ r ∷ o ∷ []) n w = omega (arith, w.from)
lined-length (k ∷ r ∷ o ∷ h ∷ l) zero w = absurd (omega (arith, w.upto))
lined-length (k ∷ r ∷ o ∷ h ∷ l) (suc n) w = ap suc (lined-length l n (fewer w))

pub lined-at : (l : List ℕ) (i : ℕ) (d : Option Line) → i < length (lined l) → get_or (lined l) i d ≡ line_of (numbers_at l i)
unfolding lined numbers_at
lined-at [] i d h = absurd (omega arith)
lined-at (k ∷ []) i d h = absurd (omega arith)
lined-at (k ∷ r ∷ []) i d h = absurd (omega arith)
lined-at (k ∷ r ∷ o ∷ []) i d h = absurd (omega arith)
lined-at (k ∷ r ∷ o ∷ h ∷ l) zero d g = refl
lined-at (k ∷ r ∷ o ∷ h ∷ l) (suc i) d g = lined-at l i d (omega arith)

-- The numbers of a line stand four a line in the list
pub numbers_there : (l : List ℕ) (i : ℕ) → 4 * i + 3 < length l
    → record { kind = get_or l (4 * i) 0; register = get_or l (4 * i + 1) 0; one = get_or l (4 * i + 2) 0; hash = get_or l (4 * i + 3) 0 }
    ≡ numbers_at l i
unfolding numbers_at
numbers_there [] i h = absurd (omega arith)
numbers_there (k ∷ []) i h = absurd (omega arith)
numbers_there (k ∷ r ∷ []) i h = absurd (omega arith)
numbers_there (k ∷ r ∷ o ∷ []) i h = absurd (omega arith)
numbers_there (k ∷ r ∷ o ∷ h ∷ l) zero g = refl
numbers_there (k ∷ r ∷ o ∷ h ∷ l) (suc i) g =
    let first : 4 * suc i ≡ suc (suc (suc (suc (4 * i)))) = omega arith in
    let second : 4 * suc i + 1 ≡ suc (suc (suc (suc (4 * i + 1)))) = omega arith in
    let third : 4 * suc i + 2 ≡ suc (suc (suc (suc (4 * i + 2)))) = omega arith in
    let fourth : 4 * suc i + 3 ≡ suc (suc (suc (suc (4 * i + 3)))) = omega arith in
    rw (second, third, fourth, first) (numbers_there l i (omega arith))

pub no_numbers_there : (l : List ℕ) (i : ℕ) → length l < 4 * i + 4 → no_numbers ≡ numbers_at l i
unfolding numbers_at
no_numbers_there [] i h = refl
no_numbers_there (k ∷ []) i h = refl
no_numbers_there (k ∷ r ∷ []) i h = refl
no_numbers_there (k ∷ r ∷ o ∷ []) i h = refl
no_numbers_there (k ∷ r ∷ o ∷ h ∷ l) zero g = absurd (omega arith)
no_numbers_there (k ∷ r ∷ o ∷ h ∷ l) (suc i) g = no_numbers_there l i (omega arith)
