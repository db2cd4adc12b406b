-- What stands at the front of a list: laws of `leading`, as a loop along the list needs them.
use mathlib.Core.Path.{◌≡◌, refl}
use mathlib.Core.Bool.{Bool, true, false}
use mathlib.Core.List.{List, [], ◌∷◌}
use Prim.Native.Nat.{ℕ, suc, ◌+◌, ◌≤◌, ◌<◌}
use native.Mathlib.Numerals.{add-one}
use native.Mathlib.Omega.{arith}
use lib.ListN.{length, drop, get_or, length-drop, drop_of_length-le}
use lib.Seq.{drop-cons}
use Rattle.text.specs.Runs.{leading}

module _ {A : Type 0} (f : A → Bool) where
  pub leading_pass : (a : A) (l : List A) → f a ≡ true → leading f (a ∷ l) ≡ suc (leading f l)
  unfolding leading
  leading_pass a l h = rw h

  pub leading_fail : (a : A) (l : List A) → f a ≡ false → leading f (a ∷ l) ≡ 0
  unfolding leading
  leading_fail a l h = rw h

  pub leading_nil : leading f [] ≡ 0
  unfolding leading
  leading_nil = refl

  pub leading_length : (l : List A) → leading f l ≤ length l
  unfolding leading
  leading_length [] = omega arith
  leading_length (a ∷ l) = go (f a) refl (leading_length l)
    where
      go : (t : Bool) → f a ≡ t → leading f l ≤ length l → leading f (a ∷ l) ≤ length (a ∷ l)
      go true e h = rw e (omega arith)
      go false e h = rw e (omega arith)

  -- From a place of the list on
  module _ (l : List A) (i : ℕ) (d : A) where
    pub leading-more : i < length l → f (get_or l i d) ≡ true → leading f (drop i l) ≡ suc (leading f (drop (i + 1) l))
    leading-more h e = rw (drop-cons l i d h, leading_pass (get_or l i d) (drop (suc i) l) e, add-one i)

    pub leading_stop : i < length l → f (get_or l i d) ≡ false → leading f (drop i l) ≡ 0
    leading_stop h e = rw (drop-cons l i d h) (leading_fail (get_or l i d) (drop (suc i) l) e)

    pub leading_end : length l ≤ i → leading f (drop i l) ≡ 0
    leading_end h = rw (drop_of_length-le l h) leading_nil

-- A run ends inside
module _ (f : ℕ → Bool) (l : List ℕ) (i : ℕ) where
  pub leading-within : i ≤ length l → i + leading f (drop i l) ≤ length l
  leading-within h = omega (arith, leading_length f (drop i l), length-drop i l)
