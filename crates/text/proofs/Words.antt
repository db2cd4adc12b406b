-- Laws of words that stand at a place of a text, and of what follows them.
use mathlib.Core.Path.{◌≡◌, refl}
use mathlib.Core.Bool.{Bool, true, false, cond, ◌&&◌, false≢true, true≢false}
use mathlib.Core.Option.{Option, none, some}
use mathlib.Core.List.{[], ◌∷◌}
use Prim.Native.Nat.{ℕ, suc, ◌<◌, ◌≤◌}
use native.Mathlib.Omega.{arith}
use lib.Dec.{eqb}
use lib.ListN.{length, take, drop, drop_of_length-le}
use lib.Pointwise.{pointwise}
use lib.Seq.{drop-cons}
use Rattle.theory.specs.Text.{Bytes, following, same}
use Rattle.text.specs.Words.{is_some}

-- What the library's word says of a text that starts with a word
pub starts_following : (w u : Bytes) → pointwise eqb w (take (length w) u) ≡ is_some (following w u)
unfolding following
starts_following [] u = refl
starts_following (b ∷ w) [] = refl
starts_following (b ∷ w) (c ∷ u) = go (eqb b c) (starts_following w u)
  where
    go : (x : Bool) → pointwise eqb w (take (length w) u) ≡ is_some (following w u)
        → (x && pointwise eqb w (take (length w) u)) ≡ is_some (cond x (following w u) none)
    go true e = e
    go false e = refl

pub after-not : (w u : Bytes) → is_some (following w u) ≡ false → following w u ≡ none
after-not w u e = go (following w u) e
  where
    go : (o : Option Bytes) → is_some o ≡ false → o ≡ none
    go none f = refl
    go (some x) f = absurd (true≢false f)

pub after_is : (w u : Bytes) → is_some (following w u) ≡ true → (following w u ≡ some (drop (length w) u)) × (length w ≤ length u)
unfolding following
after_is [] u e = (refl, omega arith)
after_is (b ∷ w) [] e = absurd (false≢true e)
after_is (b ∷ w) (c ∷ u) e = go (eqb b c) e (after_is w u)
  where
    go : (x : Bool) → is_some (cond x (following w u) none) ≡ true
        → (is_some (following w u) ≡ true → (following w u ≡ some (drop (length w) u)) × (length w ≤ length u))
        → (cond x (following w u) none ≡ some (drop (length w) u)) × (suc (length w) ≤ suc (length u))
    go true f r = ((r f).0, omega (arith, (r f).1))
    go false f r = absurd (false≢true f)

-- Whether anything is left of a text from a place on
module _ (s : Bytes) (i : ℕ) where
  pub none_left : length s ≤ i → same [] (drop i s) ≡ true
  unfolding same
  none_left h = rw (drop_of_length-le s h)

  pub some_left : i < length s → same [] (drop i s) ≡ false
  unfolding same
  some_left h = rw (drop-cons s i 0 h)
