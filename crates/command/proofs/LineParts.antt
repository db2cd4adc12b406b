-- Laws of a word that is what a line has from a place on.
use mathlib.Core.Path.{◌≡◌, refl, ap}
use mathlib.Core.Bool.{◌&&◌}
use mathlib.Core.List.{[], ◌∷◌}
use lib.Dec.{eqb}
use lib.Pointwise.{pointwise}
use Rattle.theory.specs.Text.{Bytes, same}

pub same_bytes : (w u : Bytes) → pointwise eqb w u ≡ same w u
unfolding same
same_bytes [] [] = refl
same_bytes [] (c ∷ u) = refl
same_bytes (b ∷ w) [] = refl
same_bytes (b ∷ w) (c ∷ u) = ap (λ x. eqb b c && x) (same_bytes w u)
