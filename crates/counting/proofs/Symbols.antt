-- Words of 1s and #s alone.
use mathlib.Core.Path.{◌≡◌, refl}
use mathlib.Core.Bool.{Bool, true, false}
use mathlib.Core.List.{List, [], ◌∷◌}
use Prim.Native.Nat.{ℕ, zero, suc}
use native.Mathlib.Omega.{arith}
use lib.ListN.{length, drop}
use Rattle.theory.specs.Basics.{all}
use Rattle.theory.specs.Word.{is_symbol}
use Rattle.theory.proofs.Faults.{and_first, and_second}
use Rattle.text.specs.Runs.{leading}
use Rattle.text.proofs.Runs.{leading_pass, leading_fail, leading_nil}

-- Every byte is 1 or #
abbrev pub Known : List ℕ → Type 0
Known w = leading is_symbol w ≡ length w

pub known_head : (b : ℕ) (w : List ℕ) → Known (b ∷ w) → is_symbol b ≡ true
known_head b w h = go (is_symbol b) refl
  where
    go : (t : Bool) → is_symbol b ≡ t → is_symbol b ≡ true
    go true e = e
    go false e = absurd (omega (arith, leading_fail is_symbol b w e))

pub known_tail : (b : ℕ) (w : List ℕ) → Known (b ∷ w) → Known w
known_tail b w h = omega (arith, leading_pass is_symbol b w (known_head b w h))

pub known_drop : (i : ℕ) (w : List ℕ) → Known w → Known (drop i w)
known_drop zero w h = h
known_drop (suc i) [] h = h
known_drop (suc i) (b ∷ w) h = known_drop i w (known_tail b w h)

pub known_of_all : (w : List ℕ) → all is_symbol w ≡ true → Known w
known_of_all [] h = leading_nil is_symbol
known_of_all (b ∷ w) h =
    let rest : Known w = known_of_all w (and_second (is_symbol b) (all is_symbol w) h) in
    omega (arith, leading_pass is_symbol b w (and_first (is_symbol b) (all is_symbol w) h))

pub all_of_known : (w : List ℕ) → Known w → all is_symbol w ≡ true
all_of_known [] k = refl
all_of_known (b ∷ w) k = rw (known_head b w k) (all_of_known w (known_tail b w k))
