-- Two lists of numbers as a table: its length, its entries, and a table from its own numbers.
use mathlib.Core.Path.{◌≡◌, refl, ap}
use mathlib.Core.List.{List, [], ◌∷◌}
use Prim.Native.Nat.{ℕ, zero, suc, max}
use native.Mathlib.Omega.{arith}
use lib.ListN.{length, get_or}
use Rattle.theory.specs.Word.{Entry}
use Rattle.theory.proofs.Words.{entry}
use Rattle.word.specs.Answers.{zipped, kinds_of, operands_of}

pub zipped-length : (ks ns : List ℕ) → length (zipped ks ns) ≡ max (length ks) (length ns)
unfolding zipped
zipped-length [] [] = refl
zipped-length [] (n ∷ ns) = omega (arith, zipped-length [] ns)
zipped-length (k ∷ ks) [] = omega (arith, zipped-length ks [])
zipped-length (k ∷ ks) (n ∷ ns) = omega (arith, zipped-length ks ns)

pub zipped-at : (ks ns : List ℕ) (i : ℕ) → get_or (zipped ks ns) i (entry 0 0) ≡ entry (get_or ns i 0) (get_or ks i 0)
unfolding zipped
zipped-at [] [] i = refl
zipped-at [] (n ∷ ns) zero = refl
zipped-at [] (n ∷ ns) (suc i) = zipped-at [] ns i
zipped-at (k ∷ ks) [] zero = refl
zipped-at (k ∷ ks) [] (suc i) = zipped-at ks [] i
zipped-at (k ∷ ks) (n ∷ ns) zero = refl
zipped-at (k ∷ ks) (n ∷ ns) (suc i) = zipped-at ks ns i

pub zipped_self : (t : List Entry) → zipped (kinds_of t) (operands_of t) ≡ t
unfolding zipped
zipped_self [] = refl
zipped_self (e ∷ t) = ap {B = List Entry} (λ l. e ∷ l) (zipped_self t)
