-- Rule 15 along a table: the first entry that names a register the machine lacks, and where an entry of two lists of numbers starts.
use mathlib.Core.Path.{◌≡◌, refl, ap}
use mathlib.Core.Option.{Option}
use mathlib.Core.List.{List, [], ◌∷◌}
use Prim.Native.Nat.{ℕ, zero, suc, ◌+◌, ◌<◌}
use native.Mathlib.Omega.{arith}
use lib.ListN.{length, take, get_or}
use Rattle.theory.specs.Word.{Entry}
use Rattle.theory.specs.TurnedDown.{lacks, total, first_along, next_entry}
use Rattle.word.specs.Answers.{zipped}

-- The index of the first entry that names a register the machine lacks
abbrev pub first_lacking : ℕ → List Entry → Option ℕ
first_lacking registers t = first_along next_entry (lacks registers) 0 t

pub zipped-length : (ks ns : List ℕ) → length ks ≡ length ns → length (zipped ks ns) ≡ length ks
unfolding zipped
zipped-length [] [] e = refl
zipped-length [] (n ∷ ns) e = absurd (omega arith)
zipped-length (k ∷ ks) [] e = absurd (omega arith)
zipped-length (k ∷ ks) (n ∷ ns) e = ap suc (zipped-length ks ns (omega arith))

pub total-more : (ks ns : List ℕ) → length ks ≡ length ns → (i : ℕ) → i < length ks
    → total (take (suc i) (zipped ks ns)) ≡ total (take i (zipped ks ns)) + (get_or ns i 0 + get_or ks i 0)
unfolding zipped
total-more [] ns e i l = absurd (omega arith)
total-more (k ∷ ks) [] e i l = absurd (omega arith)
total-more (k ∷ ks) (n ∷ ns) e zero l = omega arith
total-more (k ∷ ks) (n ∷ ns) e (suc i) l = omega (arith, total-more ks ns (omega arith) i (omega arith))
