-- A listing as numbers, four a line, as the code keeps it: what is read from a text's lines.
use Rattle.std.proofs.Math.Option.{Option, none, some}
use Rattle.std.specs.Prelude.{List, [], ◌∷◌, ◌++◌, ℕ, min}
use Rattle.theory.specs.Word.{one, hash}
use Rattle.listing.specs.Listing.{Line, print, scan}

-- A target above this is kept as this: it is above every line all the same
abbrev pub most_target : ℕ
most_target = 65535

-- The kind of a line's first instruction, its register, and two targets (a P line: 0 and 0). All are 0 where a line is none of the
-- spellings
abbrev pub numbers : Option Line → List ℕ
numbers none = 0 ∷ 0 ∷ 0 ∷ 0 ∷ []
numbers (some (print one n)) = 1 ∷ n ∷ 0 ∷ 0 ∷ []
numbers (some (print hash n)) = 2 ∷ n ∷ 0 ∷ 0 ∷ []
numbers (some (scan n e f)) = 5 ∷ n ∷ min e most_target ∷ min f most_target ∷ []

unfoldable pub list_of : List (Option Line) → List ℕ
list_of [] = []
list_of (l ∷ ls) = numbers l ++ list_of ls
