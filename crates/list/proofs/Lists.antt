-- A program's list has three numbers a command.
use mathlib.Core.Path.{◌≡◌, refl, ◌∙◌}
use mathlib.Core.List.{List, [], ◌∷◌}
use Prim.Native.Nat.{◌*◌}
use native.Mathlib.Omega.{arith}
use lib.ListN.{length, length-append}
use Rattle.theory.specs.ProgramText.{clear, increment, copy, loop, while, Command, plain, opens, closes, numbers, list_of}

length-numbers : (c : Command) → length (numbers c) ≡ 3
length-numbers (plain (clear i)) = refl
length-numbers (plain (increment i)) = refl
length-numbers (plain (copy i j)) = refl
length-numbers (opens loop i) = refl
length-numbers (opens while i) = refl
length-numbers (closes loop i) = refl
length-numbers (closes while i) = refl

pub list_length : (p : List Command) → length (list_of p) ≡ 3 * length p
unfolding list_of
list_length [] = refl
list_length (c ∷ p) = length-append (numbers c) (list_of p) ∙ omega (arith, length-numbers c, list_length p)
