-- What a check of a program hands back: the answers of document 01, with their numbers and places, as values of this crate's types.
use Rattle.theory.specs.declared.Refusal.{Refusal}
use Rattle.std.specs.Prelude.{List, [], ◌∷◌, length, Result, Ok, Err}
use Rattle.theory.specs.ProgramText.{Command, Opening, variables}
use Rattle.theory.specs.TurnedDown.{Answer, done, refused}
use Rattle.list.specs.declared.Program.{Program}

-- What is known of an accepted program: "K is the highest index named plus 1, or 0"
abbrev pub program_of : List Command → Program
program_of p = record { lines = length p; variables = variables p }

-- A program checked: it is accepted, or the number and place of the first rule that applies
abbrev pub checked : Answer (List Command) → Result Program Refusal
checked (done p) = Ok (program_of p)
checked (refused r) = Err r

-- "A pair is left open (place the innermost opening line)", 8; else the program is accepted
abbrev pub at_end : Program → List Opening → Result Program Refusal
at_end p [] = Ok p
at_end p (o ∷ os) = Err (record { number = 8; place = o.line })
