-- What writing a program hands back: the answers of document 01, with their numbers and places, as values of this crate's type.
use Rattle.theory.specs.declared.Refusal.{Refusal}
use Rattle.std.specs.Prelude.{List, ℕ, length, Result, Ok, Err}
use Rattle.theory.specs.TurnedDown.{Answer, done, refused}

-- A program written: its number of bytes, or the number and place of the first rule that applies
abbrev pub written : Answer (List ℕ) → Result ℕ Refusal
written (done l) = Ok (length l)
written (refused r) = Err r
