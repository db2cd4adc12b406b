-- How long a piece of a word is: its instructions and its symbols.
use Rattle.std.specs.Prelude.{List, ℕ, length}
use Rattle.theory.specs.Word.{Instruction, table_of}
use Rattle.theory.specs.TurnedDown.{total}
use Rattle.lengths.specs.declared.Length.{Length}

-- The symbols of some instructions
abbrev pub symbols_of : List Instruction → ℕ
symbols_of w = total (table_of w)

abbrev pub length_of : List Instruction → Length
length_of w = record { instructions = length w; symbols = symbols_of w }
