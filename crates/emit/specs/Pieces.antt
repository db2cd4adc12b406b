-- Pieces of a word: what the three numbers of a line say, and the instructions of a line or of one end of a pair, written at a place.
use Rattle.std.specs.Prelude.{cond, List, [], ◌∷◌, ◌++◌, ℕ, ◌+◌, eqb}
use Rattle.theory.specs.ProgramText.{Plain, clear, increment, copy, Kind, loop, while}
use Rattle.theory.specs.Word.{Instruction, append, forward, cases, one, table_of}
use Rattle.theory.specs.Translation.{sharing, returning, before_body, after_body}
use Rattle.command.specs.declared.Numbers.{Numbers}
use Rattle.instruction.specs.Instructions.{Spelt}

-- The command of a plain line, and the kind of pair that a line opens
abbrev pub plain_of : Numbers → Plain
plain_of l = cond (eqb l.kind 1) (clear l.index) (cond (eqb l.kind 2) (increment l.index) (copy l.index l.source))

abbrev pub kind_opened : ℕ → Kind
kind_opened n = cond (eqb n 4) loop while

-- What stands before the body of a LOOP and of a WHILE on register a, with a transfer of n places
abbrev pub looping : ℕ → ℕ → ℕ → ℕ → List Instruction
looping a c t n = sharing a c t ++ (returning t a ++ (cases c ∷ forward n ∷ []))

abbrev pub testing : ℕ → ℕ → List Instruction
testing a n = cases a ∷ forward n ∷ append one a ∷ []

-- That transfer, across a body of m instructions
abbrev pub across : ℕ → ℕ → ℕ
across n m = cond (eqb n 4) (m + 2) (m + 3)

-- What stands before and after a body of m instructions, of a pair that a line opens inside d loops of a program of K variables
abbrev pub front : ℕ → ℕ → Numbers → ℕ → List Instruction
front K d l m = before_body K d (kind_opened l.kind) l.index m

abbrev pub back : ℕ → ℕ → List Instruction
back n m = after_body (kind_opened n) m ∷ []

-- Some instructions were put at a place, over `before`, which is then `after`, up to another place
abbrev pub Written : List Instruction → ℕ → List ℕ → List ℕ → ℕ → Type 0
Written w place before after end = Spelt (table_of w) place before after end
