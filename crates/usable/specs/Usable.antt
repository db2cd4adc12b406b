-- Entries of a table that a machine of so many registers can do.
use Rattle.std.specs.Prelude as Code
use Rattle.std.specs.Prelude.{cond, not, ◌&&◌, List, ℕ, ltb, Some, None}
use Rattle.std.proofs.Math.Option.{Option, none, some}
use Rattle.theory.specs.Basics.{given}
use Rattle.theory.specs.Limits.{most_symbols, most_instructions}
use Rattle.theory.specs.Word.{Entry}
use Rattle.theory.specs.Machines.{is_limited}
use Rattle.theory.specs.TurnedDown.{names_register, first_along, next_entry}

-- The largest operand of an instruction, by its kind: it names a register, or goes no further than the longest word; no instruction has
-- another kind
abbrev pub most_operand : ℕ → ℕ → ℕ
most_operand registers kind = cond (is_limited 5 kind) (cond (names_register kind) registers most_symbols) 0

-- Entry n, where the machine cannot do it or no word has so many instructions
abbrev pub unusable : ℕ → ℕ → Entry → Option ℕ
unusable registers n e = given (not (ltb n most_instructions && is_limited (most_operand registers e.kind) e.operand)) n

-- The first of them. Of a table that rules 11, 13 and 14 let pass it is rule 15's
abbrev pub first_unusable : ℕ → List Entry → Option ℕ
first_unusable registers t = first_along next_entry (unusable registers) 0 t

abbrev pub unusable_answer : Option ℕ → Code.Option ℕ
unusable_answer none = None
unusable_answer (some i) = Some i
