-- The pairs that are open, as the code has them, and its verdict on one command.
use Rattle.std.specs.Prelude.{Bool, true, false, cond, List, ℕ, length, replicate, eqb, ltb, leb, Result, Ok, Err}
use Rattle.std.proofs.Math.Option.{Option, none, some}
use Rattle.theory.specs.ProgramText as P
use Rattle.theory.specs.ProgramText.{Kind, loop, while, Command}
use Rattle.theory.specs.TurnedDown.{line_fault_under, open_past}
use Rattle.theory.specs.declared.Refusal.{Refusal}
use Rattle.theory.specs.declared.Setting.{Setting}
use Rattle.theory.specs.declared.Setting.TheVariants.{Any, LoopOnly}
use Rattle.nesting.specs.declared.Opening.{Opening}

-- The kind of a line that opens or closes a pair, by its number: 4 and 5, or 6 and 7
abbrev pub kind_of : ℕ → Kind
kind_of k = cond (ltb k 6) loop while

-- An opening line, as the definitions have it
abbrev pub open_of : Opening → P.Opening
open_of o = record { line = o.line; kind = kind_of o.kind; index = o.index }

-- n open pairs, of which o is the innermost; of the others rules 4 to 7 ask only how many they are
abbrev pub pairs : ℕ → Opening → List P.Opening
pairs n o = replicate n (open_of o)

-- Whether a kind and a third number are those of a command
abbrev pub is_known : ℕ → ℕ → Bool
is_known k j = cond (eqb k 0) false (cond (eqb k 3) true (cond (ltb k 8) (eqb j 0) false))

-- Whether a setting bans a command of kind k: of the kinds, 6 and 7 are `while` and `endwhile`
abbrev pub is_banned : Setting → ℕ → Bool
is_banned Any k = false
is_banned LoopOnly k = leb 6 k

-- No fault, and so many pairs are open after it; or the fault
abbrev pub verdict : ℕ → Option Refusal → Result ℕ Refusal
verdict n none = Ok n
verdict n (some r) = Err r

-- The verdict on line n, under the setting and the pairs open there
abbrev pub judged : Setting → ℕ → List P.Opening → Option Command → Result ℕ Refusal
judged σ n os c = verdict (length (open_past n os c)) (line_fault_under σ n os c)
