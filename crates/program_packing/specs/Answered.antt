-- The number of what calls on programs hand back as values of their own types. proofs/Packs: it is that of the answer for which the value
-- stands.
use Rattle.list.specs.declared.Program.{Program}
use Rattle.instruction.specs.declared.Size.{Size}
use Rattle.theory.specs.declared.Refusal.{Refusal}
use Rattle.std.specs.Prelude.{ℕ, Result, Ok, Err}
use Rattle.packing.specs.Packed.{pack, refusal}

abbrev pub program_read : Result Program Refusal → ℕ
program_read (Ok p) = pack 0 p.variables p.lines
program_read (Err r) = refusal r

abbrev pub translated : Result Size Refusal → ℕ
translated (Ok size) = pack 0 size.instructions size.symbols
translated (Err r) = refusal r
