-- `write_instruction` meets its contract: its two runs are the symbols of the entry.
use mathlib.Core.Path.{◌≡◌}
use mathlib.Core.List.{[], ◌∷◌, ◌++◌}
use lib.ListN.{replicate}
use Rattle.theory.specs.Text.{Bytes}
use Rattle.theory.specs.Word.{Entry}
use Rattle.theory.proofs.Entries.{entry_runs}
use Rattle.output.specs.Puts.{starting}
use Rattle.instruction.specs.Instructions.{text}
use Rattle.instruction.proofs.write_instruction.Goals as goal

by_runs : (e : Entry) (part : Bytes) {part' : Bytes} → part' ≡ starting (replicate e.operand 49 ++ replicate e.kind 35) part
    → part' ≡ starting (text (e ∷ [])) part
by_runs e part h = rw (entry_runs e) h

pub returns : goal.returns
returns c = by_runs _ _ c.write_runs.ensures
