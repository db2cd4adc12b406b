-- `copying` meets its contract: its parts, one after the other.
use Rattle.instruction.proofs.Instructions.{spelt_then}
use Rattle.emit.proofs.copying.Goals as goal

pub returns : goal.returns
returns c =
    spelt_then c.clearing-cleared.ensures (spelt_then c.sharing-shared.ensures c.returning.ensures)
