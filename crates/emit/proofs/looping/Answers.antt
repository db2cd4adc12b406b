-- `looping` meets its contract: its parts, one after the other.
use Rattle.instruction.proofs.Instructions.{spelt_then}
use Rattle.emit.proofs.looping.Goals as goal

pub returns : goal.returns
returns c =
    spelt_then c.sharing-shared.ensures (spelt_then c.returning-returned.ensures
    (spelt_then c.put_instruction-last.ensures c.put_instruction.ensures))
