-- `returning` meets its contract: its instructions, one after the other.
use Rattle.instruction.proofs.Instructions.{spelt_then}
use Rattle.emit.proofs.returning.Goals as goal

pub returns : goal.returns
returns c =
    spelt_then c.put_instruction-second.ensures (spelt_then c.put_instruction-third.ensures
    (spelt_then c.put_instruction-fourth.ensures c.put_instruction.ensures))
