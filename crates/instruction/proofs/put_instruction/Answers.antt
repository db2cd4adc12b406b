-- `put_instruction` meets its contract: what the part that begins at the place was given, the output was given there.
use native.Mathlib.Omega.{arith}
use Rattle.instruction.proofs.Instructions.{spelt_part}
use Rattle.instruction.proofs.put_instruction.Goals as goal

pub returns-then-kind-room : goal.returns-then-kind-room
returns-then-kind-room c =
    let a = c.args in
    spelt_part (record { kind = a.kind; operand = a.operand }) (omega arith) (omega arith) c.write_instruction.ensures
