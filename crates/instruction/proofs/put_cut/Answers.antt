-- `put_cut` meets its contract: what the part that begins at the place was given, if there is one, the output was given there.
use native.Mathlib.Omega.{arith}
use Rattle.instruction.proofs.Instructions.{spelt_part, spelt_past}
use Rattle.instruction.proofs.put_cut.Goals as goal

pub returns-then-out-place : goal.returns-then-out-place
returns-then-out-place c =
    let a = c.args in
    spelt_past (record { kind = a.kind; operand = a.operand }) (omega arith) (omega arith) (omega arith)

pub returns : goal.returns
returns c =
    let a = c.args in
    spelt_part (record { kind = a.kind; operand = a.operand }) (omega arith) (omega arith) c.write_instruction.ensures
