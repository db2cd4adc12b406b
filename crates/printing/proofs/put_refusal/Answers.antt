-- `put_refusal` meets its contract: the word `refused`, the number, and the place.
use native.Mathlib.Omega.{arith}
use Rattle.printing.proofs.Lines.{few_then, few_text, refusal_parts}
use Rattle.printing.proofs.put_refusal.Goals as goal

pub returns : goal.returns
returns c =
    let rest = few_then {most = 42} (omega arith) c.put_field-place.ensures c.put_field.ensures in
    let front = few_text {most = 8} c.put_bytes-number.ensures (omega arith) in
    rw (refusal_parts c.args.refusal) (few_then (omega arith) front rest)
