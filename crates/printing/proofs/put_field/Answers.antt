-- `put_field` meets its contract: the number, and then the byte.
use native.Mathlib.Omega.{arith}
use Rattle.printing.proofs.Lines.{few_then, few_text}
use Rattle.printing.proofs.Lengths.{decimal_fits}
use Rattle.printing.proofs.put_field.Goals as goal

pub returns : goal.returns
returns c =
    let number = c.put_number-next.ensures in
    let digits = few_text number (decimal_fits c.args.n c.ranges.n.fits) in
    few_then (omega arith) digits (few_text {most = 1} c.put_byte.ensures (omega arith))
