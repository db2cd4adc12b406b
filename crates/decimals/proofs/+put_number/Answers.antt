-- `put_number` meets its contract: the digits before the last are those of the tenth.
use Prim.Native.Nat.{◌/◌, ◌<◌, ◌≤◌}
use native.Mathlib.Nat.{mod-eq_of_lt}
use native.Mathlib.Omega.{arith}
use Rattle.theory.proofs.Numerals.{decimal_small, decimal_large}
use Rattle.output.proofs.Puts.{put_then}
use Rattle.decimals.proofs.+put_number.Goals as goal

pub returns-then-n-lt10 : goal.returns-then-n-lt10
returns-then-n-lt10 t c =
    let n = c.args.n in
    let small : n < 10 = c.if-n-lt10.true in
    rw (decimal_small n small, ← mod-eq_of_lt small) c.put_digit.ensures

pub returns-then-n-lt100 : goal.returns-then-n-lt100
returns-then-n-lt100 t c =
    let n = c.args.n in
    let tens : n / 10 < 10 = omega arith in
    let large : 10 ≤ n = c.if-n-lt10.false in
    rw (decimal_large n large, decimal_small (n / 10) tens, ← mod-eq_of_lt tens)
    (put_then c.put_digit-second.ensures c.put_digit-then-n-lt100.ensures)

pub returns-else-n-lt100 : goal.returns-else-n-lt100
returns-else-n-lt100 t c =
    rw (decimal_large c.args.n (omega arith)) (put_then c.put_number-last.ensures c.put_digit-else-n-lt100.ensures)
