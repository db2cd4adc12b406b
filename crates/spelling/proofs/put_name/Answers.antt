-- `spelling::put_name` meets its contract: an X, and one digit, two or three.
use native.Mathlib.Omega.{arith}
use Rattle.spelling_sizes.proofs.Spellings.{name_one, name_two, name_three}
use Rattle.spelling.proofs.put_name.Goals as goal

pub returns-then-index-lt10 : goal.returns-then-index-lt10
returns-then-index-lt10 c =
    let p = c.put.ensures in
    (rw (name_one c.args.index c.if-index-lt10.true) p.0, omega (arith, p.1))

pub returns-then-index-lt100 : goal.returns-then-index-lt100
returns-then-index-lt100 c =
    let p = c.put-then-index-lt100.ensures in
    (rw (name_two c.args.index c.if-index-lt10.false c.if-index-lt100.true) p.0, omega (arith, p.1))

pub returns-else-index-lt100 : goal.returns-else-index-lt100
returns-else-index-lt100 c =
    let p = c.put-else-index-lt100.ensures in
    (rw (name_three c.args.index c.if-index-lt100.false (omega arith)) p.0, omega (arith, p.1))
