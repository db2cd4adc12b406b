-- `spelling_sizes::name_size` meets its contract: an X, and one digit, two or three.
use mathlib.Core.Path.{sym, ap}
use native.Mathlib.Omega.{arith}
use lib.ListN.{length}
use Rattle.spelling_sizes.proofs.Spellings.{name_one, name_two, name_three}
use Rattle.spelling_sizes.proofs.name_size.Goals as goal

pub returns-then-index-lt10 : goal.returns-then-index-lt10
returns-then-index-lt10 c = (sym (ap length (name_one c.args.index c.if-index-lt10.true)), omega arith)

pub returns-then-index-lt100 : goal.returns-then-index-lt100
returns-then-index-lt100 c = (sym (ap length (name_two c.args.index c.if-index-lt10.false c.if-index-lt100.true)), omega arith)

pub returns-else-index-lt100 : goal.returns-else-index-lt100
returns-else-index-lt100 c = (sym (ap length (name_three c.args.index c.if-index-lt100.false (omega arith))), omega arith)
