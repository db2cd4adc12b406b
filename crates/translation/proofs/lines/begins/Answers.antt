-- `begins` meets its contract: by the kind of the line that stands there.
use native.Mathlib.Omega.{arith}
use Rattle.translation.proofs.Sites.{numbers-count, begins_none, begins_more, begins_end}
use Rattle.translation.proofs.lines.begins.Goals as goal

pub overflow_mul-kind : goal.overflow_mul-kind
overflow_mul-kind c = omega (arith, numbers-count c.args.list.now c.args.lines c.requires)

pub bounds-list-at : goal.bounds-list-at
bounds-list-at c = omega (arith, numbers-count c.args.list.now c.args.lines c.requires)

pub returns-in-5 : goal.returns-in-5
returns-in-5 c = begins_none c.args.list.now c.args.lines c.args.at c.requires c.if-at-lines.true c.in-5.is

pub returns-in_default : goal.returns-in_default
returns-in_default c =
    begins_more c.args.list.now c.args.lines c.args.at c.requires c.if-at-lines.true (λ e. grind arith) (λ e. grind arith)

pub returns-else-at-lines : goal.returns-else-at-lines
returns-else-at-lines c = begins_end c.args.list.now c.args.lines c.args.at c.requires c.if-at-lines.false
