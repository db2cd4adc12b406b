-- `turn` meets its contract: the ring is copied, and its two parts are put back the other way round.
use mathlib.Core.Path.{sym, ◌∙◌}
use Rattle.order.proofs.Turning.{begins_there, begins_past, left_alone, turned_as, turned_by}
use borrow.Author.Rules.{rules}
use Rattle.order.proofs.turn.Goals as goal

pub returns-then-size-gt-CAPACITY : goal.returns-then-size-gt-CAPACITY
returns-then-size-gt-CAPACITY c = left_alone _ _ c.if-size-gt-CAPACITY.true

pub returns-then-start-eq0 : goal.returns-then-start-eq0
returns-then-start-eq0 c = begins_there _ _ c.if-start-eq0.true ∙ sym (turned_as _ _ c.if-size-gt-CAPACITY.false)

pub returns-then-size-start : goal.returns-then-size-start
returns-then-size-start c = begins_past _ _ c.if-size-start.true ∙ sym (turned_as _ _ c.if-size-gt-CAPACITY.false)

pub returns : goal.returns
returns c =
    let a = c.args in
    turned_by a.start _ (search rules) (search rules) c.put_bytes.ensures c.put_bytes-next.ensures c.put_bytes-2.ensures
    ∙ sym (turned_as a.start a.ring.now (search rules))
