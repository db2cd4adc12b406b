use native.Mathlib.Omega.{arith}
use mathlib.Core.Path.{refl}
use Rattle.layout.proofs.Walks.{walk_start, walk_end, walk_more}
use Rattle.order.specs.Order.{turned, in_order}
use Rattle.order.proofs.Turning.{turned-length, in_order_end, in_order_goes}
use Rattle.order.proofs.put_in_order.Goals as goal

pub loop-capacity-init : goal.loop-capacity-init
loop-capacity-init c =
    let zip = c.zip-capacity-items.ensures in
    rw (c.into_iter-capacity-iterator.ensures.into_iter_gives, zip.first, c.iter.ensures.rest, zip.second.0)
    (walk_start (in_order c.args.capacities.now c.args.starts.now) c.args.store.now)

pub loop-capacity-preserved : goal.loop-capacity-preserved
loop-capacity-preserved c =
    let start = c.in-Some.start.now in
    let steps = c.in-Some.ensures.steps in
    walk_more c.loop-capacity.invariant c.in-Some.capacity.now c.min.result _ (rw (← c.wide.ensures) c.min.ensures) refl
    (turned start) _ (turned-length start) (in_order_goes steps.0 steps.1) _ c.turn.ensures

pub returns : goal.returns
returns c = walk_end c.loop-capacity.invariant (in_order_end _ _ (omega (arith, c.in-None.ensures.steps)))
