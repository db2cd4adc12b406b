-- `put_in_order` meets its contract: the places passed are in order, and what the iterator has left says what becomes of the others.
use Rattle.layout.proofs.Walks.{Walked}
use Rattle.order.specs.Order.{in_order}
use Rattle.order.proofs.put_in_order.Given as goal

abbrev pub invariant-loop-capacity : goal.invariant-loop-capacity
invariant-loop-capacity l =
    Walked (in_order l.capacities l.starts) (in_order l.capacity-iterator.a.rest.now l.capacity-iterator.b.rest.now)
    l.initial.store l.store l.from
