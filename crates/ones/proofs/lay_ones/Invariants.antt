-- `lay_ones` meets its contract: the places passed are laid anew, and what the iterator has left says what becomes of the others.
use Rattle.layout.proofs.Walks.{Walked}
use Rattle.ones.specs.Ones.{relaid}
use Rattle.ones.proofs.lay_ones.Given as goal

abbrev pub invariant-loop-capacity : goal.invariant-loop-capacity
invariant-loop-capacity l =
    let i = l.capacity-iterator in
    Walked (relaid l.capacities l.before l.after) (relaid i.a.rest.now i.b.a.rest.now i.b.b.rest.now) l.initial.store l.store l.from
