use native.Mathlib.Omega.{arith}
use mathlib.Core.Path.{refl}
use Rattle.layout.proofs.Walks.{walk_start, walk_end, walk_more}
use Rattle.ones.specs.Ones.{relaid_place, relaid}
use Rattle.ones.proofs.Laid.{relaid-length, relaid_end, relaid_goes}
use Rattle.ones.proofs.lay_ones.Goals as goal

pub loop-capacity-init : goal.loop-capacity-init
loop-capacity-init c =
    let a = c.args in
    let all = c.zip-capacity-items.ensures in
    let lengths = c.zip.ensures in
    rw (c.into_iter-capacity-iterator.ensures.into_iter_gives, all.first, all.second, c.iter.ensures.rest)
    (rw (lengths.first, lengths.second.0, c.iter-2.ensures.rest)
    (walk_start (relaid a.capacities.now a.before.now a.after.now) a.store.now))

pub loop-capacity-preserved : goal.loop-capacity-preserved
loop-capacity-preserved c =
    let old = c.in-Some.old.now in
    let new = c.in-Some.new.now in
    let steps = c.in-Some.ensures.steps in
    walk_more c.loop-capacity.invariant c.in-Some.capacity.now c.min.result _ (rw (← c.wide.ensures) c.min.ensures) refl
    (relaid_place old new) _ (relaid-length old new) (relaid_goes steps.0 steps.1.0 steps.1.1) _ c.lay_place.ensures

pub returns : goal.returns
returns c = walk_end c.loop-capacity.invariant (relaid_end _ _ _ (omega (arith, c.in-None.ensures.steps)))
