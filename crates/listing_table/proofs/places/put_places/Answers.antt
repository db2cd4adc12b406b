use native.Mathlib.Omega.{arith}
use Rattle.listing_table.proofs.Lines.{kind_size-most}
use Rattle.listing_table.proofs.Placing.{known_first, known_next, place_low}
use Rattle.listing_table.proofs.places.put_places.Goals as goal

pub loop-i-init : goal.loop-i-init
loop-i-init c = known_first _ _

pub overflow_add-places : goal.overflow_add-places
overflow_add-places c =
    let few = c.requires.few in
    omega (arith, place_low c.loop-i.invariant, kind_size-most c.numbers_at-n.result.kind, c.size_of.ensures, few)

pub loop-i-preserved : goal.loop-i-preserved
loop-i-preserved c =
    known_next c.args.list.now c.args.lines c.requires c.loop-i.invariant c.loop-i-test.true _
    c.numbers_at-n.ensures _ c.size_of.ensures
