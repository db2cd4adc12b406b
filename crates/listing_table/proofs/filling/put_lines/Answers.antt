use mathlib.Core.Path.{refl}
use Rattle.listing_check.specs.Lined.{lines_of}
use Rattle.listing_table.proofs.Tabling.{left_all, left_next, left_none, line_fits}
use Rattle.listing_table.proofs.filling.put_lines.Goals as goal

pub loop-i-init : goal.loop-i-init
loop-i-init c =
    let a = c.args in
    left_all (lines_of a.list.now) a.lines a.kinds.now a.operands.now

pub put_line-requires : goal.put_line-requires
put_line-requires c =
    line_fits c.args.list.now c.args.lines c.requires.0 c.args.places.now c.requires.1
    c.loop-i-test.true _ c.numbers_at-n.ensures

pub loop-i-preserved : goal.loop-i-preserved
loop-i-preserved c =
    left_next c.args.list.now c.args.lines c.requires.0 c.args.places.now c.requires.1
    c.loop-i-test.true c.loop-i.invariant _ c.numbers_at-n.ensures _ _ _ refl
    c.place_at-one.ensures c.place_at-hash.ensures c.put_line.ensures

pub returns : goal.returns
returns c =
    left_none c.args.list.now c.args.lines c.requires.0 c.loop-i-test.false c.loop-i.invariant
