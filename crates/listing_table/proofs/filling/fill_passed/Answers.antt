-- `fill_passed` meets its contract.
use native.Mathlib.Omega.{arith}
use Rattle.listing_check.specs.Lined.{lines_of}
use Rattle.listing_table.proofs.Placing.{count_is}
use Rattle.listing_table.proofs.Tabling.{word_tabled}
use Rattle.listing_table.proofs.filling.fill_passed.Goals as goal

pub overflow_sub-result : goal.overflow_sub-result
overflow_sub-result c =
    omega (arith, count_is c.args.list.now c.args.lines c.requires _ c.put_places.ensures)

pub returns : goal.returns
returns c = (
  omega (arith, count_is c.args.list.now c.args.lines c.requires _ c.put_places.ensures),
  word_tabled (lines_of c.args.list.now) c.put.ensures c.put_lines.ensures,
)
