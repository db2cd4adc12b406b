-- `numbers_at` meets its contract.
use native.Mathlib.Omega.{arith}
use Rattle.listing_check.proofs.Lines.{numbers_there, no_numbers_there}
use Rattle.listing_check.proofs.numbers_at.Goals as goal

pub returns-then-list-at : goal.returns-then-list-at
returns-then-list-at c = no_numbers_there c.args.list.now c.args.at (omega (arith, c.if-list-at.true))

pub returns : goal.returns
returns c =
    numbers_there c.args.list.now c.args.at (omega (arith, c.if-list-at.false))
