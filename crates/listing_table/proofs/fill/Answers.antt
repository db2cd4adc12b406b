-- `fill` meets its contract: the check, and then the table.
use Prim.Native.Nat.{◌/◌}
use native.Mathlib.Omega.{arith}
use lib.ListN.{length}
use Rattle.listing_table.proofs.Filled.{fill_passes}
use Rattle.listing_table.proofs.fill.Goals as goal

pub fill_passed-requires : goal.fill_passed-requires
fill_passed-requires c =
    let a = c.args in
    fill_passes a.list.now c.check.ensures c.in_ok-check.was (length a.list.now / 4)
    (record { from = omega arith; upto = omega arith })
