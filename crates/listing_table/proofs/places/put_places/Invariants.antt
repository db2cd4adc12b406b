-- `put_places` meets its contract: each line begins where the one before ends.
use Rattle.listing_check.specs.Lined.{lines_of}
use Rattle.listing_table.proofs.Placing.{Known}
use Rattle.listing_table.proofs.places.put_places.Given as goal

abbrev pub invariant-loop-i : goal.invariant-loop-i
invariant-loop-i l = Known (lines_of l.list) l.lines l.i l.places
