-- `put_block` and `put_pair` end: a pair's body begins on a later line, so the lines left fall. A block's loop has written what it passed.
use Prim.Native.Nat.{◌+◌, ◌-◌, ◌*◌, ◌/◌}
use lib.ListN.{length}
use Rattle.translation.proofs.Written.{Writing}
use Rattle.translation.proofs.writing.+put_block_put_pair.Given as goal

abbrev pub decreases-put_block : goal.decreases-put_block
decreases-put_block l = 2 * (length l.list.now / 3 - l.at) + 1

abbrev pub decreases-put_pair : goal.decreases-put_pair
decreases-put_pair l = 2 * (length l.list.now / 3 - l.at)

abbrev pub invariant-put_block-loop-out : goal.invariant-put_block-loop-out
invariant-put_block-loop-out l = Writing l.list l.lines l.variables l.depth l.at l.place l.initial.out l.out l.next l.here

abbrev pub decreases-put_block-loop-out : goal.decreases-put_block-loop-out
decreases-put_block-loop-out l = l.lines - l.next
