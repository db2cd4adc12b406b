-- `block_size` and `pair_size` end: a pair's body begins on a later line, so the lines left fall. A block's loop has counted and noted what
-- it passed.
use Prim.Native.Nat.{◌+◌, ◌-◌, ◌*◌}
use Rattle.translation.specs.Sites.{Noting}
use Rattle.translation.proofs.Counting.{Counting}
use Rattle.translation.proofs.sizes.+block_size_pair_size.Given as goal

abbrev pub decreases-block_size : goal.decreases-block_size
decreases-block_size l = 2 * (l.lines - l.at) + 1

abbrev pub decreases-pair_size : goal.decreases-pair_size
decreases-pair_size l = 2 * (l.lines - l.at)

abbrev pub invariant-block_size-loop-bodies : goal.invariant-block_size-loop-bodies
invariant-block_size-loop-bodies l =
    Counting l.list l.lines l.variables l.depth l.at l.size l.next × Noting l.list l.variables l.at l.next l.initial.bodies l.bodies

abbrev pub decreases-block_size-loop-bodies : goal.decreases-block_size-loop-bodies
decreases-block_size-loop-bodies l = l.lines - l.next
