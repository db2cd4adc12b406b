-- One operand more: the sum grows by it, and it is not 0 where the flag still stands.
use mathlib.Core.Path.{ap}
use Prim.Native.Nat.{ℕ, ◌+◌, ◌≤◌}
use native.Mathlib.Numerals.{add-one}
use native.Mathlib.Omega.{arith}
use lib.ListN.{get_or}
use Rattle.theory.proofs.Offsets.{offset-next}
use Rattle.table.proofs.Flags.{never, each_more}
use Rattle.table.proofs.checking.sum_of.Goals as goal
use Rattle.table.proofs.checking.sum_of.Goals.{else-operand-eq0, then-operand-eq0}

pub loop-operand-preserved : goal.loop-operand-preserved
loop-operand-preserved c =
    let l = c.loop-operand in
    let operands = c.args.operands.now in (
      rw (add-one, offset-next operands l.operand-index) (ap (λ (k : ℕ). k + get_or operands l.operand-index 0) l.invariant.0),
      omega arith,
      λ q. elim c.if-operand-eq0.branch [
        | then-operand-eq0 w ↦ never (cc (w.ok-is, q))
        | else-operand-eq0 w ↦ each_more (λ j. 1 ≤ get_or operands j 0) l.operand-index (l.invariant.2 (cc (w.ok-is, q))) (omega arith)
      ],
    )
