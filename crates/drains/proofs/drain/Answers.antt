-- `drain` meets its contract, by which of its tests ends it.
use Prim.Native.Nat.{◌+◌}
use native.Mathlib.Omega.{arith}
use Rattle.drains.proofs.Shapes.{is_back}
use Rattle.drains.proofs.Answers.{granted, denied, not_deletes, not_back, all_done}
use Rattle.drains.proofs.drain.Goals as goal

pub returns-then-not-deletes : goal.returns-then-not-deletes
returns-then-not-deletes c = not_deletes _ _ _ _ _ _ _ (denied c.deletes.ensures c.if-not-deletes.true)

pub returns-then-not-loops_back : goal.returns-then-not-loops_back
returns-then-not-loops_back c = not_back _ _ _ _ _ _ _ (denied c.loops_back.ensures c.if-not-loops_back.true)

pub turned_at-requires : goal.turned_at-requires
turned_at-requires c =
    let a = c.args in
    let b = is_back a.kinds.now a.operands.now a.i a.n
    (granted c.loops_back.ensures c.if-not-loops_back.false) in (
      b.two,
      b.in_operands,
      omega (arith, b.operand_is, c.shared_slice_known-3-1.given (a.i + a.n)),
    )

pub returns : goal.returns
returns c =
    all_done _ _ _ _ _ _ _
    (granted c.deletes.ensures c.if-not-deletes.false)
    (granted c.loops_back.ensures c.if-not-loops_back.false)
    c.turned_at.result c.turned_at.new.lengths c.turned_at.ensures
