use mathlib.Core.Path.{ap}
use Prim.Native.Nat.{ℕ, ◌+◌}
use native.Mathlib.Omega.{arith}
use native.Mathlib.Numerals.{add-one}
use lib.ListN.{get_or}
use Rattle.engine.proofs.Rule15.{total-more}
use borrow.Author.Rules.{rules}
use Rattle.machine.proofs.start_of.Goals as goal

pub loop-i-preserved : goal.loop-i-preserved
loop-i-preserved c =
    let l = c.loop-i in
    let a = c.args in
    let p = c.requires in
    let more = total-more a.kinds.now a.operands.now p.0 l.i (search rules) in (
      search rules,
      rw (add-one, more, c.from.ensures) (ap (λ (k : ℕ). k + (get_or a.operands.now l.i 0 + get_or a.kinds.now l.i 0)) l.invariant.1),
      omega (arith, l.invariant.2, c.from.ensures, c.type_inv.operands l.i, c.type_inv.kinds l.i),
    )
