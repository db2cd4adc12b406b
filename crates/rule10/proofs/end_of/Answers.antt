use native.Mathlib.Nat.{suc-mul}
use native.Mathlib.Numerals.{add-one}
use native.Mathlib.Omega.{arith}
use Rattle.theory.proofs.Offsets.{offset-next}
use borrow.Author.Rules.{rules}
use Rattle.rule10.proofs.end_of.Goals as goal

pub loop-capacity-preserved : goal.loop-capacity-preserved
loop-capacity-preserved c =
    let l = c.loop-capacity in
    let i = l.capacity-index in (
      search rules,
      rw (add-one i) (omega (arith, offset-next c.args.capacities.now i)),
      rw (add-one i) (omega (arith, suc-mul i 65535)),
    )
