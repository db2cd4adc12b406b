-- The size so far and that of the commands left stay the whole size, which fits.
use mathlib.Core.Path.{◌≡◌}
use Prim.Native.Nat.{◌+◌, ◌*◌}
use native.Mathlib.Omega.{arith}
use Rattle.program.proofs.CommandsLeft.{size-start, size_fits, size-next, size-whole}
use Rattle.program.proofs.spell.text_size.Goals as goal

pub loop-n-init : goal.loop-n-init
loop-n-init c = size-start c.args.list.now c.requires

pub overflow_add-size : goal.overflow_add-size
overflow_add-size c =
    omega (arith, size_fits c.loop-n.invariant (omega arith) _ c.command_size-size.ensures)

pub loop-n-preserved : goal.loop-n-preserved
loop-n-preserved c =
    let next : 3 * (c.loop-n.n + 1) ≡ 3 * c.loop-n.n + 3 = omega arith in
    rw next (size-next c.loop-n.invariant (omega arith) _ c.command_size-size.ensures)

pub returns : goal.returns
returns c = size-whole c.loop-n.invariant (omega arith)
