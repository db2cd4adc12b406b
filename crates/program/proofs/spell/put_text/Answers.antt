-- What was written so far and the text of the commands left stay the whole, so that at the end all is written.
use mathlib.Core.Path.{◌≡◌}
use Prim.Native.Nat.{◌+◌, ◌*◌}
use native.Mathlib.Omega.{arith}
use Rattle.program.proofs.CommandsLeft.{text-start, text-more, text-whole}
use Rattle.program.proofs.spell.put_text.Goals as goal

pub loop-n-init : goal.loop-n-init
loop-n-init c = text-start c.args.list.now c.args.text.now (omega arith) c.requires

pub loop-n-preserved : goal.loop-n-preserved
loop-n-preserved c =
    let next : 3 * (c.loop-n.n + 1) ≡ 3 * c.loop-n.n + 3 = omega arith in
    rw next (text-more c.loop-n.invariant (omega arith) c.put_command-at.ensures)

pub returns : goal.returns
returns c = text-whole c.loop-n.invariant (omega arith)
