-- `program::spell::put_text` meets its contract: what was written and the text of the commands left make the whole.
use Prim.Native.Nat.{◌*◌}
use Rattle.program.proofs.CommandsLeft.{TextFrom}
use Rattle.program.proofs.spell.put_text.Given as goal

abbrev pub invariant-loop-n : goal.invariant-loop-n
invariant-loop-n l = TextFrom l.list l.initial.text l.text (3 * l.n) l.at
