-- `program::spell::text_size` meets its contract: the size so far and that of the commands left make the whole.
use Prim.Native.Nat.{◌*◌}
use Rattle.program.proofs.CommandsLeft.{SizeFrom}
use Rattle.program.proofs.spell.text_size.Given as goal

abbrev pub invariant-loop-n : goal.invariant-loop-n
invariant-loop-n l = SizeFrom l.list (3 * l.n) l.size
