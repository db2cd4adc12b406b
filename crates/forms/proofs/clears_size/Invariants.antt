-- `clears_size` meets its contract: the clears of the registers before the next are counted.
use Rattle.forms.proofs.Clears.{Counted}
use Rattle.forms.proofs.clears_size.Given as goal

abbrev pub invariant-loop-register : goal.invariant-loop-register
invariant-loop-register l = Counted l.variables l.register l.instructions l.symbols
