-- `put_clears` meets its contract: the clears of the registers before the next are written.
use Rattle.forms.proofs.Clears.{Put}
use Rattle.forms.proofs.put_clears.Given as goal

abbrev pub invariant-loop-register : goal.invariant-loop-register
invariant-loop-register l = Put l.variables l.place l.initial.out l.out l.register l.here
