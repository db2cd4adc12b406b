-- `added_size` meets its contract: the size of the clears of no variables, or of all.
use Rattle.forms.proofs.Clears.{clears_none}
use Rattle.forms.proofs.added_size.Goals as goal

pub returns-in-Plain : goal.returns-in-Plain
returns-in-Plain c = rw c.in-Plain.is (rw clears_none at c.clears_size.ensures)
