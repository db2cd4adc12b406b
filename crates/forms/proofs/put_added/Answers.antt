-- `put_added` meets its contract: the clears of no variables, or of all.
use Rattle.forms.proofs.Clears.{clears_none}
use Rattle.forms.proofs.put_added.Goals as goal

pub returns-in-Plain : goal.returns-in-Plain
returns-in-Plain c = rw c.in-Plain.is (rw clears_none at c.put_clears.ensures)
