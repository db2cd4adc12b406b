-- `lengths_of` meets its contract: before the first turn no length is set.
use Rattle.report_text.proofs.Fresh.{started_none}
use Rattle.report_text.proofs.rows.lengths_of.Goals as goal

pub loop-i-init : goal.loop-i-init
loop-i-init c = started_none _
