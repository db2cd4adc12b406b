-- `laid_aside` meets its contract: as many numbers as there are cells are copied.
use Rattle.rounds.proofs.Aside.{aside_by}
use Rattle.rounds.proofs.laid_aside.Goals as goal

pub returns : goal.returns
returns c = aside_by c.args.lengths.now c.min-count.result _ c.min-count.ensures c.copy_from_slice.ensures.after
