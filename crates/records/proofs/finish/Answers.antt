-- `finish` meets its contract: the answer is that of `judge`.
use Rattle.records.specs.Records.{finished}
use Rattle.records.proofs.finish.Goals as goal

pub returns : goal.returns
unfolding finished
returns c = rw c.judge-answer.ensures
