-- `lay` meets its contract: two runs fill the place.
use Rattle.registers.proofs.Filling.{runs-laid}
use Rattle.registers.proofs.fresh.lay.Goals as goal

pub returns : goal.returns
returns c =
    runs-laid c.args.part.now c.args.n c.requires c.write_runs.ensures
