-- `run_list` meets its contract, since `source::run_list` meets its own.
use Rattle.theory.specs.TurnedDown.{read_list_under}
use Rattle.states.proofs.Lent.{runs_lent}
use Rattle.states.proofs.run_list.Goals as goal

pub returns : goal.returns
returns c =
    runs_lent (read_list_under c.args.setting c.args.list.now) c.args.state.now c.args.budget c.state_of.result c.run_list-run.result
    c.put_state.new.numbers c.state_of.ensures c.run_list-run.ensures c.put_state.ensures
