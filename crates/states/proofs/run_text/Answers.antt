-- `run_text` meets its contract, since `source::run_text` meets its own.
use Rattle.theory.specs.TurnedDown.{read_text_under}
use Rattle.states.proofs.Lent.{runs_lent}
use Rattle.states.proofs.run_text.Goals as goal

pub returns : goal.returns
returns c =
    runs_lent (read_text_under c.args.setting c.args.text.now) c.args.state.now c.args.budget c.state_of.result c.run_text-run.result
    c.put_state.new.numbers c.state_of.ensures c.run_text-run.ensures c.put_state.ensures
