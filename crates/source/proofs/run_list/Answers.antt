-- `run_list` hands back what the definitions give: the list is checked, and an accepted one is run. Assumes nothing.
use mathlib.Core.Path.{sym}
use Rattle.theory.specs.TurnedDown.{read_list_under}
use Rattle.source.proofs.Results.{refused_back}
use Rattle.source.proofs.Reading.{accepted_as, refused_as, list_program, read-given}
use Rattle.source.proofs.run_list.Goals as goal

pub run_accepted-requires : goal.run_accepted-requires
run_accepted-requires c = read-given c.args.setting c.args.list.now _ (accepted_as _ _ (sym c.in-Ok.ensures))

pub returns-in-Ok : goal.returns-in-Ok
returns-in-Ok c =
    let a : _ = accepted_as (read_list_under c.args.setting c.args.list.now) _ (sym c.in-Ok.ensures) in
    rw (a.is_done, ← list_program _ _ _ a) c.run_accepted.ensures

pub returns-in-Err : goal.returns-in-Err
returns-in-Err c =
    rw (c.refused.ensures, refused_as (read_list_under c.args.setting c.args.list.now) _ (sym c.in-Err.ensures)) (refused_back _ _)
