-- `translate_list` meets its contract: what the check says of the list is what it is read as.
use Rattle.theory.proofs.PassedOn.{passed_on}
use mathlib.Core.Path.{◌∙◌}
use Rattle.theory.specs.TurnedDown.{read_list_under}
use Rattle.list.proofs.Replies.{checked_refused}
use Rattle.translation.proofs.Answering.{answered_refused, listed_known, listed_outside}
use Rattle.translation.proofs.translate_list.Goals as goal

pub translate_accepted-requires : goal.translate_accepted-requires
translate_accepted-requires c = listed_known _ _ c.check_list.ensures c.in_ok-program.was

pub returns-in_err-program : goal.returns-in_err-program
returns-in_err-program c =
    let e = checked_refused (read_list_under _ _) c.check_list.ensures c.in_err-program.was in
    let a = answered_refused c.args.form _ _ _ e in
    record { value = passed_on _ c.from_residual.ensures ∙ a.answers; out_after = a.writes }

pub returns : goal.returns
returns c =
    let a = rw (listed_outside _ _ c.check_list.ensures c.in_ok-program.was) at c.translate_accepted.ensures in
    record { value = a.answers; out_after = a.writes }
