-- `put_accepted` meets its contract: the capacities are turned down, or the sheet follows.
use Rattle.theory.specs.ProgramText.{commands}
use Rattle.report_text.proofs.Room.{short_refused, roomy_accepted}
use Rattle.report_text.proofs.Printing.{room_refused, refusal-printed}
use Rattle.report_text.proofs.put_accepted.Goals as goal

pub put_roomy-requires : goal.put_roomy-requires
put_roomy-requires c =
    let a = c.args in
    let list = a.list.now in (
      c.requires,
      roomy_accepted a.capacities.now list (commands list) c.requires.accepted _ c.check.ensures _
          c.in-Ok.is,
    )

pub returns-in-Err : goal.returns-in-Err
returns-in-Err c =
    let a = c.args in
    let list = a.list.now in
    let capacities = a.capacities.now in
    let r = c.in-Err.r in
    let short = short_refused capacities list (commands list) c.requires.accepted _ c.check.ensures r c.in-Err.is in
    refusal-printed r (room_refused capacities (commands list) a.sheet.now r short) c.put_refusal.ensures
