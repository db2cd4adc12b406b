-- `command::assignment` meets its contract: a name, and ` <- 0` or an arrow after it.
use mathlib.Core.Path.{◌∙◌, sym}
use Rattle.command.proofs.LineNumbers.{name_there, assignment_no_name, assignment_clear, assignment_no_arrow}
use Rattle.command.proofs.LineNumbers.{assignment_room, assignment-from}
use Rattle.command.proofs.reading.assignment.Goals as goal

pub returns-then-ends : goal.returns-then-ends
returns-then-ends c =
    let a = c.args in
    let n = name_there a.s.now 0 c.name.ensures c.in_ok-variable.was in
    rw c.numbers.ensures (assignment_clear a.s.now n (sym c.ends.ensures ∙ c.if-ends.true))

pub assigned-requires : goal.assigned-requires
assigned-requires c =
    let a = c.args in
    let n = name_there a.s.now 0 c.name.ensures c.in_ok-variable.was in
    assignment_room a.s.now n (sym c.ends.ensures ∙ c.if-ends.false)
    (sym c.stands.ensures ∙ c.if-stands.true)

pub returns-then-stands : goal.returns-then-stands
returns-then-stands c =
    let a = c.args in
    let n = name_there a.s.now 0 c.name.ensures c.in_ok-variable.was in
    c.assigned.ensures n.value n.is n.kept
    ∙ assignment-from a.s.now n (sym c.ends.ensures ∙ c.if-ends.false)
    (sym c.stands.ensures ∙ c.if-stands.true)

pub returns-else-stands : goal.returns-else-stands
returns-else-stands c =
    let a = c.args in
    let n = name_there a.s.now 0 c.name.ensures c.in_ok-variable.was in
    assignment_no_arrow a.s.now n (sym c.ends.ensures ∙ c.if-ends.false)
    (sym c.stands.ensures ∙ c.if-stands.false)

pub returns-in_err-variable : goal.returns-in_err-variable
returns-in_err-variable c = let a = c.args in
    c.from_residual.ensures ∙ assignment_no_name a.s.now c.name.ensures c.in_err-variable.was
