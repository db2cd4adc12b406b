-- `command::pair_line` meets its contract: the front word, a name and the back word, each found or not.
use mathlib.Core.Path.{◌∙◌, sym}
use lib.ListN.{length}
use Rattle.command.proofs.LineNumbers.{name_there, pair_no_front, pair_no_name, pair-back, pair_no_back}
use Rattle.command.proofs.reading.pair_line.Goals as goal

pub returns-then-ends : goal.returns-then-ends
returns-then-ends c =
    let a = c.args in
    let front = sym c.stands.ensures ∙ c.if-not-stands.false in
    rw c.numbers.ensures
    (pair-back a.kind a.front.now a.back.now a.s.now front
    (name_there a.s.now (length a.front.now) c.name.ensures c.in_ok-variable.was)
    (sym c.ends.ensures ∙ c.if-ends.true))

pub returns-else-ends : goal.returns-else-ends
returns-else-ends c =
    let a = c.args in
    pair_no_back a.kind a.front.now a.back.now a.s.now (sym c.stands.ensures ∙ c.if-not-stands.false)
    (name_there a.s.now (length a.front.now) c.name.ensures c.in_ok-variable.was)
    (sym c.ends.ensures ∙ c.if-ends.false)

pub returns-in_err-variable : goal.returns-in_err-variable
returns-in_err-variable c =
    let a = c.args in
    c.from_residual.ensures
    ∙ pair_no_name a.kind a.front.now a.back.now a.s.now (sym c.stands.ensures ∙ c.if-not-stands.false)
    c.name.ensures c.in_err-variable.was

pub returns-then-not-stands : goal.returns-then-not-stands
returns-then-not-stands c = let a = c.args in
    pair_no_front a.kind a.front.now a.back.now a.s.now (sym c.stands.ensures ∙ c.if-not-stands.true)
