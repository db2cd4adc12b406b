-- `command::assigned` meets its contract: no name, a name that ends the line, or ` + 1` after a name of the same variable.
use mathlib.Core.Path.{◌∙◌, sym}
use Prim.Native.Nat.{◌+◌}
use native.Mathlib.Omega.{arith}
use Rattle.command.proofs.LineNumbers.{name_there, name-first, name_room, assigned_no_name, assigned_copy, assigned_no_back}
use Rattle.command.proofs.LineNumbers.{assigned_increment, assigned_other}
use Rattle.command.proofs.reading.assigned.Goals as goal

pub returns-then-s-source : goal.returns-then-s-source
returns-then-s-source c =
    let a = c.args in
    let n = name_there a.s.now (a.end + 4) c.name.ensures c.in_ok-source.was in
    λ i f g. rw c.numbers.ensures (assigned_copy (name-first a.s.now a.end i (omega arith) f g) n c.if-s-source.true)

pub are_one-requires : goal.are_one-requires
are_one-requires c =
    let a = c.args in
    let n = name_there a.s.now (a.end + 4) c.name.ensures c.in_ok-source.was in
    (omega arith, (name_room (omega arith) n, n.within))

pub returns-then-are_one : goal.returns-then-are_one
returns-then-are_one c =
    let a = c.args in
    let n = name_there a.s.now (a.end + 4) c.name.ensures c.in_ok-source.was in
    λ i f g. rw c.numbers-then-are_one.ensures
    (assigned_increment (name-first a.s.now a.end i (omega arith) f g) n (omega arith) (omega arith) (omega arith)
    (sym c.ends.ensures ∙ c.if-ends.true)
    (sym c.are_one.ensures ∙ c.if-are_one.true))

pub returns-else-are_one : goal.returns-else-are_one
returns-else-are_one c =
    let a = c.args in
    let n = name_there a.s.now (a.end + 4) c.name.ensures c.in_ok-source.was in
    λ i f g. assigned_other (name-first a.s.now a.end i (omega arith) f g) n (omega arith) (omega arith) (omega arith)
    (sym c.ends.ensures ∙ c.if-ends.true)
    (sym c.are_one.ensures ∙ c.if-are_one.false)

pub returns-else-ends : goal.returns-else-ends
returns-else-ends c =
    let a = c.args in
    let n = name_there a.s.now (a.end + 4) c.name.ensures c.in_ok-source.was in
    λ i f g. assigned_no_back (name-first a.s.now a.end i (omega arith) f g) n (omega arith)
    (sym c.ends.ensures ∙ c.if-ends.false)

pub returns-in_err-source : goal.returns-in_err-source
returns-in_err-source c =
    let a = c.args in
    λ i f g. c.from_residual.ensures ∙ assigned_no_name (name-first a.s.now a.end i (omega arith) f g) c.name.ensures
    c.in_err-source.was
