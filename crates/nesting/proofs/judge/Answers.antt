-- `nesting::judge` meets its contract: rule by rule, and by the kind.
use mathlib.Core.Path.{◌∙◌, sym}
use native.Mathlib.Omega.{arith}
use Rattle.nesting.proofs.Commands.{fault_4, fault_5, fault_20, of_opening, of_closing, of_plain}
use Rattle.nesting.proofs.judge.Goals as goal

pub returns-then-not-is_command : goal.returns-then-not-is_command
returns-then-not-is_command c = let a = c.args in
    c.refused.ensures ∙ fault_4 a.setting a.line a.count a.last a.kind a.index a.source
    (sym c.is_command.ensures ∙ c.if-not-is_command.true)

pub returns-then-max-gt-INDEX : goal.returns-then-max-gt-INDEX
returns-then-max-gt-INDEX c =
    let a = c.args in
    let h = sym c.is_command.ensures ∙ c.if-not-is_command.false in
    c.refused-then-max-gt-INDEX.ensures ∙ fault_5 a.setting a.line a.count a.last a.kind a.index a.source h
    (omega (arith, c.max.ensures, c.if-max-gt-INDEX.true))

pub returns-then-is_banned : goal.returns-then-is_banned
returns-then-is_banned c =
    let a = c.args in
    let h = sym c.is_command.ensures ∙ c.if-not-is_command.false in
    c.refused-then-is_banned.ensures ∙ fault_20 a.setting a.line a.count a.last a.kind a.index a.source h
    (omega (arith, c.max.ensures, c.if-max-gt-INDEX.false)) (sym c.is_banned.ensures ∙ c.if-is_banned.true)

pub returns-in-4 : goal.returns-in-4
returns-in-4 c =
    let a = c.args in
    let h = sym c.is_command.ensures ∙ c.if-not-is_command.false in
    c.opened.ensures ∙ of_opening a.setting a.line a.count a.last a.kind a.index a.source h
    (omega (arith, c.max.ensures, c.if-max-gt-INDEX.false))
    (sym c.is_banned.ensures ∙ c.if-is_banned.false) c.in-4.is

pub returns-in-5 : goal.returns-in-5
returns-in-5 c =
    let a = c.args in
    let h = sym c.is_command.ensures ∙ c.if-not-is_command.false in
    c.closed.ensures ∙ of_closing a.setting a.line a.count a.last a.kind a.index a.source h
    (omega (arith, c.max.ensures, c.if-max-gt-INDEX.false))
    (sym c.is_banned.ensures ∙ c.if-is_banned.false) c.in-5.is

pub returns-in_default : goal.returns-in_default
returns-in_default c =
    let a = c.args in
    let h = sym c.is_command.ensures ∙ c.if-not-is_command.false in
    of_plain a.setting a.line a.count a.last a.kind a.index a.source h
    (omega (arith, c.max.ensures, c.if-max-gt-INDEX.false)) (sym c.is_banned.ensures ∙ c.if-is_banned.false)
    c.in_default.in_default-own.rest.0.1 c.in_default.in_default-own.rest.1
