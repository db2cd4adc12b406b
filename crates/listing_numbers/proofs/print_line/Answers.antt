-- `listing_numbers::print_line` meets its contract: the name, a register, and nothing behind it, each found or not.
use mathlib.Core.Path.{sym, ◌∙◌}
use native.Mathlib.Omega.{arith}
use Rattle.listing_numbers.proofs.Reading.{number_there, number_missing, print_no_number, print_no_register}
use Rattle.listing_numbers.proofs.Reading.{print_more, print_whole}
use Rattle.listing_numbers.proofs.print_line.Goals as goal

pub returns-then-s-register : goal.returns-then-s-register
returns-then-s-register c =
    let a = c.args in
    let n = number_there a.s.now 0 a.name.now c.number_after.ensures c.in_ok-register.was in
    let is = sym c.is_register.ensures ∙ c.if-is_register.true in
    print_whole a.kind a.name.now a.s.now n is c.if-s-register.true

pub returns-else-s-register : goal.returns-else-s-register
returns-else-s-register c =
    let a = c.args in
    let n = number_there a.s.now 0 a.name.now c.number_after.ensures c.in_ok-register.was in
    let is = sym c.is_register.ensures ∙ c.if-is_register.true in
    print_more a.kind a.name.now a.s.now n is (omega arith)

pub returns-else-is_register : goal.returns-else-is_register
returns-else-is_register c =
    let a = c.args in
    let n = number_there a.s.now 0 a.name.now c.number_after.ensures c.in_ok-register.was in
    print_no_register a.kind a.name.now a.s.now n (sym c.is_register.ensures ∙ c.if-is_register.false)

pub returns-in_err-register : goal.returns-in_err-register
returns-in_err-register c =
    let a = c.args in
    λ x p. rw c.from_residual.ensures (print_no_number a.kind a.name.now a.s.now
    (number_missing a.s.now 0 a.name.now c.number_after.ensures c.in_err-register.was) x p)
