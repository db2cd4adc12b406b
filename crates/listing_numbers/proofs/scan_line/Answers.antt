-- `listing_numbers::scan_line` meets its contract: a register, and targets behind it.
use mathlib.Core.Path.{sym, ap, ◌∙◌}
use Rattle.theory.specs.Text.{bytes}
use Rattle.listing_numbers.specs.Lines.{numbers_if}
use Rattle.listing_numbers.proofs.Reading.{number_there, number_missing, scan_no_number, scan_no_register, scan_targets}
use Rattle.listing_numbers.proofs.scan_line.Goals as goal

pub returns-then-is_register : goal.returns-then-is_register
returns-then-is_register c =
    let s = c.args.s.now in
    let n = number_there s 0 (bytes "Scd ") c.number_after.ensures c.in_ok-register.was in
    c.targets.ensures
    ∙ ap numbers_if (scan_targets s n (sym c.is_register.ensures ∙ c.if-is_register.true))

pub returns-else-is_register : goal.returns-else-is_register
returns-else-is_register c =
    let s = c.args.s.now in
    let n = number_there s 0 (bytes "Scd ") c.number_after.ensures c.in_ok-register.was in
    scan_no_register s n (sym c.is_register.ensures ∙ c.if-is_register.false)

pub returns-in_err-register : goal.returns-in_err-register
returns-in_err-register c =
    let s = c.args.s.now in
    rw c.from_residual.ensures (scan_no_number s (number_missing s 0 (bytes "Scd ") c.number_after.ensures c.in_err-register.was))
