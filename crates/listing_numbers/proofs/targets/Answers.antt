-- `listing_numbers::targets` meets its contract: two targets, and nothing behind them, each found or not.
use native.Mathlib.Omega.{arith}
use Rattle.theory.specs.Text.{bytes}
use Rattle.listing_numbers.proofs.Reading.{number_there, number_missing, no_first_target, no_second_target, second_target}
use Rattle.listing_numbers.proofs.Reading.{targets-more, targets-whole}
use Rattle.listing_numbers.proofs.targets.Goals as goal

pub returns-then-s-hash : goal.returns-then-s-hash
returns-then-s-hash c =
    let a = c.args in
    let n = number_there a.s.now a.at (bytes " ") c.number_after.ensures c.in_ok-one.was in
    let m = second_target a.s.now a.at a.register n c.number_after-2.ensures c.in_ok-hash.was in
    targets-whole a.s.now a.at a.register n m c.if-s-hash.true

pub returns-else-s-hash : goal.returns-else-s-hash
returns-else-s-hash c =
    let a = c.args in
    let n = number_there a.s.now a.at (bytes " ") c.number_after.ensures c.in_ok-one.was in
    let m = second_target a.s.now a.at a.register n c.number_after-2.ensures c.in_ok-hash.was in
    targets-more a.s.now a.at a.register n m (omega arith)

pub returns-in_err-hash : goal.returns-in_err-hash
returns-in_err-hash c =
    let a = c.args in
    let n = number_there a.s.now a.at (bytes " ") c.number_after.ensures c.in_ok-one.was in
    rw c.from_residual-in_err-hash.ensures (no_second_target a.s.now a.at a.register n c.number_after-2.ensures c.in_err-hash.was)

pub returns-in_err-one : goal.returns-in_err-one
returns-in_err-one c =
    let a = c.args in
    rw c.from_residual.ensures (no_first_target a.s.now a.at a.register
    (number_missing a.s.now a.at (bytes " ") c.number_after.ensures c.in_err-one.was))
