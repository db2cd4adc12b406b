-- `room_in` meets its contract, a test at a time.
use mathlib.Core.Path.{sym}
use native.Mathlib.Omega.{arith}
use Rattle.drains.proofs.Parts.{room_own, room_past, room_there}
use Rattle.drains.proofs.room_in.Goals as goal

pub returns-then-register-from : goal.returns-then-register-from
returns-then-register-from c =
    let a = c.args in
    sym (room_own a.lengths.now a.capacities.now a.from a.register c.if-register-from.true)

pub returns-then-lengths-register : goal.returns-then-lengths-register
returns-then-lengths-register c =
    let a = c.args in
    sym (room_past a.lengths.now a.capacities.now a.from a.register c.if-register-from.false c.if-lengths-register.true)

pub returns-then-held-capacity : goal.returns-then-held-capacity
returns-then-held-capacity c =
    let a = c.args in
    let is = room_there a.lengths.now a.capacities.now a.from a.register
    c.if-register-from.false c.if-lengths-register.false in
    omega (arith, is, c.of_register-capacity.ensures.0, c.of_register-held.ensures.0)

pub returns-else-held-capacity : goal.returns-else-held-capacity
returns-else-held-capacity c =
    let a = c.args in
    let is = room_there a.lengths.now a.capacities.now a.from a.register
    c.if-register-from.false c.if-lengths-register.false in
    omega (arith, is, c.of_register-capacity.ensures.0, c.of_register-held.ensures.0)
