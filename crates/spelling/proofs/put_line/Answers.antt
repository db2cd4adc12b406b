-- `spelling::put_line` meets its contract: kind by kind.
use native.Mathlib.Omega.{arith}
use Rattle.output.proofs.Puts.{put_then}
use Rattle.spelling_sizes.proofs.Spellings.{line_1, line_2, line_3, line_4, line_5, line_6, line_7}
use Rattle.spelling.proofs.put_line.Goals as goal

pub returns-in-1 : goal.returns-in-1
returns-in-1 c =
    let a = c.args in
    let p = c.put_around.ensures in
    (rw (line_1 a.kind a.index a.source c.in-1.is) p.0, omega (arith, p.1))

pub returns-in-2 : goal.returns-in-2
returns-in-2 c =
    let a = c.args in
    let p = c.put_around-arrow.ensures in
    let q = c.put_around-in-2.ensures in
    (rw (line_2 a.kind a.index a.source c.in-2.is) (put_then p.0 q.0), omega (arith, p.1, q.1))

pub returns-in-3 : goal.returns-in-3
returns-in-3 c =
    let a = c.args in
    let p = c.put_around-arrow-in-3.ensures in
    let q = c.put_around-in-3.ensures in
    (rw (line_3 a.kind a.index a.source c.in-3.is) (put_then p.0 q.0), omega (arith, p.1, q.1))

pub returns-in-4 : goal.returns-in-4
returns-in-4 c =
    let a = c.args in
    let p = c.put_around-in-4.ensures in
    (rw (line_4 a.kind a.index a.source c.in-4.is) p.0, omega (arith, p.1))

pub returns-in-5 : goal.returns-in-5
returns-in-5 c =
    let a = c.args in
    let p = c.put_around-in-5.ensures in
    (rw (line_5 a.kind a.index a.source c.in-5.is) p.0, omega (arith, p.1))

pub returns-in-6 : goal.returns-in-6
returns-in-6 c =
    let a = c.args in
    let p = c.put_around-in-6.ensures in
    (rw (line_6 a.kind a.index a.source c.in-6.is) p.0, omega (arith, p.1))

pub returns-in_default : goal.returns-in_default
returns-in_default c =
    let a = c.args in
    let r = c.in_default.in_default-own.rest in
    let p = c.put_around-in_default.ensures in
    let e = line_7 a.kind a.index a.source r.0.0.0.0.0.1 r.0.0.0.0.1 r.0.0.0.1 r.0.0.1 r.0.1 r.1
    in
    (rw e p.0, omega (arith, p.1))
