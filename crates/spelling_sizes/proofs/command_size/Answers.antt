-- `spelling_sizes::command_size` meets its contract: kind by kind.
use native.Mathlib.Omega.{arith}
use lib.ListN.{length-append}
use Rattle.spelling_sizes.proofs.Spellings.{line_1, line_2, line_3, line_4, line_5, line_6, line_7}
use Rattle.spelling_sizes.proofs.command_size.Goals as goal

pub returns-in-1 : goal.returns-in-1
returns-in-1 c = let a = c.args in
    rw (line_1 a.kind a.index a.source c.in-1.is) (simp length-append (omega arith))

pub returns-in-2 : goal.returns-in-2
returns-in-2 c = let a = c.args in
    rw (line_2 a.kind a.index a.source c.in-2.is) (simp length-append (omega arith))

pub returns-in-3 : goal.returns-in-3
returns-in-3 c = let a = c.args in
    rw (line_3 a.kind a.index a.source c.in-3.is) (simp length-append (omega arith))

pub returns-in-4 : goal.returns-in-4
returns-in-4 c = let a = c.args in
    rw (line_4 a.kind a.index a.source c.in-4.is) (simp length-append (omega arith))

pub returns-in-5 : goal.returns-in-5
returns-in-5 c = let a = c.args in
    rw (line_5 a.kind a.index a.source c.in-5.is) (simp length-append (omega arith))

pub returns-in-6 : goal.returns-in-6
returns-in-6 c = let a = c.args in
    rw (line_6 a.kind a.index a.source c.in-6.is) (simp length-append (omega arith))

pub returns-in_default : goal.returns-in_default
returns-in_default c = let a = c.args in
    let r = c.in_default.in_default-own.rest in
    let e = line_7 a.kind a.index a.source r.0.0.0.0.0.1 r.0.0.0.0.1 r.0.0.0.1 r.0.0.1 r.0.1 r.1
    in
    rw e (simp length-append (omega arith))
