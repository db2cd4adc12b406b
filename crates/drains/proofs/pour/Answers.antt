use Prim.Native.Nat.{◌<◌}
use native.Mathlib.Omega.{arith}
use lib.ListN.{length}
use Rattle.drains.proofs.Filling.{filled_none, filled_fits, filled_next}
use Rattle.drains.proofs.pour.Goals as goal

pub loop-register-init : goal.loop-register-init
loop-register-init c = let a = c.args in filled_none a.appends.now a.m a.lengths.now

pub overflow_add-n : goal.overflow_add-n
overflow_add-n c =
    let l = c.loop-register in
    let a = c.args in
    let r = c.index-r in
    let named = c.requires.named l.register-index (omega arith) in
    let there : r.result < length a.lengths.now = omega (arith, r.ensures, named.1) in
    let fit = filled_fits a.appends.now a.m a.lengths.now l.lengths l.register-index r.result l.invariant (omega arith)
    r.ensures there in
    omega (arith, c.from-n.ensures, fit, c.requires.small r.result there)

pub narrow-requires : goal.narrow-requires
narrow-requires c =
    let l = c.loop-register in
    let a = c.args in
    let r = c.index-r in
    let named = c.requires.named l.register-index (omega arith) in
    let there : r.result < length a.lengths.now = omega (arith, r.ensures, named.1) in
    let fit = filled_fits a.appends.now a.m a.lengths.now l.lengths l.register-index r.result l.invariant (omega arith)
    r.ensures there in
    omega (arith, c.from-n.ensures, fit, c.requires.small r.result there)

pub loop-register-preserved : goal.loop-register-preserved
loop-register-preserved c =
    let l = c.loop-register in
    let a = c.args in
    let r = c.index-r in
    let named = c.requires.named l.register-index (omega arith) in
    filled_next a.appends.now a.m a.lengths.now l.lengths l.register-index r.result l.invariant (omega arith) r.ensures
    (omega (arith, r.ensures, named.1)) c.narrow.result (omega (arith, c.narrow.ensures, c.from-n.ensures))
