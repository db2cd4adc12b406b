-- `spread` meets its contract: each value goes to its variable, and the columns that are left are none.
use mathlib.Core.Path.{◌≡◌, ◌∙◌}
use Prim.Native.Nat.{ℕ, min}
use native.Mathlib.Omega.{arith}
use lib.ListN.{length}
use Rattle.columns.specs.Columns.{padded}
use Rattle.columns.proofs.Starts.{starts_end, starts-next, starts_pass}
use Rattle.columns.proofs.spread.Goals as goal

pub loop-k-init : goal.loop-k-init
unfolding padded
loop-k-init c =
    let a : _ = c.args in
    let n : ℕ = min a.count 32 in
    let last : c.min-k.result ≡ n = omega arith in
    (omega arith, rw last (starts_end n a.variables a.numbers))

pub loop-k-preserved-then-i-lt-COLUMNS : goal.loop-k-preserved-then-i-lt-COLUMNS
loop-k-preserved-then-i-lt-COLUMNS c =
    let l : _ = c.loop-k in
    let a : _ = c.args in
    let columns : length a.variables ≡ 32 = omega arith in
    let numbers : length a.numbers ≡ 32 = omega arith in
    let next : _ = starts-next (min a.count 32) a.variables a.numbers (omega arith) (omega arith) l.k (omega arith) (omega arith) in
    (omega arith, rw (c.from-i.ensures, l.invariant.1) next)

pub loop-k-preserved : goal.loop-k-preserved
loop-k-preserved c =
    let l : _ = c.loop-k in
    let a : _ = c.args in
    let columns : length a.variables ≡ 32 = omega arith in
    let numbers : length a.numbers ≡ 32 = omega arith in
    let past : _ = rw c.from-i.ensures at c.if-i-lt-COLUMNS.false in
    let pass : _ = starts_pass (min a.count 32) a.variables a.numbers (omega arith) (omega arith) l.k (omega arith) (omega arith) past in
    (omega arith, l.invariant.1 ∙ pass)
