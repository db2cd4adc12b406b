-- A capacity out of bounds fails the test of all, and where each passes the test of all does.
use mathlib.Core.Path.{◌≡◌, sym, ap, ◌∙◌}
use mathlib.Core.Bool.{Bool, false}
use mathlib.Core.List.{List}
use Prim.Native.Nat.{ℕ, ◌≤◌, ◌<◌}
use native.Mathlib.Omega.{arith}
use borrow.Author.Tests.{le-leb, lt-leb}
use lib.ListN.{get_or}
use Rattle.theory.specs.Basics.{all_below}
use Rattle.theory.specs.Machines.{is_limited}
use Rattle.source.specs.Lines.{all_capacities}
use Rattle.theory.proofs.GoodMemory.{all_below_fails}
use Rattle.source.proofs.rule9.are_capacities.Goals as goal

-- The test of each
abbrev good : List ℕ → ℕ → Bool
good cs k = is_limited 1024 (get_or cs k 0)

too_small : (most n : ℕ) → n < 1 → is_limited most n ≡ false
too_small most n h = rw (lt-leb 1 n h)

too_large : (most n : ℕ) → 1 ≤ n → most < n → is_limited most n ≡ false
too_large most n l h = rw (le-leb 1 n l, lt-leb n most h)

pub returns-then-capacity-lt1 : goal.returns-then-capacity-lt1
unfolding all_capacities
returns-then-capacity-lt1 c =
    sym (all_below_fails c.args.variables (good c.args.capacities.now) c.loop-i.i (omega arith) (too_small 1024 _ c.if-capacity-lt1.true))

pub returns-then-capacity-gt-CAPACITY : goal.returns-then-capacity-gt-CAPACITY
unfolding all_capacities
returns-then-capacity-gt-CAPACITY c =
    sym
    (all_below_fails c.args.variables (good c.args.capacities.now) c.loop-i.i (omega arith)
    (too_large 1024 _ c.if-capacity-lt1.false c.if-capacity-gt-CAPACITY.true))

pub returns : goal.returns
unfolding all_capacities
returns c =
    let all : c.args.variables ≡ c.loop-i.i = omega arith in
    sym (ap (λ n. all_below n (good c.args.capacities.now)) all ∙ c.loop-i.invariant)
