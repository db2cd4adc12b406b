-- `run_countable` meets its contract: from outside nothing is done, and from inside the run is that of `run_lengths`.
use mathlib.Core.Path.{◌≡◌, sym, ap, ◌∙◌, subst}
use mathlib.Core.Logic.{◌≢◌}
use Prim.Native.Nat.{suc, ◌+◌, ◌≤◌}
use native.Mathlib.Omega.{arith}
use mir.Facts.{to_z-of_z}
use mir.Syntax.{w32}
use lib.IntN.{ℤ}
use lib.ListN.{length}
use Rattle.theory.specs.Limits.{last_count}
use Rattle.theory.specs.Runs.{Outcome}
use Rattle.theory.specs.Word.{State}
use Rattle.underway.specs.Places.{bias, placed, entry_of}
use Rattle.underway.specs.Inside.{Stopped}
use Rattle.underway.proofs.Entered.{entry_outside, entry_inside}
use Rattle.counts.specs.Counts.{Counts}
use Rattle.counts.proofs.Whole.{whole_outside, whole_inside, whole-ran}
use Rattle.counts.proofs.run_countable.Goals as goal
use Rattle.counts.proofs.run_countable.Goals.{After-entry-n}

-- what `entry` returns, of the place itself
is : (c : After-entry-n) → let a = c.args in c.entry-n.result ≡ entry_of a.at.place (length a.kinds.now)
is c =
    let a = c.args in
    c.entry-n.ensures ∙ ap (λ (z : ℤ). entry_of z (length a.kinds.now))
    (to_z-of_z {w = w32} {z = a.at.place} (record { sfits = c.type_inv.at.0.1 }))

-- where the run begins
begins : (c : After-entry-n) → c.entry-n.result ≢ 0
    → (c.entry-n.result ≤ suc (length c.args.kinds.now)) × (placed (bias + c.entry-n.result) ≡ c.args.at.place)
begins c some = entry_inside _ _ _ (is c) (omega arith)

pub returns-then-n-eq0 : goal.returns-then-n-eq0
returns-then-n-eq0 c =
    let a = c.args in
    let out = entry_outside (length a.kinds.now) a.at.place (sym c.if-n-eq0.true ∙ is (goal.at.returns-then-n-eq0 c).After-entry-n) in
    rw c.strayed.ensures
    (whole_outside a.capacities.now a.lengths.now a.kinds.now a.operands.now c.requires a.at a.budget out)

pub returns : goal.returns
returns c =
    let a = c.args in
    let q = c.run_lengths-s in
    let few : a.at.steps ≤ last_count = omega (arith, (goal.at.returns c).After-entry-n.type_inv.at.1.0.1) in
    rw c.ran.ensures
    (whole-ran a.capacities.now a.lengths.now a.kinds.now a.operands.now c.requires a.at a.budget q.result _
    (subst
    (λ (o : Outcome State). Stopped (Counts a.capacities.now q.new.lengths) o q.result)
    (whole_inside a.capacities.now a.lengths.now a.kinds.now a.operands.now c.requires a.at a.budget _
    (begins (goal.at.returns c).After-entry-n c.if-n-eq0.false).1)
    q.ensures) few)
