-- `Machine::fresh` meets its contract: what the memory cannot hold is turned down, and all else is filled in.
use mathlib.Core.Path.{◌≡◌, sym, ◌∙◌}
use mathlib.Core.Bool.{true}
use Rattle.theory.specs.Machines.{Memory}
use Rattle.rule10.specs.Lent.{memory}
use Rattle.registers.specs.Fresh.{can_hold}
use Rattle.rule10.proofs.Sizes.{are_sized}
use Rattle.registers.proofs.CanHold.{holds_sized, holds_each, lays_none, lays_all}
use Rattle.registers.proofs.Machine.fresh.Goals as goal

pub returns-then-not-fits : goal.returns-then-not-fits
returns-then-not-fits c =
    let a = c.args in
    rw c.refused.ensures
    (lays_none (memory a.capacities.now a.store.now a.lengths.now) a.values.now (sym c.fits.ensures ∙ c.if-not-fits.true))

pub fill-requires : goal.fill-requires
fill-requires c =
    let a = c.args in
    let m : Memory = memory a.capacities.now a.store.now a.lengths.now in
    let holds : can_hold m a.values.now ≡ true
    = sym c.fits.ensures ∙ c.if-not-fits.false in
    (are_sized m (holds_sized m a.values.now holds), holds_each m a.values.now holds)

pub returns : goal.returns
returns c =
    let a = c.args in
    let m : Memory = memory a.capacities.now a.store.now a.lengths.now in
    let holds : can_hold m a.values.now ≡ true
    = sym c.fits.ensures ∙ c.if-not-fits.false in
    lays_all m a.values.now holds _ _ c.fill.ensures
