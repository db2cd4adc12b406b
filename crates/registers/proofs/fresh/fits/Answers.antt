-- `fits` meets its contract: the sizes, the number of values, and then each of them.
use mathlib.Core.Path.{sym, ◌∙◌}
use Rattle.rule10.specs.Lent.{memory}
use Rattle.registers.proofs.CanHold.{not-sized, too_many, by_values}
use borrow.Author.Rules.{rules}
use Rattle.registers.proofs.fresh.fits.Goals as goal

pub returns-then-not-is_sized : goal.returns-then-not-is_sized
returns-then-not-is_sized c =
    let a = c.args in
    sym (not-sized (memory a.capacities.now a.store.now a.lengths.now) a.values.now
    (sym c.is_sized.ensures ∙ c.if-not-is_sized.true))

pub returns-then-capacities-values : goal.returns-then-capacities-values
returns-then-capacities-values c =
    let a = c.args in
    let sized = sym c.is_sized.ensures ∙ c.if-not-is_sized.false in
    sym (too_many (memory a.capacities.now a.store.now a.lengths.now) a.values.now sized c.if-capacities-values.true)

pub returns : goal.returns
returns c =
    let a = c.args in
    let sized = sym c.is_sized.ensures ∙ c.if-not-is_sized.false in
    c.all_within.ensures
    ∙ sym (by_values (memory a.capacities.now a.store.now a.lengths.now) a.values.now sized (search rules))
