-- `are_ones` meets its contract: the sizes, the 1s, and then the rest of rule 10.
use mathlib.Core.Path.{sym, ◌∙◌}
use Rattle.rule10.specs.Lent.{memory}
use Rattle.ones.proofs.Tested.{not-sized, not-ones, by_memory}
use Rattle.ones.proofs.are_ones.Goals as goal

pub returns-then-not-is_sized : goal.returns-then-not-is_sized
returns-then-not-is_sized c =
    let a = c.args in
    sym (not-sized (memory a.capacities.now a.store.now a.lengths.now)
    (sym c.is_sized.ensures ∙ c.if-not-is_sized.true))

pub returns-then-not-all_ones : goal.returns-then-not-all_ones
returns-then-not-all_ones c =
    let a = c.args in
    sym (not-ones (memory a.capacities.now a.store.now a.lengths.now)
    (sym c.all_ones.ensures ∙ c.if-not-all_ones.true))

pub returns : goal.returns
returns c =
    let a = c.args in
    c.is_memory.ensures
    ∙ sym (by_memory (memory a.capacities.now a.store.now a.lengths.now)
    (sym c.all_ones.ensures ∙ c.if-not-all_ones.false))
