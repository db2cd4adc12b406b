-- `is_memory` meets its contract: the sizes, and then the places.
use mathlib.Core.Path.{◌≡◌, sym, ◌∙◌}
use mathlib.Core.Bool.{true}
use Rattle.theory.specs.Machines.{Memory, is_sized}
use Rattle.rule10.specs.Lent.{memory}
use Rattle.rule10.proofs.Sizes.{by_places, not_memory}
use Rattle.rule10.proofs.is_memory.Goals as goal

pub returns-then-not-is_sized : goal.returns-then-not-is_sized
returns-then-not-is_sized c =
    let a = c.args in
    sym (not_memory (memory a.capacities.now a.store.now a.lengths.now)
    (sym c.is_sized.ensures ∙ c.if-not-is_sized.true))

pub returns : goal.returns
returns c =
    let a = c.args in
    let m : Memory = memory a.capacities.now a.store.now a.lengths.now in
    let sized : is_sized m ≡ true = sym c.is_sized.ensures ∙ c.if-not-is_sized.false in
    c.all_laid.ensures ∙ sym (by_places m sized)
