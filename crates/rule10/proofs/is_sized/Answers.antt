-- `is_sized` meets its contract: the tests of the sizes in their order, the limits before the sum.
use mathlib.Core.Path.{sym, ◌∙◌}
use Rattle.theory.specs.Machines.{Memory}
use Rattle.rule10.specs.Lent.{memory}
use Rattle.rule10.proofs.Sizes.{other_store, by_lengths}
use borrow.Author.Rules.{rules}
use Rattle.rule10.proofs.is_sized.Goals as goal

pub returns-then-store-end_of : goal.returns-then-store-end_of
returns-then-store-end_of c =
    let a = c.args in
    let m : Memory = memory a.capacities.now a.store.now a.lengths.now in
    let limited = sym c.are_limited.ensures ∙ c.if-not-are_limited.false in
    sym (other_store m (search rules) (search rules) limited (λ e. c.if-store-end_of.true (e ∙ sym c.end_of.ensures)))

pub returns : goal.returns
returns c =
    let a = c.args in
    let m : Memory = memory a.capacities.now a.store.now a.lengths.now in
    let limited = sym c.are_limited.ensures ∙ c.if-not-are_limited.false in
    sym (by_lengths m (search rules) (search rules) limited (c.if-store-end_of.false ∙ c.end_of.ensures))
