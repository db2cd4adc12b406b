-- `has_counts` meets its contract, test by test.
use mathlib.Core.Path.{sym, ◌∙◌}
use Rattle.countable.proofs.Tested.{too_many, unpaired, not_within, by_kinds}
use Rattle.countable.proofs.has_counts.Goals as goal

pub returns-then-capacities-gt-REGISTERS : goal.returns-then-capacities-gt-REGISTERS
returns-then-capacities-gt-REGISTERS c =
    let a = c.args in
    sym (too_many a.capacities.now a.lengths.now a.kinds.now c.if-capacities-gt-REGISTERS.true)

pub returns-then-lengths-capacities : goal.returns-then-lengths-capacities
returns-then-lengths-capacities c =
    let a = c.args in
    sym (unpaired a.capacities.now a.lengths.now a.kinds.now c.if-lengths-capacities.true)

pub returns-then-not-all_within : goal.returns-then-not-all_within
returns-then-not-all_within c =
    let a = c.args in
    sym (not_within a.capacities.now a.lengths.now a.kinds.now c.if-capacities-gt-REGISTERS.false c.if-lengths-capacities.false
    (sym c.all_within.ensures ∙ c.if-not-all_within.true))

pub returns : goal.returns
returns c =
    let a = c.args in
    c.no_hash.ensures
    ∙ sym (by_kinds a.capacities.now a.lengths.now a.kinds.now c.if-capacities-gt-REGISTERS.false c.if-lengths-capacities.false
    (sym c.all_within.ensures ∙ c.if-not-all_within.false))
