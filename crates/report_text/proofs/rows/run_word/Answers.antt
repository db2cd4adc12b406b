-- `run_word` meets its contract: the lengths give the registers of the values, and a program's word always has a run on lengths.
use mathlib.Core.Path.{◌≡◌, ◌∙◌}
use native.Mathlib.Omega.{arith}
use lib.ListN.{length}
use Rattle.report_text.proofs.Sets.{low_anywhere}
use Rattle.report_text.proofs.Countable.{counted-ends, never_none}
use borrow.Author.Rules.{rules}
use Rattle.report_text.proofs.rows.run_word.Goals as goal
use Rattle.report_text.proofs.rows.run_word.Goals.{After-lengths_of-lengths}

lengths_size : (c : After-lengths_of-lengths) → length c.lengths_of-lengths.result ≡ 64
lengths_size c = search rules

pub lengths_of-lengths-requires : goal.lengths_of-lengths-requires
lengths_of-lengths-requires c =
    (c.requires.1.few, λ i. omega (arith, c.requires.1.within i, low_anywhere c.args.capacities.now c.requires.0 i))

pub returns-in-Some : goal.returns-in-Some
returns-in-Some c p accepted table named =
    let a = c.args in
    c.of_run.ensures
    ∙ counted-ends p accepted a.kinds.now a.operands.now table a.capacities.now c.requires.0 a.values.now c.requires.1
    c.lengths_of-lengths.result (lengths_size (goal.at.returns-in-Some c).After-lengths_of-lengths) c.lengths_of-lengths.ensures named
    c.fresh-at.result c.fresh-at.ensures
    c.run.result c.run.new.lengths c.run.ensures c.in-Some.run' c.in-Some.is

pub returns-in-None : goal.returns-in-None
returns-in-None c p accepted table named =
    let a = c.args in
    absurd
    (never_none p accepted a.kinds.now a.operands.now table a.capacities.now c.requires.0 a.values.now c.requires.1
    c.lengths_of-lengths.result (lengths_size (goal.at.returns-in-None c).After-lengths_of-lengths) c.lengths_of-lengths.ensures named
    c.fresh-at.result c.fresh-at.ensures
    c.run.result c.run.new.lengths c.run.ensures c.in-None.is)
