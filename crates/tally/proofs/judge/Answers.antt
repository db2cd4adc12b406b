-- `judge` meets its contract: its tests are the definition's, in their order.
use mathlib.Core.Path.{◌∙◌}
use borrow.Author.Tests.{eq-eqb, ne_eqb, lt-ltb, le-ltb}
use Rattle.tally.specs.declared.Tally.{Tally}
use Rattle.tally.specs.Tallies.{judged}
use Rattle.tally.proofs.judge.Goals as goal

pub returns-then-count-eq0 : goal.returns-then-count-eq0
unfolding judged
returns-then-count-eq0 c =
    let t : Tally = c.args.t in
    c.refused.ensures ∙ rw (eq-eqb t.count 0 c.if-count-eq0.true)

pub returns-then-t-gt-SYMBOLS : goal.returns-then-t-gt-SYMBOLS
unfolding judged
returns-then-t-gt-SYMBOLS c =
    let t : Tally = c.args.t in
    c.refused-then-t-gt-SYMBOLS.ensures ∙ rw (
      ne_eqb t.count 0 c.if-count-eq0.false,
      lt-ltb 600000 t.size c.if-t-gt-SYMBOLS.true,
    )

pub returns-then-good-count : goal.returns-then-good-count
unfolding judged
returns-then-good-count c =
    let t : Tally = c.args.t in
    c.refused-then-good-count.ensures
    ∙ rw (
      ne_eqb t.count 0 c.if-count-eq0.false,
      le-ltb 600000 t.size c.if-t-gt-SYMBOLS.false,
      lt-ltb t.good t.count c.if-good-count.true,
    )

pub returns-then-count-gt-INSTRUCTIONS : goal.returns-then-count-gt-INSTRUCTIONS
unfolding judged
returns-then-count-gt-INSTRUCTIONS c =
    let t : Tally = c.args.t in
    c.refused-then-count-gt-INSTRUCTIONS.ensures
    ∙ rw (
      ne_eqb t.count 0 c.if-count-eq0.false,
      le-ltb 600000 t.size c.if-t-gt-SYMBOLS.false,
      le-ltb t.good t.count c.if-good-count.false,
      lt-ltb 8192 t.count c.if-count-gt-INSTRUCTIONS.true,
    )

pub returns : goal.returns
unfolding judged
returns c =
    let t : Tally = c.args.t in
    rw (
      ne_eqb t.count 0 c.if-count-eq0.false,
      le-ltb 600000 t.size c.if-t-gt-SYMBOLS.false,
      le-ltb t.good t.count c.if-good-count.false,
      le-ltb 8192 t.count c.if-count-gt-INSTRUCTIONS.false,
    )
