-- `listing_numbers::number_after` meets its contract: the word stands there or not.
use mathlib.Core.Path.{sym, ap, ◌∙◌}
use native.Mathlib.Omega.{arith}
use lib.ListN.{length}
use Rattle.numerals.specs.Numbers.{found_in}
use Rattle.output.specs.Puts.{most}
use Rattle.listing_numbers.specs.Numbers.{most_target}
use Rattle.listing_numbers.proofs.Reading.{word_fits, word_there}
use Rattle.listing_numbers.proofs.number_after.Goals as goal

pub overflow_add-at : goal.overflow_add-at
overflow_add-at c =
    let a = c.args in
    let there = sym c.stands.ensures ∙ c.if-stands.true in
    omega (arith, word_fits a.s.now a.at a.word.now there most (omega arith) (omega arith))

pub returns-then-stands : goal.returns-then-stands
returns-then-stands c =
    let a = c.args in
    c.numeral.ensures
    ∙ ap (found_in (length a.s.now) most_target)
    (word_there a.s.now a.at a.word.now (sym c.stands.ensures ∙ c.if-stands.true))
