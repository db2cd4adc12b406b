-- `put_state` meets its contract. The capacities, the values and the passes-left are written into their parts, and then line and
-- steps; where there are not 82 nothing is.
use mathlib.Core.Path.{◌≡◌, ◌∙◌}
use borrow.Author.Tests.{eq-eqb, ne_eqb}
use borrow.Author.Rules.{rules}
use lib.ListN.{length}
use Rattle.state_numbers.specs.Numbers.{numbers_of, kept_numbers}
use Rattle.state_numbers.proofs.Parts.{laid_same, all-written}
use Rattle.state_numbers.proofs.put_state.Goals as goal

pub returns-then-numbers-ne-NUMBERS : goal.returns-then-numbers-ne-NUMBERS
unfolding kept_numbers
returns-then-numbers-ne-NUMBERS c = rw (ne_eqb (length c.args.numbers.now) 82 c.if-numbers-ne-NUMBERS.true)

pub returns : goal.returns
unfolding kept_numbers numbers_of
returns c =
    let n = c.args.numbers.now in
    let s = c.args.state in
    let size : length n ≡ 82 = c.if-numbers-ne-NUMBERS.false in
    let long : length c.copy_from_slice.new.self ≡ 32 = search rules in
    let deep : length c.copy_from_slice-2.new.self ≡ 32 = search rules in
    let few : length c.copy_from_slice-3.new.self ≡ 16 = search rules in
    rw (eq-eqb (length n) 82 size)
    (all-written n size c.copy_from_slice.new.self long c.copy_from_slice-2.new.self deep c.copy_from_slice-3.new.self few s.line s.steps
    ∙ laid_same s.line s.steps c.copy_from_slice.ensures.after c.copy_from_slice-2.ensures.after c.copy_from_slice-3.ensures.after)
