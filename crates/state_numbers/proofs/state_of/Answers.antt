-- `state_of` meets its contract. Each part that is copied is a part of the numbers, where there are 82.
use borrow.Author.Tests.{eq-eqb, ne_eqb}
use lib.ListN.{length}
use Rattle.state_numbers.specs.Numbers.{state_of, no_state, lent_state}
use Rattle.state_numbers.proofs.state_of.Goals as goal

pub returns-then-numbers-ne-NUMBERS : goal.returns-then-numbers-ne-NUMBERS
unfolding lent_state no_state
returns-then-numbers-ne-NUMBERS c = rw (ne_eqb (length c.args.numbers.now) 82 c.if-numbers-ne-NUMBERS.true)

pub returns : goal.returns
unfolding lent_state state_of
returns c =
    rw (eq-eqb (length c.args.numbers.now) 82 c.if-numbers-ne-NUMBERS.false, c.copy_from_slice.ensures.after, c.copy_from_slice-2.ensures.after, c.copy_from_slice-3.ensures.after)
