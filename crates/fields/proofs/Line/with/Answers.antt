-- `Line::with` meets its contract: the definition makes the same test.
use Rattle.fields.specs.Fields.{with_number}
use Rattle.fields.proofs.Line.with.Goals as goal

pub returns-then-self : goal.returns-then-self
unfolding with_number
returns-then-self c = rw (c.placed.ensures, c.bounded.ensures, c.if-self.true)

pub returns-else-self : goal.returns-else-self
unfolding with_number
returns-else-self c = rw (c.placed.ensures, c.bounded.ensures, c.if-self.false)
