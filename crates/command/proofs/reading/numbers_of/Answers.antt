-- `command::numbers_of` meets its contract: an assignment, or else a line of a pair.
use mathlib.Core.Path.{◌∙◌}
use Rattle.std.proofs.Common.{rules}
use Rattle.command.proofs.LineNumbers.{numbers-whole}
use Rattle.command.proofs.reading.numbers_of.Goals as goal

pub returns : goal.returns
returns c = c.unwrap_or.ensures ∙ numbers-whole c.args.s.now c.assignment.ensures (λ h. search rules) c.or_else.ensures
