-- `field` meets its contract: the definition makes the same test.
use mathlib.Core.Path.{ap, ◌∙◌}
use lib.ListN.{length}
use Rattle.fields.specs.Fields.{all_of}
use Rattle.fields.proofs.Numbers.{name-whole, numeral-whole}
use Rattle.fields.proofs.field.Goals as goal

pub returns-then-named : goal.returns-then-named
returns-then-named c =
    let t : _ = c.args.text.now in
    rw c.if-named.true (c.whole.ensures ∙ (ap (all_of (length t)) c.name.ensures ∙ name-whole t))

pub returns-else-named : goal.returns-else-named
returns-else-named c =
    let t : _ = c.args.text.now in
    rw c.if-named.false (c.whole-else-named.ensures ∙ (ap (all_of (length t)) c.numeral.ensures ∙ numeral-whole t))
