-- `command::pair` meets its contract: the spellings one after the other.
use Rattle.std.proofs.Common.{rules}
use Rattle.command.proofs.LineNumbers.{pairs_2, pairs_3, pairs_4}
use Rattle.command.proofs.reading.pair.Goals as goal

pub returns : goal.returns
returns c =
    let s = c.args.s.now in
    let two = pairs_2 s c.pair_line.ensures (λ h. search rules) c.or_else.ensures in
    let three = pairs_3 s two (λ h. search rules) c.or_else-2.ensures in
    pairs_4 s three (λ h. search rules) c.or_else-3.ensures
