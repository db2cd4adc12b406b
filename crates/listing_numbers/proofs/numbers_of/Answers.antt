-- `listing_numbers::numbers_of` meets its contract: the spellings one after the other.
use Rattle.std.proofs.Common.{rules}
use Rattle.listing_numbers.proofs.Reading.{numbers_printed, numbers_read}
use Rattle.listing_numbers.proofs.numbers_of.Goals as goal

pub returns : goal.returns
returns c =
    let s = c.args.s.now in
    let two = numbers_printed s _ _ _ c.print_line.ensures (λ h. search rules) c.or_else.ensures in
    rw c.unwrap_or.ensures (numbers_read s _ _ _ two (λ h. search rules) c.or_else-2.ensures)
