-- `put_lines` meets its contract: before each line, what is left to be put makes the table all that it is to be.
use Rattle.listing_check.specs.Lined.{lines_of}
use Rattle.listing_table.proofs.Tabling.{Left, kinds_after, operands_after}
use Rattle.listing_table.proofs.filling.put_lines.Given as goal

abbrev pub invariant-loop-i : goal.invariant-loop-i
invariant-loop-i l =
    Left (lines_of l.list) l.lines l.i l.kinds l.operands (kinds_after (lines_of l.list) l.initial.kinds) (operands_after (lines_of l.list) l.initial.operands)
