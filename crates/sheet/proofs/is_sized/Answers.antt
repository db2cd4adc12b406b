-- `is_sized` meets its contract: the definition makes the same tests.
use Rattle.sheet.proofs.Judged.{sized-empty, sized-long, sized_last}
use Rattle.sheet.proofs.is_sized.Goals as goal

pub returns-then-sheet-eq0 : goal.returns-then-sheet-eq0
returns-then-sheet-eq0 c = sized-empty c.args.sheet.now c.if-sheet-eq0.true

pub returns-then-sheet-gt-BYTES : goal.returns-then-sheet-gt-BYTES
returns-then-sheet-gt-BYTES c = sized-long c.args.sheet.now c.if-sheet-gt-BYTES.true

pub returns : goal.returns
returns c = sized_last c.args.sheet.now c.if-sheet-eq0.false c.if-sheet-gt-BYTES.false
