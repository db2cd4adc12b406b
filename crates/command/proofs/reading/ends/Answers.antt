-- `command::ends` meets its contract: the word is compared with what is left, byte by byte.
use mathlib.Core.Path.{◌∙◌}
use lib.ListN.{drop, length-drop}
use lib.Seq.{take-length}
use Rattle.command.proofs.LineParts.{same_bytes}
use Rattle.command.proofs.reading.ends.Goals as goal

pub returns : goal.returns
returns c =
    let a = c.args in
    let left = drop a.at a.s.now in
    let whole = rw (length-drop a.at a.s.now) at (take-length left) in
    rw whole at c.eq.ensures ∙ same_bytes a.word.now left
