-- `measure` meets its contract: a word that is too long is turned down, one of instructions alone is let pass, and another is examined.
use mathlib.Core.Path.{◌∙◌}
use native.Mathlib.Omega.{arith}
use Rattle.word.proofs.Judged.{long-word, counted-word}
use Rattle.word.proofs.reading.measure.Goals as goal

pub returns-then-word-gt-SYMBOLS : goal.returns-then-word-gt-SYMBOLS
returns-then-word-gt-SYMBOLS c = c.refused.ensures ∙ long-word c.args.word.now c.if-word-gt-SYMBOLS.true

pub returns-then-n-le-INSTRUCTIONS : goal.returns-then-n-le-INSTRUCTIONS
returns-then-n-le-INSTRUCTIONS c =
    let n = c.count-n in
    counted-word c.args.word.now (omega arith) n.result n.ensures
    c.if-n-gt0.true c.if-n-le-INSTRUCTIONS.true
