-- `translate_accepted` meets its contract: the size is that of the word, so rule 19 is judged by it.
use mathlib.Core.Path.{ap}
use native.Mathlib.Omega.{arith}
use Rattle.translation.proofs.Answering.{answered_short, answered_done}
use Rattle.translation.proofs.Wholes.{known_thirds, noted_thirds, small}
use Rattle.translation.proofs.translate_accepted.Goals as goal

pub overflow_cast-named : goal.overflow_cast-named
overflow_cast-named c = omega (arith, (small _ _ _ c.requires).few_variables)

pub word_size-size-requires : goal.word_size-size-requires
word_size-size-requires c = (c.requires, (small _ _ _ c.requires).few_lines)

pub returns-then-out-size : goal.returns-then-out-size
returns-then-out-size c =
    let s = ap (λ z. z.symbols) c.word_size-size.ensures.0 in
    rw c.refused.ensures (answered_short _ _ _ _ c.requires.accepts.read (omega (arith, s, c.if-out-size.true)))

pub put_word-requires : goal.put_word-requires
put_word-requires c =
    let k = c.requires in
    let e = c.word_size-size.ensures in
    let s = ap (λ z. z.symbols) e.0 in
    (known_thirds _ _ _ k, noted_thirds _ _ _ k _ e.1, omega (arith, s, c.if-out-size.false))

pub returns : goal.returns
returns c =
    let e = c.word_size-size.ensures.0 in
    let s = ap (λ z. z.symbols) e in
    let room = c.if-out-size.false in
    answered_done _ _ _ _ c.requires.accepts.read _ _ (omega (arith, s, room)) c.put_word.ensures e
