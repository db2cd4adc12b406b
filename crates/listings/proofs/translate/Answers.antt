-- `translate` meets its contract: rule by rule.
use mathlib.Core.Path.{refl, sym, ◌∙◌}
use Rattle.listings.proofs.Answering.{refused_1, refused_2, refused_3, text-answered}
use Rattle.listings.proofs.translate.Goals as goal

pub returns-then-text-gt-BYTES : goal.returns-then-text-gt-BYTES
returns-then-text-gt-BYTES c =
    let a = c.args in
    let r = refused_1 a.word.now a.text.now c.if-text-gt-BYTES.true in
    record { value = c.refused.ensures ∙ r.0; word_after = r.1 }

pub returns-then-not-is_ended : goal.returns-then-not-is_ended
returns-then-not-is_ended c =
    let a = c.args in
    let lines = c.read_lines-lines in
    let r = refused_2 a.word.now a.text.now c.if-text-gt-BYTES.false lines.result lines.ensures.value
    (sym c.is_ended.ensures ∙ c.if-not-is_ended.true) in
    record { value = c.refused-then-not-is_ended.ensures ∙ r.0; word_after = r.1 }

pub returns-then-lines-gt-LINES : goal.returns-then-lines-gt-LINES
returns-then-lines-gt-LINES c =
    let a = c.args in
    let lines = c.read_lines-lines in
    let ended = sym c.is_ended.ensures ∙ c.if-not-is_ended.false in
    let r = refused_3 a.word.now a.text.now c.if-text-gt-BYTES.false lines.result lines.ensures.value ended
    c.if-lines-gt-LINES.true in
    record { value = c.refused-then-lines-gt-LINES.ensures ∙ r.0; word_after = r.1 }

pub returns : goal.returns
returns c =
    let a = c.args in
    let lines = c.read_lines-lines in
    let ended = sym c.is_ended.ensures ∙ c.if-not-is_ended.false in
    let r = text-answered a.word.now a.text.now c.if-text-gt-BYTES.false lines.result lines.ensures.value ended
    c.if-lines-gt-LINES.false _ _ refl lines.ensures.list_after c.translate_first.ensures in
    record { value = r.0; word_after = r.1 }
