-- `put_label` meets its contract: the word and LF, or the refusal.
use mathlib.Core.Path.{sym, ◌∙◌}
use Rattle.label_tool.proofs.Labels.{refused_put, word-put}
use Rattle.label_tool.proofs.put_label.Goals as goal

pub returns-in-Ok-clause-put : goal.returns-in-Ok-clause-put
returns-in-Ok-clause-put c =
    (word-put c.args.out.now c.args.text.now c.requires _ _ _ _ (sym c.in-Ok.is ∙ c.translate_text.ensures.value)
    c.translate_text.ensures.out_after c.put_byte.ensures).0

pub returns-in-Ok-clause-upper_bound : goal.returns-in-Ok-clause-upper_bound
returns-in-Ok-clause-upper_bound c =
    (word-put c.args.out.now c.args.text.now c.requires _ _ _ _ (sym c.in-Ok.is ∙ c.translate_text.ensures.value)
    c.translate_text.ensures.out_after c.put_byte.ensures).1

pub returns-in-Err-clause-put : goal.returns-in-Err-clause-put
returns-in-Err-clause-put c =
    (refused_put c.args.out.now c.args.text.now c.requires _ _ _ _ (sym c.in-Err.is ∙ c.translate_text.ensures.value)
    c.translate_text.ensures.out_after c.put_refusal.ensures).0
