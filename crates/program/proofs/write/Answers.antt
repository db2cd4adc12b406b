-- `program::write` meets its contract: the check, then the size, then the text.
use mathlib.Core.Path.{◌∙◌}
use Rattle.theory.proofs.PassedOn.{passed_on}
use Rattle.program.proofs.Replies.{writes_fault, writes_faultless, writes_no_room, writes_done}
use Rattle.program.proofs.write.Goals as goal

pub text_size-size-requires : goal.text_size-size-requires
text_size-size-requires c = let a = c.args in
    writes_faultless a.setting a.list.now a.text.now c.check_list.ensures c.in_ok-check_list.was

pub put_text-requires : goal.put_text-requires
put_text-requires c =
    let a = c.args in
    writes_faultless a.setting a.list.now a.text.now c.check_list.ensures c.in_ok-check_list.was

pub returns-then-text-size-clause-value : goal.returns-then-text-size-clause-value
returns-then-text-size-clause-value c =
    c.refused.ensures
    ∙ (let a = c.args in
    writes_no_room a.setting a.list.now a.text.now c.check_list.ensures c.in_ok-check_list.was
    c.text_size-size.result c.text_size-size.ensures c.if-text-size.true).0

pub returns-then-text-size-clause-text_after : goal.returns-then-text-size-clause-text_after
returns-then-text-size-clause-text_after c =
    (let a = c.args in
    writes_no_room a.setting a.list.now a.text.now c.check_list.ensures c.in_ok-check_list.was
    c.text_size-size.result c.text_size-size.ensures c.if-text-size.true).1

pub returns-in_err-check_list-clause-value : goal.returns-in_err-check_list-clause-value
returns-in_err-check_list-clause-value c =
    passed_on _ c.from_residual.ensures
    ∙ (let a = c.args in
    writes_fault a.setting a.list.now a.text.now c.check_list.ensures c.in_err-check_list.was).0

pub returns-in_err-check_list-clause-text_after : goal.returns-in_err-check_list-clause-text_after
returns-in_err-check_list-clause-text_after c =
    (let a = c.args in
    writes_fault a.setting a.list.now a.text.now c.check_list.ensures c.in_err-check_list.was).1

pub returns-clause-value : goal.returns-clause-value
returns-clause-value c =
    (let a = c.args in
    writes_done a.setting a.list.now a.text.now c.check_list.ensures c.in_ok-check_list.was c.text_size-size.result
    c.text_size-size.ensures c.if-text-size.false c.put_text.new.text c.put_text.ensures).0

pub returns-clause-text_after : goal.returns-clause-text_after
returns-clause-text_after c =
    (let a = c.args in
    writes_done a.setting a.list.now a.text.now c.check_list.ensures c.in_ok-check_list.was c.text_size-size.result
    c.text_size-size.ensures c.if-text-size.false c.put_text.new.text c.put_text.ensures).1
