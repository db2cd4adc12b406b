-- `translate_text` meets its contract: the text is read into a list that has room for any program, and whose part is then translated.
use mathlib.Core.Path.{sym, ◌∙◌}
use native.Mathlib.Omega.{arith}
use lib.Seq.{length-take-le}
use Rattle.theory.proofs.PassedOn.{passed_on}
use Rattle.translation.proofs.Answering.{answered_refused, unread, taken}
use Rattle.translation.proofs.translate_text.Goals as goal

pub overflow_mul-end : goal.overflow_mul-end
overflow_mul-end c =
    let read = c.read.ensures in
    let k = taken _ _ _ (omega arith) _ _ read.value c.in_ok-program.was read.list_after in
    omega (arith, k.few)

pub slice_bounds-list-end : goal.slice_bounds-list-end
slice_bounds-list-end c =
    let read = c.read.ensures in
    let k = taken _ _ _ (omega arith) _ _ read.value c.in_ok-program.was read.list_after in
    omega (arith, k.few)

pub slice_bounds-translate_accepted-end : goal.slice_bounds-translate_accepted-end
slice_bounds-translate_accepted-end c =
    let read = c.read.ensures in
    let k = taken _ _ _ (omega arith) _ _ read.value c.in_ok-program.was read.list_after in
    sym (length-take-le _ c.read.new.list (omega (arith, k.few)))

pub translate_accepted-requires : goal.translate_accepted-requires
translate_accepted-requires c =
    let read = c.read.ensures in
    let k = taken _ _ _ (omega arith) _ _ read.value c.in_ok-program.was read.list_after in
    k.known

pub returns-in_err-program : goal.returns-in_err-program
returns-in_err-program c =
    let e = unread _ _ _ (omega arith) c.read.ensures.value c.in_err-program.was in
    let a = answered_refused c.args.form _ _ _ e in
    record { value = passed_on _ c.from_residual.ensures ∙ a.answers; out_after = a.writes }

pub returns : goal.returns
returns c =
    let read = c.read.ensures in
    let k = taken _ _ _ (omega arith) _ _ read.value c.in_ok-program.was read.list_after in
    let a = rw (k.part ∙ sym k.text) at c.translate_accepted.ensures in
    record { value = a.answers; out_after = a.writes }
