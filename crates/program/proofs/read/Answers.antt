-- `program::read` meets its contract: rule by rule, and the check of the numbers is that of the text.
use mathlib.Core.Path.{◌∙◌, sym}
use native.Mathlib.Omega.{arith}
use Rattle.theory.proofs.PassedOn.{passed_on}
use Rattle.program.proofs.TextCheck.{refused_1}
use Rattle.program.proofs.Replies.{reads_refused, read_unended, read-long, read_fault, read_no_room, read_all}
use Rattle.program.proofs.read.Goals as goal

pub returns-then-text-gt-BYTES : goal.returns-then-text-gt-BYTES
returns-then-text-gt-BYTES c =
    let a = c.args in
    let r = reads_refused a.setting a.text.now a.list.now _ (refused_1 a.setting a.text.now (omega arith)) in
    record { value = c.refused.ensures ∙ r.0; list_after = r.1 }

pub returns-then-not-is_ended : goal.returns-then-not-is_ended
returns-then-not-is_ended c =
    let a = c.args in
    let lines = c.read_lines-lines in
    let r = read_unended a.setting a.text.now a.list.now lines.new.list lines.result lines.ensures (omega arith)
    (sym c.is_ended.ensures ∙ c.if-not-is_ended.true) in
    record { value = c.refused-then-not-is_ended.ensures ∙ r.0; list_after = r.1 }

pub returns-then-lines-gt-LINES : goal.returns-then-lines-gt-LINES
returns-then-lines-gt-LINES c =
    let a = c.args in
    let lines = c.read_lines-lines in
    let ended = sym c.is_ended.ensures ∙ c.if-not-is_ended.false in
    let r = read-long a.setting a.text.now a.list.now lines.new.list lines.result lines.ensures (omega arith) ended
    c.if-lines-gt-LINES.true in
    record { value = c.refused-then-lines-gt-LINES.ensures ∙ r.0; list_after = r.1 }

pub returns-then-list-count : goal.returns-then-list-count
returns-then-list-count c =
    let a = c.args in
    let lines = c.read_lines-lines in
    let ended = sym c.is_ended.ensures ∙ c.if-not-is_ended.false in
    let r = read_no_room a.setting a.text.now a.list.now lines.new.list lines.result lines.ensures (omega arith) ended
    c.if-lines-gt-LINES.false c.check_list.ensures c.in_ok-program.was c.if-list-count.true in
    record { value = c.refused-then-list-count.ensures ∙ r.0; list_after = r.1 }

pub returns-in_err-program : goal.returns-in_err-program
returns-in_err-program c =
    let a = c.args in
    let lines = c.read_lines-lines in
    let ended = sym c.is_ended.ensures ∙ c.if-not-is_ended.false in
    let r = read_fault a.setting a.text.now a.list.now lines.new.list lines.result lines.ensures (omega arith) ended
    c.if-lines-gt-LINES.false c.check_list.ensures c.in_err-program.was in
    record { value = passed_on _ c.from_residual.ensures ∙ r.0; list_after = r.1 }

pub returns : goal.returns
returns c =
    let a = c.args in
    let lines = c.read_lines-lines in
    let ended = sym c.is_ended.ensures ∙ c.if-not-is_ended.false in
    let r = read_all a.setting a.text.now a.list.now lines.new.list lines.result lines.ensures (omega arith) ended
    c.if-lines-gt-LINES.false c.check_list.ensures c.in_ok-program.was
    c.if-list-count.false c.put_bytes.ensures in
    record { value = r.0; list_after = r.1 }
