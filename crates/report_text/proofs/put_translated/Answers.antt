-- `put_translated` meets its contract: the word is longer than the buffer, or the rows follow.
use mathlib.Core.Path.{◌≡◌, sym, ap, subst, ◌∙◌}
use mathlib.Core.Option.{none}
use mathlib.Core.List.{List}
use Prim.Native.Nat.{ℕ}
use native.Mathlib.Omega.{arith}
use lib.ListN.{length, replicate, length-replicate}
use Rattle.theory.specs.Text.{Bytes}
use Rattle.theory.specs.ProgramText.{variables, commands}
use Rattle.theory.specs.TurnedDown.{read_list, sheet_fault_for}
use Rattle.capacities.specs.Room.{of_variables}
use Rattle.sheet.specs.declared.answers.Names.{Names}
use Rattle.printing.specs.Lines.{refusal_line}
use Rattle.report_text.specs.Rows.{Listed, Given}
use Rattle.report_text.proofs.Translating.{InBuffer, word_too_long, word_in_buffer}
use Rattle.report_text.proofs.Reading.{few_named}
use Rattle.report_text.proofs.Printing.{roomy-set, word_refused, all-printed, refusal-printed}
use Rattle.report_text.proofs.put_translated.Goals as goal
use Rattle.report_text.proofs.put_translated.Goals.{In-Ok}

-- The word that is in the buffer
held : (c : In-Ok) →
    InBuffer (commands c.args.list.now) c.translate_list.new.out c.in-Ok.size.symbols
held c =
    let list = c.args.list.now in
    let done_then = sym c.in-Ok.is ∙ c.translate_list.ensures.value in
    word_in_buffer (replicate 65536 0) (length-replicate {A = ℕ} 65536 0) (commands list) (read_list list) c.requires.0.accepted
    c.in-Ok.size c.translate_list.new.out done_then c.translate_list.ensures.out_after

-- The sheet is accepted for the program of the list
accepted : (capacities : List ℕ) (list s : Bytes) (names : Names) (K : ℕ) → Listed list K → Given capacities s names K
    → sheet_fault_for (variables (commands list)) (of_variables capacities) s ≡ none
accepted capacities list s names K listed given =
    subst (λ k. sheet_fault_for k (of_variables capacities) s ≡ none) listed.named given.passes

pub slice_bounds-word-end : goal.slice_bounds-word-end
slice_bounds-word-end c =
    let h = held (goal.at.slice_bounds-word-end c).In-Ok in
    let size : length c.translate_list.new.out ≡ 65536 = c.translate_list.auto.out in
    omega (arith, h.fits, h.counted)

pub slice_bounds-put_word_rows-end : goal.slice_bounds-put_word_rows-end
slice_bounds-put_word_rows-end c =
    let h = held (goal.at.slice_bounds-put_word_rows-end c).In-Ok in
    h.counted ∙ ap length (sym h.front)

pub put_word_rows-requires : goal.put_word_rows-requires
put_word_rows-requires c =
    (record { listed = c.requires.0; translated = (held (goal.at.put_word_rows-requires c).In-Ok).front }, roomy-set _ _ c.requires.1, c.requires.2)

pub returns-in-Err : goal.returns-in-Err
returns-in-Err c =
    let list = c.args.list.now in
    let s = c.args.sheet.now in
    let refused = sym c.in-Err.is ∙ c.translate_list.ensures.value in
    let buffer = length-replicate {A = ℕ} 65536 0 in
    let (long, is-19) = word_too_long (replicate 65536 0) buffer (commands list) (read_list list) c.requires.0.accepted _ refused in
    let capacities = c.args.capacities.now in
    let fault = accepted capacities list s c.args.names _ c.requires.0 c.requires.2 in
    let few = few_named list _ c.requires.0 in
    refusal-printed _ (word_refused capacities (commands list) s few c.requires.1 fault long ∙ ap refusal_line (sym is-19))
    c.put_refusal.ensures

pub returns-in-Ok : goal.returns-in-Ok
returns-in-Ok c =
    let list = c.args.list.now in
    let s = c.args.sheet.now in
    let capacities = c.args.capacities.now in
    let fault = accepted capacities list s c.args.names _ c.requires.0 c.requires.2 in
    let few = few_named list _ c.requires.0 in
    rw (all-printed capacities (commands list) s few c.requires.1 fault (held (goal.at.returns-in-Ok c).In-Ok).fits) c.put_word_rows.ensures
