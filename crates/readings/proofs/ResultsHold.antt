-- What is handed back is so, by computation.
use mathlib.Core.Path.{refl}
use mathlib.Core.List.{List}
use Rattle.theory.specs.Basics.{put, EachOf}
use Rattle.theory.specs.Text as T
use Rattle.theory.specs.ProgramText as P
use Rattle.theory.specs.Runs as R
use Rattle.theory.specs.Source as S
use Rattle.theory.specs.Word as W
use Rattle.theory.specs.Translation as X
use Rattle.theory.specs.Machines as M
use Rattle.theory.specs.RunSheet as H
use Rattle.theory.specs.TurnedDown as D
use Rattle.theory.specs.RunTool as U
use Rattle.bench.specs.Table as B
use Rattle.tidy.specs.Forms as F
use Rattle.readings.specs.Example as E
use Rattle.readings.specs.Example.{Example, Holds}
use Rattle.readings.specs.Results.{results, outputs, programs, paid, ends, loops, word_ends, word_steps, values, forms, reports}
use Rattle.readings.specs.Results.{printed_runs, printed_on, notations, digit_texts, spelled_names, primed_runs, unequal}
use Rattle.readings.specs.Results.{uneven_runs, own_room, budgets}
use Rattle.readings.proofs.BudgetsHold.{budgets_hold}

abbrev Hold : List Example → Type 0
Hold = EachOf Holds

pub results_hold : EachOf (EachOf Holds) results
unfolding results outputs programs paid ends loops word_ends word_steps values forms reports printed_runs printed_on notations
    digit_texts spelled_names primed_runs unequal uneven_runs own_room budgets E.show_source E.show_word E.show_form E.show_ends B.show
    B.show_both B.show_word put
    T.following T.same T.digits T.value_after T.numeral T.primes T.index T.name T.in_digits T.split_lines T.ends_in_LF T.split_blanks
    P.around P.assigns P.command D.rule_1 D.rule_2 D.rule_3 D.lines_fault_under D.program_fault_under D.text_fault_under D.read_text_under
    P.listed P.command_of P.commands D.read_list_under W.entries D.rule_11 D.first_failing D.rule_12 D.first_along D.rule_13 D.rule_14
    D.rule_15 D.word_fault D.read_word D.read_word_for T.name_of P.spelling P.text_of P.list_of D.rule_19 D.lent_after W.instruction_of
    X.charge D.is_source D.rule_9 D.run_from M.is_memory D.rule_10 M.run_source M.store_of M.run_word M.word_value H.names H.values H.start
    D.sheet_size_fault D.within_columns D.rows_fault D.sheet_fault_for T.decimal_before T.decimal P.blocks P.block_of R.run S.closing
    S.open_at S.opening S.depth
    S.step W.spell_entries W.spell W.step X.code X.word X.word_of X.word_text U.source_on U.word_on U.shown U.row U.rows D.largest
    D.rule_21 U.capacities_fault U.report_fault
    U.report_answer U.report_on F.clears F.tidy_word F.tidy_word_of F.tidy_text F.tidy_charges
results_hold =
    let a : Hold outputs = (refl, (refl, (refl, (refl, (refl, (refl, (refl, (refl, (refl, (refl, (refl, tt))))))))))) in
    let b : Hold programs = (refl, (refl, (refl, (refl, (refl, (refl, (refl, (refl, (refl, (refl, (refl, tt))))))))))) in
    let c : Hold paid = (refl, (refl, (refl, tt))) in
    let d : Hold notations = (refl, (refl, (refl, (refl, (refl, (refl, (refl, (refl, (refl, (refl, (refl, (refl, (refl, tt))))))))))))) in
    let e : Hold digit_texts = (refl, (refl, (refl, (refl, (refl, (refl, (refl, (refl, (refl, (refl, (refl, (refl, tt)))))))))))) in
    let f : Hold spelled_names = (refl, (refl, (refl, (refl, (refl, (refl, (refl, (refl, (refl, (refl, (refl, (refl, tt)))))))))))) in
    let g : Hold ends = (refl, (refl, (refl, (refl, (refl, (refl, (refl, (refl, (refl, (refl, (refl, tt))))))))))) in
    let h : Hold loops = (refl, (refl, (refl, (refl, (refl, (refl, (refl, (refl, (refl, tt))))))))) in
    let i : Hold word_ends = (refl, (refl, (refl, (refl, (refl, (refl, (refl, (refl, (refl, (refl, tt)))))))))) in
    let j : Hold word_steps = (refl, (refl, (refl, (refl, (refl, tt))))) in
    let k : Hold values = (refl, (refl, (refl, (refl, (refl, (refl, (refl, (refl, (refl, (refl, (refl, (refl, tt)))))))))))) in
    let l : Hold forms = (refl, (refl, (refl, (refl, (refl, (refl, (refl, tt))))))) in
    let m : Hold reports = (refl, (refl, (refl, (refl, (refl, (refl, (refl, (refl, tt)))))))) in
    let n : Hold printed_runs = (refl, (refl, (refl, tt))) in
    let n' : Hold printed_on = (refl, (refl, (refl, (refl, (refl, (refl, (refl, (refl, (refl, tt))))))))) in
    let o : Hold primed_runs = (refl, (refl, (refl, (refl, (refl, (refl, tt)))))) in
    let p : Hold unequal = (refl, (refl, (refl, (refl, (refl, (refl, tt)))))) in
    let q : Hold budgets = budgets_hold in
    let r : Hold uneven_runs = (refl, (refl, (refl, (refl, (refl, tt))))) in
    let s : Hold own_room = (refl, (refl, (refl, (refl, (refl, tt))))) in
    (a, (b, (c, (d, (e, (f, (g, (h, (i, (j, (k, (l, (m, (n, (n', (o, (p, (q, (r, (s, tt))))))))))))))))))))
