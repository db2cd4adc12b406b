-- The examples of full size hold, by computation.
use mathlib.Core.Path.{refl}
use mathlib.Core.List.{List}
use Rattle.theory.specs.Basics.{put, EachOf}
use Rattle.theory.specs.Text as T
use Rattle.theory.specs.ProgramText as P
use Rattle.theory.specs.Word as W
use Rattle.theory.specs.Translation as X
use Rattle.theory.specs.RunSheet as H
use Rattle.theory.specs.TurnedDown as D
use Rattle.theory.specs.RunTool as U
use Rattle.readings.specs.Example.{Example, Holds}
use Rattle.limits.specs.Largest.{LargestHold, largest, texts, primes, words, tables, sheets, reports}

abbrev Hold : List Example → Type 0
Hold = EachOf Holds

pub largest_hold : LargestHold
unfolding largest texts primes words tables sheets reports put T.following T.same T.digits T.value_after T.numeral T.primes T.index T.name
    T.split_lines T.ends_in_LF T.split_blanks P.around P.assigns P.command D.rule_1 D.rule_2 D.rule_3 D.lines_fault_under
    D.program_fault_under D.text_fault_under D.read_text_under W.entries D.rule_11 D.first_failing D.rule_12 D.first_along D.rule_13
    D.rule_14 D.rule_15 D.word_fault D.read_word D.read_word_for D.table_rule_11 D.table_fault D.read_table H.names H.values H.start
    D.sheet_size_fault D.within_columns D.rows_fault D.sheet_fault_for T.decimal_before T.decimal T.name_of P.spelling P.blocks P.block_of
    W.spell_entries
    W.spell X.code X.word X.word_of X.word_text U.rows D.largest D.rule_21 U.capacities_fault U.report_fault U.report_answer U.report_on
largest_hold =
    let a : Hold texts = (refl, (refl, tt)) in
    let b : Hold primes = (refl, (refl, (refl, (refl, tt)))) in
    let c : Hold words = (refl, (refl, (refl, (refl, tt)))) in
    let d : Hold tables = (refl, (refl, (refl, (refl, tt)))) in
    let e : Hold sheets = (refl, (refl, tt)) in
    let f : Hold reports = (refl, (refl, (refl, tt))) in
    (a, (b, (c, (d, (e, (f, tt))))))
