-- Each call checks in its order, by computation.
use mathlib.Core.Path.{refl}
use mathlib.Core.List.{List}
use Rattle.theory.specs.Basics.{put, EachOf}
use Rattle.theory.specs.Text as T
use Rattle.theory.specs.ProgramText as P
use Rattle.theory.specs.Runs as R
use Rattle.theory.specs.Source as S
use Rattle.theory.specs.Word as W
use Rattle.theory.specs.Translation as X
use Rattle.theory.specs.Machines as M
use Rattle.theory.specs.TurnedDown as D
use Rattle.tidy.specs.Forms as F
use Rattle.readings.specs.Orders.{Order, Answers, orders, programs, runs, tidy, words}

abbrev Hold : List Order → Type 0
Hold = EachOf Answers

pub orders_hold : EachOf (EachOf Answers) orders
unfolding orders programs runs tidy words put T.following T.same T.digits T.value_after T.numeral T.primes T.index T.name T.split_lines
    T.ends_in_LF T.decimal_before T.decimal T.name_of P.around P.assigns P.command P.listed P.commands P.command_of P.list_of P.spelling
    P.text_of P.blocks P.block_of R.run S.open_at S.depth S.step W.entries W.instruction_of W.spell_entries W.spell W.step X.code X.word
    X.word_of X.word_text M.is_memory M.run_source M.run_word D.rule_1 D.rule_2 D.rule_3 D.lines_fault_under D.program_fault_under
    D.text_fault_under D.read_text_under D.read_list_under D.is_source D.rule_9 D.rule_10 D.rule_11 D.first_failing D.rule_12 D.first_along
    D.rule_13 D.rule_14 D.rule_15 D.word_fault D.table_rule_11 D.table_fault D.read_word D.read_table D.read_word_for D.read_table_for
    D.rule_19 D.read_program_into D.write_program_into D.translate_into D.run_from D.read_word_into D.write_word_into F.clears F.tidy_word
    F.tidy_word_of F.tidy_text
orders_hold =
    let a : Hold programs = (refl, (refl, (refl, (refl, (refl, (refl, (refl, (refl, (refl, (refl, tt)))))))))) in
    let b : Hold runs = (refl, (refl, (refl, (refl, (refl, (refl, (refl, (refl, tt)))))))) in
    let c : Hold tidy = (refl, (refl, (refl, (refl, (refl, (refl, tt)))))) in
    let d : Hold words = (refl, (refl, (refl, (refl, (refl, (refl, (refl, (refl, (refl, (refl, (refl, tt))))))))))) in
    (a, (b, (c, (d, tt))))
