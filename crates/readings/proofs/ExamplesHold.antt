-- The rest of the bench examples and the easily misread places hold, by computation.
use mathlib.Core.Path.{refl}
use Rattle.theory.specs.Basics.{put}
use Rattle.theory.specs.Text as T
use Rattle.theory.specs.ProgramText as P
use Rattle.theory.specs.Runs as R
use Rattle.theory.specs.Source as S
use Rattle.theory.specs.Word as W
use Rattle.theory.specs.Translation as X
use Rattle.theory.specs.RunSheet as H
use Rattle.theory.specs.TurnedDown as D
use Rattle.theory.specs.RunTool as U
use Rattle.readings.specs.Examples.{ExamplesHold, bench}
use Rattle.readings.proofs.RefusalsHold.{refusals_hold}
use Rattle.readings.proofs.ResultsHold.{results_hold}
use Rattle.readings.proofs.OrdersHold.{orders_hold}

pub examples_hold : ExamplesHold
unfolding bench put T.following T.same T.digits T.value_after T.numeral T.primes T.index T.name T.split_lines T.ends_in_LF T.split_blanks
    P.around P.assigns P.command D.rule_1 D.rule_2 D.rule_3 D.lines_fault_under D.program_fault_under D.text_fault_under D.read_text_under
    H.names H.values H.start D.sheet_size_fault D.within_columns D.rows_fault D.sheet_fault_for T.decimal_before T.decimal P.blocks
    P.block_of R.run S.closing
    S.open_at S.opening S.depth S.step W.spell_entries W.spell W.step X.code X.word X.word_of X.word_text U.source_on U.word_on U.shown
    U.row U.rows D.largest D.rule_21 U.capacities_fault U.report_fault U.report_answer U.report_on
examples_hold = ((refl, (refl, (refl, (refl, (refl, (refl, (refl, tt))))))), refusals_hold, results_hold, orders_hold)
