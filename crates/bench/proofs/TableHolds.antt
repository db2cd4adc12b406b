-- The bench examples marked P hold: one fact, by computation.
use mathlib.Core.Path.{refl}
use Rattle.theory.specs.Basics.{put}
use Rattle.theory.specs.Text as T
use Rattle.theory.specs.ProgramText as P
use Rattle.theory.specs.Runs as R
use Rattle.theory.specs.Source as S
use Rattle.theory.specs.Word as W
use Rattle.theory.specs.Translation as X
use Rattle.theory.specs.TurnedDown as D
use Rattle.bench.specs.Table.{TableHolds, table, show, show_both, show_word}

pub table_holds : TableHolds
unfolding table show show_both show_word put T.following T.same T.digits T.value_after T.numeral T.primes T.index T.name T.split_lines
    T.ends_in_LF P.around P.assigns P.command P.blocks P.block_of R.run S.closing S.open_at S.opening S.depth S.step W.instruction_of
    W.spell_entries W.spell W.entries W.step X.code X.word X.word_of X.word_text D.rule_1 D.rule_2 D.rule_3 D.lines_fault_under
    D.program_fault_under D.text_fault_under D.read_text_under D.rule_11 D.first_failing D.rule_12 D.first_along D.rule_13 D.rule_14
    D.word_fault D.read_word
table_holds = (refl, (refl, (refl, (refl, (refl, (refl, (refl, (refl, (refl, (refl, (refl, (refl, tt))))))))))))
