-- The examples hold, by computation.
use mathlib.Core.Path.{refl}
use Rattle.theory.specs.Basics.{EachOf}
use Rattle.theory.specs.Text as T
use Rattle.theory.specs.ProgramText as P
use Rattle.theory.specs.Word as W
use Rattle.theory.specs.Translation as C
use Rattle.theory.specs.TurnedDown as D
use Rattle.tidy.specs.Forms as F
use Rattle.labels.specs.Reading as R
use Rattle.labels.specs.Examples.{Holds, words, clears, shared, ExamplesHold}

pub examples_hold : ExamplesHold
unfolding words clears shared T.following T.same T.digits T.value_after T.numeral T.primes T.index T.name T.name_of T.split_lines
    T.ends_in_LF T.decimal_before T.decimal P.spelling P.text_of P.around P.assigns P.command P.blocks P.block_of W.instruction_of
    W.spell_entries W.spell W.entries C.code C.word C.word_of C.word_text D.rule_1 D.rule_2 D.rule_3 D.lines_fault_under
    D.program_fault_under D.text_fault_under D.read_text_under F.clears F.tidy_word F.tidy_word_of F.tidy_text R.next R.commands_after
    R.program_of
examples_hold =
    let a : EachOf Holds words = ((refl, refl), ((refl, refl), ((refl, refl), ((refl, refl), ((refl, refl), ((refl, refl), tt)))))) in
    let b : EachOf Holds clears = ((refl, refl), ((refl, refl), ((refl, refl), ((refl, refl), ((refl, refl), ((refl, refl), tt)))))) in
    let c : EachOf Holds shared = ((refl, refl), ((refl, refl), (refl, (refl, tt)))) in
    (a, (b, c))
