-- The examples hold, by computation.
use mathlib.Core.Path.{refl}
use mathlib.Core.List.{List}
use Rattle.theory.specs.Basics.{put, EachOf}
use Rattle.theory.specs.Text as T
use Rattle.theory.specs.Runs as R
use Rattle.theory.specs.Word as W
use Rattle.theory.specs.TurnedDown as D
use Rattle.listing.specs.Listing as L
use Rattle.listing.specs.Refused as F
use Rattle.listing.specs.Examples.{Example, Holds, ExamplesHold, texts, registers, spellings, targets, words, moves, show, show_step}

abbrev Hold : List Example → Type 0
Hold = EachOf Holds

pub examples_hold : ExamplesHold
unfolding put texts registers spellings targets words moves show show_step T.following T.same T.digits T.value_after T.numeral
    T.split_lines T.ends_in_LF T.decimal_before T.decimal R.run W.spell_entries W.spell W.step D.rule_1 D.rule_2 D.rule_19 D.translate_into
    L.text_of L.register_number L.prints L.scans L.line L.step L.place L.code L.word L.word_text F.rule_3 F.lines_fault F.listing_fault
    F.text_fault F.read_listing
examples_hold =
    let a : Hold texts = (refl, (refl, (refl, (refl, (refl, (refl, (refl, (refl, (refl, tt))))))))) in
    let b : Hold registers = (refl, (refl, (refl, (refl, (refl, (refl, (refl, (refl, (refl, (refl, tt)))))))))) in
    let c : Hold spellings =
    (refl, (refl, (refl, (refl, (refl, (refl, (refl, (refl, (refl, (refl, (refl, (refl, (refl, (refl, (refl, (refl, tt)))))))))))))))) in
    let d : Hold targets =
    (refl, (refl, (refl, (refl, (refl, (refl, (refl, (refl, (refl, (refl, (refl, (refl, (refl, (refl, (refl, tt))))))))))))))) in
    let e : Hold words = (refl, (refl, (refl, (refl, (refl, (refl, (refl, (refl, tt)))))))) in
    let f : Hold moves = (refl, (refl, (refl, (refl, (refl, (refl, (refl, (refl, (refl, (refl, (refl, (refl, tt)))))))))))) in
    (a, (b, (c, (d, (e, (f, tt))))))
