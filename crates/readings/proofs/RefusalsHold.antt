-- What is turned down is turned down so, by computation.
use mathlib.Core.Path.{refl}
use mathlib.Core.List.{List}
use Rattle.theory.specs.Basics.{EachOf}
use Rattle.theory.specs.Text as T
use Rattle.theory.specs.ProgramText as P
use Rattle.theory.specs.Source as S
use Rattle.theory.specs.Word as W
use Rattle.theory.specs.Translation as X
use Rattle.theory.specs.Machines as M
use Rattle.theory.specs.RunSheet as H
use Rattle.theory.specs.TurnedDown as D
use Rattle.readings.specs.Example.{Example, Holds}
use Rattle.readings.specs.Refusals.{primes, primed_lines, primed_pairs, primed_names, primed_values}
use Rattle.readings.specs.Refusals.{refusals, limits, texts, spellings, almost, pairs, lists, lessons, lesson_lines, list_lessons}
use Rattle.readings.specs.Refusals.{words, tables, machines, places, states, memories, layouts, roomy, sheets, named, lines}
use Rattle.readings.specs.Refusals.{columned, uneven_sizes, variable_capacities, loop_capacities}

abbrev Hold : List Example → Type 0
Hold = EachOf Holds

pub refusals_hold : EachOf (EachOf Holds) refusals
unfolding refusals limits texts spellings almost pairs primes primed_lines primed_pairs primed_names primed_values lists lessons
    lesson_lines list_lessons words tables machines places states memories layouts roomy sheets named lines columned uneven_sizes
    variable_capacities loop_capacities T.following T.same T.digits
    T.value_after T.numeral T.primes T.index T.name T.split_lines T.ends_in_LF T.split_blanks P.around P.assigns P.command D.rule_1 D.rule_2
    D.rule_3 D.lines_fault_under D.program_fault_under D.text_fault_under D.read_text_under P.listed P.command_of P.commands
    D.read_list_under W.entries D.rule_11 D.first_failing D.rule_12 D.first_along D.rule_13 D.rule_14 D.rule_15 D.word_fault D.read_word
    D.read_word_for S.open_at S.depth D.is_source D.rule_9 M.is_memory D.rule_10 D.table_rule_11 D.table_fault D.read_table D.read_table_for
    H.names H.values H.start D.sheet_size_fault D.within_columns D.rows_fault D.sheet_fault_for D.largest D.rule_21 P.blocks P.block_of
    X.code
    X.word X.word_of
refusals_hold =
    let a : Hold limits = (refl, tt) in
    let b : Hold texts = (refl, (refl, (refl, (refl, (refl, (refl, (refl, (refl, tt)))))))) in
    let c : Hold spellings = (refl, (refl, (refl, (refl, (refl, (refl, (refl, (refl, (refl, (refl, (refl, (refl, (refl, tt))))))))))))) in
    let d : Hold almost = (refl, (refl, (refl, (refl, (refl, (refl, (refl, (refl, (refl, (refl, (refl, tt))))))))))) in
    let e : Hold pairs = (refl, (refl, (refl, (refl, (refl, (refl, (refl, (refl, (refl, (refl, (refl, (refl, tt)))))))))))) in
    let f : Hold primes = (refl, (refl, (refl, (refl, (refl, (refl, (refl, (refl, (refl, (refl, (refl, tt))))))))))) in
    let g : Hold primed_lines = (refl, (refl, (refl, (refl, (refl, (refl, (refl, (refl, (refl, (refl, (refl, (refl, tt)))))))))))) in
    let h : Hold primed_pairs = (refl, (refl, (refl, (refl, (refl, (refl, (refl, (refl, (refl, (refl, (refl, (refl, tt)))))))))))) in
    let i : Hold primed_names = (refl, (refl, (refl, (refl, (refl, (refl, (refl, (refl, (refl, (refl, (refl, (refl, tt)))))))))))) in
    let j : Hold primed_values = (refl, (refl, (refl, (refl, tt)))) in
    let k : Hold lists = (refl, (refl, (refl, (refl, (refl, (refl, (refl, (refl, (refl, (refl, (refl, (refl, tt)))))))))))) in
    let l : Hold lessons = (refl, (refl, (refl, (refl, (refl, (refl, (refl, (refl, (refl, (refl, tt)))))))))) in
    let m : Hold lesson_lines = (refl, (refl, (refl, (refl, (refl, (refl, (refl, (refl, tt)))))))) in
    let n : Hold list_lessons = (refl, (refl, (refl, (refl, (refl, (refl, (refl, tt))))))) in
    let o : Hold words = (refl, (refl, (refl, (refl, (refl, (refl, (refl, (refl, tt)))))))) in
    let p : Hold tables = (refl, (refl, (refl, (refl, (refl, (refl, (refl, tt))))))) in
    let q : Hold machines = (refl, (refl, (refl, (refl, (refl, (refl, (refl, (refl, (refl, (refl, tt)))))))))) in
    let r : Hold places = (refl, (refl, (refl, (refl, (refl, (refl, (refl, (refl, (refl, (refl, (refl, (refl, tt)))))))))))) in
    let s : Hold states = (refl, (refl, (refl, (refl, (refl, (refl, (refl, (refl, (refl, (refl, tt)))))))))) in
    let t : Hold memories = (refl, (refl, (refl, (refl, (refl, (refl, (refl, (refl, (refl, (refl, tt)))))))))) in
    let u : Hold layouts =
    (refl, (refl, (refl, (refl, (refl, (refl, (refl, (refl, (refl, (refl, (refl, (refl, (refl, (refl, (refl, (refl, tt)))))))))))))))) in
    let v : Hold sheets = (refl, (refl, (refl, (refl, (refl, (refl, (refl, (refl, (refl, (refl, tt)))))))))) in
    let w : Hold named = (refl, (refl, (refl, (refl, (refl, (refl, (refl, (refl, (refl, (refl, (refl, tt))))))))))) in
    let x : Hold lines = (refl, (refl, (refl, (refl, (refl, (refl, (refl, (refl, (refl, (refl, (refl, tt))))))))))) in
    let y : Hold roomy =
    (refl, (refl, (refl, (refl, (refl, (refl, (refl, (refl, (refl, (refl, (refl, (refl, (refl, (refl, tt)))))))))))))) in
    let z : Hold columned = (refl, (refl, (refl, (refl, (refl, (refl, (refl, (refl, (refl, (refl, tt)))))))))) in
    let u' : Hold uneven_sizes = (refl, (refl, (refl, (refl, (refl, (refl, (refl, (refl, (refl, (refl, (refl, tt))))))))))) in
    let v' : Hold variable_capacities = (refl, (refl, (refl, (refl, (refl, (refl, (refl, (refl, (refl, (refl, tt)))))))))) in
    let w' : Hold loop_capacities = (refl, (refl, (refl, (refl, (refl, (refl, (refl, (refl, (refl, tt))))))))) in (
      a,
      (
        b,
        (
          c,
          (
            d,
            (
              e,
              (
                f,
                (
                  g,
                  (
                    h,
                    (
                      i,
                      (
                        j,
                        (
                          k,
                          (
                            l,
                            (m, (n, (o, (p, (q, (r, (s, (t, (u, (y, (v, (w, (x, (z, (u', (v', (w', tt))))))))))))))))),
                          ),
                        ),
                      ),
                    ),
                  ),
                ),
              ),
            ),
          ),
        ),
      ),
    )
