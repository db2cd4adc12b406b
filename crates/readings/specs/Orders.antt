-- The order in which each call checks what it is given: of two faults the one that is answered, and a fault of each kind by itself.
use Rattle.std.specs.Prelude.{◌≡◌, List, [], ◌∷◌, pos, replicate}
use Rattle.std.proofs.Math.Option.{Option}
use Rattle.theory.specs.Text.{Bytes, bytes}
use Rattle.theory.specs.Translation.{word_text}
use Rattle.theory.specs.Machines.{Position}
use Rattle.theory.specs.TurnedDown.{refuse, read_text, read_text_under, read_list, read_list_under, read_word_for, read_table_for}
use Rattle.theory.specs.TurnedDown.{run_program, run_on}
use Rattle.theory.specs.TurnedDown.{read_program_into, write_program_into, translate_into, read_word_into, write_word_into}
use Rattle.theory.specs.declared.Refusal.{Refusal}
use Rattle.theory.specs.declared.Setting.TheVariants.{Any, LoopOnly}
use Rattle.tidy.specs.Forms.{tidy_text}
use Rattle.readings.specs.Example.{refusal, passes, entry, state, empty}

abbrev pub start : Position
start = record { place = pos 1; steps = 0 }

-- What a call answers, and what it should
pub data Order : Type 0 where
  row : Option Refusal → Option Refusal → Order

abbrev pub Answers : Order → Type 0
Answers (row answer expected) = answer ≡ expected

-- A program read and written
unfoldable pub programs : List Order
programs =
    row (refusal (read_program_into Any [] (bytes "z\n"))) (refuse 4 1)
    ∷ row (refusal (read_program_into Any (9 ∷ 9 ∷ []) (bytes "X0 <- 0\n"))) (refuse 19 0)
    ∷ row (refusal (read_program_into Any (9 ∷ 9 ∷ 9 ∷ []) (bytes "X0 <- 0\n"))) passes
    ∷ row (refusal (read_program_into Any [] (bytes "while X0 != 0\nendwhile X0 != 0\n"))) (refuse 19 0)
    ∷ row (refusal (read_program_into LoopOnly [] (bytes "while X0 != 0\nendwhile X0 != 0\n"))) (refuse 20 1)  -- 20 before 19
    ∷ row (refusal (write_program_into Any [] (1 ∷ []))) (refuse 4 1)
    ∷ row (refusal (write_program_into Any (replicate 7 9) (1 ∷ 0 ∷ 0 ∷ []))) (refuse 19 0)
    ∷ row (refusal (write_program_into Any (replicate 8 9) (1 ∷ 0 ∷ 0 ∷ []))) passes
    ∷ row (refusal (write_program_into Any [] (6 ∷ 0 ∷ 0 ∷ 7 ∷ 0 ∷ 0 ∷ []))) (refuse 19 0)
    ∷ row (refusal (write_program_into LoopOnly [] (6 ∷ 0 ∷ 0 ∷ 7 ∷ 0 ∷ 0 ∷ []))) (refuse 20 1)
    ∷ []

-- and translated and run
unfoldable pub runs : List Order
runs =
    row (refusal (translate_into word_text [] (read_text (bytes "z\n")))) (refuse 4 1)
    ∷ row (refusal (translate_into word_text (9 ∷ 9 ∷ 9 ∷ []) (read_text []))) (refuse 19 0)
    ∷ row (refusal (translate_into word_text (9 ∷ 9 ∷ 9 ∷ 9 ∷ []) (read_list []))) passes
    ∷ row (refusal (translate_into word_text [] (read_text_under LoopOnly (bytes "while X0 != 0\n")))) (refuse 20 1)
    ∷ row (refusal (run_program (read_text (bytes "z\n")) (state 1 0 [] []) 7)) (refuse 4 1)  -- the program before its state
    ∷ row (refusal (run_program (read_text []) (state 1 0 [] []) 7)) (refuse 9 0)
    ∷ row (refusal (run_program (read_list []) (state 1 1 [] []) 7)) passes
    ∷ row (refusal (run_program (read_list_under LoopOnly (7 ∷ 0 ∷ 0 ∷ [])) (state 1 0 [] []) 7)) (refuse 20 1)
    ∷ []

-- A program translated into its tidy form: 19 goes by the size of that word
abbrev pub one_line : Bytes
one_line = bytes "X1 <- X1 + 1\n"

unfoldable pub tidy : List Order
tidy =
    row (refusal (translate_into word_text (replicate 7 9) (read_text one_line))) passes
    ∷ row (refusal (translate_into tidy_text (replicate 7 9) (read_text one_line))) (refuse 19 0)
    ∷ row (refusal (translate_into tidy_text (replicate 24 9) (read_text one_line))) (refuse 19 0)
    ∷ row (refusal (translate_into tidy_text (replicate 25 9) (read_text one_line))) passes
    ∷ row (refusal (translate_into tidy_text [] (read_text (bytes "loop X0\n")))) (refuse 8 1)  -- 8 before 19
    ∷ row (refusal (translate_into tidy_text [] (read_list_under LoopOnly (7 ∷ 0 ∷ 0 ∷ [])))) (refuse 20 1)
    ∷ []

-- A word
unfoldable pub words : List Order
words =
    row (refusal (read_word_into [] [] (bytes "#"))) (refuse 13 0)
    ∷ row (refusal (read_word_into (9 ∷ []) [] (bytes "1#"))) (refuse 19 0)  -- either list
    ∷ row (refusal (read_word_into [] (9 ∷ []) (bytes "1#"))) (refuse 19 0)
    ∷ row (refusal (read_word_into (9 ∷ []) (9 ∷ []) (bytes "1#"))) passes
    ∷ row (refusal (write_word_into [] [])) (refuse 11 0)
    ∷ row (refusal (write_word_into (9 ∷ []) (entry 1 1 ∷ []))) (refuse 19 0)
    ∷ row (refusal (write_word_into (9 ∷ 9 ∷ []) (entry 1 1 ∷ []))) passes
    ∷ row (refusal (run_on (empty 1 0) start 7 (read_word_for 1 []))) (refuse 10 0)  -- the machine before the word
    ∷ row (refusal (run_on (empty 1 1) start 7 (read_word_for 1 (bytes "11#")))) (refuse 15 0)
    ∷ row (refusal (run_on (empty 1 1) start 7 (read_table_for 1 []))) (refuse 11 0)
    ∷ row (refusal (run_on (empty 1 1) start 7 (read_word_for 1 (bytes "1#")))) passes
    ∷ []

-- All of them
unfoldable pub orders : List (List Order)
orders = programs ∷ runs ∷ tidy ∷ words ∷ []
