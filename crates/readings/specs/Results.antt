-- What is handed back: lent outputs, words, runs and what the run tool prints.
use Rattle.std.specs.Prelude.{true, false, List, [], ◌∷◌, ◌++◌, map, ℕ, ℤ, pos, negsuc, replicate}
use Rattle.std.proofs.Math.Option
use Rattle.std.proofs.Math.Option.{Option, none, some}
use Prim.Native.String.{String}
use Rattle.theory.specs.Basics.{present}
use Rattle.theory.specs.Text.{Bytes, bytes, name, by_digits, by_primes, name_by}
use Rattle.theory.specs.ProgramText.{clear, increment, copy, loop, while, plain, opens, closes, spelling_by, list_of, text_of}
use Rattle.theory.specs.Word.{bytes_of}
use Rattle.theory.specs.Translation.{word_text}
use Rattle.theory.specs.Machines.{fresh_source, fresh_word, SourceState, Memory, contents, Position, untidy, halted_only}
use Rattle.theory.specs.TurnedDown.{Answer, mapped, refuse}
use Rattle.theory.specs.TurnedDown.{read_text, read_list, read_word, read_word_for}
use Rattle.theory.specs.RunTool.{shown, end_name}
use Rattle.theory.specs.declared.End.{End}
use Rattle.theory.specs.declared.End.TheVariants.{Halted, Strayed, Spent, Full}
use Rattle.bench.specs.Table as T
use Rattle.tidy.specs.Forms.{tidy_charges}
use Rattle.tidy.specs.declared.Form.TheVariants.{Plain, Tidy}
use Rattle.readings.specs.Example.{Example, output, fills, reads, counts, writes, digits, row, charges}
use Rattle.readings.specs.Example.{runs, word_runs, together, value, form, numbers, spelled, prints, prints_on}
use Rattle.readings.specs.Example.{SourceShown, WordShown, FormShown, passes, has, entry, state, fresh, nested, loop_in_while}
use Rattle.readings.specs.Example.{unlike, uneven, register, several}

-- A program as a list, its word, and the text of a list
abbrev pub list_for : String → Answer (List ℕ)
list_for t = mapped list_of (read_text (bytes t))

abbrev pub word_for : String → Answer (List ℕ)
word_for t = mapped word_text (read_text (bytes t))

abbrev pub text_for : List ℕ → Answer (List ℕ)
text_for l = mapped text_of (read_list l)

abbrev pub seven : String
seven = "X3 <- 0\nX3 <- X3 + 1\nX3 <- X5\nloop X3\nendloop X3\nwhile X3 != 0\nendwhile X3 != 0\n"

abbrev pub seven_listed : List ℕ
seven_listed = 1 ∷ 3 ∷ 0 ∷ 2 ∷ 3 ∷ 0 ∷ 3 ∷ 3 ∷ 5 ∷ 4 ∷ 3 ∷ 0 ∷ 5 ∷ 3 ∷ 0 ∷ 6 ∷ 3 ∷ 0 ∷ 7 ∷ 3 ∷ 0 ∷ []

-- Lent outputs: nothing changes where one is too short, and what is past the result stays
unfoldable pub outputs : List Example
outputs =
    output (replicate 21 9) (list_for seven) passes seven_listed
    ∷ output (replicate 22 9) (list_for seven) passes (seven_listed ++ (9 ∷ []))
    ∷ output (replicate 20 9) (list_for seven) (refuse 19 0) (replicate 20 9)
    ∷ output [] (list_for "zzz\n") (refuse 4 1) []  -- 19 last
    ∷ output (replicate 80 9) (text_for seven_listed) passes (bytes seven)
    ∷ output (replicate 79 9) (text_for seven_listed) (refuse 19 0) (replicate 79 9)
    ∷ output (9 ∷ 9 ∷ 9 ∷ []) (word_for "") (refuse 19 0) (9 ∷ 9 ∷ 9 ∷ [])
    ∷ output (9 ∷ 9 ∷ 9 ∷ 9 ∷ 9 ∷ []) (word_for "") passes (49 ∷ 35 ∷ 35 ∷ 35 ∷ 9 ∷ [])
    ∷ fills (entry 9 9 ∷ []) (read_word (bytes "1#11#####")) (refuse 19 0) (entry 9 9 ∷ [])
    ∷ fills (entry 9 9 ∷ entry 9 9 ∷ entry 9 9 ∷ []) (read_word (bytes "1#11#####")) passes (entry 1 1 ∷ entry 5 2 ∷ entry 9 9 ∷ [])
    ∷ fills [] (read_word_for 1 (bytes "1#11#####")) (refuse 15 2) []
    ∷ []

-- A word given in parts, the first instruction and a part for each line of its program
abbrev pub joined : List String → Bytes
joined [] = []
joined (w ∷ ws) = bytes w ++ joined ws

abbrev pub gives : List String → End → ℕ → List ℕ → T.Shown → T.Both
gives ws e n v r = record { word = joined ws; end = e; steps = n; values = v; run = r }

abbrev pub loop_in_while_word : List String
loop_in_while_word =
    "1###" ∷ "1#####111111111111111111###1#" ∷ "1#####1111###111#11#1111####11#####111###1#111####111#####11111###"
    ∷ "1#####11###11####" ∷ "11111####" ∷ "111111111111111111####" ∷ []

abbrev pub while_in_loops_word : List String
while_in_loops_word =
    "1###" ∷ "1#####1111###11111#1111#1111####1111#####111###1#111####11111#####111111111111111111111###"
    ∷ "11#####1111###111111#1111#1111####1111#####111###11#111####111111#####111111111###" ∷ "111#####111111###111#"
    ∷ "111#####11###11####" ∷ "111111####" ∷ "111111111####" ∷ "111111111111111111111####" ∷ []

abbrev pub loop_in_loop_word : List String
loop_in_loop_word =
    "1###" ∷ "1#####1111###111#11#1111####11#####111###1#111####111#####111111111111111###"
    ∷ "1#####1111###1111#11#1111####11#####111###1#111####1111#####111###" ∷ "1#" ∷ "111####" ∷ "111111111111111####" ∷ []

abbrev pub two_loops_word : List String
two_loops_word =
    "1###" ∷ "1#####1111###1111#111#1111####111#####111###1#111####1111#####11###" ∷ "11####"
    ∷ "11#####1111###1111#111#1111####111#####111###11#111####1111#####11###" ∷ "11####" ∷ []

abbrev pub empty_loop_word : List String
empty_loop_word =
    "1###" ∷ "1#####1111###111#11#1111####11#####111###1#111####111#####11###" ∷ "11####" ∷ []

abbrev pub empty_while_word : List String
empty_while_word =
    "1###" ∷ "1#####111###1#" ∷ "111####" ∷ []

abbrev pub filling_copy_word : List String
filling_copy_word =
    "1###" ∷ "1#####11###11####11#####1111###1#111#1111####111#####111###11#111####" ∷ []

-- Programs with their words and both runs: loops within loops, empty bodies, a capacity filled exactly
unfoldable pub programs : List Example
programs =
    row (T.program loop_in_while 1024 (2 ∷ [])  -- its counter is that of a loop inside none
    (gives loop_in_while_word Halted 8 (0 ∷ []) (T.shows Halted 38 (pos 21) ("" ∷ []))))
    ∷ row (T.program "loop X0\nloop X1\nwhile X2 != 0\nX2 <- 0\nendwhile X2 != 0\nendloop X1\nendloop X0\n" 1024 (2 ∷ 2 ∷ 1 ∷ [])
    (gives while_in_loops_word Halted 16 (2 ∷ 2 ∷ 0 ∷ []) (T.shows Halted 88 (pos 33) ("11" ∷ "11" ∷ "" ∷ []))))
    ∷ row (T.program "loop X0\nloop X0\nX0 <- X0 + 1\nendloop X0\nendloop X0\n" 1024 (2 ∷ [])  -- its passes are not counted again
    (gives loop_in_loop_word Halted 17 (8 ∷ []) (T.shows Halted 97 (pos 27) ("11111111" ∷ []))))
    ∷ row (T.program "loop X0\nendloop X0\nloop X1\nendloop X1\n" 1024 (1 ∷ 0 ∷ [])  -- one counter for both
    (gives two_loops_word Halted 3 (1 ∷ 0 ∷ []) (T.shows Halted 22 (pos 26) ("1" ∷ "" ∷ []))))
    ∷ row (T.program "loop X0\nendloop X0\n" 3 (3 ∷ [])
    (gives empty_loop_word Halted 4 (3 ∷ []) (T.shows Halted 34 (pos 14) ("111" ∷ []))))
    ∷ row (T.program "while X0 != 0\nendwhile X0 != 0\n" 1024 (0 ∷ [])
    (gives empty_while_word Halted 1 (0 ∷ []) (T.shows Halted 3 (pos 6) ("" ∷ []))))
    ∷ row (T.program "X0 <- X1\n" 2 (0 ∷ 2 ∷ [])
    (gives filling_copy_word Halted 1 (2 ∷ 2 ∷ []) (T.shows Halted 21 (pos 14) ("11" ∷ "11" ∷ []))))
    ∷ row (T.program "X0 <- X1\n" 2 (0 ∷ 3 ∷ [])  -- a copy that doesn't fit, from values that rule 9 turns down
    (gives filling_copy_word Full 0 (0 ∷ 3 ∷ []) (T.shows Full 12 (pos 7) ("11" ∷ "" ∷ []))))
    ∷ row (T.program "X0 <- X0 + 1\n" 2 (1 ∷ [])
    (gives ("1###" ∷ "1#" ∷ []) Halted 1 (2 ∷ []) (T.shows Halted 2 (pos 3) ("11" ∷ []))))
    ∷ row (T.program "X0 <- 0\n" 1024 (1 ∷ 7 ∷ [])  -- registers beyond its variables are empty
    (gives ("1###" ∷ "1#####11###11####" ∷ []) Halted 1 (0 ∷ 7 ∷ []) (T.shows Halted 5 (pos 5) ("" ∷ "" ∷ []))))
    ∷ row (T.program "X31 <- 0\n" 1024 (0 ∷ [])  -- the last index
    (gives ("1###" ∷ "11111111111111111111111111111111#####11###11####" ∷ []) Halted 1 (0 ∷ []) (T.shows Halted 3 (pos 5) ("" ∷ []))))
    ∷ []

-- In each line of a program of at most seven lines, with X3 at 4, X5 at 2, all others 0, and so many passes left
abbrev pub along : ℕ → List SourceState
along k = map (λ l. state 9 l (0 ∷ 0 ∷ 0 ∷ 4 ∷ 0 ∷ 2 ∷ []) (k ∷ [])) (1 ∷ 2 ∷ 3 ∷ 4 ∷ 5 ∷ 6 ∷ 7 ∷ [])

-- "increment 1; clear of y 2y+2; copy of x over y 2y+7x+6; copy to itself 2; `loop` 7k+5, or 6 if k is 0; `endloop` 2 if passes remain,
-- else 3; `while` 2; `endwhile` 1"
unfoldable pub paid : List Example
paid =
    charges seven (along 2) (10 ∷ 1 ∷ 28 ∷ 33 ∷ 2 ∷ 2 ∷ 1 ∷ [])
    ∷ charges seven (along 1) (10 ∷ 1 ∷ 28 ∷ 33 ∷ 3 ∷ 2 ∷ 1 ∷ [])
    ∷ charges "X5 <- X3\nX3 <- X3\nX0 <- 0\nloop X0\nendloop X0\n" (along 1) (38 ∷ 2 ∷ 2 ∷ 6 ∷ 3 ∷ 0 ∷ 0 ∷ [])
    ∷ []

-- The same program, its names in either notation
abbrev pub seven_primed : String
seven_primed = "X''' <- 0\nX3 <- X''' + 1\nX''' <- X5\nloop X'''\nendloop X3\nwhile X3 != 0\nendwhile X''' != 0\n"

-- The index of the name that some bytes begin with
abbrev pub index_of : String → Option ℕ
index_of t = Option.map (λ f. f.value) (name (bytes t))

-- What is read from primes, and its number of variables: one program in either notation; "The writer always uses digits"
unfoldable pub notations : List Example
notations =
    reads "X''' <- 0\n" (1 ∷ 3 ∷ 0 ∷ [])
    ∷ reads "X <- X\n" (3 ∷ 0 ∷ 0 ∷ [])
    ∷ reads "X3 <- X''' + 1\n" (2 ∷ 3 ∷ 0 ∷ [])
    ∷ reads "X' <- X2\nX2 <- X'\n" (3 ∷ 1 ∷ 2 ∷ 3 ∷ 2 ∷ 1 ∷ [])
    ∷ reads "loop X\nendloop X0\n" (4 ∷ 0 ∷ 0 ∷ 5 ∷ 0 ∷ 0 ∷ [])
    ∷ reads seven_primed seven_listed
    ∷ counts "X <- 0\n" 1
    ∷ counts "X' <- X'''\n" 4
    ∷ counts seven_primed 6
    ∷ writes "X <- X\n" "X0 <- X0\n"
    ∷ writes seven_primed seven
    ∷ row (T.program "X <- X'\n" 2 (0 ∷ 2 ∷ [])
    (gives filling_copy_word Halted 1 (2 ∷ 2 ∷ []) (T.shows Halted 21 (pos 14) ("11" ∷ "11" ∷ []))))
    ∷ numbers (present (map index_of ("X" ∷ "X''" ∷ "X4'" ∷ "X'4" ∷ "X04" ∷ "X00'" ∷ "x5" ∷ "'X6" ∷ "" ∷ []))) (0 ∷ 2 ∷ 4 ∷ 1 ∷ [])
    ∷ []

-- "texts in digits": a digit behind every X, in whatever text
unfoldable pub digit_texts : List Example
digit_texts =
    digits "" true
    ∷ digits "X" false
    ∷ digits "X'" false
    ∷ digits "XX1" false
    ∷ digits "X1X" false
    ∷ digits "X1" true
    ∷ digits "loop X\n" false
    ∷ digits "X1 <- X'\n" false
    ∷ digits "X' <- X1\n" false
    ∷ digits "zzz'\n" true
    ∷ digits seven_primed false
    ∷ digits seven true
    ∷ []

-- The spellings by the notation of each name
unfoldable pub spelled_names : List Example
spelled_names =
    spelled (name_by by_primes 0) "X"
    ∷ spelled (name_by by_primes 3) "X'''"
    ∷ spelled (name_by by_digits 3) "X3"
    ∷ spelled (spelling_by by_primes by_digits (plain (clear 1))) "X' <- 0"
    ∷ spelled (spelling_by by_primes by_digits (plain (increment 1))) "X' <- X1 + 1"
    ∷ spelled (spelling_by by_digits by_primes (plain (increment 1))) "X1 <- X' + 1"
    ∷ spelled (spelling_by by_primes by_digits (plain (copy 1 2))) "X' <- X2"
    ∷ spelled (spelling_by by_digits by_primes (plain (copy 1 2))) "X1 <- X''"
    ∷ spelled (spelling_by by_primes by_digits (opens loop 1)) "loop X'"
    ∷ spelled (spelling_by by_primes by_digits (closes loop 1)) "endloop X'"
    ∷ spelled (spelling_by by_primes by_digits (opens while 1)) "while X' != 0"
    ∷ spelled (spelling_by by_primes by_digits (closes while 1)) "endwhile X' != 0"
    ∷ []

-- The end of a run of a source, its steps, line, first values and passes left
abbrev pub stands : End → ℕ → ℕ → List ℕ → List ℕ → SourceShown
stands e n l v k = record { end = e; steps = n; line = l; values = v; passes = k }

-- Runs of sources: the order of the checks, and the count
unfoldable pub ends : List Example
ends =
    runs "X0 <- X0 + 1\n" (fresh 1024 0 (0 ∷ [])) 1 (stands Halted 1 2 (1 ∷ []) [])  -- halted on the last step of the budget
    ∷ runs "X0 <- X0 + 1\n" (fresh 1024 0 (0 ∷ [])) 0 (stands Spent 0 1 (0 ∷ []) [])
    ∷ runs "X0 <- X0 + 1\n" (fresh 2 0 (2 ∷ [])) 0 (stands Spent 0 1 (2 ∷ []) [])  -- spent before full
    ∷ runs "X0 <- X0 + 1\n" (fresh 2 0 (2 ∷ [])) 1 (stands Full 0 1 (2 ∷ []) [])
    ∷ runs "X0 <- X0 + 1\n" (fresh 2 4294967295 (2 ∷ [])) 1 (stands Spent 0 1 (2 ∷ []) [])
    ∷ runs "X0 <- X0 + 1\n" (fresh 2 0 (1 ∷ [])) 7 (stands Halted 1 2 (2 ∷ []) [])  -- a capacity filled exactly
    ∷ runs "X0 <- X1\n" (fresh 2 0 (0 ∷ 2 ∷ [])) 7 (stands Halted 1 2 (2 ∷ 2 ∷ []) [])
    ∷ runs "" (fresh 1024 4294967295 []) 0 (stands Halted 0 1 [] [])  -- halted before spent
    ∷ runs "X0 <- 0\n" (fresh 1024 4294967295 (1 ∷ [])) 7 (stands Spent 0 1 (1 ∷ []) [])  -- the count at its end
    ∷ runs "X0 <- 0\nX0 <- 0\n" (fresh 1024 4294967294 (1 ∷ [])) 7 (stands Spent 1 2 (0 ∷ []) [])
    ∷ runs "X0 <- 0\n" (fresh 1024 4294967294 (1 ∷ [])) 7 (stands Halted 1 2 (0 ∷ []) [])
    ∷ []

-- Runs of sources: loops
unfoldable pub loops : List Example
loops =
    runs "while X0 != 0\nendwhile X0 != 0\n" (fresh 1024 0 (1 ∷ [])) 100 (stands Spent 100 1 (1 ∷ []) [])
    ∷ runs "loop X0\nendloop X0\n" (fresh 3 0 (3 ∷ [])) 100 (stands Halted 4 3 (3 ∷ []) (0 ∷ []))  -- an empty body: the `endloop` alone
    ∷ runs "loop X0\nendloop X0\n" (fresh 3 0 (3 ∷ [])) 2 (stands Spent 2 2 (3 ∷ []) (2 ∷ []))
    ∷ runs nested (fresh 9 0 (0 ∷ [])) 9 (stands Halted 1 5 (0 ∷ []) (0 ∷ 0 ∷ []))  -- passes left stay 0
    ∷ runs nested (fresh 9 0 (2 ∷ [])) 3 (stands Spent 3 3 (2 ∷ []) (2 ∷ 1 ∷ []))
    ∷ runs nested (fresh 9 0 (2 ∷ [])) 5 (stands Spent 5 2 (2 ∷ []) (1 ∷ 0 ∷ []))
    ∷ runs nested (fresh 9 0 (2 ∷ [])) 99 (stands Halted 9 5 (2 ∷ []) (0 ∷ 0 ∷ []))
    ∷ runs nested (state 9 3 (2 ∷ []) (1 ∷ 1 ∷ [])) 99 (stands Halted 2 5 (2 ∷ []) (0 ∷ 0 ∷ []))
    ∷ runs loop_in_while (fresh 9 0 (2 ∷ [])) 3 (stands Spent 3 4 (0 ∷ []) (2 ∷ 0 ∷ []))  -- its loop is inside no other
    ∷ []

-- Runs of sources: "A variable's capacity is that of its register, and a copy too long for its target is full"
unfoldable pub own_room : List Example
own_room =
    runs "X0 <- X1\n" (unlike (2 ∷ 3 ∷ []) 1 (0 ∷ 3 ∷ []) []) 7 (stands Full 0 1 (0 ∷ 3 ∷ []) [])
    ∷ runs "X0 <- X1\n" (unlike (3 ∷ 2 ∷ []) 1 (3 ∷ 2 ∷ []) []) 7 (stands Halted 1 2 (2 ∷ 2 ∷ []) [])
    ∷ runs "X1 <- X1 + 1\n" (unlike (2 ∷ 3 ∷ []) 1 (2 ∷ 2 ∷ []) []) 7 (stands Halted 1 2 (2 ∷ 3 ∷ []) [])
    ∷ runs "X1 <- X1 + 1\n" (unlike (3 ∷ 2 ∷ []) 1 (2 ∷ 2 ∷ []) []) 7 (stands Full 0 1 (2 ∷ 2 ∷ []) [])
    ∷ runs "loop X1\nendloop X1\n" (unlike (2 ∷ 3 ∷ []) 1 (2 ∷ 3 ∷ []) []) 2 (stands Spent 2 2 (2 ∷ 3 ∷ []) (2 ∷ []))
    ∷ []

-- Where a machine stands; the end of a run of a word, its steps, its place and the memory
abbrev pub at : ℤ → ℕ → Position
at q n = record { place = q; steps = n }

abbrev pub leaves : End → ℕ → ℤ → Memory → WordShown
leaves e n q m = record { end = e; steps = n; place = q; memory = m }

-- Runs of words: the order of the checks, and the count
unfoldable pub word_ends : List Example
word_ends =
    word_runs "1#" (register 2 "1\0" (1 ∷ [])) (at (pos 1) 0) 1 (leaves Halted 1 (pos 2) (register 2 "11" (2 ∷ [])))
    ∷ word_runs "1#" (register 2 "1\0" (1 ∷ [])) (at (pos 1) 0) 0 (leaves Spent 0 (pos 1) (register 2 "1\0" (1 ∷ [])))
    ∷ word_runs "1#" (register 2 "##" (2 ∷ [])) (at (pos 1) 0) 0 (leaves Spent 0 (pos 1) (register 2 "##" (2 ∷ [])))
    ∷ word_runs "1##" (register 2 "11" (2 ∷ [])) (at (pos 1) 0) 7 (leaves Full 0 (pos 1) (register 2 "11" (2 ∷ [])))
    ∷ word_runs "1#" (register 2 "11" (2 ∷ [])) (at (pos 1) 4294967295) 7 (leaves Spent 0 (pos 1) (register 2 "11" (2 ∷ [])))
    ∷ word_runs "1#" (register 2 "\0\0" (0 ∷ [])) (at (pos 1) 4294967294) 7 (leaves Halted 1 (pos 2) (register 2 "1\0" (1 ∷ [])))
    ∷ word_runs "1#1#" (register 2 "\0\0" (0 ∷ [])) (at (pos 1) 4294967294) 7 (leaves Spent 1 (pos 2) (register 2 "1\0" (1 ∷ [])))
    ∷ word_runs "1#" (register 1 "1" (1 ∷ [])) (at (pos 2) 4294967295) 0 (leaves Halted 0 (pos 2) (register 1 "1" (1 ∷ [])))
    ∷ word_runs "1#" (register 1 "1" (1 ∷ [])) (at (pos 3) 4294967295) 0 (leaves Strayed 0 (pos 3) (register 1 "1" (1 ∷ [])))
    ∷ word_runs "1#" (register 1 "1" (1 ∷ [])) (at (negsuc 4) 0) 7 (leaves Strayed 0 (negsuc 4) (register 1 "1" (1 ∷ [])))
    ∷ []

-- Runs of words: what the store then holds, and places before the word
unfoldable pub word_steps : List Example
word_steps =
    word_runs "1#####" (register 3 "#1\0" (2 ∷ [])) (at (pos 1) 0) 7 (leaves Strayed 1 (pos 4) (register 3 "1\0\0" (1 ∷ [])))
    ∷ word_runs "1#1#####" (register 3 "##\0" (2 ∷ [])) (at (pos 2) 5) 1 (leaves Strayed 1 (pos 5) (register 3 "#\0\0" (1 ∷ [])))
    ∷ word_runs "11#1#####" (several 2 "1#\0\0" (2 ∷ 0 ∷ [])) (at (pos 1) 0) 2 (leaves Strayed 2 (pos 4) (several 2 "#\01\0" (1 ∷ 1 ∷ [])))
    ∷ word_runs "1#1#" (register 2 "\0\0" (0 ∷ [])) (at (pos 1) 0) 1 (leaves Spent 1 (pos 2) (register 2 "1\0" (1 ∷ [])))  -- a step
    ∷ word_runs "1111####" (register 1 "\0" (0 ∷ [])) (at (pos 1) 0) 7 (leaves Strayed 1 (negsuc 2) (register 1 "\0" (0 ∷ [])))
    ∷ []

-- "Each register gets its own capacity": what register 2 of two holds; and it has room where register 1 is full
unfoldable pub uneven_runs : List Example
uneven_runs =
    spelled (bytes_of (contents (uneven (3 ∷ 5 ∷ []) "1#\0#1##\0" (2 ∷ 4 ∷ [])) 2)) "#1##"
    ∷ spelled (bytes_of (contents (uneven (3 ∷ 5 ∷ []) "1#\0#1##\0" (2 ∷ 4 ∷ [])) 1)) "1#"
    ∷ word_runs "11#1#" (uneven (1 ∷ 3 ∷ []) "1#\0\0" (1 ∷ 1 ∷ [])) (at (pos 1) 0) 7
    (leaves Full 1 (pos 2) (uneven (1 ∷ 3 ∷ []) "1#1\0" (1 ∷ 2 ∷ [])))
    ∷ word_runs "11#1#" (uneven (3 ∷ 1 ∷ []) "1\0\0#" (1 ∷ 1 ∷ [])) (at (pos 1) 0) 7
    (leaves Full 0 (pos 1) (uneven (3 ∷ 1 ∷ []) "1\0\0#" (1 ∷ 1 ∷ [])))
    ∷ word_runs "1#" (uneven (3 ∷ 1 ∷ []) "1\0\0#" (1 ∷ 1 ∷ [])) (at (pos 1) 0) 7
    (leaves Halted 1 (pos 2) (uneven (3 ∷ 1 ∷ []) "11\0#" (2 ∷ 1 ∷ [])))
    ∷ []

-- The value: "register 1 under that condition, and otherwise the answer is untidy"
unfoldable pub values : List Example
values =
    value "1###" (pos 2) 2 ("1#" ∷ "" ∷ []) (has "1#")
    ∷ value "1###" (pos 2) 2 ("" ∷ "" ∷ []) (has "")
    ∷ value "1###" (pos 2) 2 ("" ∷ "1" ∷ []) (some untidy)
    ∷ value "1###" (pos 2) 2 ("1" ∷ "#" ∷ []) (some untidy)  -- a # is content
    ∷ value "1###" (pos 2) 3 ("1" ∷ "" ∷ "1" ∷ []) (some untidy)  -- the last register too
    ∷ value "1###" (pos 2) 3 ("1" ∷ "1" ∷ "" ∷ []) (some untidy)
    ∷ value "1###" (pos 2) 1 ("1" ∷ "1" ∷ []) (has "1")  -- a machine of one register has no other
    ∷ value "1###" (pos 1) 2 ("1" ∷ "" ∷ []) none  -- not halted, tidy or not
    ∷ value "1###" (pos 1) 2 ("1" ∷ "1" ∷ []) none
    ∷ value "1###" (pos 3) 2 ("1" ∷ "" ∷ []) none
    ∷ value "1###" (negsuc 0) 2 ("1" ∷ "1" ∷ []) none
    ∷ numbers (present (map (λ e. halted_only e 7) (none ∷ some Strayed ∷ some Spent ∷ some Full ∷ []))) []
    ∷ []

abbrev pub formed : List String → T.Shown → FormShown
formed ws r = record { word = joined ws; run = r }

-- Both forms: "clears of registers 2 to K follow in rising order, each charged 2v+2 for its content v"
unfoldable pub forms : List Example
forms =
    form Plain T.adder (0 ∷ 3 ∷ []) (formed (T.adder_word ∷ []) (T.shows Halted 37 (pos 15) ("111" ∷ "111" ∷ [])))
    ∷ value T.adder_word (pos 15) 2 ("111" ∷ "111" ∷ []) (some untidy)
    ∷ form Tidy T.adder (0 ∷ 3 ∷ [])
    (formed (T.adder_word ∷ "11#####11###11####" ∷ []) (T.shows Halted 45 (pos 18) ("111" ∷ "" ∷ [])))
    ∷ form Tidy "X2 <- X2 + 1\n" (1 ∷ 2 ∷ 3 ∷ [])
    (formed ("1###" ∷ "111#" ∷ "11#####11###11####" ∷ "111#####11###11####" ∷ []) (T.shows Halted 18 (pos 9) ("1" ∷ "" ∷ "" ∷ [])))
    ∷ form Tidy "" [] (formed ("1###" ∷ []) (T.shows Halted 1 (pos 2) []))  -- nothing to clear
    ∷ form Tidy "X0 <- X0 + 1\n" (2 ∷ []) (formed ("1###" ∷ "1#" ∷ []) (T.shows Halted 2 (pos 3) ("111" ∷ [])))
    ∷ numbers (map (λ K. tidy_charges K (T.from ("1" ∷ "11" ∷ "" ∷ "1111" ∷ []))) (0 ∷ 1 ∷ 2 ∷ 3 ∷ 4 ∷ [])) (0 ∷ 0 ∷ 6 ∷ 8 ∷ 18 ∷ [])
    ∷ []

-- A line of the run tool, of how the source and the word ended
abbrev pub printed_line : End → ℕ → ℕ → End → ℕ → ℕ → Bytes
printed_line e n x e' m y = shown
    (record { end = e; steps = n; state = fresh_source (λ i. x) })
    (record { end = e'; steps = m; state = fresh_word 1 (λ i. y) })

abbrev pub header : String
header = "source-end source-steps word-end word-steps X0\n"

-- What the run tool prints
unfoldable pub reports : List Example
reports =
    prints [] [] "refused 16 0\n"  -- files that can't be read count as empty
    ∷ prints (bytes "X0 <- 1\n") [] "refused 4 1\n"  -- the program before the sheet
    ∷ prints (bytes "X0 <- X3\n") (bytes "X4\n") "refused 17 1\n"  -- K by the source of a copy
    ∷ prints (bytes "X0 <- X3\n") (bytes "X3\n") header  -- no runs
    ∷ prints [] (bytes "\n") header
    ∷ prints (bytes "X0 <- 0\n") (bytes "X0\n1\nz\n") "refused 16 3\n"  -- all or nothing
    ∷ spelled (end_name Halted ++ end_name Strayed ++ end_name Spent ++ end_name Full) "haltedstrayedspentfull"
    ∷ spelled (printed_line Spent 100000 5 Halted 73 2) "spent 100000 halted 73 5\n"  -- the source's X0, whatever its end
    ∷ []

-- The runs that it prints
unfoldable pub printed_runs : List Example
printed_runs =
    prints [] (bytes "\n\n") "source-end source-steps word-end word-steps X0\nhalted 0 halted 1 0\n"
    ∷ prints (bytes "X0 <- X0 + 1\n") (bytes "X0\n1024\n") "source-end source-steps word-end word-steps X0\nfull 0 full 1 1024\n"
    ∷ prints (bytes "X0 <- X1\n") (bytes "X1 X0\n7 2\n") "source-end source-steps word-end word-steps X0\nhalted 1 halted 60 7\n"
    ∷ []

-- A report on other registers: its order, and the runs. X0 has the first capacity, X1 the second, and the scratch register the third
unfoldable pub printed_on : List Example
printed_on =
    prints_on (replicate 63 5) (bytes "X0 <- X1\n") [] "refused 10 0\n"
    ∷ prints_on (replicate 65 5) (bytes "X0 <- X1\n") [] "refused 10 0\n"
    ∷ prints_on (0 ∷ replicate 63 5) (bytes "X0 <- X1\n") [] "refused 10 0\n"
    ∷ prints_on (1025 ∷ replicate 63 5) (bytes "X0 <- X1\n") [] "refused 10 0\n"  -- 10 before 21
    ∷ prints_on [] (bytes "loop X0\n") [] "refused 8 1\n"  -- 8 before 10
    ∷ prints_on (5 ∷ 5 ∷ 4 ∷ replicate 61 5) (bytes "X0 <- X1\n") [] "refused 21 0\n"  -- 21 before 16
    ∷ prints_on (replicate 64 5) (bytes "X0 <- X1\n") [] "refused 16 0\n"
    ∷ prints_on (3 ∷ replicate 63 5) (bytes "X0 <- X1\n") (bytes "X0\n4\n") "refused 18 2\n"
    ∷ prints_on (3 ∷ replicate 63 5) (bytes "X0 <- X1\n") (bytes "X0 X1\n2 4\n2 3\n")
    "source-end source-steps word-end word-steps X0\nfull 0 full 20 2\nhalted 1 halted 32 3\n"
    ∷ []

-- The same of programs and sheets with primes
unfoldable pub primed_runs : List Example
primed_runs =
    prints (bytes "loop X'\nX <- X0 + 1\nendloop X1\n") (bytes "X'\n3\n0\n")
    "source-end source-steps word-end word-steps X0\nhalted 7 halted 37 3\nhalted 1 halted 7 0\n"
    ∷ prints (bytes "X <- X'\n") (bytes "X' X\n7 2\n") "source-end source-steps word-end word-steps X0\nhalted 1 halted 60 7\n"
    ∷ prints (bytes "X <- X'''\n") (bytes "X''''\n") "refused 17 1\n"
    ∷ prints (bytes "X <- X'''\n") (bytes "X'''\n") header
    ∷ prints (bytes "X3' <- 0\n") (bytes "X3'\n") "refused 4 1\n"
    ∷ prints (bytes "X''' <- 0\n") (bytes "X3'\n") "refused 16 1\n"
    ∷ []

-- Registers of unequal length: "a copy too long for its target is full", "a word that fills up inside a copy reports its own steps"
unfoldable pub unequal : List Example
unequal =
    together "X0 <- X1\n" (2 ∷ 5 ∷ 5 ∷ []) (1 ∷ 4 ∷ []) (Full, 0) (Full, 14)  -- 1, 4 that clear, 8 that move, 1 that takes
    ∷ together "X1 <- X1 + 1\nX0 <- X1\n" (2 ∷ 5 ∷ 5 ∷ []) (1 ∷ 4 ∷ []) (Full, 1) (Full, 15)  -- a charge of 1 for the first step
    ∷ together "X0 <- X1\n" (3 ∷ 5 ∷ 5 ∷ []) (0 ∷ 3 ∷ []) (Halted, 1) (Halted, 28)
    ∷ together "X0 <- X0 + 1\n" (2 ∷ []) (2 ∷ []) (Full, 0) (Full, 1)
    ∷ together "X0 <- X1\n" (5 ∷ 5 ∷ 2 ∷ []) (0 ∷ 3 ∷ []) (Halted, 1) (Full, 13)  -- capacities that rule 21 turns down
    ∷ together "loop X0\nendloop X0\n" (3 ∷ 3 ∷ 1 ∷ []) (2 ∷ []) (Halted, 3) (Full, 6)
    ∷ []

-- Its budgets: endless runs
unfoldable pub budgets : List Example
budgets =
    prints (bytes "while X0 != 0\nendwhile X0 != 0\n") (bytes "X0\n1\n")
    "source-end source-steps word-end word-steps X0\nspent 100000 spent 1000000 1\n"
    ∷ []

-- All of them
unfoldable pub results : List (List Example)
results =
    outputs ∷ programs ∷ paid ∷ notations ∷ digit_texts ∷ spelled_names ∷ ends ∷ loops ∷ word_ends ∷ word_steps ∷ values ∷ forms ∷ reports
    ∷ printed_runs ∷ printed_on ∷ primed_runs ∷ unequal ∷ budgets ∷ uneven_runs ∷ own_room ∷ []
