-- What is turned down, and with what: an example for each place of the rules that is easily misread, or that nothing else holds.
use Rattle.std.specs.Prelude.{List, [], ◌∷◌, ◌++◌, replicate}
use Rattle.theory.specs.Limits
use Rattle.theory.specs.Basics.{cells}
use Rattle.theory.specs.Text.{bytes, LF}
use Rattle.theory.specs.RunSheet as H
use Rattle.theory.specs.TurnedDown.{refuse}
use Rattle.readings.specs.Example.{Example, text, list, lesson, list_lesson, word, entries, machine, table, source, memory}
use Rattle.readings.specs.Example.{sheet, sheet_with, names, numbers, times, primed, passes, entry, state, fresh, nested}
use Rattle.readings.specs.Example.{loop_in_while, fitting, unlike, uneven, all_empty, nested_unlike, register, empty, several}

-- The limits, in the order of Limits
unfoldable pub limits : List Example
limits =
    numbers
    (Limits.most_bytes ∷ Limits.most_lines ∷ Limits.most_index ∷ Limits.most_open ∷ Limits.state_values ∷ Limits.state_passes
    ∷ Limits.most_symbols ∷ Limits.most_instructions ∷ Limits.most_registers ∷ Limits.most_capacity ∷ Limits.last_count
    ∷ Limits.most_sheet_bytes ∷ Limits.tool_registers ∷ Limits.tool_capacity ∷ Limits.tool_source_budget ∷ Limits.tool_word_budget
    ∷ Limits.tool_word_bytes ∷ [])
    (16384 ∷ 512 ∷ 31 ∷ 16 ∷ 32 ∷ 16 ∷ 600000 ∷ 8192 ∷ 64 ∷ 1024 ∷ 4294967295 ∷ 4096 ∷ 64 ∷ 1024 ∷ 100000 ∷ 1000000 ∷ 65536 ∷ [])
    ∷ []

-- Rules 1 to 3, and empty lines
unfoldable pub texts : List Example
texts =
    text [] passes
    ∷ text (bytes "X0 <- 0") (refuse 2 1)  -- the last line has no LF
    ∷ text (bytes "z") (refuse 2 1)
    ∷ text (bytes "X0 <- 0\t") (refuse 2 1)
    ∷ text (replicate 513 LF ++ bytes "z") (refuse 2 514)  -- 2 before 3, its place not bounded
    ∷ text (replicate 600 LF) (refuse 3 513)  -- 3 before 4, its place fixed
    ∷ text (bytes "\n") (refuse 4 1)  -- an empty line is no spelling
    ∷ text (bytes "X0 <- 0\n\n") (refuse 4 2)
    ∷ []

-- Rules 4 and 5 in one line
unfoldable pub spellings : List Example
spellings =
    text (bytes "X99999999999999999999 <- 0\n") (refuse 5 1)  -- an index of any number of digits
    ∷ text (bytes "X4294967296 <- 0\n") (refuse 5 1)
    ∷ text (bytes "X18446744073709551616 <- 0\n") (refuse 5 1)
    ∷ text (bytes "X99999999999999999999 <- X99999999999999999998 + 1\n") (refuse 4 1)  -- names are compared as names
    ∷ text (bytes "X99999999999999999999 <- X99999999999999999999 + 1\n") (refuse 5 1)
    ∷ text (bytes "X32 <- X33 + 1\n") (refuse 4 1)
    ∷ text (bytes "X32 <- X032\n") (refuse 4 1)
    ∷ text (bytes "X032 <- X32\n") (refuse 4 1)
    ∷ text (bytes "X0 <- X32\n") (refuse 5 1)  -- a copy names both
    ∷ text (bytes "moop X0\n") (refuse 4 1)  -- every byte is compared
    ∷ text (bytes "X0 =- 0\n") (refuse 4 1)
    ∷ text (bytes "Y0 <- 0\n") (refuse 4 1)
    ∷ text (bytes "x0 <- 0\n") (refuse 4 1)
    ∷ []

-- Lines that are almost a spelling: only LF ends a line, and every other byte belongs to it
unfoldable pub almost : List Example
almost =
    text (bytes "X3 <- X3 \n") (refuse 4 1)
    ∷ text (bytes "X3 <- X3 +\n") (refuse 4 1)
    ∷ text (bytes "X3 <- X3 + 1 \n") (refuse 4 1)
    ∷ text (bytes "XX0 <- 0\n") (refuse 4 1)
    ∷ text (bytes "X0 <-  0\n") (refuse 4 1)
    ∷ text (bytes "while X0\n") (refuse 4 1)
    ∷ text (bytes "loop X0 != 0\n") (refuse 4 1)
    ∷ text (bytes "X0 <- 0\r\n") (refuse 4 1)
    ∷ text (bytes "X0 <- 0\tX0 <- 0\n") (refuse 4 1)
    ∷ text (bytes "X0 <- 0\0\n") (refuse 4 1)
    ∷ text (128 ∷ LF ∷ []) (refuse 4 1)
    ∷ []

-- Rules 6 to 8 and the order of lines
unfoldable pub pairs : List Example
pairs =
    text (bytes "endloop X0\nzzz\n") (refuse 7 1)  -- line by line, not rule by rule
    ∷ text (bytes "endloop X32\n") (refuse 5 1)  -- in a line the lower number
    ∷ text (times 16 (bytes "loop X0\n") ++ bytes "loop X32\n") (refuse 5 17)
    ∷ text (times 16 (bytes "loop X0\n") ++ bytes "loop X01\n") (refuse 4 17)
    ∷ text (times 16 (bytes "loop X0\n") ++ bytes "while X0 != 0\n") (refuse 6 17)
    ∷ text (times 16 (bytes "while X0 != 0\n") ++ times 16 (bytes "endwhile X0 != 0\n")) passes
    ∷ text (times 17 (bytes "loop X0\nendloop X0\n")) passes  -- closed again, a pair counts no more
    ∷ text (bytes "loop X0\nwhile X1 != 0\n") (refuse 8 2)  -- the innermost that is left open
    ∷ text (bytes "loop X0\nzzz\n") (refuse 4 2)  -- 8 after every line
    ∷ text (bytes "while X0 != 0\nendloop X0\n") (refuse 7 2)
    ∷ text (bytes "loop X0\nendwhile X0 != 0\n") (refuse 7 2)
    ∷ text (bytes "loop X0\nendloop X1\n") (refuse 7 2)
    ∷ []

-- "A variable may now be spelled as X and its index in primes": rules 4 and 5 in a name
unfoldable pub primes : List Example
primes =
    text (bytes "X''' <- 0\n") passes
    ∷ text (bytes "X <- 0\n") passes  -- "a bare X is index 0"
    ∷ text (bytes "X3' <- 0\n") (refuse 4 1)
    ∷ text (bytes "X0' <- 0\n") (refuse 4 1)
    ∷ text (bytes "X'3 <- 0\n") (refuse 4 1)
    ∷ text (bytes "X'0 <- 0\n") (refuse 4 1)
    ∷ text (bytes "X00 <- 0\n") (refuse 4 1)  -- improper digits are no bare X
    ∷ text (bytes "X32' <- 0\n") (refuse 4 1)  -- 4 before 5
    ∷ text (bytes "X ' <- 0\n") (refuse 4 1)
    ∷ text (bytes "X\" <- 0\n") (refuse 4 1)  -- two primes are two bytes, each an apostrophe
    ∷ text (88 ∷ 226 ∷ 128 ∷ 178 ∷ bytes " <- 0\n") (refuse 4 1)
    ∷ []

-- "more than 31 primes is 5"; "One line … may spell their variable both ways", and it is one variable by its index, of any size
unfoldable pub primed_lines : List Example
primed_lines =
    text (primed 31 " <- 0\n") passes
    ∷ text (primed 32 " <- 0\n") (refuse 5 1)
    ∷ text (bytes "X <- " ++ primed 32 "\n") (refuse 5 1)
    ∷ text (bytes "X3 <- X''' + 1\n") passes
    ∷ text (bytes "X''' <- X3 + 1\n") passes
    ∷ text (bytes "X <- X0 + 1\n") passes
    ∷ text (bytes "X3 <- X'' + 1\n") (refuse 4 1)
    ∷ text (bytes "X40 <- " ++ primed 40 " + 1\n") (refuse 5 1)
    ∷ text (bytes "X40 <- " ++ primed 41 " + 1\n") (refuse 4 1)
    ∷ text (primed 40 " <- X40 + 1\n") (refuse 5 1)
    ∷ text (primed 41 " <- X40 + 1\n") (refuse 4 1)
    ∷ text (primed 40 " <- " ++ primed 41 " + 1\n") (refuse 4 1)
    ∷ []

-- "or the two lines of a pair"
unfoldable pub primed_pairs : List Example
primed_pairs =
    text (bytes "loop X''\nendloop X2\n") passes
    ∷ text (bytes "loop X2\nendloop X''\n") passes
    ∷ text (bytes "loop X\nendloop X0\n") passes
    ∷ text (bytes "while X'' != 0\nendwhile X2 != 0\n") passes
    ∷ text (bytes "while X0 != 0\nendwhile X != 0\n") passes
    ∷ text (bytes "loop X''\nendloop X3\n") (refuse 7 2)
    ∷ text (bytes "loop X2\nendloop X'''\n") (refuse 7 2)
    ∷ text (bytes "while X != 0\nendwhile X1 != 0\n") (refuse 7 2)
    ∷ text (bytes "endloop " ++ primed 32 "\n") (refuse 5 1)  -- in a line the lower number
    ∷ text (bytes "loop X3'\n") (refuse 4 1)
    ∷ lesson (bytes "loop X'\nendloop X1\n") passes passes
    ∷ lesson (bytes "while X' != 0\nendwhile X1 != 0\n") passes (refuse 20 1)
    ∷ []

-- "in a names line 16 and 17"; "`X1` and `X'` in one names line come twice"
unfoldable pub primed_names : List Example
primed_names =
    sheet 2 (bytes "X'\n") passes
    ∷ sheet 1 (bytes "X'\n") (refuse 17 1)
    ∷ sheet 1 (bytes "X\n") passes
    ∷ sheet 0 (bytes "X\n") (refuse 17 1)
    ∷ sheet 32 (bytes "X3'\n") (refuse 16 1)
    ∷ sheet 32 (bytes "X'3\n") (refuse 16 1)
    ∷ sheet 32 (primed 31 "\n") passes
    ∷ sheet 32 (primed 32 "\n") (refuse 17 1)
    ∷ sheet 2 (bytes "X1 X'\n") (refuse 17 1)
    ∷ sheet 2 (bytes "X X0\n") (refuse 17 1)
    ∷ sheet 2 (bytes "X' X\n") passes
    ∷ sheet 2 (bytes "X '\n") (refuse 16 1)
    ∷ []

-- A value is no index, and has no primes
unfoldable pub primed_values : List Example
primed_values =
    sheet 2 (bytes "X'\n'''\n") (refuse 16 2)
    ∷ sheet 2 (bytes "X'\nX'\n") (refuse 16 2)
    ∷ sheet 2 (bytes "X'\n1'\n") (refuse 16 2)
    ∷ sheet 2 (bytes "X'\n1\n") passes
    ∷ []

-- Lists of numbers handed in
unfoldable pub lists : List Example
lists =
    list (times 512 (1 ∷ 0 ∷ 0 ∷ [])) passes
    ∷ list (replicate 1537 0) (refuse 3 513)  -- a command cut short is counted
    ∷ list (1 ∷ 0 ∷ 0 ∷ 1 ∷ 0 ∷ []) (refuse 4 2)
    ∷ list (1 ∷ 0 ∷ 0 ∷ 1 ∷ []) (refuse 4 2)
    ∷ list (1 ∷ 32 ∷ 0 ∷ 1 ∷ []) (refuse 5 1)  -- after earlier lines
    ∷ list (0 ∷ 0 ∷ 0 ∷ []) (refuse 4 1)
    ∷ list (8 ∷ 0 ∷ 0 ∷ []) (refuse 4 1)
    ∷ list (1 ∷ 32 ∷ 1 ∷ []) (refuse 4 1)
    ∷ list (3 ∷ 0 ∷ 32 ∷ []) (refuse 5 1)
    ∷ list (1 ∷ 4294967295 ∷ 0 ∷ []) (refuse 5 1)
    ∷ names "X5 <- 0\nX2 <- X2 + 1\nX1 <- X3\n" ((5 ∷ []) ∷ (2 ∷ []) ∷ (1 ∷ 3 ∷ []) ∷ [])  -- a third number 0 is no name
    ∷ names "loop X3\nendloop X3\nwhile X4 != 0\nendwhile X4 != 0\n" ((3 ∷ []) ∷ (3 ∷ []) ∷ (4 ∷ []) ∷ (4 ∷ []) ∷ [])
    ∷ []

-- Rule 20 in one line, outside the LOOP-only setting and under it: after 4 and 5, before 6 and 7
unfoldable pub lessons : List Example
lessons =
    lesson (bytes "loop X0\nX0 <- X0 + 1\nendloop X0\n") passes passes
    ∷ lesson (bytes "while X0 != 0\nendwhile X0 != 0\n") passes (refuse 20 1)
    ∷ lesson (bytes "while X0\n") (refuse 4 1) (refuse 4 1)
    ∷ lesson (bytes "while X32 != 0\n") (refuse 5 1) (refuse 5 1)
    ∷ lesson (bytes "endwhile X32 != 0\n") (refuse 5 1) (refuse 5 1)
    ∷ lesson (times 16 (bytes "loop X0\n") ++ bytes "while X0 != 0\n") (refuse 6 17) (refuse 20 17)
    ∷ lesson (bytes "endwhile X0 != 0\n") (refuse 7 1) (refuse 20 1)
    ∷ lesson (bytes "loop X0\nendwhile X0 != 0\n") (refuse 7 2) (refuse 20 2)
    ∷ lesson (times 17 (bytes "loop X0\n")) (refuse 6 17) (refuse 6 17)  -- `loop` lines by the other rules
    ∷ lesson (bytes "endloop X0\n") (refuse 7 1) (refuse 7 1)
    ∷ []

-- and with the rules of the text and of other lines: after 1 to 3, line by line with 4 to 7, before 8
unfoldable pub lesson_lines : List Example
lesson_lines =
    lesson (bytes "while X0 != 0") (refuse 2 1) (refuse 2 1)
    ∷ lesson (times 513 (bytes "while X0 != 0\n")) (refuse 3 513) (refuse 3 513)
    ∷ lesson (bytes "while X0 != 0\nzzz\n") (refuse 4 2) (refuse 20 1)
    ∷ lesson (bytes "zzz\nwhile X0 != 0\n") (refuse 4 1) (refuse 4 1)
    ∷ lesson (bytes "endloop X0\nwhile X0 != 0\n") (refuse 7 1) (refuse 7 1)
    ∷ lesson (bytes "while X0 != 0\n") (refuse 8 1) (refuse 20 1)
    ∷ lesson (bytes "loop X0\nwhile X1 != 0\n") (refuse 8 2) (refuse 20 2)
    ∷ lesson (bytes "loop X0\n") (refuse 8 1) (refuse 8 1)
    ∷ []

-- The same of lists
unfoldable pub list_lessons : List Example
list_lessons =
    list_lesson (4 ∷ 0 ∷ 0 ∷ 5 ∷ 0 ∷ 0 ∷ []) passes passes
    ∷ list_lesson (6 ∷ 0 ∷ 0 ∷ 7 ∷ 0 ∷ 0 ∷ []) passes (refuse 20 1)
    ∷ list_lesson (6 ∷ 0 ∷ 1 ∷ []) (refuse 4 1) (refuse 4 1)
    ∷ list_lesson (6 ∷ 32 ∷ 0 ∷ []) (refuse 5 1) (refuse 5 1)
    ∷ list_lesson (7 ∷ 0 ∷ 0 ∷ []) (refuse 7 1) (refuse 20 1)
    ∷ list_lesson (6 ∷ 0 ∷ 0 ∷ []) (refuse 8 1) (refuse 20 1)
    ∷ list_lesson (1 ∷ 0 ∷ 0 ∷ 6 ∷ 0 ∷ []) (refuse 4 2) (refuse 4 2)  -- a command cut short is no `while`
    ∷ []

-- Words, rules 11 to 14
unfoldable pub words : List Example
words =
    word [] (refuse 11 0)
    ∷ word (bytes "#2") (refuse 12 1)  -- 12 before 13
    ∷ word (bytes "1#\n") (refuse 12 2)
    ∷ word (bytes "1######1") (refuse 13 6)  -- the sixth #
    ∷ word (bytes "1#######") (refuse 13 6)
    ∷ word (bytes "#1") (refuse 13 0)
    ∷ word (bytes "11#1") (refuse 13 4)  -- the length
    ∷ word (bytes "1#####11######") (refuse 13 13)
    ∷ []

-- Tables, rules 11, 13 and 14
unfoldable pub tables : List Example
tables =
    entries [] (refuse 11 0)
    ∷ entries (entry 5 599995 ∷ []) passes
    ∷ entries (entry 5 599996 ∷ []) (refuse 11 0)
    ∷ entries (entry 4000000000 1 ∷ []) (refuse 11 0)  -- the sum first, of whatever is there
    ∷ entries (entry 1 18446744073709551615 ∷ entry 1 1 ∷ []) (refuse 11 0)
    ∷ entries (entry 1 0 ∷ []) (refuse 13 0)
    ∷ entries (entry 1 1 ∷ entry 6 1 ∷ []) (refuse 13 1)
    ∷ []

-- Words and tables on a machine, rule 15
unfoldable pub machines : List Example
machines =
    machine 1 (bytes "11#11####") (refuse 15 0)  -- an append to register 2 of 1
    ∷ machine 1 (bytes "1#11##") (refuse 15 2)
    ∷ machine 1 (bytes "1#11#####") (refuse 15 2)
    ∷ machine 2 (bytes "1#11#####") passes
    ∷ machine 1 (bytes "111###11####") passes  -- transfers name no register
    ∷ word (times 65 (bytes "1") ++ bytes "#") passes  -- without a machine no 15
    ∷ machine 64 (times 65 (bytes "1") ++ bytes "#") (refuse 15 0)
    ∷ table 1 (entry 3 2 ∷ entry 1 2 ∷ []) (refuse 15 1)
    ∷ table 1 (entry 1 2 ∷ entry 0 1 ∷ []) (refuse 13 1)  -- 13 before 15
    ∷ table 1 (entry 1 1 ∷ entry 0 0 ∷ []) (refuse 13 1)  -- an entry that was not filled
    ∷ []

-- Source states, rule 9: line and passes left
unfoldable pub places : List Example
places =
    source nested (state 9 1 (9 ∷ []) []) passes
    ∷ source nested (state 9 2 (9 ∷ []) (1 ∷ [])) passes  -- inside the first loop, at the `loop` line of the second
    ∷ source nested (state 9 3 (9 ∷ []) (9 ∷ 1 ∷ [])) passes  -- an `endloop` line is held by its loop
    ∷ source nested (state 9 5 (9 ∷ []) []) passes  -- the line after the last
    ∷ source nested (state 9 6 (9 ∷ []) []) (refuse 9 0)
    ∷ source nested (state 9 0 (9 ∷ []) []) (refuse 9 0)
    ∷ source nested (state 9 2 (9 ∷ []) (1 ∷ 1 ∷ [])) (refuse 9 0)  -- nonzero for a loop that does not hold the line
    ∷ source nested (state 9 5 (9 ∷ []) (1 ∷ [])) (refuse 9 0)
    ∷ source nested (state 9 3 (9 ∷ []) (1 ∷ [])) (refuse 9 0)
    ∷ source nested (state 9 2 (9 ∷ []) (10 ∷ [])) (refuse 9 0)
    ∷ source loop_in_while (state 9 3 (9 ∷ []) (1 ∷ [])) passes  -- WHILEs are not counted
    ∷ source loop_in_while (state 9 5 (9 ∷ []) (1 ∷ [])) (refuse 9 0)
    ∷ []

-- Source states, rule 9: capacity, values, and what is not checked
unfoldable pub states : List Example
states =
    source nested (state 9 1 (10 ∷ []) []) (refuse 9 0)
    ∷ source nested (state 9 1 (0 ∷ 1 ∷ []) []) (refuse 9 0)  -- a value at index K or higher
    ∷ source "" (state 9 1 (1 ∷ []) []) (refuse 9 0)
    ∷ source "" (state 9 1 (replicate 31 0 ++ (1 ∷ [])) []) (refuse 9 0)
    ∷ source "" (state 9 1 [] (replicate 15 0 ++ (1 ∷ []))) (refuse 9 0)
    ∷ source nested (state 0 1 [] []) (refuse 9 0)
    ∷ source nested (state 1 1 [] []) passes
    ∷ source nested (state 1024 1 [] []) passes
    ∷ source nested (state 1025 1 [] []) (refuse 9 0)
    ∷ source "" (fresh 9 4294967295 []) passes  -- any count of steps
    ∷ []

-- Source states, rule 9: "Rules 9, 10 and 18 read each capacity, 9 only those of variables below K"
unfoldable pub variable_capacities : List Example
variable_capacities =
    source "" (state 0 1 [] []) passes  -- none is read
    ∷ source "" (state 1025 1 [] []) passes
    ∷ source "X1 <- 0\n" (unlike (2 ∷ 5 ∷ 0 ∷ []) 1 (2 ∷ 5 ∷ []) []) passes  -- K is 2, and variable 2's is not read
    ∷ source "X1 <- 0\n" (unlike (2 ∷ 5 ∷ 1025 ∷ []) 1 (2 ∷ 5 ∷ []) []) passes
    ∷ source "X1 <- 0\n" (unlike (2 ∷ 0 ∷ 5 ∷ []) 1 [] []) (refuse 9 0)  -- variable 1's is
    ∷ source "X1 <- 0\n" (unlike (0 ∷ 5 ∷ 5 ∷ []) 1 [] []) (refuse 9 0)  -- and variable 0's, which no line names
    ∷ source "X1 <- 0\n" (unlike (2 ∷ 1025 ∷ 5 ∷ []) 1 [] []) (refuse 9 0)
    ∷ source "X1 <- 0\n" (unlike (2 ∷ 5 ∷ []) 1 (3 ∷ []) []) (refuse 9 0)  -- a value above its own variable's
    ∷ source "X1 <- 0\n" (unlike (5 ∷ 2 ∷ []) 1 (5 ∷ 3 ∷ []) []) (refuse 9 0)
    ∷ source "X1 <- 0\n" (unlike (2 ∷ 5 ∷ 9 ∷ []) 1 (0 ∷ 0 ∷ 1 ∷ []) []) (refuse 9 0)  -- a value at index K
    ∷ []

-- "and for a passes-left that of its loop's variable": of the outer loop X1, of the inner X0, with a `while` between them
unfoldable pub loop_capacities : List Example
loop_capacities =
    source nested_unlike (unlike (2 ∷ 5 ∷ 9 ∷ []) 4 [] (5 ∷ 2 ∷ [])) passes
    ∷ source nested_unlike (unlike (2 ∷ 5 ∷ 9 ∷ []) 4 [] (6 ∷ 2 ∷ [])) (refuse 9 0)
    ∷ source nested_unlike (unlike (2 ∷ 5 ∷ 9 ∷ []) 4 [] (5 ∷ 3 ∷ [])) (refuse 9 0)
    ∷ source nested_unlike (unlike (5 ∷ 2 ∷ 9 ∷ []) 4 [] (2 ∷ 5 ∷ [])) passes
    ∷ source nested_unlike (unlike (5 ∷ 2 ∷ 9 ∷ []) 4 [] (3 ∷ 5 ∷ [])) (refuse 9 0)
    ∷ source nested_unlike (unlike (2 ∷ 5 ∷ 9 ∷ []) 3 [] (5 ∷ [])) passes  -- at the inner `loop` line
    ∷ source nested_unlike (unlike (2 ∷ 5 ∷ 9 ∷ []) 3 [] (6 ∷ [])) (refuse 9 0)
    ∷ source nested_unlike (unlike (2 ∷ 5 ∷ 9 ∷ []) 6 [] (5 ∷ [])) passes  -- at the outer `endloop` line
    ∷ source nested_unlike (unlike (2 ∷ 5 ∷ 9 ∷ []) 6 [] (6 ∷ [])) (refuse 9 0)
    ∷ []

-- Memories, rule 10: sizes
unfoldable pub memories : List Example
memories =
    memory (empty 64 1) passes
    ∷ memory (empty 65 1) (refuse 10 0)
    ∷ memory (empty 0 1) (refuse 10 0)
    ∷ memory (empty 1 1024) passes
    ∷ memory (empty 1 1025) (refuse 10 0)
    ∷ memory (empty 1 0) (refuse 10 0)
    ∷ memory (register 3 "1#\0\0" (2 ∷ [])) (refuse 10 0)  -- exactly all places
    ∷ memory (register 3 "1#" (2 ∷ [])) (refuse 10 0)
    ∷ memory (register 3 "1#\0" (2 ∷ 0 ∷ [])) (refuse 10 0)
    ∷ memory (register 3 "\0\0\0" []) (refuse 10 0)
    ∷ []

-- Memories, rule 10: "1 to 1,024, and the store is exactly their sum"
unfoldable pub uneven_sizes : List Example
uneven_sizes =
    memory (all_empty (3 ∷ 5 ∷ [])) passes
    ∷ memory (all_empty (1 ∷ 1024 ∷ [])) passes
    ∷ memory (all_empty (3 ∷ 0 ∷ [])) (refuse 10 0)  -- each of them
    ∷ memory (all_empty (0 ∷ 3 ∷ [])) (refuse 10 0)
    ∷ memory (all_empty (1 ∷ 1025 ∷ [])) (refuse 10 0)
    ∷ memory (all_empty (2 ∷ replicate 63 1)) passes
    ∷ memory (all_empty (2 ∷ replicate 64 1)) (refuse 10 0)
    ∷ memory (uneven (1 ∷ 2 ∷ []) "\0\0\0\0" (0 ∷ 0 ∷ [])) (refuse 10 0)
    ∷ memory (uneven (1 ∷ 2 ∷ []) "\0\0" (0 ∷ 0 ∷ [])) (refuse 10 0)
    ∷ memory (uneven (1 ∷ 2 ∷ []) "\0\0\0" (0 ∷ [])) (refuse 10 0)
    ∷ memory (uneven (1 ∷ 2 ∷ []) "\0\0\0" (0 ∷ 0 ∷ 0 ∷ [])) (refuse 10 0)
    ∷ []

-- Memories, rule 10: layout
unfoldable pub layouts : List Example
layouts =
    memory (register 3 "1#\0" (2 ∷ [])) passes
    ∷ memory (register 3 "1#1" (3 ∷ [])) passes
    ∷ memory (register 3 "1#\0" (1 ∷ [])) (refuse 10 0)  -- byte 0 after its symbols
    ∷ memory (register 3 "1#\0" (3 ∷ [])) (refuse 10 0)
    ∷ memory (register 3 "1##" (4 ∷ [])) (refuse 10 0)
    ∷ memory (register 3 "12\0" (2 ∷ [])) (refuse 10 0)
    ∷ memory (several 2 "1\0##" (1 ∷ 2 ∷ [])) passes  -- register 2 from byte 2
    ∷ memory (several 2 "1\0##" (2 ∷ 1 ∷ [])) (refuse 10 0)
    ∷ memory (several 2 "1###" (1 ∷ 2 ∷ [])) (refuse 10 0)
    ∷ memory (several 3 "1\0##12" (1 ∷ 2 ∷ 2 ∷ [])) (refuse 10 0)
    ∷ memory (uneven (3 ∷ 5 ∷ []) "1\0\0#1##\0" (1 ∷ 4 ∷ [])) passes  -- "the places following one another in register order"
    ∷ memory (uneven (5 ∷ 3 ∷ []) "1\0\0#1##\0" (1 ∷ 4 ∷ [])) (refuse 10 0)
    ∷ memory (uneven (3 ∷ 5 ∷ []) "1\0\0#1##\0" (4 ∷ 1 ∷ [])) (refuse 10 0)
    ∷ memory (uneven (3 ∷ 5 ∷ []) "1\0#\0\0\0\0\0" (1 ∷ 1 ∷ [])) (refuse 10 0)  -- a symbol in the neighbour's place
    ∷ memory (uneven (3 ∷ 5 ∷ []) "1111\0\0\0\0" (4 ∷ 0 ∷ [])) (refuse 10 0)
    ∷ memory (uneven (3 ∷ 5 ∷ []) "\0\0\011111" (0 ∷ 5 ∷ [])) passes
    ∷ []

-- Rule 21: each scratch or counter register that the word names, against the largest of all variables
unfoldable pub roomy : List Example
roomy =
    fitting "" [] passes  -- no variable, so nothing that the word names
    ∷ fitting "loop X0\nendloop X0\n" (5 ∷ 5 ∷ 5 ∷ []) passes
    ∷ fitting "loop X0\nendloop X0\n" (5 ∷ 5 ∷ 4 ∷ []) (refuse 21 0)  -- the counter
    ∷ fitting "loop X0\nendloop X0\n" (5 ∷ 4 ∷ 5 ∷ []) (refuse 21 0)  -- scratch
    ∷ fitting nested (5 ∷ 5 ∷ 5 ∷ 4 ∷ []) (refuse 21 0)  -- the counter of the inner loop
    ∷ fitting "loop X0\nendloop X0\nloop X0\nendloop X0\n" (5 ∷ 5 ∷ 5 ∷ 4 ∷ []) passes  -- which is not used here
    ∷ fitting "X0 <- X1\n" (5 ∷ 9 ∷ 5 ∷ []) (refuse 21 0)
    ∷ fitting "X0 <- X1\n" (9 ∷ 5 ∷ 5 ∷ []) (refuse 21 0)
    ∷ fitting "X0 <- X1\n" (5 ∷ 9 ∷ 9 ∷ []) passes  -- a copy uses no counter
    ∷ fitting "X0 <- X1\n" (9 ∷ 5 ∷ 9 ∷ []) passes  -- a variable may be short
    ∷ fitting "loop X0\nendloop X0\n" (5 ∷ 9 ∷ 5 ∷ []) passes  -- scratch is no variable
    ∷ fitting "X2 <- X0\n" (5 ∷ 9 ∷ 5 ∷ 5 ∷ []) (refuse 21 0)  -- a variable that no line names
    ∷ fitting "X0 <- X0\nX0 <- X0 + 1\nX0 <- 0\n" (5 ∷ 1 ∷ []) passes  -- no scratch
    ∷ fitting "while X0 != 0\nendwhile X0 != 0\n" (5 ∷ 1 ∷ []) passes
    ∷ []

-- Sheets: sizes and names
unfoldable pub sheets : List Example
sheets =
    sheet 2 [] (refuse 16 0)
    ∷ sheet 2 (bytes "X9") (refuse 16 0)  -- sizes first
    ∷ sheet 2 (bytes "X99 y\n") (refuse 16 1)  -- the whole line's shape first
    ∷ sheet 2 (bytes "X01\n") (refuse 16 1)
    ∷ sheet 2 (bytes "X0  X1\n") (refuse 16 1)
    ∷ sheet 2 (bytes " X0\n") (refuse 16 1)
    ∷ sheet 2 (bytes "X0 \n") (refuse 16 1)
    ∷ sheet 2 (bytes "X1X0\n") (refuse 16 1)
    ∷ sheet 2 (bytes "X0\tX1\n") (refuse 16 1)
    ∷ sheet 2 (bytes "1\n") (refuse 16 1)
    ∷ []

-- Sheets: names and their rule 17
unfoldable pub named : List Example
named =
    sheet 2 (bytes "X0 X1\n") passes
    ∷ sheet 2 (bytes "X2\n") (refuse 17 1)
    ∷ sheet 0 (bytes "X0\n") (refuse 17 1)
    ∷ sheet 2 (bytes "X99999999999999999999\n") (refuse 17 1)
    ∷ sheet 2 (bytes "X1 X1\n") (refuse 17 1)
    ∷ sheet 2 (bytes "X0 X1 X0\n") (refuse 17 1)
    ∷ sheet 3 (bytes "X0 X1 X1\n") (refuse 17 1)
    ∷ sheet 32 (times 33 (bytes "X0 ") ++ bytes "X1\n") (refuse 17 1)
    ∷ sheet 32 (times 33 (bytes "X0 ") ++ bytes "y\n") (refuse 16 1)
    ∷ sheet 2 (bytes "X2\nz\n") (refuse 17 1)  -- line by line
    ∷ numbers (cells 4 (H.start (2 ∷ 0 ∷ 1 ∷ []) (5 ∷ 6 ∷ 7 ∷ []))) (6 ∷ 7 ∷ 5 ∷ 0 ∷ [])  -- each name has its own value
    ∷ []

-- Sheets: lines of values
unfoldable pub lines : List Example
lines =
    sheet 2 (bytes "X1\n1025\nz\n") (refuse 18 2)  -- line by line
    ∷ sheet 2 (bytes "X1\n1024\nz\n") (refuse 16 3)
    ∷ sheet 2 (bytes "X1\n1025 z\n") (refuse 16 2)
    ∷ sheet 2 (bytes "X1\n0 1025\n") (refuse 16 2)
    ∷ sheet 2 (bytes "X1 X0\n0 1025\n") (refuse 18 2)
    ∷ sheet 2 (bytes "X1\n4294967296\n") (refuse 18 2)  -- a value of any number of digits
    ∷ sheet 2 (bytes "X1\n01\n") (refuse 16 2)
    ∷ sheet 2 (bytes "X1 X0\n1  2\n") (refuse 16 2)
    ∷ sheet 2 (bytes "X1\n1 \n") (refuse 16 2)
    ∷ sheet 2 (bytes "X1\n\n") (refuse 16 2)
    ∷ sheet 2 (bytes "\n7\n") (refuse 16 2)
    ∷ []

-- Sheets: each value against the capacity of the variable that its column names, of 3 for X0 and 5 for X1
unfoldable pub columned : List Example
columned =
    sheet_with 2 (3 ∷ 5 ∷ []) (bytes "X1 X0\n5 3\n") passes
    ∷ sheet_with 2 (3 ∷ 5 ∷ []) (bytes "X1 X0\n4 4\n") (refuse 18 2)
    ∷ sheet_with 2 (3 ∷ 5 ∷ []) (bytes "X1 X0\n6 3\n") (refuse 18 2)
    ∷ sheet_with 2 (3 ∷ 5 ∷ []) (bytes "X0 X1\n5 3\n") (refuse 18 2)
    ∷ sheet_with 2 (3 ∷ 5 ∷ []) (bytes "X0 X1\n3 5\n") passes
    ∷ sheet_with 2 (3 ∷ 5 ∷ []) (bytes "X1\n5\n6\n") (refuse 18 3)
    ∷ sheet_with 2 (3 ∷ 5 ∷ []) (bytes "X1 X0\n6\n") (refuse 16 2)  -- the whole line's count first
    ∷ sheet_with 2 (3 ∷ 5 ∷ []) (bytes "X1 X0\n6 3 0\n") (refuse 16 2)
    ∷ sheet_with 2 (3 ∷ 5 ∷ []) (bytes "X1 X0\n0 99999999999999999999\n") (refuse 18 2)
    ∷ sheet_with 2 (3 ∷ 5 ∷ []) (bytes "X2\n6\n") (refuse 17 1)
    ∷ []

-- All of them
unfoldable pub refusals : List (List Example)
refusals =
    limits ∷ texts ∷ spellings ∷ almost ∷ pairs ∷ primes ∷ primed_lines ∷ primed_pairs ∷ primed_names ∷ primed_values ∷ lists ∷ lessons
    ∷ lesson_lines ∷ list_lessons ∷ words ∷ tables ∷ machines ∷ places ∷ states ∷ memories ∷ layouts ∷ roomy ∷ sheets ∷ named ∷ lines
    ∷ columned ∷ uneven_sizes ∷ variable_capacities ∷ loop_capacities ∷ []
