-- What stands at a limit, or one past it, at its full size. The kinds of example are those of crate `readings`; the proof, by computation,
-- is in proofs/LargestHold.
use Rattle.std.specs.Prelude.{List, [], ◌∷◌, ◌++◌, ℕ, replicate}
use Rattle.theory.specs.Basics.{EachOf}
use Rattle.theory.specs.Text.{Bytes, bytes, LF}
use Rattle.theory.specs.ProgramText.{plain, increment, spelling}
use Rattle.theory.specs.TurnedDown.{refuse}
use Rattle.readings.specs.Example.{Example, text, word, entries, machine, sheet, prints, Holds, times, primed, passes, entry}
use Rattle.readings.specs.Results.{header}

-- Texts of 16,384 bytes and one more, rules 2 and 1
unfoldable pub texts : List Example
texts =
    text (replicate 16383 LF ++ bytes "z") (refuse 2 16384)  -- the place of 2 is not bounded by 513
    ∷ text (replicate 16385 0) (refuse 1 0)
    ∷ []

-- Names of as many primes as a text has room for and one more, rules 5 and 1; and a program that is short enough in digits alone
unfoldable pub primes : List Example
primes =
    text (primed 16377 " <- 0\n") (refuse 5 1)
    ∷ text (primed 16378 " <- 0\n") (refuse 1 0)
    ∷ text (times 512 (primed 31 " <- 0\n")) (refuse 1 0)
    ∷ text (times 512 (bytes "X31 <- 0\n")) passes
    ∷ []

-- Words of 8,192 instructions and one more, rule 14
unfoldable pub words : List Example
words =
    word (times 8192 (bytes "1#")) passes
    ∷ word (times 8193 (bytes "1#")) (refuse 14 16384)
    ∷ word (times 8193 (bytes "1#") ++ bytes "1") (refuse 13 16387)  -- 13 before 14
    ∷ machine 1 (bytes "11#" ++ times 8192 (bytes "1#")) (refuse 14 16385)  -- 14 before 15
    ∷ []

-- Tables of as many
unfoldable pub tables : List Example
tables =
    entries (replicate 8193 (entry 0 0)) (refuse 13 0)  -- a sum of 0 is not 11
    ∷ entries (replicate 8192 (entry 1 1)) passes
    ∷ entries (replicate 8193 (entry 1 1)) (refuse 14 8192)
    ∷ entries (replicate 8193 (entry 1 1) ++ (entry 0 1 ∷ [])) (refuse 13 8193)  -- 13 anywhere before 14
    ∷ []

-- Sheets of 4,096 bytes and one more, rule 16
unfoldable pub sheets : List Example
sheets =
    sheet 0 (replicate 4096 LF) passes  -- 4,095 runs
    ∷ sheet 0 (replicate 4097 LF) (refuse 16 0)
    ∷ []

-- A program whose word has 65,526 + i symbols, i from 0 to 31: 263 copies of 249 each, an increment of 33, and one of i + 2
abbrev pub long : ℕ → Bytes
long i = times 263 (bytes "X31 <- X30\n") ++ (bytes "X31 <- X31 + 1\n" ++ (spelling (plain (increment i)) ++ bytes "\n"))

-- Words of 65,536 symbols and one more in the run tool, rule 19
unfoldable pub reports : List Example
reports =
    prints (long 10) (bytes "\n") header
    ∷ prints (long 11) (bytes "\n") "refused 19 0\n"  -- also without runs
    ∷ prints (long 11) (bytes "X0\n1025\n") "refused 18 2\n"  -- 18 before 19
    ∷ []

unfoldable pub largest : List (List Example)
largest = texts ∷ primes ∷ words ∷ tables ∷ sheets ∷ reports ∷ []

abbrev pub LargestHold : Type 0
LargestHold = EachOf (EachOf Holds) largest
