-- The second table: the bench examples that are not marked P, the run tool's example, and an example for each place where the documents are
-- easily misread (Refusals, Results and Orders). The proof, by computation, is in proofs/ExamplesHold.
use Rattle.std.specs.Prelude.{List, [], ◌∷◌}
use Rattle.theory.specs.Basics.{EachOf}
use Rattle.theory.specs.Text.{bytes}
use Rattle.theory.specs.TurnedDown.{refuse}
use Rattle.readings.specs.Example.{Example, text, prints, Holds, times, passes}
use Rattle.readings.specs.Refusals.{refusals}
use Rattle.readings.specs.Results.{results}
use Rattle.readings.specs.Orders.{Answers, orders}

-- "`X31 <- 0` passes, `X32 <- 0` is 5, `X07 <- 0` and `X3 <- X4 + 1` are 4; 512 lines pass, 513 are 3"; the run tool's example
unfoldable pub bench : List Example
bench =
    text (bytes "X31 <- 0\n") passes
    ∷ text (bytes "X32 <- 0\n") (refuse 5 1)
    ∷ text (bytes "X07 <- 0\n") (refuse 4 1)
    ∷ text (bytes "X3 <- X4 + 1\n") (refuse 4 1)
    ∷ text (times 512 (bytes "X0 <- 0\n")) passes
    ∷ text (times 513 (bytes "X0 <- 0\n")) (refuse 3 513)
    ∷ prints (bytes "loop X1\nX0 <- X0 + 1\nendloop X1\n") (bytes "X1\n3\n0\n")
    "source-end source-steps word-end word-steps X0\nhalted 7 halted 37 3\nhalted 1 halted 7 0\n"
    ∷ []

abbrev pub ExamplesHold : Type 0
ExamplesHold = EachOf Holds bench × EachOf (EachOf Holds) refusals × EachOf (EachOf Holds) results × EachOf (EachOf Answers) orders
