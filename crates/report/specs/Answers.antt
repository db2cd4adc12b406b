-- What the report's entry hands back: the number of bytes of the text, or the refusal.
use Rattle.theory.specs.declared.Refusal.{Refusal}
use Rattle.std.specs.Prelude.{List, ℕ, length, Result, Ok, Err}
use Rattle.theory.specs.Text.{Bytes}
use Rattle.theory.specs.TurnedDown.{Answer, done, refused, lend}
use Rattle.theory.specs.RunTool as RunTool

abbrev pub reported : Answer Bytes → Result ℕ Refusal
reported (done t) = Ok (length t)
reported (refused r) = Err r

-- The report of a program's text and a sheet on registers of these capacities, for a lent output: 19 where the output is too short
unfoldable pub report_into : Bytes → List ℕ → Bytes → Bytes → Answer Bytes
report_into lent capacities text sheet = lend lent (done (RunTool.report_on capacities text sheet))
