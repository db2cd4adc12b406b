-- What the entry hands back, for every table: the run of one that the machine can do, and else a refusal.
use Rattle.std.specs.Prelude.{List, ℕ}
use Rattle.theory.specs.Basics.{and_then}
use Rattle.theory.specs.Word.{Entry}
use Rattle.theory.specs.Machines.{Memory, count}
use Rattle.theory.specs.TurnedDown.{Answer, answer, refuse, run_on}
use Rattle.memory.specs.declared.answers.Position.{Position}
use Rattle.memory.specs.Calls.{Called, position, answered}
use Rattle.usable.specs.Usable.{first_unusable}

-- Refused by rule 15 at the first entry that the machine cannot do, whatever keeps it from it
unfoldable pub usable_table : ℕ → List Entry → Answer (List Entry)
usable_table registers t = answer (and_then (first_unusable registers t) (refuse 15)) t

-- A run: rule 10, then 15 in this sense
unfoldable pub usable_called : Memory → Position → ℕ → List Entry → Called
usable_called m p budget t = answered m p (run_on m (position p) budget (usable_table (count m) t))
