-- What the public calls hand back, by the definitions of crate theory: a run's answer with the lent memory then, and the value.
use Rattle.std.specs.Prelude.{◌≡◌, cond, List, ℕ, ◌+◌, length, take, Option, Some, None, Result, Ok, Err}
use Rattle.theory.specs.Text.{Bytes}
use Rattle.theory.specs.Runs.{Outcome}
use Rattle.theory.specs.Word as W
use Rattle.theory.specs.Word.{Entry, bytes_of}
use Rattle.theory.specs.Machines as M
use Rattle.theory.specs.Machines.{Memory, count, contents, refilled, is_memory, run_word, value_at}
use Rattle.theory.specs.TurnedDown.{Answer, done, refused, answer, run_on}
use Rattle.theory.specs.TurnedDown.{mapped, rule_10, instructions}
use Rattle.theory.specs.TurnedDown.{read_word_for, read_table_for}
use Rattle.theory.specs.declared.End.TheVariants as End
use Rattle.theory.specs.declared.Ended.{Ended}
use Rattle.theory.specs.declared.Refusal.{Refusal}
pub use Rattle.rule10.specs.Lent.{memory}
use Rattle.memory.specs.declared.answers.Position.{Position}
use Rattle.memory.specs.declared.answers.Run.{Run}

abbrev pub position : Position → M.Position
position p = record { place = p.place; steps = p.steps }

-- What a run hands back, and the lent memory then
pub record Called : Type 0 where
  pub run : Run
  pub store : Bytes
  pub lengths : List ℕ

abbrev pub handed : Run → Bytes → List ℕ → Called
handed r store lengths = record { run = r; store = store; lengths = lengths }

-- How a run ended, and where the machine stands then
abbrev pub moved_to : Position → Result Ended Refusal → Run
moved_to p e = record { position = p; ended = e }

-- A run that was done: the end and the steps taken, the place, the count of steps with those added, and the memory with the registers then
abbrev pub ran : Memory → Position → Outcome W.State → Called
ran m p o = record {
  run = record {
    position = record { place = o.state.place; steps = p.steps + o.steps };
    ended = Ok (record { end = o.end; steps = o.steps });
  };
  store = (refilled m o.state.registers).store;
  lengths = (refilled m o.state.registers).lengths;
}

-- A run that does no step, from a place outside
abbrev pub stands_outside : Position → Run
stands_outside p = record { position = p; ended = Ok (record { end = End.Strayed; steps = 0 }) }

-- "Nothing lent changes"
abbrev pub refused_at : Position → Refusal → Run
refused_at p r = record { position = p; ended = Err r }

abbrev pub turned_down : Memory → Position → Refusal → Called
turned_down m p r = record { run = refused_at p r; store = m.store; lengths = m.lengths }

abbrev pub answered : Memory → Position → Answer (Outcome W.State) → Called
answered m p (done o) = ran m p o
answered m p (refused r) = turned_down m p r

-- by the entries of a word or a table
abbrev pub called : Memory → Position → ℕ → Answer (List Entry) → Called
called m p budget word = answered m p (mapped (λ t. run_word (instructions t) m (position p) budget) word)

-- Of a call that another rule turns down: rule 10 goes before
abbrev pub after_10 : Memory → Refusal → Refusal
after_10 m r = cond (is_memory m) r (record { number = 10; place = 0 })

-- A run of a word: rule 10, then 11 to 15
unfoldable pub word_called : Memory → Position → ℕ → Bytes → Called
word_called m p budget word = answered m p (run_on m (position p) budget (read_word_for (count m) word))

-- A run of a table: rule 10, then 11, 13, 14 and 15 as for tables
unfoldable pub table_called : Memory → Position → ℕ → List Entry → Called
table_called m p budget t = answered m p (run_on m (position p) budget (read_table_for (count m) t))

-- The value of a halted word: rule 10, and then by what the registers hold. Nothing is told of the place
abbrev pub value_of : Memory → Answer M.Value
value_of m = mapped (λ n. value_at (count n) (contents n)) (answer (rule_10 m) m)

abbrev pub value_answer : Answer M.Value → Result (Option ℕ) Refusal
value_answer (done (M.valued xs)) = Ok (Some (length xs))
value_answer (done M.untidy) = Ok None
value_answer (refused r) = Err r

-- The answer, and what stands in as many of the store's first bytes
pub record Valued (m : Memory) (r : Result (Option ℕ) Refusal) : Type 0 where
  pub is : r ≡ value_answer (value_of m)
  pub bytes : (n : ℕ) → r ≡ Ok (Some n) → take n m.store ≡ bytes_of (contents m 1)
