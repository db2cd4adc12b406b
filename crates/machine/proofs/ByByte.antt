-- A table's answers as those of the word that it spells.
use Rattle.std.specs.Prelude.{Result, Ok, Err}
use Rattle.theory.specs.declared.Refusal.{Refusal}
use mathlib.Core.Path.{◌≡◌, refl, ap, ◌∙◌}
use mathlib.Core.Bool.{Bool, true, false}
use mathlib.Core.Option.{Option, none, some}
use mathlib.Core.List.{List}
use Prim.Native.Nat.{ℕ}
use lib.ListN.{take}
use Rattle.theory.specs.Word.{Entry}
use Rattle.theory.specs.Machines.{Memory, count, is_memory}
use Rattle.theory.specs.TurnedDown.{done, refused, rule_10, table_fault, total, for_machine}
use Rattle.memory.specs.declared.answers.Position.{Position}
use Rattle.theory.specs.declared.Ended.{Ended}
use Rattle.memory.specs.declared.answers.Run.{Run}
use Rattle.memory.specs.Calls.{Called, called, handed, moved_to, table_called}
use Rattle.engine.proofs.Rule15.{first_lacking}
use Rattle.engine.proofs.Accepted.{no_rule_15, rule_15-at}
use Rattle.engine.proofs.Answered.{table-lacks, table-passes}
use Rattle.engine.proofs.Judged.{no_memory, table-read}
use Rattle.machine.specs.ByByte.{word_for, by_byte}

abbrev pub ended-by_byte : List Entry → Result Ended Refusal → Result Ended Refusal
ended-by_byte t (Ok e) = Ok e
ended-by_byte t (Err r) = Err (by_byte t r)

abbrev pub called-by_byte : List Entry → Called → Called
called-by_byte t c = handed (moved_to c.run.position (ended-by_byte t c.run.ended)) c.store c.lengths

module _ (registers : ℕ) (t : List Entry) where
  word-lacks : (i : ℕ) → first_lacking registers t ≡ some i → word_for registers t ≡ refused
      (record { number = 15; place = total (take i t) })
  unfolding word_for
  word-lacks i h = rw (rule_15-at registers t i h)

  word-passes : first_lacking registers t ≡ none → word_for registers t ≡ done t
  unfolding word_for
  word-passes h = rw (no_rule_15 registers t h)

pub word_by_table : (m : Memory) (p : Position) (budget : ℕ) (t : List Entry) → table_fault t ≡ none
    → called-by_byte t (table_called m p budget t) ≡ called m p budget (for_machine m (word_for (count m) t))
unfolding rule_10
word_by_table m p budget t f = go (is_memory m) refl (first_lacking (count m) t) refl
  where
    go : (b : Bool) → is_memory m ≡ b → (o : Option ℕ) → first_lacking (count m) t ≡ o
        → called-by_byte t (table_called m p budget t) ≡ called m p budget (for_machine m (word_for (count m) t))
    go false h o e = rw (no_memory m p budget t h, h)
    go true h none e = rw (table-read m p budget t h f, table-passes (count m) t e, word-passes (count m) t e, h)
    go true h (some i) e = rw (table-read m p budget t h f, table-lacks (count m) t i e, word-lacks (count m) t i e, h)

-- What the run of a table handed back, its end told as that of the word
pub ran_by_table : (m : Memory) (p : Position) (budget : ℕ) (t : List Entry) → table_fault t ≡ none → (run : Run) (store lengths : List ℕ)
    → handed run store lengths ≡ table_called m p budget t → (e : Result Ended Refusal) → run.ended ≡ e
    → handed (moved_to run.position (ended-by_byte t e)) store lengths ≡ called m p budget (for_machine m (word_for (count m) t))
ran_by_table m p budget t f run store lengths h e q = rw (← q) (ap (called-by_byte t) h ∙ word_by_table m p budget t f)
