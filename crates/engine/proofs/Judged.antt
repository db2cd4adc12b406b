-- A table judged by rules 11, 13 and 14: what comes of it, rule by rule.
use Rattle.std.specs.Prelude.{Result, Ok, Err}
use mathlib.Core.Path.{◌≡◌, refl, sym, ◌∙◌}
use mathlib.Core.Bool.{true, false}
use mathlib.Core.Option.{Option, none, some}
use mathlib.Core.List.{List}
use Prim.Native.Nat.{ℕ}
use native.Mathlib.Omega.{arith}
use lib.ListN.{length}
use Rattle.theory.specs.Word.{Entry}
use Rattle.theory.specs.Machines.{Memory, count, is_memory}
use Rattle.theory.specs.TurnedDown.{answer, read_table, read_table_for, table_fault, rule_10, rule_15}
use Rattle.theory.specs.declared.Refusal.{Refusal}
use Rattle.word.specs.Answers.{read_answer}
use Rattle.memory.specs.declared.answers.Position.{Position}
use Rattle.memory.specs.Calls.{called, turned_down, after_10, table_called}
use Rattle.precedence.proofs.Refused.{refused_run}
use Rattle.rings.specs.Calls.{usable_table, usable_called}
use Rattle.engine.proofs.Accepted.{accepted_search}
use Rattle.engine.proofs.Answered.{table_for}

-- What an answer by rules 11, 13 and 14 says of the table
module _ (t : List Entry) (r : Result ℕ Refusal) (is : r ≡ read_answer (read_table t)) where
  answers : r ≡ read_answer (answer (table_fault t) t)
  unfolding read_table
  answers = is

  pub got_refused : (x : Refusal) → r ≡ Err x → table_fault t ≡ some x
  got_refused x e = go (table_fault t) (sym e ∙ answers)
    where
      go : (f : Option Refusal) → Err x ≡ read_answer (answer f t) → f ≡ some x
      go none z = let y : ◌≡◌ {A = ℕ} 0 1 = cc in absurd (omega arith)
      go (some x') z = cc

  pub got_done : (n : ℕ) → r ≡ Ok n → (table_fault t ≡ none) × (n ≡ length t)
  got_done n e = go (table_fault t) (sym e ∙ answers)
    where
      go : (f : Option Refusal) → Ok n ≡ read_answer (answer f t) → (f ≡ none) × (n ≡ length t)
      go none z = (refl, cc)
      go (some x) z = let y : ◌≡◌ {A = ℕ} 0 1 = cc in absurd (omega arith)

-- The answers of a run of a table

module _ (m : Memory) (p : Position) (budget : ℕ) (t : List Entry) where
  pub no_memory : is_memory m ≡ false → table_called m p budget t ≡ turned_down m p (record { number = 10; place = 0 })
  unfolding table_called rule_10
  no_memory h = rw h

  -- by a rule after 10
  pub table_refused : (r : Refusal) → table_fault t ≡ some r → table_called m p budget t ≡ turned_down m p (after_10 m r)
  unfolding table_called read_table_for
  table_refused r f = rw f (refused_run m p budget r)

  pub table-read : is_memory m ≡ true → table_fault t ≡ none → table_called m p budget t ≡ called m p budget (table_for (count m) t)
  unfolding table_called rule_10 read_table_for table_for
  table-read h f = rw (h, f)

  -- the run, which knows no rule but 10 and 15, answers as the table's does
  pub table-run : table_fault t ≡ none → usable_called m p budget t ≡ table_called m p budget t
  unfolding usable_called usable_table table_called read_table_for rule_15
  table-run f = rw (f, accepted_search (count m) t f)
