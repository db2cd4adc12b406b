-- The answers of a run of a word, by what came of reading it.
use mathlib.Core.Path.{◌≡◌, sym, ◌∙◌}
use mathlib.Core.Option.{none, some}
use mathlib.Core.List.{List}
use Prim.Native.Nat.{ℕ}
use lib.ListN.{take}
use Rattle.theory.specs.Text.{Bytes}
use Rattle.theory.specs.Machines.{Memory, count}
use Rattle.theory.specs.TurnedDown.{word_fault, word_entries, read_word_for, for_machine}
use Rattle.theory.specs.declared.Refusal.{Refusal}
use Rattle.word.specs.Answers.{zipped}
use Rattle.word.proofs.ReadWhole.{Got}
use Rattle.memory.specs.declared.answers.Position.{Position}
use Rattle.memory.specs.Calls.{Called, called, turned_down, after_10, word_called}
use Rattle.precedence.proofs.Refused.{refused_run}
use Rattle.machine.specs.ByByte.{word_for}

module _ (m : Memory) (p : Position) (budget : ℕ) (w : Bytes) where
  pub word_refused : (r : Refusal) → word_fault w ≡ some r → word_called m p budget w ≡ turned_down m p (after_10 m r)
  unfolding word_called read_word_for
  word_refused r f = rw f (refused_run m p budget r)

  pub word_read : word_fault w ≡ none
      → word_called m p budget w ≡ called m p budget (for_machine m (word_for (count m) (word_entries w)))
  unfolding word_called read_word_for word_for
  word_read f = rw f

  pub word-ran : {n : ℕ} {kinds operands : List ℕ} → Got w n kinds operands → {c : Called}
      → c ≡ called m p budget (for_machine m (word_for (count m) (zipped (take n kinds) (take n operands)))) → c ≡ word_called m p budget w
  word-ran got h = h ∙ rw got.table (sym (word_read got.passes))
