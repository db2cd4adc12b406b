-- What a run from a source state that is lent as 82 numbers hands back.
use Rattle.std.specs.Prelude.{◌≡◌, cond, List, ℕ, length, eqb, Result}
use Rattle.theory.specs.ProgramText.{Command}
use Rattle.theory.specs.Runs.{Outcome}
use Rattle.theory.specs.Source as S
use Rattle.theory.specs.TurnedDown.{Answer, done, refused, after, run_from}
use Rattle.source_state.specs.Answers.{source_state, ended_by, state_by, moved_by}
use Rattle.theory.specs.declared.Ended.{Ended}
use Rattle.theory.specs.declared.Refusal.{Refusal}
use Rattle.state_numbers.specs.Numbers.{state_numbers, state_of, numbers_of}

-- A program run from the numbers lent: another number of them is rule 9, as what they say is
unfoldable pub run_numbers : List ℕ → ℕ → List Command → Answer (Outcome S.State)
run_numbers l budget p =
    cond (eqb (length l) state_numbers)
    (run_from (source_state (state_of l)) budget p)
    (refused (record { number = 9; place = 0 }))

-- The numbers afterwards; on a refusal they are as they were
unfoldable pub numbers_by : List ℕ → Answer (Outcome S.State) → List ℕ
numbers_by l (done o) = numbers_of (state_by (state_of l) (done o))
numbers_by l (refused r) = l

-- The numbers lent, after an answer. `numbers` fixes every one of them, and `stands` says that they are the definitions' state and no part
-- of that: from there a later call goes on
pub record LentAfter (l : List ℕ) (a : Answer (Outcome S.State)) (l' : List ℕ) : Type 0 where
  pub numbers : l' ≡ numbers_by l a
  pub stands : source_state (state_of l') ≡ moved_by (source_state (state_of l)) a

-- A program handed in as A, run from the numbers lent
pub record RunsLent (A : Answer (List Command)) (l : List ℕ) (budget : ℕ) (r : Result Ended Refusal) (l' : List ℕ) : Type 0 where
  pub ended : r ≡ ended_by (after A (run_numbers l budget))
  pub state_after : LentAfter l (after A (run_numbers l budget)) l'
