-- What a text put into a lent output comes to, and the line of one run.
use Rattle.std.specs.Prelude.{[], ◌∷◌, ◌++◌, ℕ, ◌+◌, ◌≤◌}
use Rattle.theory.specs.Text.{Bytes, blank, decimal, line_of}
use Rattle.theory.specs.RunTool.{end_name, printed}
use Rattle.theory.specs.TurnedDown.{refused}
use Rattle.theory.specs.declared.Refusal.{Refusal}
use Rattle.output.specs.Puts.{Put}
use Rattle.theory.specs.declared.Ended.{Ended}
use Rattle.printing.specs.declared.Row.{Row}

-- A text of so many bytes at most was put from a place on
pub record Few (most : ℕ) (text : Bytes) (place : ℕ) (before after : Bytes) (next : ℕ) : Type 0 where
  pub put : Put text place before after next
  pub few : next ≤ place + most

-- A number and the byte after it; how a run ended, and its steps, with blanks after them
abbrev pub field : ℕ → ℕ → Bytes
field n last = decimal n ++ (last ∷ [])

abbrev pub ended : Ended → Bytes
ended run = end_name run.end ++ (blank ∷ field run.steps blank)

-- The line of a row
unfoldable pub row_line : Row → Bytes
row_line r =
    line_of
    (end_name r.source.end ∷ decimal r.source.steps ∷ end_name r.word.end ∷ decimal r.word.steps ∷ decimal r.first ∷ [])

-- "On a refusal it prints only `refused`, the number and the place, with single blanks"
unfoldable pub refusal_line : Refusal → Bytes
refusal_line r = printed (refused r)

-- A row within the tool's budgets and capacity
pub record Within (r : Row) : Type 0 where
  pub source : r.source.steps ≤ 100000
  pub word : r.word.steps ≤ 1000000
  pub first : r.first ≤ 1024
