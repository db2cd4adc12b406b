-- How long a run goes on, how it has ended then, and what it hands back.
use Rattle.std.specs.Prelude.{◌≡◌, Bool, cond, ◌&&◌, ◌⊎◌, ℕ, ◌+◌, ◌≤◌, min, eqb, ltb, leb, Ok}
use Rattle.theory.specs.Limits.{last_count}
use Rattle.theory.specs.declared.End.{End}
use Rattle.theory.specs.declared.End.TheVariants.{Halted, Strayed, Spent}
use Rattle.memory.specs.declared.answers.Run.{Run}
use Rattle.underway.specs.declared.Stop.{Stop}
use Rattle.underway.specs.Places.{bias, placed, most_place}

-- How many steps a run may do: no more than its budget, and than its count has left; and it is one of the two
pub record Allowance (budget steps allowed : ℕ) : Type 0 where
  pub within : allowed ≤ budget
  pub counted : steps + allowed ≤ last_count
  pub reached : (allowed ≡ budget) ⊎ (steps + allowed ≡ last_count)

-- Whether a run goes on that stands here after k steps: at an instruction, with a step left
abbrev pub goes_on : ℕ → ℕ → ℕ → ℕ → Bool
goes_on here last k allowed = ltb bias here && leb here last && ltb k allowed

-- How a run has ended that does not go on: before the first instruction, at one, or past the last
abbrev pub end_at : ℕ → ℕ → End
end_at here last = cond (leb here bias) Strayed (cond (leb here last) Spent (cond (eqb here (last + 1)) Halted Strayed))

-- A count and so many steps more, no more than there are counts for
abbrev pub total : ℕ → ℕ → ℕ
total steps more = min (steps + more) last_count

-- What a run hands back that began after so many steps and stopped
abbrev pub ran_to : ℕ → Stop → Run
ran_to steps s = record {
  position = record { place = placed (min s.here most_place); steps = total steps s.steps };
  ended = Ok (record { end = s.end; steps = s.steps });
}
