-- What a step does to the numbers of a state, and rule 9 of one number.
use Rattle.std.specs.Prelude.{Bool, cond, ℕ, suc, ◌+◌, ◌-◌, eqb, ltb, leb, Option, Some, None}
use Rattle.theory.specs.Machines.{is_limited}
use Rattle.source_state.specs.declared.step.Led.{Led}

-- What a plain command of kind k stores, by what its first variable holds and its second, and the capacity of the first; none: it is full
unfoldable pub stored : ℕ → ℕ → ℕ → ℕ → Option ℕ
stored k held source capacity =
    cond (eqb k 1) (Some 0)
    (cond (eqb k 2) (cond (leb (suc held) capacity) (Some (held + 1)) None)
    (cond (leb source capacity) (Some source) None))

-- Where a line of a pair of kind k leads, and the passes left then, by what its variable holds and the passes left before
unfoldable pub led : ℕ → ℕ → ℕ → ℕ → ℕ → Led
led k held left next target =
    cond (eqb k 4) (cond (eqb held 0) (record { line = target; left = left }) (record { line = next; left = held }))
    (cond (eqb k 5) (cond (leb left 1) (record { line = next; left = 0 }) (record { line = target; left = left - 1 }))
    (cond (eqb k 6) (cond (eqb held 0) (record { line = target; left = left }) (record { line = next; left = left }))
    (record { line = target; left = left })))

-- A value by its variable's capacity, and an entry of the passes-left by the capacity of its loop's variable, of D loops
abbrev pub is_value_within : ℕ → ℕ → ℕ → ℕ → Bool
is_value_within capacity K i v = cond (ltb i K) (leb v capacity) (eqb v 0)

abbrev pub is_passes_within : ℕ → ℕ → ℕ → ℕ → Bool
is_passes_within capacity D d k = cond (ltb d D) (is_limited capacity k) (eqb k 0)
