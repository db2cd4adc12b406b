-- What this crate's entries hand back: the columns that some numbers name, and the values that the variables start at.
use Rattle.std.specs.Prelude.{Option, None, Some, Bool, cond, ◌&&◌, List, ℕ, take, get_or, leb, ltb}
use Rattle.theory.specs.Limits
use Rattle.theory.specs.Basics.{cells, all}
use Rattle.theory.specs.RunSheet.{distinct, start}

-- 32 cells: those of a list, and 0 behind them
unfoldable pub padded : List ℕ → List ℕ
padded l = cells Limits.state_values (λ i. get_or l i 0)

abbrev pub is_variable : ℕ → Bool
is_variable n = ltb n Limits.state_values

-- Each is one of the 32 variables, and none comes twice
abbrev pub fit_together : List ℕ → Bool
fit_together ns = all is_variable ns && distinct ns

-- The first of 32 numbers as names: more than 32 never fit together
unfoldable pub columns_as : ℕ → List ℕ → Option (List ℕ)
columns_as count numbers =
    let ns = take count numbers in
    cond (leb count Limits.state_values && fit_together ns) (Some (padded ns)) None

-- The values that all variables start at, each at the first of the columns that are named after it
unfoldable pub starts : List ℕ → List ℕ → List ℕ
starts ns vs = cells Limits.state_values (start ns vs)
