-- What the crate's own functions promise each other: whether every register but the first is empty, by the lengths.
use Rattle.std.specs.Prelude.{Bool, List, ℕ, ◌+◌, ◌-◌, eqb, length, get_or}
use Rattle.theory.specs.Basics.{all_below}

-- All lengths but the first are 0
abbrev pub rest_empty : List ℕ → Bool
rest_empty lengths = all_below (length lengths - 1) λ i. eqb (get_or lengths (i + 1) 0) 0
