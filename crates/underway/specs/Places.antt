-- Places as a run keeps them: numbers that never fall below 0.
use Rattle.std.specs.Prelude.{cond, ◌&&◌, List, ℕ, suc, leb, ℤ, pos, negsuc}
use Rattle.std.proofs.Math.IntN.{sub_ℕ}
use Rattle.theory.specs.Word as W
use Rattle.theory.specs.Word.{Symbol}

-- Inside a run a place is kept as a number 1,000,000 higher, so that it never falls below 0
abbrev pub bias : ℕ
bias = 1000000

unfoldable pub placed : ℕ → ℤ
placed here = sub_ℕ here bias

-- No number of a place is above this one
abbrev pub most_place : ℕ
most_place = 2147483647

abbrev pub state : ℕ → (ℕ → List Symbol) → W.State
state here f = record { place = placed here; registers = f }

-- The number of a place that is not negative, else 0
abbrev pub number_of : ℤ → ℕ
number_of (pos n) = n
number_of (negsuc n) = 0

-- The number of a place at an instruction of so many or right behind them, else 0
abbrev pub entry_of : ℤ → ℕ → ℕ
entry_of z size = cond (leb 1 (number_of z) && leb (number_of z) (suc size)) (number_of z) 0
