-- Tests of each register's place, one after the other.
use mathlib.Core.Path.{◌≡◌, refl}
use mathlib.Core.Bool.{Bool, true, false}
use mathlib.Core.List.{List}
use Prim.Native.Nat.{ℕ, suc, ◌+◌, ◌-◌, ◌≤◌, ◌<◌}
use native.Mathlib.Numerals.{add-one}
use native.Mathlib.Omega.{arith}
use lib.ListN.{length, take, drop, get_or, length-drop}
use lib.Seq.{length-take-le}
use Rattle.theory.specs.Machines.{is_laid, offset}
use Rattle.theory.proofs.GoodMemory.{all_below_fails}
use Rattle.rule10.specs.Lent.{places_laid}

-- a part that is a whole place
abbrev laid_part : List ℕ → ℕ → Bool
laid_part p n = is_laid (length p) n p

module _ (n : ℕ) (capacities store lengths : List ℕ) where
  -- the test of register i, counted from 0
  abbrev pub is_place : ℕ → Bool
  is_place i = is_laid (get_or capacities i 0) (get_or lengths i 0) (take (get_or capacities i 0) (drop (offset capacities (suc i)) store))

  pub places_none : places_laid 0 capacities store lengths ≡ true
  unfolding places_laid
  places_none = refl

  pub places_fail : (i : ℕ) → i < n → is_place i ≡ false → places_laid n capacities store lengths ≡ false
  unfolding places_laid
  places_fail i h t = all_below_fails n is_place i h t

  pub places-more : is_place n ≡ true → places_laid n capacities store lengths ≡ true → places_laid (n + 1) capacities store lengths ≡ true
  unfolding places_laid
  places-more t h = rw (add-one n, h, t)

-- What a test of the part that is a register's place says of the place
pub place-laid : (from to capacity n : ℕ) (store : List ℕ) {r : Bool} → to ≡ from + capacity → to ≤ length store
    → r ≡ laid_part (take (to - from) (drop from store)) n → r ≡ is_laid capacity n (take capacity (drop from store))
place-laid from to capacity n store ends h e =
    let d : to - from ≡ capacity = omega arith in
    let p : length (take capacity (drop from store)) ≡ capacity =
    length-take-le capacity (drop from store) (omega (arith, length-drop from store)) in
    rw (d, p) at e
