-- Where a run stands: at an instruction, or ended, by the number that it keeps for its place.
use mathlib.Core.Path.{◌≡◌, refl, ap}
use mathlib.Core.Bool.{Bool, true, false, cond}
use mathlib.Core.Option.{none, some}
use mathlib.Core.List.{List}
use Prim.Native.Nat.{ℕ, suc, ◌+◌, ◌-◌, ◌≤◌, ◌<◌}
use native.Mathlib.Omega.{arith}
use borrow.Author.Tests.{lt-ltb, le-ltb, le-leb, lt-leb, eq-eqb, ne_eqb, eqb-true, eqb-false}
use lib.Dec.{eqb}
use lib.IntN.{pos, negsuc}
use lib.ListN.{get_elem?}
use Rattle.theory.specs.Basics.{at}
use Rattle.theory.specs.Word.{Instruction, ended_at, fetch}
use Rattle.theory.specs.declared.End.TheVariants.{Halted, Strayed}
use Rattle.underway.specs.Places.{bias, placed}
use Rattle.underway.specs.Ends.{end_at}

pub placed_number : (here : ℕ) → bias ≤ here → placed here ≡ pos (here - bias)
unfolding placed
placed_number here h = rw (le-ltb here bias h)

placed_below : (here : ℕ) → here < bias → placed here ≡ negsuc (bias - suc here)
unfolding placed
placed_below here h = rw (lt-ltb here bias h)

module _ (L here : ℕ) where
  pub inside_going : bias < here → here ≤ bias + L → ended_at L (placed here) ≡ none
  inside_going a b =
      let not_last : here - bias ≡ suc L → ⊥ = λ e. omega arith in
      rw (placed_number here (omega arith), ne_eqb (here - bias) (suc L) not_last)
      (rw (le-leb 1 (here - bias) (omega arith), le-leb (here - bias) L (omega arith)))

  pub below_strayed : here ≤ bias → ended_at L (placed here) ≡ some Strayed
  below_strayed h = go (eqb here bias) refl
    where
      go : (t : Bool) → eqb here bias ≡ t → ended_at L (placed here) ≡ some Strayed
      go true e =
          let z : here ≡ bias = eqb-true here bias e in
          let d : here - bias ≡ 0 = omega arith in
          rw (placed_number here (omega arith), d, ne_eqb 0 (suc L) (λ e. omega arith))
      go false e =
          let z : here ≡ bias → ⊥ = eqb-false here bias e in
          rw (placed_below here (omega arith))

  pub past_ended : bias + L < here → ended_at L (placed here) ≡ some (end_at here (bias + L))
  past_ended h = rw (lt-leb here bias (omega arith), lt-leb here (bias + L) h) (go (eqb here (bias + L + 1)) refl)
    where
      go : (t : Bool) → eqb here (bias + L + 1) ≡ t → ended_at L (placed here) ≡ some (cond t Halted Strayed)
      go true e =
          let z : here ≡ bias + L + 1 = eqb-true here (bias + L + 1) e in
          rw (placed_number here (omega arith), eq-eqb (here - bias) (suc L) (omega arith))
      go false e =
          let z : here ≡ bias + L + 1 → ⊥ = eqb-false here (bias + L + 1) e in
          rw (placed_number here (omega arith), ne_eqb (here - bias) (suc L) (λ d. z (omega arith)))
          (rw (le-leb 1 (here - bias) (omega arith), lt-leb (here - bias) L (omega arith)))

pub fetch_inside : (w : List Instruction) (here : ℕ) → bias < here → fetch w (placed here) ≡ get_elem? w (here - bias - 1)
fetch_inside w here h =
    let e : here - bias ≡ suc (here - bias - 1) = omega arith in
    rw (placed_number here (omega arith)) (ap (at w) e)
