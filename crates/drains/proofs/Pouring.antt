-- What `turned` does: the turns are those of the definition, they fit, and what is poured is the lengths then.
use mathlib.Core.Path.{◌≡◌, refl, ap, ◌∙◌}
use mathlib.Core.Bool.{Bool, true, false}
use mathlib.Core.List.{List}
use Prim.Native.Nat.{ℕ, zero, suc, ◌+◌, ◌-◌, ◌*◌, ◌≤◌, ◌<◌}
use native.Mathlib.Nat.{mul-zero}
use native.Mathlib.Omega.{arith}
use lib.ListN.{length, get_or, set, length-set}
use lib.Seq.{get_or-set_same, get_or-set_other}
use lib.Dec.{eqb}
use borrow.Author.Tests.{eqb-true, eqb-false}
use Rattle.theory.specs.Basics.{EachOf}
use Rattle.theory.specs.Machines.{capacity_of}
use Rattle.drains.specs.Drains.{times, turns_of, poured}
use Rattle.drains.specs.Pours.{Fits, Filled}
use Rattle.drains.proofs.Rooms.{Takes, each-get_or}
use Rattle.drains.proofs.Poured.{poured_filled}
use Rattle.drains.proofs.Shapes.{within_list}
use Rattle.drains.proofs.AtOnce.{apart, more_fits, turns-most, turns-take}

-- At least one turn, so that register a, of index x, is there
module _ (lengths capacities : List ℕ) (a : ℕ) (bs : List ℕ) (n left m : ℕ) (turns_is : m ≡ turns_of lengths capacities a bs n left)
    (some : 1 ≤ m) where
  few : m ≤ capacity_of lengths a
  few = omega (arith, turns-most lengths capacities a bs n left)

  pub held_first : 1 ≤ a
  held_first = go a few
    where
      go : (r : ℕ) → m ≤ capacity_of lengths r → 1 ≤ r
      go zero h = absurd (omega arith)
      go (suc x) h = omega arith

  module _ (x : ℕ) (is : x + 1 ≡ a) where
    one_more : a ≡ suc x
    one_more = omega arith

    pub held_enough : m ≤ get_or lengths x 0
    held_enough = rw one_more at few

    pub held_there : x < length lengths
    held_there = within_list lengths x (omega (arith, held_enough))

    module _ (y : ℕ) (less : y ≡ get_or lengths x 0 - m) where
      takes : EachOf (Takes lengths capacities a (length bs) m) bs
      takes = rw turns_is (turns-take lengths capacities a bs n left (omega arith))

      shorter : (i : ℕ) → get_or (set lengths x y) i 0 ≤ get_or lengths i 0
      shorter i = go (eqb i x) refl
        where
          go : (t : Bool) → eqb i x ≡ t → get_or (set lengths x y) i 0 ≤ get_or lengths i 0
          go true e = rw (eqb-true i x e) (omega (arith, get_or-set_same lengths x y 0 held_there))
          go false e = omega (arith, get_or-set_other lengths x i y 0 (eqb-false i x e))

      pub pour_fits : ((i : ℕ) → get_or lengths i 0 < 65536) → ((i : ℕ) → get_or capacities i 0 < 65536) → Fits bs m (set lengths x y)
      pour_fits small-lengths small-capacities = record { named = named; small = small }
        where
          size : length (set lengths x y) ≡ length lengths
          size = length-set lengths x y

          named : (k : ℕ) → k < length bs → (1 ≤ get_or bs k 0) × (get_or bs k 0 ≤ length (set lengths x y))
          named k h =
              let t = each-get_or (Takes lengths capacities a (length bs) m) bs takes k h in
              (t.first, omega (arith, t.there, size))

          small : (i : ℕ) → i < length (set lengths x y) → get_or (set lengths x y) i 0 + m * times (suc i) bs < 65536
          small i h = go (times (suc i) bs) refl
            where
              go : (z : ℕ) → times (suc i) bs ≡ z → get_or (set lengths x y) i 0 + m * times (suc i) bs < 65536
              go zero e = rw (e, mul-zero m) (omega (arith, shorter i, small-lengths i))
              go (suc z) e =
                  omega (arith, shorter i, small-capacities i, more_fits lengths capacities a m bs takes (suc i) (omega arith))

      pub poured_is : (after : List ℕ) → Filled bs m (set lengths x y) after
          → after ≡ poured a bs (turns_of lengths capacities a bs n left) lengths
      poured_is after f =
          let none : times (suc x) bs ≡ 0 = ap (λ r. times r bs) (omega arith) ∙ apart lengths capacities a m bs takes in
          let one_less : Filled bs m (set lengths x (get_or lengths x 0 - m)) after = rw less at f in
          poured_filled x bs m lengths after none held_there one_less
          ∙ rw (← turns_is, one_more)
