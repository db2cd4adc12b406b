-- Turns that there is room for: of so many at least 1, each register that they append to takes all.
use mathlib.Core.Path.{◌≡◌, refl}
use mathlib.Core.Logic.{◌≢◌}
use mathlib.Core.Bool.{Bool, true, false, not, cond, ◌&&◌}
use mathlib.Core.List.{List, [], ◌∷◌}
use Prim.Native.Nat.{ℕ, zero, suc, ◌+◌, ◌-◌, ◌*◌, ◌/◌, ◌≤◌, ◌<◌, min}
use native.Mathlib.Nat.{zero-div, div-le_self, div-mul-le_self, mul-le-mul_right}
use native.Mathlib.Omega.{arith}
use lib.ListN.{length, get_or}
use lib.Dec.{eqb, leb}
use borrow.Author.Tests.{eqb-true, eqb-false, leb-true, not-true}
use Rattle.theory.specs.Basics.{EachOf}
use Rattle.theory.specs.Machines.{capacity_of}
use Rattle.theory.proofs.Faults.{and_first, and_second}
use Rattle.drains.specs.Drains.{room_in, with_room, times}

-- What holds of each holds of one that is named, and of each by its index
module _ (P : ℕ → Type 0) where
  pub times_some : (r : ℕ) (bs : List ℕ) → EachOf P bs → 1 ≤ times r bs → P r
  unfolding times
  times_some r [] h l = absurd (omega arith)
  times_some r (b ∷ bs) h l = go (eqb r b) refl (times_some r bs h.1) l
    where
      go : (t : Bool) → eqb r b ≡ t → (1 ≤ times r bs → P r) → 1 ≤ cond t (suc (times r bs)) (times r bs) → P r
      go true e later l = rw (eqb-true r b e) h.0
      go false e later l = later l

  pub times_none : (r : ℕ) (bs : List ℕ) → EachOf P bs → (P r → ⊥) → times r bs ≡ 0
  times_none r bs h other = go (times r bs) refl
    where
      go : (x : ℕ) → times r bs ≡ x → times r bs ≡ 0
      go zero e = e
      go (suc x) e = absurd (other (times_some r bs h (omega arith)))

  pub each-get_or : (l : List ℕ) → EachOf P l → (k : ℕ) → k < length l → P (get_or l k 0)
  each-get_or [] h k below = absurd (omega arith)
  each-get_or (x ∷ l) h zero below = h.0
  each-get_or (x ∷ l) h (suc k) below = each-get_or l h.1 k (omega arith)

module _ (lengths capacities : List ℕ) (a k : ℕ) where
  -- Register b is there, is not a, and has room for m turns of k appends
  pub record Takes (m b : ℕ) : Type 0 where
    pub first : 1 ≤ b
    pub there : b ≤ length lengths
    pub apart : b ≢ a
    pub room : capacity_of lengths b + m * k ≤ capacity_of capacities b

  some_first : (b : ℕ) → 1 ≤ capacity_of capacities b → 1 ≤ b
  some_first zero h = absurd (omega arith)
  some_first (suc b) h = omega arith

  room_takes : (m b : ℕ) → 1 ≤ m → m ≤ room_in lengths capacities a b / k → Takes m b
  unfolding room_in
  room_takes m b some few = go (not (eqb b a) && leb b (length lengths)) refl few
    where
      go : (t : Bool) → (not (eqb b a) && leb b (length lengths)) ≡ t
          → m ≤ cond t (capacity_of capacities b - capacity_of lengths b) 0 / k → Takes m b
      go false e l = absurd (omega (arith, zero-div k))
      go true e l =
          let room : ℕ = capacity_of capacities b - capacity_of lengths b in
          let most : m * k ≤ room / k * k = mul-le-mul_right k l in
          let more : 1 ≤ room = omega (arith, div-le_self room k) in
          record {
            first = some_first b (omega arith);
            there = leb-true b (length lengths) (and_second (not (eqb b a)) (leb b (length lengths)) e);
            apart = eqb-false b a (not-true (eqb b a) (and_first (not (eqb b a)) (leb b (length lengths)) e));
            room = omega (arith, div-mul-le_self room k);
          }

  pub room_most : (bs : List ℕ) (m : ℕ) → with_room lengths capacities a k bs m ≤ m
  unfolding with_room
  room_most [] m = omega arith
  room_most (b ∷ bs) m = omega (arith, room_most bs (min (room_in lengths capacities a b / k) m))

  pub room_each : (bs : List ℕ) (m r : ℕ) → r ≡ with_room lengths capacities a k bs m → 1 ≤ r → EachOf (Takes r) bs
  unfolding with_room
  room_each [] m r e some = tt
  room_each (b ∷ bs) m r e some =
      let here : ℕ = room_in lengths capacities a b / k in (
        room_takes r b some (omega (arith, room_most bs (min here m))),
        room_each bs (min here m) r e some,
      )
