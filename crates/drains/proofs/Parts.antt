-- The definitions a test at a time, as the code makes them.
use mathlib.Core.Path.{◌≡◌}
use mathlib.Core.Logic.{◌≢◌}
use mathlib.Core.Bool.{false, ◌&&◌}
use mathlib.Core.List.{List}
use Prim.Native.Nat.{ℕ, ◌+◌, ◌-◌, ◌/◌, ◌≤◌, ◌<◌, min}
use native.Mathlib.Numerals.{add-one}
use native.Mathlib.Omega.{arith}
use lib.ListN.{length, get_or, take, drop, get_or-eq_default, drop_of_length-le}
use lib.Seq.{drop-cons}
use lib.Dec.{eqb, ltb}
use borrow.Author.Tests.{le-leb, lt-leb, eq-eqb, ne_eqb}
use Rattle.theory.specs.Basics.{all}
use Rattle.theory.specs.Machines.{capacity_of}
use Rattle.drains.specs.Drains.{loops_back, room_in, with_room, turns_of}

-- The code's i + 2 to i + n
pub part : (i n : ℕ) → i + n - (i + 2) ≡ n - 2
part i n = omega arith

module _ (kinds operands : List ℕ) (i n : ℕ) where
  pub back_near : n < 2 → loops_back kinds operands i n ≡ false
  unfolding loops_back
  back_near h = rw (lt-leb 2 n h)

  pub back_other : 2 ≤ n → get_or kinds (i + n) 0 ≢ 4 → loops_back kinds operands i n ≡ false
  unfolding loops_back
  back_other two h = rw (le-leb 2 n two, ne_eqb (get_or kinds (i + n) 0) 4 h)

  pub back_past : 2 ≤ n → length kinds ≤ i + n → loops_back kinds operands i n ≡ false
  back_past two h = back_other two (λ z. omega (arith, get_or-eq_default kinds 0 h))

  pub back_far : 2 ≤ n → get_or kinds (i + n) 0 ≡ 4 → get_or operands (i + n) 0 ≢ n → loops_back kinds operands i n ≡ false
  unfolding loops_back
  back_far two h far = rw (le-leb 2 n two, eq-eqb (get_or kinds (i + n) 0) 4 h, ne_eqb (get_or operands (i + n) 0) n far)

  pub back_short : 2 ≤ n → get_or kinds (i + n) 0 ≡ 4 → length operands ≤ i + n → loops_back kinds operands i n ≡ false
  back_short two h past = back_far two h (λ z. omega (arith, get_or-eq_default operands 0 past))

  pub back_by : 2 ≤ n → get_or kinds (i + n) 0 ≡ 4 → get_or operands (i + n) 0 ≡ n
      → loops_back kinds operands i n ≡ all (eqb 1) (take (i + n - (i + 2)) (drop (i + 2) kinds))
  unfolding loops_back
  back_by two h far =
      rw (part i n, le-leb 2 n two, eq-eqb (get_or kinds (i + n) 0) 4 h, eq-eqb (get_or operands (i + n) 0) n far)

-- Cases at index i on a register that holds something
module _ (lengths kinds operands : List ℕ) (i : ℕ) where
  abbrev held : ℕ
  held = capacity_of lengths (get_or operands i 0)

  pub none_other : get_or kinds i 0 ≢ 5 → (eqb (get_or kinds i 0) 5 && ltb 0 held) ≡ false
  none_other h = rw (ne_eqb (get_or kinds i 0) 5 h)

  pub none_past : length kinds ≤ i → (eqb (get_or kinds i 0) 5 && ltb 0 held) ≡ false
  none_past h = none_other (λ z. omega (arith, get_or-eq_default kinds 0 h))

  pub none_short : get_or kinds i 0 ≡ 5 → length operands ≤ i → (eqb (get_or kinds i 0) 5 && ltb 0 held) ≡ false
  none_short h past = rw (eq-eqb (get_or kinds i 0) 5 h, get_or-eq_default operands 0 past)

  pub some_by : get_or kinds i 0 ≡ 5 → (eqb (get_or kinds i 0) 5 && ltb 0 held) ≡ ltb 0 held
  some_by h = rw (eq-eqb (get_or kinds i 0) 5 h)

module _ (lengths capacities : List ℕ) (a b : ℕ) where
  pub room_own : b ≡ a → room_in lengths capacities a b ≡ 0
  unfolding room_in
  room_own h = rw (eq-eqb b a h)

  pub room_past : b ≢ a → length lengths < b → room_in lengths capacities a b ≡ 0
  unfolding room_in
  room_past h past = rw (ne_eqb b a h, lt-leb b (length lengths) past)

  pub room_there : b ≢ a → b ≤ length lengths → room_in lengths capacities a b ≡ capacity_of capacities b - capacity_of lengths b
  unfolding room_in
  room_there h there = rw (ne_eqb b a h, le-leb b (length lengths) there)

module _ (lengths capacities : List ℕ) (a k : ℕ) (bs : List ℕ) (j m : ℕ) where
  pub room_next : j < length bs → (r m' : ℕ) → r ≡ room_in lengths capacities a (get_or bs j 0) → m' ≡ min (r / k) m
      → with_room lengths capacities a k (drop j bs) m ≡ with_room lengths capacities a k (drop (j + 1) bs) m'
  unfolding with_room
  room_next h r m' e f = rw (f, e, add-one j, drop-cons bs j 0 h)

  pub room_all : length bs ≤ j → with_room lengths capacities a k (drop j bs) m ≡ m
  unfolding with_room
  room_all h = rw (drop_of_length-le bs {i = j} h)

pub turns_are : (lengths capacities : List ℕ) (a : ℕ) (bs : List ℕ) (n left held steps m : ℕ) → held ≡ capacity_of lengths a
    → steps ≡ min held (left / n) → m ≡ with_room lengths capacities a (length bs) bs steps
    → m ≡ turns_of lengths capacities a bs n left
unfolding turns_of
turns_are lengths capacities a bs n left held steps m e f g = rw (← e, ← f) g
