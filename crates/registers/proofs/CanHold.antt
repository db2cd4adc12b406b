-- Whether a memory can hold a fresh word's registers, one test after the other; and what holds where it can.
use Rattle.std.specs.Prelude.{Err, Ok}
use mathlib.Core.Path.{◌≡◌, refl}
use mathlib.Core.Bool.{Bool, true, false, ◌&&◌}
use mathlib.Core.List.{List}
use Prim.Native.Nat.{ℕ, ◌+◌, ◌≤◌, ◌<◌}
use native.Mathlib.Numerals.{add-one}
use native.Mathlib.Omega.{arith}
use borrow.Author.Tests.{le-leb, lt-leb, leb-true, ltb-true, ltb-false}
use lib.Dec.{leb, ltb}
use lib.ListN.{length, get_or, get_or-eq_default}
use Rattle.theory.specs.Basics.{all_below}
use Rattle.theory.specs.Text.{Bytes}
use Rattle.theory.specs.Machines.{Memory, count, is_sized}
use Rattle.theory.proofs.Faults.{and_first, and_second}
use Rattle.theory.proofs.GoodMemory.{both, all_below-at, all_below_fails}
use Rattle.registers.specs.Held.{Held}
use Rattle.registers.specs.Fresh.{values_within, can_hold, fresh_registers, fresh_memory, LaysFresh}

module _ (m : Memory) (values : List ℕ) where
  pub not-sized : is_sized m ≡ false → can_hold m values ≡ false
  unfolding can_hold
  not-sized h = rw h

  pub too_many : is_sized m ≡ true → count m < length values → can_hold m values ≡ false
  unfolding can_hold
  too_many h k = rw (h, lt-leb (length values) (count m) k)

  pub by_values : is_sized m ≡ true → length values ≤ count m → can_hold m values ≡ values_within m.capacities values
  unfolding can_hold
  by_values h k = rw (h, le-leb (length values) (count m) k)

  pub holds_sized : can_hold m values ≡ true → is_sized m ≡ true
  unfolding can_hold
  holds_sized h =
      let sizes = and_first (is_sized m && leb (length values) (count m)) (values_within m.capacities values) h in
      and_first (is_sized m) (leb (length values) (count m)) sizes

-- Values within their capacities, one test after the other
module _ (capacities values : List ℕ) where
  abbrev is_within : ℕ → Bool
  is_within i = leb (get_or values i 0) (get_or capacities i 0)

  -- those before i are
  pub record WithinTo (i : ℕ) : Type 0 where
    pub few : i ≤ length values
    pub within : all_below i (λ j. leb (get_or values j 0) (get_or capacities j 0)) ≡ true

  pub within_none : WithinTo 0
  within_none = record { few = omega arith; within = refl }

  pub within_more : (i : ℕ) → WithinTo i → i < length values → get_or values i 0 ≤ get_or capacities i 0 → WithinTo (i + 1)
  within_more i h l e = record {
    few = omega arith;
    within = rw (add-one i) (both (all_below i is_within) (is_within i) h.within (le-leb (get_or values i 0) (get_or capacities i 0) e));
  }

  pub within_fails : (i : ℕ) → i < length values → get_or capacities i 0 < get_or values i 0 → values_within capacities values ≡ false
  unfolding values_within
  within_fails i l e = all_below_fails (length values) is_within i l (lt-leb (get_or values i 0) (get_or capacities i 0) e)

  pub within_all : (i : ℕ) → WithinTo i → length values ≤ i → values_within capacities values ≡ true
  unfolding values_within
  within_all i h l =
      let end : length values ≡ i = omega (arith, h.few) in
      rw end h.within

  pub each_within : values_within capacities values ≡ true → (i : ℕ) → get_or values i 0 ≤ get_or capacities i 0
  unfolding values_within
  each_within h i = go (ltb i (length values)) refl
    where
      go : (t : Bool) → ltb i (length values) ≡ t → get_or values i 0 ≤ get_or capacities i 0
      go true e =
          leb-true (get_or values i 0) (get_or capacities i 0) (all_below-at (length values) is_within h i (ltb-true i (length values) e))
      go false e = omega (arith, get_or-eq_default values 0 {n = i} (ltb-false i (length values) e))

pub holds_each : (m : Memory) (values : List ℕ) → can_hold m values ≡ true → (i : ℕ) → get_or values i 0 ≤ get_or m.capacities i 0
unfolding can_hold
holds_each m values h =
    each_within m.capacities values
    (and_second (is_sized m && leb (length values) (count m)) (values_within m.capacities values) h)

-- What the call hands back, then
module _ (m : Memory) (values : List ℕ) where
  pub lays_none : can_hold m values ≡ false → LaysFresh m values (Err (record { number = 10; place = 0 })) m.store m.lengths
  unfolding fresh_memory
  lays_none h = record { is = rw h; store = rw h; lengths = rw h }

  pub lays_all : can_hold m values ≡ true → (s : Bytes) (l : List ℕ) → Held m.capacities (fresh_registers values) s l
      → LaysFresh m values (Ok tt) s l
  unfolding fresh_memory
  lays_all h s l held = record { is = rw h; store = rw h held.stored; lengths = rw h held.counted }
