-- The turns done at once: what they come to by the definitions of crate `theory`, within the steps left and the capacities.
use mathlib.Core.Path.{◌≡◌, refl, sym, ap, ◌∙◌, fun_ext}
use mathlib.Core.Bool.{Bool, true, false, cond}
use mathlib.Core.List.{List, [], ◌∷◌}
use Prim.Native.Nat.{ℕ, zero, suc, ◌+◌, ◌-◌, ◌*◌, ◌/◌, ◌≤◌, min}
use native.Mathlib.Nat.{mul-zero, zero-mul, mul-le-mul_left, mul-le-mul_right, div-mul-le_self}
use native.Mathlib.Omega.{arith}
use lib.IntN.{pos}
use lib.ListN.{length, get_or}
use lib.Dec.{eqb}
use borrow.Author.Tests.{le-leb}
use Rattle.theory.specs.Basics.{EachOf}
use Rattle.theory.specs.Runs.{Goes, stay, each, within_each}
use Rattle.theory.specs.Word.{Symbol, Instruction, State, step}
use Rattle.theory.specs.Machines.{ones, capacity_of}
use Rattle.theory.proofs.Joins.{ends}
use Rattle.theory.proofs.Steps as counts
use Rattle.registers.specs.Fresh.{fresh_registers}
use Rattle.registers.proofs.Filling.{fresh-ones}
use Rattle.drains.specs.Drains.{times, is_drain, targets, turns_of, poured, turns, lengths_then}
use Rattle.drains.proofs.Loops.{Drains, drained, turns_go}
use Rattle.drains.proofs.Rooms.{Takes, room_most, room_each, times_some, times_none}
use Rattle.drains.proofs.Poured.{poured-length, poured_of, poured_none}
use Rattle.drains.proofs.Shapes.{Spells, drains_spelled, drain_length}

abbrev pub standing : ℕ → (ℕ → List Symbol) → State
standing q f = record { place = pos q; registers = f }

-- Each register holds as many 1s as its length
abbrev pub counted : List ℕ → ℕ → List Symbol
counted l r = ones (capacity_of l r)

pub fresh-counted : (l : List ℕ) → fresh_registers l ≡ counted l
fresh-counted l = fun_ext each_is
  where
    each_is : (r : ℕ) → fresh_registers l r ≡ counted l r
    each_is zero = refl
    each_is (suc i) = fresh-ones l i

standing_fresh : (q : ℕ) (l : List ℕ) → counts.standing q (capacity_of l) ≡ standing q (fresh_registers l)
unfolding counts.standing
standing_fresh q l = ap (standing q) (sym (fresh-counted l))

times-within : (r : ℕ) (bs : List ℕ) → times r bs ≤ length bs
unfolding times
times-within r [] = omega arith
times-within r (b ∷ bs) = go (eqb r b) (times-within r bs)
  where
    go : (t : Bool) → times r bs ≤ length bs → cond t (suc (times r bs)) (times r bs) ≤ suc (length bs)
    go true h = omega arith
    go false h = omega arith

-- m turns, at least 1, that each register named takes
module _ (lengths capacities : List ℕ) (a m : ℕ) (bs : List ℕ) (takes : EachOf (Takes lengths capacities a (length bs) m) bs) where
  pub apart : times a bs ≡ 0
  apart = times_none (Takes lengths capacities a (length bs) m) a bs takes (λ t. t.apart refl)

  named : (r : ℕ) → 1 ≤ times r bs → Takes lengths capacities a (length bs) m r
  named r l = times_some (Takes lengths capacities a (length bs) m) r bs takes l

  then_of : (r : ℕ)
      → capacity_of (poured a bs m lengths) r ≡ cond (eqb r a) (capacity_of lengths r - m) (capacity_of lengths r + m * times r bs)
  then_of = poured_of a bs m lengths (λ r l. let t = named r l in (t.first, t.there))

  -- what a register that is named has then
  pub more_fits : (r : ℕ) → 1 ≤ times r bs → capacity_of lengths r + m * times r bs ≤ capacity_of capacities r
  more_fits r l =
      let most : m * times r bs ≤ m * length bs = mul-le-mul_left m (times-within r bs) in
      omega (arith, (named r l).room)

  some_go : m ≤ capacity_of lengths a → (w : List Instruction) (q : ℕ) → Drains w q a bs
      → Goes (step (within_each (capacity_of capacities)) w) each (standing q (fresh_registers lengths)) (m * (length bs + 2))
      (standing q (fresh_registers (poured a bs m lengths)))
  unfolding drained
  some_go held w q d =
      rw (← (standing_fresh q lengths))
      (ends refl (ap (counts.standing q) (sym then_is) ∙ standing_fresh q (poured a bs m lengths))
      (turns_go (within_each (capacity_of capacities)) w q a bs d apart m (capacity_of lengths) held
      (λ r k l le. le-leb k (capacity_of capacities r) (omega (arith, more_fits r l)))))
    where
      then_is : capacity_of (poured a bs m lengths) ≡ drained a bs m (capacity_of lengths)
      then_is = fun_ext then_of

  some_within : ((i : ℕ) → get_or lengths i 0 ≤ get_or capacities i 0) → (i : ℕ) → get_or (poured a bs m lengths) i 0 ≤ get_or capacities i 0
  some_within before i = rw (then_of (suc i)) (go (eqb (suc i) a) (times (suc i) bs) refl)
    where
      go : (t : Bool) (x : ℕ) → times (suc i) bs ≡ x
          → cond t (get_or lengths i 0 - m) (get_or lengths i 0 + m * times (suc i) bs) ≤ get_or capacities i 0
      go true x e = omega (arith, before i)
      go false zero e = rw (e, mul-zero m) (omega (arith, before i))
      go false (suc x) e = more_fits (suc i) (omega arith)

-- Turns of a loop, as many as there are
module _ (lengths capacities : List ℕ) (a : ℕ) (bs : List ℕ) (n left : ℕ) where
  abbrev most : ℕ
  most = min (capacity_of lengths a) (left / n)

  abbrev m : ℕ
  m = turns_of lengths capacities a bs n left

  pub turns-most : turns_of lengths capacities a bs n left ≤ min (capacity_of lengths a) (left / n)
  unfolding turns_of
  turns-most = room_most lengths capacities a (length bs) bs most

  pub turns-take : 1 ≤ turns_of lengths capacities a bs n left
      → EachOf (Takes lengths capacities a (length bs) (turns_of lengths capacities a bs n left)) bs
  unfolding turns_of
  turns-take l = room_each lengths capacities a (length bs) bs most m refl l

  pub turns-within : turns_of lengths capacities a bs n left * n ≤ left
  turns-within =
      let few : m ≤ left / n = omega (arith, turns-most) in
      omega (arith, mul-le-mul_right n few, div-mul-le_self left n)

  turns_steps : n ≡ length bs + 2 → (w : List Instruction) (q : ℕ) → Drains w q a bs
      → Goes (step (within_each (capacity_of capacities)) w) each (standing q (fresh_registers lengths)) (m * n)
      (standing q (fresh_registers (poured a bs m lengths)))
  turns_steps e w q d = go m refl
    where
      go : (x : ℕ) → m ≡ x → Goes (step (within_each (capacity_of capacities)) w) each (standing q (fresh_registers lengths)) (m * n)
          (standing q (fresh_registers (poured a bs m lengths)))
      go zero z = rw (z, poured_none a bs lengths, zero-mul n) stay
      go (suc x) z =
          ends (ap (λ y. m * y) (sym e)) refl
          (some_go lengths capacities a m bs (turns-take (omega arith)) (omega (arith, turns-most)) w q d)

  turns_keep : ((i : ℕ) → get_or lengths i 0 ≤ get_or capacities i 0) → (x : ℕ) → m ≡ x → (i : ℕ)
      → get_or (poured a bs m lengths) i 0 ≤ get_or capacities i 0
  turns_keep before zero z i = rw (z, poured_none a bs lengths) (before i)
  turns_keep before (suc x) z i = some_within lengths capacities a m bs (turns-take (omega arith)) before i

-- What `drain` does
module _ (lengths capacities kinds operands : List ℕ) (i n left : ℕ) where
  abbrev a : ℕ
  a = get_or operands i 0

  abbrev bs : List ℕ
  bs = targets operands i n

  abbrev all-turns : ℕ
  all-turns = turns lengths capacities kinds operands i n left

  pub turns_drain : is_drain kinds operands i n ≡ true
      → turns lengths capacities kinds operands i n left
      ≡ turns_of lengths capacities (get_or operands i 0) (targets operands i n) n left
  unfolding turns
  turns_drain h = rw h

  pub turns_none : is_drain kinds operands i n ≡ false → turns lengths capacities kinds operands i n left ≡ 0
  unfolding turns
  turns_none h = rw h

  pub lengths_none : turns lengths capacities kinds operands i n left ≡ 0
      → lengths_then lengths capacities kinds operands i n left ≡ lengths
  unfolding lengths_then
  lengths_none h = rw h (poured_none a bs lengths)

  -- So many steps of any word that has these instructions lead from the lengths before to those after, at index i
  pub drain_goes : (w : List Instruction) → Spells w kinds operands
      → Goes (step (within_each (capacity_of capacities)) w) each
      (standing (suc i) (fresh_registers lengths))
      (turns lengths capacities kinds operands i n left * n)
      (standing (suc i) (fresh_registers (lengths_then lengths capacities kinds operands i n left)))
  unfolding lengths_then
  drain_goes w sp = go (is_drain kinds operands i n) refl
    where
      go : (t : Bool) → is_drain kinds operands i n ≡ t
          → Goes (step (within_each (capacity_of capacities)) w) each (standing (suc i) (fresh_registers lengths)) (all-turns * n)
          (standing (suc i) (fresh_registers (poured a bs all-turns lengths)))
      go true h =
          rw (turns_drain h)
          (turns_steps lengths capacities a bs n left (drain_length kinds operands i n h) w (suc i)
          (drains_spelled kinds operands i n h w sp))
      go false h = rw (turns_none h, poured_none a bs lengths, zero-mul n) stay

  pub drain_steps_within : turns lengths capacities kinds operands i n left * n ≤ left
  drain_steps_within = go (is_drain kinds operands i n) refl
    where
      go : (t : Bool) → is_drain kinds operands i n ≡ t → all-turns * n ≤ left
      go true h = rw (turns_drain h) (turns-within lengths capacities a bs n left)
      go false h = rw (turns_none h, zero-mul n) (omega arith)

  pub drain_same_length : length (lengths_then lengths capacities kinds operands i n left) ≡ length lengths
  unfolding lengths_then
  drain_same_length = poured-length a bs all-turns lengths

  pub drain_lengths_fit : ((j : ℕ) → get_or lengths j 0 ≤ get_or capacities j 0)
      → (j : ℕ) → get_or (lengths_then lengths capacities kinds operands i n left) j 0 ≤ get_or capacities j 0
  unfolding lengths_then
  drain_lengths_fit before j = go (is_drain kinds operands i n) refl
    where
      go : (t : Bool) → is_drain kinds operands i n ≡ t → get_or (poured a bs all-turns lengths) j 0 ≤ get_or capacities j 0
      go true h = rw (turns_drain h) (turns_keep lengths capacities a bs n left before _ refl j)
      go false h = rw (turns_none h, poured_none a bs lengths) (before j)
