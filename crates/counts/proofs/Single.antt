-- One step on lengths: what each kind of instruction does to registers that hold 1s alone.
use mathlib.Core.Path.{◌≡◌, refl, sym, ap, ◌∙◌, fun_ext}
use mathlib.Core.Logic.{◌≢◌}
use mathlib.Core.Bool.{Bool, true, false, cond}
use mathlib.Core.Option.{none, some}
use mathlib.Core.List.{List, [], ◌∷◌, ◌++◌}
use Prim.Native.Nat.{ℕ, zero, suc, ◌+◌, ◌-◌, ◌*◌, ◌≤◌, ◌<◌}
use native.Mathlib.Omega.{arith}
use borrow.Author.Tests.{le-leb, lt-leb, leb-false, ltb-false, eqb-true, eqb-false, ne_eqb}
use lib.Dec.{eqb, ltb, leb}
use lib.IntN.{pos}
use lib.ListN.{length, get_or, set, length-set, length-replicate, replicate-append-replicate, get_or-eq_default}
use lib.Seq.{get_or-set_same, get_or-set_other}
use Rattle.std.specs.Prelude.{Some}
use Rattle.theory.specs.Basics.{put}
use Rattle.theory.specs.Runs.{Goes, stay, move, each, within_each}
use Rattle.theory.specs.Word as W
use Rattle.theory.specs.Word.{Symbol, one, hash, Instruction, append, forward, backward, cases, perform}
use Rattle.theory.specs.Machines.{ones, capacity_of}
use Rattle.theory.specs.TurnedDown.{instructions}
use Rattle.theory.proofs.Joins.{ends, join}
use Rattle.word.specs.Answers.{zipped}
use Rattle.registers.specs.Fresh.{fresh_registers}
use Rattle.drains.specs.Drains.{turns, lengths_then}
use Rattle.drains.proofs.Shapes.{Spells}
use Rattle.drains.proofs.AtOnce.{drain_goes, drain_steps_within, drain_same_length, drain_lengths_fit}
use Rattle.underway.specs.Places.{bias, placed, state}
use Rattle.underway.specs.Inside.{machine_of}
use Rattle.underway.proofs.Effects.{place_forward, place_backward, is_forward, is_backward, is_cases}
use Rattle.underway.proofs.Outside.{placed_number}
use Rattle.underway.proofs.Instructions.{instructions-at}
use Rattle.underway.proofs.Running.{here_is, next_is}
use Rattle.counts.specs.declared.steps.Stride.{Stride}
use Rattle.countable.specs.Countable.{Countable}
use Rattle.counts.specs.Counts.{Counts}
use Rattle.counts.specs.Strides.{Taken, Added, after_cases, after_append, Turned, TurnedAt, Strode}

-- The registers that lengths give

pub fresh_at : (l : List ℕ) (r : ℕ) → fresh_registers l (suc r) ≡ ones (get_or l r 0)
fresh_at l r = go (ltb r (length l)) refl
  where
    go : (t : Bool) → ltb r (length l) ≡ t → cond t (ones (get_or l r 0)) [] ≡ ones (get_or l r 0)
    go true e = refl
    go false e = rw (get_or-eq_default l 0 {n = r} (ltb-false r (length l) e))

fresh_set : (l : List ℕ) (r m : ℕ) → r < length l → put (fresh_registers l) (suc r) (ones m) ≡ fresh_registers (set l r m)
unfolding put
fresh_set l r m h = fun_ext go
  where
    go : (q : ℕ) → put (fresh_registers l) (suc r) (ones m) q ≡ fresh_registers (set l r m) q
    go zero = rw (ne_eqb 0 (suc r) (λ e. omega arith))
    go (suc i) = at (eqb (suc i) (suc r)) refl
      where
        at : (t : Bool) → eqb (suc i) (suc r) ≡ t
            → cond t (ones m) (fresh_registers l (suc i)) ≡ fresh_registers (set l r m) (suc i)
        at true e =
            let same : suc i ≡ suc r = eqb-true (suc i) (suc r) e in
            let is : i ≡ r = omega arith in
            rw (fresh_at (set l r m) i, is, get_or-set_same l r m 0 h)
        at false e =
            let other : i ≡ r → ⊥ = λ z. eqb-false (suc i) (suc r) e (ap suc z) in
            rw (fresh_at (set l r m) i, fresh_at l i, get_or-set_other l r i m 0 other)

-- A list with another number at one place is within what it was within, where that number is
set-within : (capacities l : List ℕ) (r m : ℕ) → m ≤ get_or capacities r 0 → r < length l → ((i : ℕ) → get_or l i 0 ≤ get_or capacities i 0)
    → (i : ℕ) → get_or (set l r m) i 0 ≤ get_or capacities i 0
set-within capacities l r m few h w i = go (eqb i r) refl
  where
    go : (t : Bool) → eqb i r ≡ t → get_or (set l r m) i 0 ≤ get_or capacities i 0
    go true e = let same : i ≡ r = eqb-true i r e in rw (same, get_or-set_same l r m 0 h) few
    go false e = rw (get_or-set_other l r i m 0 (eqb-false i r e)) (w i)

-- One 1 more
ones-more : (n : ℕ) → ones n ++ (one ∷ []) ≡ ones (n + 1)
ones-more n = replicate-append-replicate n 1 one

module _ (capacities lengths kinds operands : List ℕ) (cs : Countable capacities lengths kinds operands) (here : ℕ) (a : bias < here)
    (b : here ≤ bias + length kinds) where
  abbrev f : ℕ → List Symbol
  f = fresh_registers lengths

  abbrev kind : ℕ
  kind = get_or kinds (here - bias - 1) 0

  abbrev operand : ℕ
  operand = get_or operands (here - bias - 1) 0

  -- what every step keeps
  kept : Counts capacities lengths f
  kept = record { are = refl; paired = cs.paired; within = cs.within }

  changed : (r m : ℕ) → r < length lengths → m ≤ get_or capacities r 0
      → Counts capacities (set lengths r m) (fresh_registers (set lengths r m))
  changed r m h few = record {
    are = refl;
    paired = length-set lengths r m ∙ cs.paired;
    within = set-within capacities lengths r m few h cs.within;
  }

  -- a step of the definition, by the instruction that stands here
  pub one_step : (i : Instruction) → ((x : Instruction) → W.kind x ≡ kind → W.operand x ≡ operand → x ≡ i)
      → (there : ℕ) (g : ℕ → List Symbol) → perform (within_each (capacity_of capacities)) (state here f) i ≡ some (state there g)
      → Goes (machine_of capacities kinds operands).next each (state here f) 1 (state there g)
  one_step i is there g went =
      let (x, at, k, o) = here_is capacities kinds operands cs.usable here a b in
      ends (omega arith) refl
      (move (next_is capacities kinds operands cs.usable here a b f x at ∙ rw (is x k o) went) stay)

  no_step : (i : Instruction) → ((x : Instruction) → W.kind x ≡ kind → W.operand x ≡ operand → x ≡ i)
      → perform (within_each (capacity_of capacities)) (state here f) i ≡ none
      → (machine_of capacities kinds operands).next (state here f) ≡ none
  no_step i is full =
      let (x, at, k, o) = here_is capacities kinds operands cs.usable here a b in
      next_is capacities kinds operands cs.usable here a b f x at ∙ rw (is x k o) full

  module _ (left : ℕ) (some_left : 1 ≤ left) where
    pub strode_forward : (n : ℕ) → kind ≡ 3 → n ≡ operand → n ≤ 600000
        → Strode capacities lengths kinds operands here left (Some (record { there = here + n; steps = 1 })) lengths
    strode_forward n k o small = (
      one_step (forward n) (λ x p q. is_forward x (p ∙ k) (q ∙ sym o)) (here + n) f (rw (place_forward here n)),
      omega arith,
      some_left,
      omega arith,
      kept,
    )

    module _ (r : ℕ) (o : operand ≡ suc r) (h : r < length lengths) (near : here < 2000000) where
      took : (m : ℕ) → get_or lengths r 0 ≡ suc m
          → perform (within_each (capacity_of capacities)) (state here f) (cases (suc r))
          ≡ some (state (here + 2) (fresh_registers (set lengths r m)))
      took m e = rw (fresh_at lengths r, e, place_forward here 2, fresh_set lengths r m h)

      pub strode_cases : (ok : Bool) (after : List ℕ) → kind ≡ 5 → Taken lengths r ok after
          → Strode capacities lengths kinds operands here left (Some (after_cases ok here)) after
      strode_cases true after k t =
          let m = get_or lengths r 0 - 1 in
          rw t.1 (
            one_step (cases (suc r)) (λ x p q. is_cases x (p ∙ k) (q ∙ o)) (here + 2) (fresh_registers (set lengths r m))
                (took m (omega (arith, t.0))),
            omega arith,
            some_left,
            omega arith,
            changed r m h (omega (arith, cs.within r)),
          )
      strode_cases false after k t =
          rw t.1 (
            one_step (cases (suc r)) (λ x p q. is_cases x (p ∙ k) (q ∙ o)) (here + 1) f
                (rw (fresh_at lengths r, t.0, place_forward here 1)),
            omega arith,
            some_left,
            omega arith,
            kept,
          )

      -- an append of 1: no other kind is left
      is_add : (kind ≡ 3 → ⊥) → (kind ≡ 4 → ⊥) → (kind ≡ 5 → ⊥) → kind ≢ 2 → (x : Instruction) → W.kind x ≡ kind → W.operand x ≡ operand
          → x ≡ append one (suc r)
      is_add no-3 no-4 no-5 no_2 (append one n) p q = ap {B = Instruction} (append one) (q ∙ o)
      is_add no-3 no-4 no-5 no_2 (append hash n) p q = absurd (no_2 (sym p))
      is_add no-3 no-4 no-5 no_2 (forward n) p q = absurd (no-3 (sym p))
      is_add no-3 no-4 no-5 no_2 (backward n) p q = absurd (no-4 (sym p))
      is_add no-3 no-4 no-5 no_2 (cases n) p q = absurd (no-5 (sym p))

      pub strode_append : (ok : Bool) (after : List ℕ) → (kind ≡ 3 → ⊥) → (kind ≡ 4 → ⊥) → (kind ≡ 5 → ⊥) → kind ≢ 2
          → Added capacities lengths r ok after
          → Strode capacities lengths kinds operands here left (after_append ok here) after
      strode_append true after no-3 no-4 no-5 no_2 t =
          let n : ℕ = get_or lengths r 0 in
          rw t.1 (
            one_step (append one (suc r)) (is_add no-3 no-4 no-5 no_2) (here + 1) (fresh_registers (set lengths r (n + 1)))
                (rw (
                  fresh_at lengths r,
                  length-replicate n one,
                  le-leb (suc n) (get_or capacities r 0) t.0,
                  place_forward here 1,
                  ones-more n,
                  fresh_set lengths r (n + 1) h,
                )),
            omega arith,
            some_left,
            omega arith,
            changed r (n + 1) h (omega (arith, t.0)),
          )
      strode_append false after no-3 no-4 no-5 no_2 t =
          let n : ℕ = get_or lengths r 0 in (
            no_step (append one (suc r)) (is_add no-3 no-4 no-5 no_2)
                (rw (fresh_at lengths r, length-replicate n one, lt-leb (suc n) (get_or capacities r 0) (omega (arith, t.0)))),
            t.1,
          )

    -- Back, and the turns that begin there
    pub strode_back : (there n : ℕ) (r : Stride) (after : List ℕ) → kind ≡ 4 → n ≡ operand → there + n ≡ here → n ≤ here
        → Turned capacities lengths kinds operands there n left r after → Strode capacities lengths kinds operands here left (Some r) after
    strode_back there n r after k o e small = go (leb there bias) refl
      where
        i : ℕ
        i = there - bias - 1

        first : Goes (machine_of capacities kinds operands).next each (state here f) 1 (state there f)
        first =
            let at : here - n ≡ there = omega arith in
            one_step (backward n) (λ x p q. is_backward x (p ∙ k) (q ∙ sym o)) there f
            (rw (place_backward here n small, at))

        spells : Spells (instructions (zipped kinds operands)) kinds operands
        spells = instructions-at (length capacities) kinds operands cs.usable.paired cs.usable.each

        go : (t : Bool) → leb there bias ≡ t → TurnedAt t capacities lengths kinds operands there n left r after
            → Strode capacities lengths kinds operands here left (Some r) after
        go true d h = rw (h.0, h.1) (first, omega arith, some_left, omega arith, kept)
        go false d h =
            let past : bias < there = leb-false there bias d in
            let place : placed there ≡ pos (suc i) = placed_number there (omega arith) ∙ ap pos (omega arith) in
            let more : Goes (machine_of capacities kinds operands).next each (state there f)
            (turns lengths capacities kinds operands i n (left - 1) * n)
            (state there (fresh_registers (lengths_then lengths capacities kinds operands i n (left - 1)))) =
            rw place (drain_goes lengths capacities kinds operands i n (left - 1) (instructions (zipped kinds operands)) spells) in
            rw (h.0, h.1) (
              ends (omega arith) refl (join first more),
              omega arith,
              omega (arith, drain_steps_within lengths capacities kinds operands i n (left - 1)),
              omega arith,
              record {
                are = refl;
                paired = drain_same_length lengths capacities kinds operands i n (left - 1) ∙ cs.paired;
                within = drain_lengths_fit lengths capacities kinds operands i n (left - 1) cs.within;
              },
            )
