-- A run between its steps: what of the definition's run is still to come, and how it stops.
use mathlib.Core.Path.{◌≡◌, refl, ap, ◌∙◌}
use mathlib.Core.Bool.{Bool, true, false, ◌&&◌}
use mathlib.Core.Logic.{⊎_elim}
use mathlib.Core.Option.{Option, none, some}
use mathlib.Core.List.{List}
use Prim.Native.Nat.{ℕ, suc, ◌+◌, ◌-◌, ◌≤◌, ◌<◌}
use native.Mathlib.Nat.{add_assoc}
use native.Mathlib.Omega.{arith}
use borrow.Author.Tests.{lt-ltb, le-ltb, leb-true, leb-false, ltb-true, ltb-false}
use lib.Dec.{ltb, leb}
use lib.ListN.{length, get_or, get_elem?}
use Rattle.theory.specs.Limits.{last_count}
use Rattle.theory.specs.Runs.{Machine, Outcome, run, Goes, each, within_each}
use Rattle.theory.specs.Word as W
use Rattle.theory.specs.Word.{Symbol, ended_at}
use Rattle.theory.specs.Machines.{capacity_of}
use Rattle.theory.specs.TurnedDown.{instructions}
use Rattle.theory.specs.declared.End.{End}
use Rattle.theory.specs.declared.End.TheVariants.{Strayed, Spent, Full}
use Rattle.theory.proofs.Budgets.{Underway, underway_start, underway_ended, underway_spent, underway_counted, underway_full}
use Rattle.theory.proofs.Unlimited.{run-after, word_live}
use Rattle.theory.proofs.Faults.{and_first, and_second}
use Rattle.word.specs.Answers.{zipped}
use Rattle.underway.specs.Places.{bias, placed, state}
use Rattle.underway.specs.Ends.{Allowance, goes_on, end_at}
use Rattle.underway.specs.Inside.{Usables, machine_of, Stopped}
use Rattle.underway.proofs.Instructions.{Spelt, instructions-length, instructions-at}
use Rattle.underway.proofs.Outside.{inside_going, below_strayed, past_ended, fetch_inside}

-- c steps at once, in what a loop keeps that runs a machine in which a state that has a step has not ended
pub underway_after : {S : Type 0} (M : Machine S) → ((s s' : S) → M.next s ≡ some s' → M.ended s ≡ none)
    → (o : Outcome S) (k b n : ℕ) {s t : S} → Underway M o k b n s → {c : ℕ} → Goes M.next each s c t
    → (k' b' n' : ℕ) → k' ≡ k + c → b ≡ c + b' → n' ≡ n + c → n' ≤ last_count → Underway M o k' b' n' t
underway_after M live o k b n left g k' b' n' x y z l = left ∙ rw (y, run-after M live g b' n (rw z at l), x, z, add_assoc)

pub at_instruction : (here last k allowed : ℕ) → goes_on here last k allowed ≡ true → (bias < here) × (here ≤ last) × (k < allowed)
at_instruction here last k allowed h =
    let stands = and_first (ltb bias here && leb here last) (ltb k allowed) h in (
      ltb-true bias here (and_first (ltb bias here) (leb here last) stands),
      leb-true here last (and_second (ltb bias here) (leb here last) stands),
      ltb-true k allowed (and_second (ltb bias here && leb here last) (ltb k allowed) h),
    )

-- An instruction of a table that the machine can do, and the step at it
module _ {registers : ℕ} (capacities kinds operands : List ℕ) (u : Usables registers kinds operands) (here : ℕ) (a : bias < here)
    (b : here ≤ bias + length kinds) where
  pub here_is : Spelt (get_or kinds (here - bias - 1) 0) (get_or operands (here - bias - 1) 0)
      (get_elem? (instructions (zipped kinds operands)) (here - bias - 1))
  here_is = instructions-at registers kinds operands u.paired u.each (here - bias - 1) (omega arith)

  pub next_is : (f : ℕ → List Symbol) (i : W.Instruction) → get_elem? (instructions (zipped kinds operands)) (here - bias - 1) ≡ some i
      → (machine_of capacities kinds operands).next (state here f) ≡ W.perform (within_each (capacity_of capacities)) (state here f) i
  unfolding W.step
  next_is f i e = rw (fetch_inside (instructions (zipped kinds operands)) here a ∙ e)

module _ (capacities kinds operands : List ℕ) (start : W.State) (steps budget allowed : ℕ) where
  abbrev M : Machine W.State
  M = machine_of capacities kinds operands

  abbrev pub outcome : Outcome W.State
  outcome = run M budget steps start

  -- After k steps the run stands here, with the registers f
  pub record Running (f : ℕ → List Symbol) (here k : ℕ) : Type 0 where
    pub left : Underway M outcome k (budget - k) (steps + k) (state here f)
    pub done : k ≤ allowed
    pub near : here < 2000000

  pub running_start : (f : ℕ → List Symbol) (from : ℕ) → start ≡ state from f → from < 2000000 → Running f from 0
  running_start f from is near =
      let b : budget - 0 ≡ budget = omega arith in
      let n : steps + 0 ≡ steps = omega arith in
      record { left = rw (b, n, ← is) (underway_start M budget steps start); done = omega arith; near = near }

  module _ {registers : ℕ} (u : Usables registers kinds operands) (al : Allowance budget steps allowed) {f : ℕ → List Symbol} {here k : ℕ}
      (r : Running f here k) where
    -- Some steps more, no more than the run may do
    pub running_goes : {c : ℕ} {g : ℕ → List Symbol} {there : ℕ} → Goes M.next each (state here f) c (state there g)
        → k + c ≤ allowed → there < 2000000 → Running g there (k + c)
    running_goes {c} {g} {there} went few near = record {
      left = underway_after M (word_live (within_each (capacity_of capacities)) (instructions (zipped kinds operands))) outcome k
          (budget - k) (steps + k) r.left went (k + c) (budget - (k + c)) (steps + (k + c)) (omega arith)
          (omega (arith, al.within)) (omega arith) (omega (arith, al.counted));
      done = few;
      near = near;
    }

    ends : (e : Option End) → ended_at (length kinds) (placed here) ≡ e → M.ended (state here f) ≡ e
    ends e h = rw (instructions-length registers kinds operands u.paired u.each) h

    module _ (held_in : (ℕ → List Symbol) → Type 0) (held : held_in f) where
      stops : (e : End) → outcome ≡ record { end = e; steps = k; state = state here f }
          → Stopped held_in outcome (record { end = e; steps = k; here = here })
      stops e h = record {
        end = ap (λ (o : Outcome W.State). o.end) h;
        steps = ap (λ (o : Outcome W.State). o.steps) h;
        place = ap (λ (o : Outcome W.State). o.state.place) h;
        held = rw h held;
        near = r.near;
      }

      running_ended : (e : End) → ended_at (length kinds) (placed here) ≡ some e
          → Stopped held_in outcome (record { end = e; steps = k; here = here })
      running_ended e h = stops e (underway_ended M outcome k (budget - k) (steps + k) (state here f) r.left e (ends (some e) h))

      running_spent : bias < here → here ≤ bias + length kinds → k ≡ allowed
          → Stopped held_in outcome (record { end = Spent; steps = k; here = here })
      running_spent a b e =
          let going = ends none (inside_going (length kinds) here a b) in
          ⊎_elim
          (λ (z : allowed ≡ budget). stops Spent
          (underway_spent M outcome k (budget - k) (steps + k) (state here f) r.left going (omega arith)))
          (λ (z : steps + allowed ≡ last_count). stops Spent
          (underway_counted M outcome k (budget - k) (steps + k) (state here f) r.left going
          (le-ltb (steps + k) last_count (omega arith))))
          al.reached

      -- a step for which there is no room
      pub running_full : bias < here → here ≤ bias + length kinds → k < allowed → M.next (state here f) ≡ none
          → Stopped held_in outcome (record { end = Full; steps = k; here = here })
      running_full a b l full =
          stops Full (underway_full M outcome k (budget - k) (steps + k) (state here f) r.left (budget - suc k)
          (omega (arith, al.within)) (ends none (inside_going (length kinds) here a b))
          (lt-ltb (steps + k) last_count (omega (arith, al.counted))) full)

      -- a run that does not go on has ended, or has no step left
      pub running_over : goes_on here (bias + length kinds) k allowed ≡ false
          → Stopped held_in outcome (record { end = end_at here (bias + length kinds); steps = k; here = here })
      running_over over = go (leb here bias) refl (leb here (bias + length kinds)) refl
        where
          last : ℕ
          last = bias + length kinds

          go : (t : Bool) → leb here bias ≡ t → (v : Bool) → leb here last ≡ v
              → Stopped held_in outcome (record { end = end_at here last; steps = k; here = here })
          go true e v d = rw e (running_ended Strayed (below_strayed (length kinds) here (leb-true here bias e)))
          go false e false d = running_ended (end_at here last) (past_ended (length kinds) here (leb-false here last d))
          go false e true d =
              let inside : bias < here = leb-false here bias e in
              let within : here ≤ last = leb-true here last d in
              let spent : ltb k allowed ≡ false = rw (lt-ltb bias here inside, d) at over in
              rw (e, d) (running_spent inside within (omega (arith, r.done, ltb-false k allowed spent)))
