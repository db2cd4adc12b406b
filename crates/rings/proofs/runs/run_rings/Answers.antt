-- The goals of `run_rings`: a run that goes on stands at an instruction, and what it did is a step of the definition.
use mathlib.Core.Path.{refl, sym, ◌∙◌, subst}
use Prim.Native.Nat.{ℕ, ◌+◌, ◌-◌, ◌≤◌, ◌<◌}
use native.Mathlib.Omega.{arith}
use lib.ListN.{length}
use Rattle.std.specs.Prelude.{Option}
use Rattle.rings.specs.Steps.{Performed}
use Rattle.rings.proofs.Rings.{ring_sized}
use Rattle.underway.proofs.Running.{at_instruction}
use Rattle.rings.proofs.Running.{memory-sized, running_start, running_over, running_full, running_step}
use Rattle.rings.proofs.runs.run_rings.Goals as goal
use Rattle.rings.proofs.runs.run_rings.Goals.{In-loop-i}

-- a run that goes on stands at an instruction, and has a step left
going : (c : In-loop-i)
    → let l = c.loop-i in
    (1000000 < l.here) × (l.here ≤ 1000000 + length c.args.kinds.now) × (l.k < c.allowance-allowed.result)
going c = at_instruction _ _ _ _ (sym c.goes_on.ensures ∙ c.loop-i-test.true)

inside : (c : In-loop-i) → c.loop-i.here - 1000000 - 1 < length c.args.kinds.now
inside c = omega (arith, (going c).0, (going c).1)

pub loop-i-init : goal.loop-i-init
loop-i-init c =
    let a = c.args in
    let p = c.requires in (
      running_start a.capacities.now a.store.now a.lengths.now a.kinds.now a.operands.now a.from a.steps a.budget
          c.allowance-allowed.result a.starts.now p.0 p.1 (omega (arith, p.3, p.2.count)),
      refl,
    )

pub perform-requires : goal.perform-requires
perform-requires c =
    let a = c.args in
    let p = c.requires in
    let r = c.loop-i.invariant.0 in
    let sized = memory-sized a.capacities.now a.store.now a.lengths.now p.0 in (
      ring_sized r.held sized.registers sized.symbols,
      (r.registers, r.held),
      p.2.each (c.loop-i.here - 1000000 - 1) (inside (goal.at.perform-requires c).In-loop-i),
      omega (arith, (going (goal.at.perform-requires c).In-loop-i).0),
      omega (arith, (going (goal.at.perform-requires c).In-loop-i).1, p.2.count),
      p.4,
    )

pub returns-in-None : goal.returns-in-None
returns-in-None c =
    let a = c.args in
    let l = c.loop-i in
    let r = l.invariant.0 in
    let q = c.perform in
    let w = c.allowance-allowed in
    let g = going (goal.at.returns-in-None c).In-loop-i in
    running_full a.capacities.now a.store.now a.lengths.now a.kinds.now a.operands.now a.from a.steps a.budget
    w.result r c.requires.2 w.ensures g.0 g.1 g.2
    (λ i k o. subst
    (λ (x : Option ℕ). Performed a.capacities.now r.registers l.here i x q.new.store q.new.lengths q.new.starts)
    c.in-None.is
    (q.ensures r.registers i k o r.held))

pub loop-i-preserved : goal.loop-i-preserved
loop-i-preserved c =
    let a = c.args in
    let l = c.loop-i in
    let r = l.invariant.0 in
    let q = c.perform in
    let w = c.allowance-allowed in
    let g = going (goal.at.loop-i-preserved c).In-loop-i in (
      running_step a.capacities.now a.store.now a.lengths.now a.kinds.now a.operands.now a.from a.steps
          a.budget w.result r c.requires.2 w.ensures g.0 g.1 g.2 c.in-Some.there
          (λ i k o. subst
          (λ (x : Option ℕ). Performed a.capacities.now r.registers l.here i x q.new.store q.new.lengths q.new.starts)
          c.in-Some.is
          (q.ensures r.registers i k o r.held))
          q.auto.store q.auto.lengths,
      q.auto.starts ∙ l.invariant.1,
    )

pub returns : goal.returns
returns c =
    let a = c.args in
    let w = c.allowance-allowed in
    rw c.end_at-end.ensures
    (running_over a.capacities.now a.store.now a.lengths.now a.kinds.now a.operands.now a.from a.steps a.budget
    w.result c.loop-i.invariant.0 c.requires.2 w.ensures
    (sym c.goes_on.ensures ∙ c.loop-i-test.false))
