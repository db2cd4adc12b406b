use mathlib.Core.Path.{◌≡◌, refl, sym, ap, ◌∙◌}
use Prim.Native.Nat.{◌+◌, ◌≤◌, ◌<◌}
use native.Mathlib.Numerals.{add-one}
use native.Mathlib.Omega.{arith}
use lib.ListN.{length, get_or}
use Rattle.theory.proofs.Offsets.{offset-next, place_inside, offset_bound}
use Rattle.rule10.proofs.Places.{is_place, places_none, places_fail, places-more, place-laid}
use borrow.Author.Rules.{rules}
use Rattle.rule10.proofs.all_laid.Goals as goal
use Rattle.rule10.proofs.all_laid.Goals.{After-is_laid, In-loop-i}

-- register i is one of the machine's
below : (c : In-loop-i)
    → c.loop-i.i < length c.args.capacities.now
below c = omega (arith, c.requires.paired, c.loop-i-test.true)

-- its place lies in the store
ends : (c : In-loop-i)
    → let a = c.args in
    c.loop-i.from + get_or a.capacities.now c.loop-i.i 0 ≤ length a.store.now
ends c = omega (arith, c.loop-i.invariant.1, place_inside c.args.capacities.now c.loop-i.i, c.requires.room)

-- what the test of the part says of register i
tested : (c : After-is_laid)
    → let a = c.args in
    let i = c.loop-i.i in
    c.is_laid.result ≡ is_place 0 a.capacities.now a.store.now a.lengths.now i
tested c =
    let a = c.args in
    let l = c.loop-i in
    let capacity : c.capacity_at.result ≡ get_or a.capacities.now l.i 0 = c.capacity_at.ensures.0 in
    rw (← l.invariant.1)
    (place-laid _ _ (get_or a.capacities.now l.i 0) (get_or a.lengths.now l.i 0) a.store.now (ap (λ n. l.from + n) capacity)
    (omega (arith, l.invariant.1, capacity, place_inside a.capacities.now l.i, c.requires.room))
    (rw (← c.wide-n.ensures) c.is_laid.ensures))

pub loop-i-init : goal.loop-i-init
loop-i-init c =
    let a = c.args in
    (search rules, refl, places_none 0 a.capacities.now a.store.now a.lengths.now)

pub overflow_add-to : goal.overflow_add-to
overflow_add-to c =
    let l = c.loop-i in
    omega (arith, l.invariant.1, offset_bound c.args.capacities.now 1024 c.requires.symbols l.i, below (goal.at.overflow_add-to c).In-loop-i, c.requires.registers, c.capacity_at.ensures.1)

pub slice_bounds-is_laid-end : goal.slice_bounds-is_laid-end
slice_bounds-is_laid-end c = omega (arith, ends (goal.at.slice_bounds-is_laid-end c).In-loop-i, c.capacity_at.ensures.0)

pub returns-then-not-is_laid : goal.returns-then-not-is_laid
returns-then-not-is_laid c =
    let a = c.args in
    sym (places_fail (length a.capacities.now) a.capacities.now a.store.now a.lengths.now c.loop-i.i
    (below (goal.at.returns-then-not-is_laid c).In-loop-i) (sym (tested (goal.at.returns-then-not-is_laid c).After-is_laid) ∙ c.if-not-is_laid.true))

pub loop-i-preserved : goal.loop-i-preserved
loop-i-preserved c =
    let l = c.loop-i in
    let a = c.args in (
      search rules,
      rw (add-one l.i) (omega (arith, l.invariant.1, c.capacity_at.ensures.0, offset-next a.capacities.now l.i)),
      places-more l.i a.capacities.now a.store.now a.lengths.now
          (sym (tested (goal.at.loop-i-preserved c).After-is_laid) ∙ c.if-not-is_laid.false) l.invariant.2,
    )
