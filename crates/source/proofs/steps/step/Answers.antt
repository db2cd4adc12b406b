-- `step` makes the step at a line: what `store_in` or `lead_on` does on the numbers that stand there. Assumes nothing.
use native.Mathlib.Omega.{arith}
use Rattle.source.proofs.Bounds.{few, numbers_in, target_in, entry_in, first_in, second_in, pair_in}
use Rattle.source.proofs.Stepping.{put_in, led_on}
use Rattle.source.proofs.steps.step.Goals as goal

pub bounds-list-at : goal.bounds-list-at
bounds-list-at c = omega (arith, numbers_in c.requires)

pub bounds-list-at-2 : goal.bounds-list-at-2
bounds-list-at-2 c = omega (arith, numbers_in c.requires)

pub bounds-list-at-then-kind-le-COPY : goal.bounds-list-at-then-kind-le-COPY
bounds-list-at-then-kind-le-COPY c = numbers_in c.requires

pub overflow_add-line : goal.overflow_add-line
overflow_add-line c = omega (arith, few c.requires)

pub store_in-requires : goal.store_in-requires
store_in-requires c =
    let r : _ = c.requires in
    record {
      values_are = r.values_are;
      capacities_are = r.capacities_are;
      first = rw c.from-i.ensures (first_in r).1;
      second = rw c.from-j.ensures (second_in r).1;
    }

pub returns-then-kind-le-COPY : goal.returns-then-kind-le-COPY
returns-then-kind-le-COPY c =
    let r : _ = c.requires in
    put_in _ r.filled.holds c.args.capacities.now _ r.low r.high c.args.values.now c.args.passes.now
    c.if-kind-le-COPY.true (first_in r).0 _ _ (rw (c.from-i.ensures, c.from-j.ensures) at c.store_in.ensures)

pub bounds-values-i : goal.bounds-values-i
bounds-values-i c = rw c.from-i.ensures (first_in c.requires).0

pub lead_on-requires : goal.lead_on-requires
lead_on-requires c =
    let r : _ = c.requires in
    record {
      low = r.low;
      high = few r;
      target = target_in r;
      entry = entry_in r;
      left = (pair_in r c.if-kind-le-COPY.false).0;
      passes_are = r.passes_are;
    }

pub returns : goal.returns
returns c =
    let r : _ = c.requires in
    led_on _ r.filled.holds c.args.capacities.now _ r.low r.high c.args.values.now c.args.passes.now
    _ _ r.filled c.if-kind-le-COPY.false (pair_in r c.if-kind-le-COPY.false).0 _ _ (rw c.from-i.ensures at c.lead_on.ensures)
