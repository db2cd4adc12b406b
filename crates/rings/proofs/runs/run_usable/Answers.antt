-- `run_usable` meets its contract: from outside nothing is done, and from inside the run is that of `run_rings`, put in order.
use mathlib.Core.Path.{◌≡◌, sym, ap, ◌∙◌, subst}
use mathlib.Core.Logic.{◌≢◌}
use Prim.Native.Nat.{suc, ◌+◌, ◌≤◌}
use native.Mathlib.Omega.{arith}
use mir.Facts.{to_z-of_z}
use mir.Syntax.{w32}
use lib.IntN.{ℤ}
use lib.ListN.{length}
use Rattle.theory.specs.Limits.{last_count}
use Rattle.theory.specs.Runs.{Outcome}
use Rattle.theory.specs.Word.{State}
use Rattle.theory.specs.Machines.{run_word}
use Rattle.theory.specs.TurnedDown.{instructions}
use Rattle.word.specs.Answers.{zipped}
use Rattle.memory.specs.Calls.{memory, position}
use Rattle.registers.proofs.Filling.{zeros_at}
use Rattle.layout.proofs.OffsetTable.{length_offsets, offsets_at}
use Rattle.underway.specs.Places.{bias, placed, entry_of}
use Rattle.underway.specs.Inside.{Stopped}
use Rattle.underway.proofs.Entered.{entry_outside, entry_inside}
use Rattle.rings.specs.Ring.{Ring}
use Rattle.rings.proofs.Ordered.{ring_held}
use Rattle.rings.proofs.Running.{memory-sized}
use Rattle.rings.proofs.Whole.{whole_outside, whole_is, whole_stopped}
use Rattle.rings.proofs.runs.run_usable.Goals as goal
use Rattle.rings.proofs.runs.run_usable.Goals.{After-entry-n, After-run_rings-s}

-- what `entry` returns, of the place itself
is : (c : After-entry-n) → let a = c.args in c.entry-n.result ≡ entry_of a.at.place (length a.kinds.now)
is c =
    c.entry-n.ensures ∙ ap (λ (z : ℤ). entry_of z (length c.args.kinds.now)) (to_z-of_z {w = w32} {z = c.args.at.place} (record { sfits = c.type_inv.at.0.1 }))

-- where the run begins
begins : (c : After-entry-n) → c.entry-n.result ≢ 0
    → (c.entry-n.result ≤ suc (length c.args.kinds.now)) × (placed (bias + c.entry-n.result) ≡ c.args.at.place)
begins c some = entry_inside _ _ _ (is c) (omega arith)

-- what the run on rings returns, of the whole run
stopped : (c : After-run_rings-s) → placed (bias + c.entry-n.result) ≡ c.args.at.place
    → let a = c.args in
    let q = c.run_rings-s in
    let o = run_word (instructions (zipped a.kinds.now a.operands.now)) (memory a.capacities.now a.store.now a.lengths.now)
    (position a.at) a.budget in
    Stopped (λ f. Ring a.capacities.now f q.new.store q.new.lengths q.new.starts) o q.result
stopped c place =
    let a = c.args in
    let q = c.run_rings-s in
    subst
    (λ (o : Outcome State). Stopped (λ f. Ring a.capacities.now f q.new.store q.new.lengths q.new.starts) o q.result)
    (whole_is a.capacities.now a.store.now a.lengths.now c.requires.0 a.kinds.now a.operands.now c.requires.1 a.at
    a.budget _ place)
    q.ensures

pub returns-then-n-eq0 : goal.returns-then-n-eq0
returns-then-n-eq0 c =
    let a = c.args in
    let out = entry_outside (length a.kinds.now) a.at.place (sym c.if-n-eq0.true ∙ is (goal.at.returns-then-n-eq0 c).After-entry-n) in
    rw c.strayed.ensures (whole_outside a.capacities.now a.store.now a.lengths.now c.requires.0 a.kinds.now
    a.operands.now c.requires.1 a.at a.budget out)

pub run_rings-s-requires : goal.run_rings-s-requires
run_rings-s-requires c =
    let a = c.args in
    let few = (memory-sized a.capacities.now a.store.now a.lengths.now c.requires.0).registers in (
      c.requires.0,
      record { enough = few; each = λ i l. sym (zeros_at 64 i) },
      c.requires.1,
      omega (arith, (begins (goal.at.run_rings-s-requires c).After-entry-n c.if-n-eq0.false).0),
      rw c.offsets-places.ensures (record {
        enough = omega (arith, few, length_offsets a.capacities.now);
        each = λ i l. offsets_at a.capacities.now i (omega (arith, few));
      }),
    )

pub returns : goal.returns
returns c =
    let a = c.args in
    let sized = memory-sized a.capacities.now a.store.now a.lengths.now c.requires.0 in
    let s = stopped (goal.at.returns c).After-run_rings-s (begins (goal.at.returns c).After-entry-n c.if-n-eq0.false).1 in
    let few : a.at.steps ≤ last_count = omega (arith, (goal.at.returns c).After-entry-n.type_inv.at.1.0.1) in
    rw c.ran.ensures
    (whole_stopped a.capacities.now a.store.now a.lengths.now c.requires.0 a.kinds.now a.operands.now c.requires.1 a.at
    a.budget _ _ _
    (record {
      end = s.end;
      steps = s.steps;
      place = s.place;
      held = ring_held s.held sized.symbols c.put_in_order.ensures;
      near = s.near;
    }) few)
