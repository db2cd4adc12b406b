-- `scan` meets its contract: an item is a fault of rule 13 or the next entry, and at the word's end rule 14 goes by the count.
use mathlib.Core.Path.{◌∙◌}
use mathlib.Core.Logic.{inl, inr}
use mathlib.Core.List.{List}
use Prim.Native.Nat.{ℕ, ◌<◌}
use native.Mathlib.Omega.{arith}
use Rattle.word.proofs.Along.{along_end, scan_count, scan_many}
use Rattle.word.proofs.Scanning.{operand-within, faulty, nearer, scanning_next}
use Rattle.word.proofs.reading.scan.Goals.{then-count-eq-INSTRUCTIONS, else-count-eq-INSTRUCTIONS}
use Rattle.word.proofs.reading.scan.Goals as goal

pub returns-then-e-eq0 : goal.returns-then-e-eq0
returns-then-e-eq0 c =
    let l : _ = c.loop-at in
    let i : _ = c.item_at-e in
    faulty c.args.word.now c.requires l.at l.count l.extra l.invariant c.loop-at-test.true i.result i.ensures
    c.fault_place.result c.refused.result (inl c.if-e-eq0.true) c.fault_place.ensures c.refused.ensures

pub fault_place-requires-then-e-eq0-2 : goal.fault_place-requires-then-e-eq0-2
fault_place-requires-then-e-eq0-2 c =
    let l : _ = c.loop-at in
    let i : _ = c.item_at-e in
    omega (arith, operand-within c.args.word.now l.at i.result l.invariant.along.reached i.ensures, c.requires.short)

pub returns-then-e-eq0-2 : goal.returns-then-e-eq0-2
returns-then-e-eq0-2 c =
    let l : _ = c.loop-at in
    let i : _ = c.item_at-e in
    let f : _ = c.fault_place-then-e-eq0-2 in
    let r : _ = c.refused-then-e-eq0-2 in
    faulty c.args.word.now c.requires l.at l.count l.extra l.invariant c.loop-at-test.true i.result i.ensures
    f.result r.result (inr c.if-e-eq0-2.true) f.ensures r.ensures

pub loop-at-smaller : goal.loop-at-smaller
loop-at-smaller c =
    let l : _ = c.loop-at in
    let i : _ = c.item_at-e in
    nearer c.args.word.now c.requires l.at l.count l.extra l.invariant c.loop-at-test.true i.result i.ensures

pub loop-at-preserved : goal.loop-at-preserved
loop-at-preserved c =
    let l : _ = c.loop-at in
    let i : _ = c.item_at-e in
    let next : _ = scanning_next c.args.word.now c.requires l.at l.count l.extra l.invariant c.loop-at-test.true i.result
    i.ensures c.if-e-eq0.false c.if-e-eq0-2.false c.if-count-eq-INSTRUCTIONS.extra in
    elim c.if-count-eq-INSTRUCTIONS.branch [
      | then-count-eq-INSTRUCTIONS w ↦ next (inl (w.if-count-eq-INSTRUCTIONS.true, w.extra-is))
      | else-count-eq-INSTRUCTIONS w ↦ next (inr (w.if-count-eq-INSTRUCTIONS.false, w.extra-is))
    ]

pub returns-then-count-le-INSTRUCTIONS : goal.returns-then-count-le-INSTRUCTIONS
returns-then-count-le-INSTRUCTIONS c =
    let l : _ = c.loop-at in
    let w : List ℕ = c.args.word.now in
    let end : _ = along_end w l.at l.count l.invariant.along c.loop-at-test.false in
    scan_count w l.count end.0 end.1 c.if-count-le-INSTRUCTIONS.true

pub returns-else-count-le-INSTRUCTIONS : goal.returns-else-count-le-INSTRUCTIONS
returns-else-count-le-INSTRUCTIONS c =
    let l : _ = c.loop-at in
    let w : List ℕ = c.args.word.now in
    let end : _ = along_end w l.at l.count l.invariant.along c.loop-at-test.false in
    let many : 8192 < l.count = c.if-count-le-INSTRUCTIONS.false in
    c.refused-else-count-le-INSTRUCTIONS.ensures ∙ scan_many w l.count l.extra end.0 end.1 many (l.invariant.surplus many)
