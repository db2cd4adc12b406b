-- `turned` meets its contract: where there is a turn, they fit.
use mathlib.Core.Path.{◌≡◌, sym, ap, ◌∙◌}
use Prim.Native.Nat.{◌≤◌, ◌-◌, ◌*◌}
use native.Mathlib.Nat.{zero-mul}
use native.Mathlib.Omega.{arith}
use lib.ListN.{get_or}
use Rattle.drains.specs.Drains.{turns_of}
use Rattle.drains.proofs.Poured.{poured_none}
use Rattle.drains.proofs.AtOnce.{turns-within}
use Rattle.drains.proofs.Pouring.{held_first, held_enough, held_there, pour_fits, poured_is}
use Rattle.drains.proofs.turned.Goals as goal

pub returns-then-m-eq0 : goal.returns-then-m-eq0
returns-then-m-eq0 c =
    let a = c.args in
    let none : turns_of a.lengths.now a.capacities.now a.from a.appends.now a.n a.left ≡ 0 =
    sym c.turns_of-m.ensures ∙ c.if-m-eq0.true in
    (rw none (sym (zero-mul a.n)), rw none (sym (poured_none a.from a.appends.now a.lengths.now)))

pub index-a-requires : goal.index-a-requires
index-a-requires c =
    let some : 1 ≤ c.turns_of-m.result = omega (arith, c.if-m-eq0.false) in
    held_first _ _ _ _ _ _ _ c.turns_of-m.ensures some

pub bounds-lengths-a : goal.bounds-lengths-a
bounds-lengths-a c =
    let some : 1 ≤ c.turns_of-m.result = omega (arith, c.if-m-eq0.false) in
    held_there _ _ _ _ _ _ _ c.turns_of-m.ensures some _ c.index-a.ensures

pub overflow_sub-held : goal.overflow_sub-held
overflow_sub-held c =
    let some : 1 ≤ c.turns_of-m.result = omega (arith, c.if-m-eq0.false) in
    omega (arith, c.from-held.ensures, held_enough _ _ _ _ _ _ _ c.turns_of-m.ensures some _ c.index-a.ensures)

pub bounds-lengths-a-2 : goal.bounds-lengths-a-2
bounds-lengths-a-2 c =
    let some : 1 ≤ c.turns_of-m.result = omega (arith, c.if-m-eq0.false) in
    held_there _ _ _ _ _ _ _ c.turns_of-m.ensures some _ c.index-a.ensures

pub pour-requires : goal.pour-requires
pour-requires c =
    let some : 1 ≤ c.turns_of-m.result = omega (arith, c.if-m-eq0.false) in
    let i = c.index-a in
    let a = c.args in
    let less : c.narrow.result ≡ get_or a.lengths.now i.result 0 - c.turns_of-m.result =
    omega (arith, c.narrow.ensures, c.from-held.ensures) in
    pour_fits _ _ _ _ _ _ _ c.turns_of-m.ensures some _ i.ensures _ less
    (λ j. omega (arith, c.slice_known-1.given j))
    (λ j. omega (arith, c.shared_slice_known-1.given j))

pub overflow_mul-result : goal.overflow_mul-result
overflow_mul-result c =
    let a = c.args in
    let same = ap (λ m. m * a.n) c.turns_of-m.ensures in
    omega (arith, same, turns-within a.lengths.now a.capacities.now a.from a.appends.now a.n a.left)

pub overflow_cast-result : goal.overflow_cast-result
overflow_cast-result c =
    let a = c.args in
    let same = ap (λ m. m * a.n) c.turns_of-m.ensures in
    omega (arith, same, turns-within a.lengths.now a.capacities.now a.from a.appends.now a.n a.left)

pub returns : goal.returns
returns c =
    let some : 1 ≤ c.turns_of-m.result = omega (arith, c.if-m-eq0.false) in
    let i = c.index-a in
    let a = c.args in
    let less : c.narrow.result ≡ get_or a.lengths.now i.result 0 - c.turns_of-m.result =
    omega (arith, c.narrow.ensures, c.from-held.ensures) in (
      ap (λ m. m * a.n) c.turns_of-m.ensures,
      poured_is _ _ _ _ _ _ _ c.turns_of-m.ensures some _ i.ensures _ less c.pour.new.lengths
          c.pour.ensures,
    )
