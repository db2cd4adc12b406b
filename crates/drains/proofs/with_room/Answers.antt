use mathlib.Core.Path.{◌≡◌, sym, ◌∙◌}
use Prim.Native.Nat.{ℕ, ◌≤◌, ◌<◌, ◌+◌, ◌/◌, min}
use native.Mathlib.Nat.{le-div_iff_mul-le, div-lt_iff_lt-mul}
use native.Mathlib.Omega.{arith}
use lib.ListN.{length, drop}
use Rattle.drains.specs.Drains.{with_room}
use Rattle.drains.proofs.Parts.{room_next, room_all}
use Rattle.drains.proofs.with_room.Goals as goal
use Rattle.drains.proofs.with_room.Goals.{then-room-m, else-room-m}

pub loop-register-preserved : goal.loop-register-preserved
loop-register-preserved c =
    let s = c.args in
    let l = c.loop-register in
    let r = c.room_in-room in
    let k : ℕ = length s.appends.now in
    let some : 0 < k = omega arith in
    let next : (m : ℕ) → m ≡ min (r.result / k) l.m
    → with_room s.lengths.now s.capacities.now s.from k s.appends.now s.most
    ≡ with_room s.lengths.now s.capacities.now s.from k (drop (l.register-index + 1) s.appends.now) m = λ m e.
    l.invariant.1 ∙ room_next s.lengths.now s.capacities.now s.from k s.appends.now l.register-index l.m (omega arith)
    r.result m r.ensures e in
    elim c.if-room-m.branch [
      | then-room-m w ↦
          let less : r.result / k < l.m = (div-lt_iff_lt-mul some).1 w.if-room-m.true in
          (omega (arith, w.m-is, l.invariant.0), next c.if-room-m.m (omega (arith, w.m-is)))
      | else-room-m w ↦
          let more : l.m ≤ r.result / k = (le-div_iff_mul-le some).1 w.if-room-m.false in
          (omega (arith, w.m-is, l.invariant.0), next c.if-room-m.m (omega (arith, w.m-is)))
    ]

pub returns : goal.returns
returns c =
    let s = c.args in
    let l = c.loop-register in
    sym (l.invariant.1 ∙ room_all s.lengths.now s.capacities.now s.from (length s.appends.now) s.appends.now l.register-index l.m
    (omega arith))
