-- `perform` meets its contract: in each arm the kind decides the instruction, and what the called function did is what the definition does.
use mathlib.Core.Path.{◌≡◌, ◌∙◌}
use Prim.Native.Nat.{suc, ◌-◌}
use native.Mathlib.Omega.{arith}
use Rattle.underway.proofs.Effects.{is_forward, is_backward, is_cases}
use Rattle.rings.proofs.Steps.{is_append}
use Rattle.rings.proofs.Steps.{did_append, did_forward, did_backward, did_cases}
use Rattle.rings.proofs.effect.perform.Goals as goal

pub returns-in-3 : goal.returns-in-3
returns-in-3 c f i k o h =
    let a = c.args in
    rw (is_forward i (k ∙ c.in-3.is) o) (did_forward a.capacities.now f a.here _ _ _ a.operand c.requires.2.small h)

pub returns-in-4 : goal.returns-in-4
returns-in-4 c f i k o h =
    let a = c.args in
    let p = c.requires in
    rw (is_backward i (k ∙ c.in-4.is) o)
    (did_backward a.capacities.now f a.here _ _ _ a.operand (omega (arith, p.2.small, p.3)) h)

pub returns-in-5 : goal.returns-in-5
returns-in-5 c f i k o h =
    let a = c.args in
    let e : a.operand ≡ suc (a.operand - 1) = omega (
      arith,
      c.requires.2.some,
    ) in
    let d = c.delete_first in
    rw (
      is_cases i (k ∙ c.in-5.is) (o ∙
          e),
      c.by_byte.ensures,
    )
    (did_cases a.capacities.now f a.here _ _ _ (a.operand - 1) d.result (d.ensures f h))

pub returns-in_default : goal.returns-in_default
returns-in_default c f i k o h =
    let a = c.args in
    let e : a.operand ≡ suc (a.operand - 1) = omega (
      arith,
      c.requires.2.some,
    ) in
    let done = c.append in
    let (x, is, byte) = is_append i {k = a.kind} (omega arith) (omega arith) (omega arith) k (o ∙ e) in
    rw (is, c.next_if.ensures)
    (did_append a.capacities.now f a.here _ _ _ (a.operand - 1) x done.result (done.ensures f x (c.symbol_of.ensures ∙ byte) h))
