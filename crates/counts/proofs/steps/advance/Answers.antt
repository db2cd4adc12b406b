-- `advance` meets its contract: in each arm the kind decides the instruction, and what the called function did is what the definition does.
use mathlib.Core.Path.{◌≡◌, refl, ap}
use mathlib.Core.Logic.{◌≢◌}
use mathlib.Core.Bool.{true}
use Prim.Native.Nat.{ℕ, ◌-◌}
use native.Mathlib.Omega.{arith}
use borrow.Author.Tests.{lt-ltb}
use lib.ListN.{length, get_or}
use Rattle.theory.specs.TurnedDown.{names_register}
use Rattle.underway.specs.Inside.{Usable}
use Rattle.counts.proofs.Single.{strode_forward, strode_back, strode_cases, strode_append}
use Rattle.counts.proofs.steps.advance.Goals as goal
use Rattle.counts.proofs.steps.advance.Goals.{Start}

-- the instruction that stands here can be done
usable : (c : Start)
    → let a = c.args in
    let i = a.here - 1000000 - 1 in
    Usable (length a.capacities.now) (get_or a.kinds.now i 0) (get_or a.operands.now i 0)
usable c = c.requires.0.usable.each _ (omega (arith, c.requires.1, c.requires.2))

-- kinds are 1 to 5, so that what is none of 3 to 5 is an append, which names a register
names : (count kind operand : ℕ) → Usable count kind operand → kind ≢ 3 → kind ≢ 4 → kind ≢ 5 → names_register kind ≡ true
names count kind operand u no_3 no_4 no_5 = rw (lt-ltb kind 3 (omega (arith, u.last)))

pub returns-in-3 : goal.returns-in-3
returns-in-3 c =
    let a = c.args in
    strode_forward a.capacities.now a.lengths.now a.kinds.now a.operands.now c.requires.0 a.here c.requires.1 c.requires.2
    a.left c.requires.3 _ c.in-3.is refl (usable (goal.at.returns-in-3 c).Start).small

pub returns-in-4 : goal.returns-in-4
returns-in-4 c =
    let a = c.args in
    let n = get_or a.operands.now (a.here - 1000000 - 1) 0 in
    strode_back a.capacities.now a.lengths.now a.kinds.now a.operands.now c.requires.0 a.here c.requires.1 c.requires.2
    a.left c.requires.3 (a.here - n) n _ _ c.in-4.is refl
    (omega (arith, (usable (goal.at.returns-in-4 c).Start).small, c.requires.1)) (omega (arith, (usable (goal.at.returns-in-4 c).Start).small, c.requires.1)) c.back.ensures

pub returns-in-5 : goal.returns-in-5
returns-in-5 c =
    let a = c.args in
    let u = usable (goal.at.returns-in-5 c).Start in
    let n = get_or a.operands.now (a.here - 1000000 - 1) 0 in
    let k = c.in-5.is in
    rw c.after_cases.ensures
    (strode_cases a.capacities.now a.lengths.now a.kinds.now a.operands.now c.requires.0 a.here c.requires.1 c.requires.2
    a.left c.requires.3 (n - 1) (omega (arith, u.some))
    (omega (arith, u.some, u.named (ap names_register k), c.requires.0.paired))
    (omega (arith, c.requires.2, c.requires.0.usable.count))
    c.take_one.result _ k c.take_one.ensures)

pub returns-in_default : goal.returns-in_default
returns-in_default c =
    let a = c.args in
    let u = usable (goal.at.returns-in_default c).Start in
    let n = get_or a.operands.now (a.here - 1000000 - 1) 0 in
    rw c.after_append.ensures
    (strode_append a.capacities.now a.lengths.now a.kinds.now a.operands.now c.requires.0 a.here c.requires.1 c.requires.2
    a.left c.requires.3 (n - 1) (omega (arith, u.some))
    (omega (arith, u.some, u.named (names _ _ _ u (omega arith) (omega arith) (omega arith)), c.requires.0.paired))
    (omega (arith, c.requires.2, c.requires.0.usable.count))
    c.add_one.result _ (omega arith) (omega arith) (omega arith)
    (c.requires.0.no_hash _ (omega (arith, c.requires.1, c.requires.2))) c.add_one.ensures)
