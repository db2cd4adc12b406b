-- Instructions as numbers: places that a step leads to, and an instruction by its kind.
use mathlib.Core.Path.{◌≡◌, sym, ap, ◌∙◌}
use Prim.Native.Nat.{ℕ, suc, ◌+◌, ◌-◌, ◌≤◌}
use native.Mathlib.Omega.{arith}
use lib.IntN.{ℤ, pos, negsuc, ◌+ℤ◌, ◌-ℤ◌, +ℤ_assoc, +ℤ_comm, +ℤ-neg_ℤ_cancel}
use Rattle.theory.specs.Word as W
use Rattle.theory.specs.Word.{one, hash, Instruction, append, forward, backward, cases}
use Rattle.underway.specs.Places.{placed}

-- Places

pub place_forward : (a n : ℕ) → placed a +ℤ pos n ≡ placed (a + n)
unfolding placed
place_forward a n =
    +ℤ_assoc (pos a) (negsuc 999999) (pos n)
    ∙ ap (λ (z : ℤ). pos a +ℤ z) (+ℤ_comm (negsuc 999999) (pos n))
    ∙ sym (+ℤ_assoc (pos a) (pos n) (negsuc 999999))

pub place_backward : (a n : ℕ) → n ≤ a → placed a -ℤ pos n ≡ placed (a - n)
place_backward a n h =
    let e : a ≡ a - n + n = omega arith in
    ap (λ (z : ℤ). z -ℤ pos n) (ap placed e ∙ sym (place_forward (a - n) n)) ∙ +ℤ-neg_ℤ_cancel (placed (a - n)) (pos n)

-- An instruction by its numbers

pub is_forward : (i : Instruction) {n : ℕ} → W.kind i ≡ 3 → W.operand i ≡ n → i ≡ forward n
is_forward (append one n) k e = absurd (omega arith)
is_forward (append hash n) k e = absurd (omega arith)
is_forward (forward n) k e = ap {B = Instruction} forward e
is_forward (backward n) k e = absurd (omega arith)
is_forward (cases n) k e = absurd (omega arith)

pub is_backward : (i : Instruction) {n : ℕ} → W.kind i ≡ 4 → W.operand i ≡ n → i ≡ backward n
is_backward (append one n) k e = absurd (omega arith)
is_backward (append hash n) k e = absurd (omega arith)
is_backward (forward n) k e = absurd (omega arith)
is_backward (backward n) k e = ap {B = Instruction} backward e
is_backward (cases n) k e = absurd (omega arith)

pub is_cases : (i : Instruction) {r : ℕ} → W.kind i ≡ 5 → W.operand i ≡ suc r → i ≡ cases (suc r)
is_cases (append one n) k e = absurd (omega arith)
is_cases (append hash n) k e = absurd (omega arith)
is_cases (forward n) k e = absurd (omega arith)
is_cases (backward n) k e = absurd (omega arith)
is_cases (cases n) k e = ap {B = Instruction} cases e
