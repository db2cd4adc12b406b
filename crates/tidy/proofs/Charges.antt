-- The charges of the clears, by the registers that the plain word left and by the values of the source.
use mathlib.Core.Path.{◌≡◌, refl, ap, ◌∙◌}
use mathlib.Core.Bool.{cond}
use mathlib.Core.List.{[]}
use Prim.Native.Nat.{ℕ, zero, suc, pred, ◌≤◌, ◌<◌}
use native.Mathlib.Omega.{arith}
use lib.ListN.{length, length-replicate}
use borrow.Author.Tests.{lt-ltb}
use Rattle.theory.specs.Word.{one}
use Rattle.theory.specs.Machines.{holding, ones}
use Rattle.tidy.specs.Forms.{tidy_charges}
use Rattle.tidy.specs.Claims.{TidyChargesByValues, clear_charges}

-- No variable is charged as one is
pub none_as_one : (K : ℕ) (v : ℕ → ℕ) → clear_charges (suc (pred K)) v ≡ clear_charges K v
unfolding clear_charges
none_as_one zero v = refl
none_as_one (suc n) v = refl

held : (K : ℕ) (v : ℕ → ℕ) (i : ℕ) → i < K → length (holding K v (suc i)) ≡ v i
held K v i h = ap (λ t. length (cond t (ones (v i)) [])) (lt-ltb i K h) ∙ length-replicate (v i) one

-- by the number n of registers reckoned in
pub tidy_charges_by_values : TidyChargesByValues
unfolding tidy_charges clear_charges
tidy_charges_by_values K s t h = go K (omega arith)
  where
    go : (n : ℕ) → n ≤ K → tidy_charges n t.registers ≡ clear_charges n s.values
    go zero l = refl
    go (suc zero) l = refl
    go (suc (suc n)) l =
        let own : length (t.registers (suc (suc n))) ≡ s.values (suc n) =
        ap length (h (suc (suc n)) (omega arith)) ∙ held K s.values (suc n) (omega arith) in
        omega (arith, own, go (suc n) (omega arith))
