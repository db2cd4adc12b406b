-- A run of any machine goes by its budget and its count only through the steps that both allow.
use mathlib.Core.Path.{◌≡◌, refl, sym, ap, ◌∙◌}
use mathlib.Core.Bool.{true}
use mathlib.Core.Option.{Option, none, some}
use Prim.Native.Nat.{ℕ, zero, suc, ◌-◌, min}
use native.Mathlib.Omega.{arith}
use borrow.Author.Tests.{lt-ltb, le-ltb}
use lib.Dec.{ltb}
use Rattle.theory.specs.Limits.{last_count}
use Rattle.theory.specs.Runs.{Machine, stop, stepped, run}
use Rattle.theory.specs.declared.End.{End}
use Rattle.theory.specs.declared.End.TheVariants.{Spent}
use Rattle.theory.proofs.Budgets.{run-ended, run_spent, run-counted, run_full, run_step}

-- The steps that a budget and a count allow
abbrev pub allows : ℕ → ℕ → ℕ
allows b n = min b (last_count - n)

-- A step takes one of them
one_less : (a b n : ℕ) → allows (suc b) n ≡ suc a → allows b (suc n) ≡ a
one_less a b n e = omega arith

below_last : (a b n : ℕ) → allows b n ≡ suc a → ltb n last_count ≡ true
below_last a b n e = lt-ltb n last_count (omega arith)

module _ {S : Type 0} (M : Machine S) where
  none_allowed : (b n : ℕ) (s : S) → allows b n ≡ 0 → M.ended s ≡ none → run M b n s ≡ stop M Spent s
  none_allowed zero n s z h = run_spent M n s h
  none_allowed (suc b) n s z h = run-counted M (suc b) n s h (le-ltb n last_count (omega arith))

  pub same_allowed : (a b b' n n' : ℕ) (s : S) → allows b n ≡ a → allows b' n' ≡ a → run M b n s ≡ run M b' n' s
  same_allowed zero b b' n n' s e e' = at (M.ended s) refl
    where
      at : (x : Option End) → M.ended s ≡ x → run M b n s ≡ run M b' n' s
      at (some x) h = run-ended M b n s x h ∙ sym (run-ended M b' n' s x h)
      at none h = none_allowed b n s e h ∙ sym (none_allowed b' n' s e' h)
  same_allowed (suc a) zero b' n n' s e e' = absurd (omega arith)
  same_allowed (suc a) (suc b) zero n n' s e e' = absurd (omega arith)
  same_allowed (suc a) (suc b) (suc b') n n' s e e' =
      at (λ t. same_allowed a b b' (suc n) (suc n') t (one_less a b n e) (one_less a b' n' e')) (M.ended s) refl (M.next s) refl
    where
      below : ltb n last_count ≡ true
      below = below_last a (suc b) n e

      below' : ltb n' last_count ≡ true
      below' = below_last a (suc b') n' e'

      at : ((t : S) → run M b (suc n) t ≡ run M b' (suc n') t) → (x : Option End) → M.ended s ≡ x → (y : Option S) → M.next s ≡ y
          → run M (suc b) n s ≡ run M (suc b') n' s
      at later (some x) h y q = run-ended M (suc b) n s x h ∙ sym (run-ended M (suc b') n' s x h)
      at later none h none q = run_full M b n s h below q ∙ sym (run_full M b' n' s h below' q)
      at later none h (some t) q =
          run_step M b n s t h below q ∙ (ap (stepped M) (later t) ∙ sym (run_step M b' n' s t h below' q))
