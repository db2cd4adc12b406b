-- The first of a list that fails a test stands behind those at the front that pass it.
use mathlib.Core.Path.{◌≡◌, refl, ap, ◌∙◌}
use mathlib.Core.Bool.{Bool, true, false}
use mathlib.Core.Logic.{⊎_elim}
use mathlib.Core.Option.{none, some}
use mathlib.Core.List.{List, [], ◌∷◌}
use Prim.Native.Nat.{ℕ, suc, ◌+◌, ◌<◌}
use native.Mathlib.Omega.{arith}
use lib.ListN.{length}
use Rattle.theory.specs.TurnedDown.{first_failing}
use Rattle.text.specs.Runs.{leading}
use Rattle.text.proofs.Runs.{leading_pass, leading_fail, leading_length}
use Rattle.counting.proofs.Flags.{lt_or_le}

module _ (f : ℕ → Bool) where
  pub failing_some : (n : ℕ) (l : List ℕ) → leading f l < length l → first_failing f n l ≡ some (n + leading f l)
  unfolding first_failing leading
  failing_some n [] h = absurd (omega arith)
  failing_some n (b ∷ l) h = go (f b) refl (failing_some (suc n) l)
    where
      go : (t : Bool) → f b ≡ t → (leading f l < length l → first_failing f (suc n) l ≡ some (suc n + leading f l))
          → first_failing f n (b ∷ l) ≡ some (n + leading f (b ∷ l))
      go true e rest =
          let more : suc n + leading f l ≡ n + suc (leading f l) = omega arith in
          rw e (rest (omega (arith, leading_pass f b l e)) ∙ ap some more)
      go false e rest = let here : n ≡ n + 0 = omega arith in rw e (ap some here)

  pub failing_none : (n : ℕ) (l : List ℕ) → leading f l ≡ length l → first_failing f n l ≡ none
  unfolding first_failing
  failing_none n [] h = refl
  failing_none n (b ∷ l) h = go (f b) refl (failing_none (suc n) l)
    where
      go : (t : Bool) → f b ≡ t → (leading f l ≡ length l → first_failing f (suc n) l ≡ none) → first_failing f n (b ∷ l) ≡ none
      go true e rest = rw e (rest (omega (arith, leading_pass f b l e)))
      go false e rest = absurd (omega (arith, leading_fail f b l e))

  pub none_failing : (n : ℕ) (l : List ℕ) → first_failing f n l ≡ none → leading f l ≡ length l
  none_failing n l e =
      ⊎_elim (λ h. absurd (never h)) (λ h. omega (arith, leading_length f l)) (lt_or_le (leading f l) (length l))
    where
      never : leading f l < length l → ⊥
      never h =
          let found : first_failing f n l ≡ some (n + leading f l) = failing_some n l h in
          let x : ◌≡◌ {A = ℕ} 0 1 = cc in
          omega arith
