-- The word machine on registers of 1s alone, each of which is then a count: one lemma for each kind of instruction.
use mathlib.Core.Path.{◌≡◌, refl, ap, ◌∙◌, fun_ext}
use mathlib.Core.Bool.{Bool, true, false, cond}
use mathlib.Core.Option.{Option, none, some}
use mathlib.Core.List.{List, [], ◌∷◌, ◌++◌}
use Prim.Native.Nat.{ℕ, zero, suc, ◌+◌, ◌-◌}
use native.Mathlib.Omega.{arith}
use lib.ListN.{length-replicate}
use lib.IntN.{ℤ, pos, negsuc, ◌-ℤ◌}
use lib.Dec.{eqb}
use borrow.Author.Tests.{le-ltb}
use Rattle.theory.specs.Basics.{at, put, given, and_then}
use Rattle.theory.specs.Runs.{Room}
use Rattle.theory.specs.Word.{Symbol, one, Instruction, append, forward, backward, cases}
use Rattle.theory.specs.Word.{State, branch, appended, perform, step}
use Rattle.theory.specs.Machines.{ones}

-- At place q, register j with n j ones
unfoldable pub standing : ℕ → (ℕ → ℕ) → State
standing q n = record { place = pos q; registers = λ j. ones (n j) }

put-ones : (n : ℕ → ℕ) (a x : ℕ) → put (λ j. ones (n j)) a (ones x) ≡ (λ j. ones (put n a x j))
unfolding put
put-ones n a x = fun_ext λ j. go (eqb j a) j
  where
    go : (b : Bool) (j : ℕ) → cond b (ones x) (ones (n j)) ≡ ones (cond b x (n j))
    go true j = refl
    go false j = refl

one_more : (x : ℕ) → ones x ++ (one ∷ []) ≡ ones (suc x)
one_more zero = refl
one_more (suc x) = ap {B = List Symbol} (λ l. one ∷ l) (one_more x)

same : {p p' : ℤ} {r r' : ℕ → List Symbol} → p ≡ p' → r ≡ r'
    → ◌≡◌ {A = Option State} (some (record { place = p; registers = r })) (some (record { place = p'; registers = r' }))
same e f = λ i. some (record { place = e i; registers = f i })

same-ones : {n n' : ℕ → ℕ} → n ≡ n' → ◌≡◌ {A = ℕ → List Symbol} (λ j. ones (n j)) (λ j. ones (n' j))
same-ones = ap {B = ℕ → List Symbol} (λ (f : ℕ → ℕ) (j : ℕ). ones (f j))

back : (q k q' : ℕ) → q ≡ q' + k → pos q -ℤ pos k ≡ pos q'
back q zero q' e = ap pos (omega arith)
back q (suc k) q' e =
    ap (λ c. cond c (negsuc (suc k - suc q)) (pos (q - suc k))) (le-ltb q (suc k) (omega arith)) ∙ ap pos (omega arith)

module _ (room : Room) (w : List Instruction) where
  appends : (q : ℕ) (n : ℕ → ℕ) (a x : ℕ) (r : Bool) → at w q ≡ some (append one a) → n a ≡ x → room a (suc x) ≡ r
      → step room w (standing q n) ≡ given r (appended a (standing q n) one)
  unfolding step standing
  appends q n a x r e v h =
      let s : State = standing q n in
      ap (λ o. and_then o (perform room s)) e
      ∙ ap (λ b. given b (appended a s one)) (ap (λ y. room a (suc y)) (length-replicate (n a) one ∙ v) ∙ h)

  pub step-append : (q : ℕ) (n : ℕ → ℕ) (a x q' : ℕ) (n' : ℕ → ℕ) → at w q ≡ some (append one a) → n a ≡ x → room a (suc x) ≡ true
      → q' ≡ suc q → put n a (suc x) ≡ n' → step room w (standing q n) ≡ some (standing q' n')
  unfolding standing
  step-append q n a x q' n' e v h p m =
      appends q n a x true e v h
      ∙ same (ap pos (omega arith))
      (ap (put (λ j. ones (n j)) a) (one_more (n a) ∙ ap (λ y. ones (suc y)) v) ∙ (put-ones n a (suc x) ∙ same-ones m))

  pub step_full : (q : ℕ) (n : ℕ → ℕ) (a x : ℕ) → at w q ≡ some (append one a) → n a ≡ x → room a (suc x) ≡ false
      → step room w (standing q n) ≡ none
  step_full q n a x e v h = appends q n a x false e v h

  pub step_forward : (q : ℕ) (n : ℕ → ℕ) (k q' : ℕ) → at w q ≡ some (forward k) → q' ≡ q + k
      → step room w (standing q n) ≡ some (standing q' n)
  unfolding step standing
  step_forward q n k q' e p = ap (λ o. and_then o (perform room (standing q n))) e ∙ same (ap pos (omega arith)) refl

  pub step_backward : (q : ℕ) (n : ℕ → ℕ) (k q' : ℕ) → at w q ≡ some (backward k) → q ≡ q' + k
      → step room w (standing q n) ≡ some (standing q' n)
  unfolding step standing
  step_backward q n k q' e p = ap (λ o. and_then o (perform room (standing q n))) e ∙ same (back q k q' p) refl

  pub step-empty : (q : ℕ) (n : ℕ → ℕ) (a q' : ℕ) → at w q ≡ some (cases a) → n a ≡ 0 → q' ≡ suc q
      → step room w (standing q n) ≡ some (standing q' n)
  unfolding step standing
  step-empty q n a q' e z p =
      let s : State = standing q n in
      ap (λ o. and_then o (perform room s)) e ∙ (ap (λ x. some (branch a s (ones x))) z ∙ same (ap pos (omega arith)) refl)

  pub step_one : (q : ℕ) (n : ℕ → ℕ) (a k q' : ℕ) (n' : ℕ → ℕ) → at w q ≡ some (cases a) → n a ≡ suc k → q' ≡ q + 2 → put n a k ≡ n'
      → step room w (standing q n) ≡ some (standing q' n')
  unfolding step standing
  step_one q n a k q' n' e z p m =
      let s : State = standing q n in
      ap (λ o. and_then o (perform room s)) e
      ∙ (ap (λ x. some (branch a s (ones x))) z ∙ same (ap pos (omega arith)) (put-ones n a k ∙ same-ones m))
