-- Different numbers: no more of them below K than K.
use mathlib.Core.Path.{◌≡◌, refl, sym, ap}
use mathlib.Core.Bool.{Bool, true, false, cond, not}
use mathlib.Core.List.{List, [], ◌∷◌}
use Prim.Native.Nat.{ℕ, zero, suc, ◌≤◌, ◌<◌}
use native.Mathlib.Omega.{arith}
use lib.ListN.{length}
use lib.Dec.{eqb, ltb}
use borrow.Author.Tests.{ltb-true, lt-ltb, eqb-true, eqb-false, ne_eqb, not-true}
use Rattle.theory.specs.Basics.{all}
use Rattle.theory.specs.RunSheet.{occurs, distinct}
use Rattle.theory.proofs.Faults.{and_first, and_second, or_first, or_second}

without : ℕ → List ℕ → List ℕ
without x [] = []
without x (y ∷ l) = cond (eqb y x) (without x l) (y ∷ without x l)

without_none : (x : ℕ) (l : List ℕ) → occurs x l ≡ false → length (without x l) ≡ length l
unfolding without
without_none x [] h = refl
without_none x (y ∷ l) h =
    let other : eqb y x ≡ false = ne_eqb y x (λ e. eqb-false x y (or_first (eqb x y) _ h) (sym e)) in
    rw other (ap suc (without_none x l (or_second (eqb x y) _ h)))

without_length : (x : ℕ) (l : List ℕ) → distinct l ≡ true → length l ≤ suc (length (without x l))
unfolding without
without_length x [] h = omega arith
without_length x (y ∷ l) h = go (eqb y x) refl (without_length x l (and_second (not (occurs y l)) _ h))
  where
    go : (b : Bool) → eqb y x ≡ b → length l ≤ suc (length (without x l)) → length (y ∷ l) ≤ suc (length (without x (y ∷ l)))
    go true e r =
        let once : occurs x l ≡ false = rw (eqb-true y x e) at (not-true (occurs y l) (and_first (not (occurs y l)) _ h)) in
        rw e (omega (arith, without_none x l once))
    go false e r = rw e (omega arith)

without_occurs : (x i : ℕ) (l : List ℕ) → occurs i l ≡ false → occurs i (without x l) ≡ false
unfolding without
without_occurs x i [] h = refl
without_occurs x i (y ∷ l) h = go (eqb y x) refl (without_occurs x i l (or_second (eqb i y) _ h))
  where
    go : (b : Bool) → eqb y x ≡ b → occurs i (without x l) ≡ false → occurs i (without x (y ∷ l)) ≡ false
    go true e r = rw e r
    go false e r = rw (e, or_first (eqb i y) _ h) r

without_distinct : (x : ℕ) (l : List ℕ) → distinct l ≡ true → distinct (without x l) ≡ true
unfolding without
without_distinct x [] h = refl
without_distinct x (y ∷ l) h = go (eqb y x) refl (without_distinct x l (and_second (not (occurs y l)) _ h))
  where
    once : occurs y (without x l) ≡ false
    once = without_occurs x y l (not-true (occurs y l) (and_first (not (occurs y l)) _ h))

    go : (b : Bool) → eqb y x ≡ b → distinct (without x l) ≡ true → distinct (without x (y ∷ l)) ≡ true
    go true e r = rw e r
    go false e r = rw (e, once) r

abbrev pub AllBelow : ℕ → List ℕ → Type 0
AllBelow K l = all (λ n. ltb n K) l ≡ true

without_below : (K : ℕ) (l : List ℕ) → AllBelow (suc K) l → AllBelow K (without K l)
unfolding without
without_below K [] h = refl
without_below K (y ∷ l) h = go (eqb y K) refl (without_below K l (and_second (ltb y (suc K)) _ h))
  where
    go : (b : Bool) → eqb y K ≡ b → AllBelow K (without K l) → AllBelow K (without K (y ∷ l))
    go true e r = rw e r
    go false e r =
        let other : y ≡ K → ⊥ = eqb-false y K e in
        let least : y < suc K = ltb-true y (suc K) (and_first (ltb y (suc K)) _ h) in
        rw (e, lt-ltb y K (omega arith)) r

pub different_below : (K : ℕ) (l : List ℕ) → AllBelow K l → distinct l ≡ true → length l ≤ K
different_below zero [] h d = omega arith
different_below zero (y ∷ l) h d = absurd (omega (arith, ltb-true y 0 (and_first (ltb y 0) _ h)))
different_below (suc K) l h d =
    let fewer : length (without K l) ≤ K = different_below K (without K l) (without_below K l h) (without_distinct K l d) in
    omega (arith, without_length K l d)

pub below_more : (K m : ℕ) (l : List ℕ) → K ≤ m → AllBelow K l → AllBelow m l
below_more K m [] g h = refl
below_more K m (y ∷ l) g h =
    let first : y < K = ltb-true y K (and_first (ltb y K) _ h) in
    rw (lt-ltb y m (omega arith)) (below_more K m l g (and_second (ltb y K) _ h))
