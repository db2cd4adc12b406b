-- The value of a word by its registers: the test on a machine and the paper's condition.
use mathlib.Core.Path.{◌≡◌, refl, sym, ap, ◌∙◌}
use mathlib.Core.Bool.{Bool, true, false, cond}
use mathlib.Core.List.{List, [], ◌∷◌}
use Prim.Native.Nat.{ℕ, zero, suc, ◌+◌, ◌-◌, ◌≤◌, ◌<◌}
use native.Mathlib.Omega.{arith}
use lib.ListN.{length}
use lib.Dec.{eqb, ltb}
use borrow.Author.Tests.{eq-eqb, eqb-true, ltb-true, ltb-false}
use Rattle.theory.specs.Basics.{all_below}
use Rattle.theory.specs.Word.{Symbol}
use Rattle.theory.specs.Machines.{valued, untidy, HasValue, is_tidy, value_at}
use Rattle.theory.proofs.GoodMemory.{all_below-at, all_below-from}

pub all_below-same : (n : ℕ) (f g : ℕ → Bool) → ((i : ℕ) → i < n → f i ≡ g i) → all_below n f ≡ all_below n g
all_below-same zero f g h = refl
all_below-same (suc n) f g h = rw (all_below-same n f g (λ i l. h i (omega arith)), h n (omega arith))

-- It goes by what the registers hold
pub value_same : (n : ℕ) (f g : ℕ → List Symbol) → ((r : ℕ) → 0 < r → f r ≡ g r) → value_at n f ≡ value_at n g
value_same n f g h =
    let tidy : is_tidy n f ≡ is_tidy n g =
    all_below-same (n - 1) (λ i. eqb (length (f (i + 2))) 0) (λ i. eqb (length (g (i + 2))) 0)
    (λ i l. ap (λ xs. eqb (length xs) 0) (h (i + 2) (omega arith))) in
    rw (tidy, h 1 (omega arith))

-- Where every register but the first is empty, so are those of a machine
pub has_value : (n : ℕ) (f : ℕ → List Symbol) (xs : List Symbol) → HasValue f xs → value_at n f ≡ valued xs
has_value n f xs h =
    let tidy : is_tidy n f ≡ true = all_below-from (n - 1) (λ i. eqb (length (f (i + 2))) 0)
    (λ i l. eq-eqb (length (f (i + 2))) 0 (ap length (h.1 (i + 2) (omega arith)))) in
    rw (tidy, h.0)

-- and where those of a machine are, and it has no others
pub value_held : (n : ℕ) (f : ℕ → List Symbol) (xs : List Symbol) → ((i : ℕ) → n ≤ i → f (suc i) ≡ []) → value_at n f ≡ valued xs
    → HasValue f xs
value_held n f xs beyond e = go (is_tidy n f) refl e
  where
    no_symbols : (ys : List Symbol) → length ys ≡ 0 → ys ≡ []
    no_symbols [] e = refl
    no_symbols (y ∷ ys) e = absurd (omega arith)

    rest : is_tidy n f ≡ true → (r : ℕ) → 1 < r → f r ≡ []
    rest tidy zero l = absurd (omega arith)
    rest tidy (suc zero) l = absurd (omega arith)
    rest tidy (suc (suc i)) l = by_count (ltb i (n - 1)) refl
      where
        by_count : (t : Bool) → ltb i (n - 1) ≡ t → f (suc (suc i)) ≡ []
        by_count true q =
            let two : i + 2 ≡ suc (suc i) = omega arith in
            let here = all_below-at (n - 1) (λ i. eqb (length (f (i + 2))) 0) tidy i (ltb-true i (n - 1) q) in
            sym (ap f two) ∙ no_symbols (f (i + 2)) (eqb-true (length (f (i + 2))) 0 here)
        by_count false q = beyond (suc i) (omega (arith, ltb-false i (n - 1) q))

    go : (t : Bool) → is_tidy n f ≡ t → cond t (valued (f 1)) untidy ≡ valued xs → HasValue f xs
    go true tidy q = (let same : f 1 ≡ xs = cc in same, rest tidy)
    go false tidy q = let z : ◌≡◌ {A = ℕ} 0 1 = cc in absurd (omega arith)
