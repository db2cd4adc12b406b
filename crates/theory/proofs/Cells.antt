-- Cells after a put, and where a list stands in another. Both serve variables and registers, lines and instructions.
use mathlib.Core.Path.{◌≡◌, refl, sym, ap, ◌∙◌, subst, fun_ext}
use mathlib.Core.Logic.{◌≢◌}
use mathlib.Core.Bool.{Bool, true, false, cond}
use mathlib.Core.Option.{some, none-ne-some, some-injective}
use mathlib.Core.List.{List, [], ◌∷◌, ◌++◌}
use Prim.Native.Nat.{ℕ, zero, suc, ◌+◌, ◌≤◌, ◌<◌}
use native.Mathlib.Nat.{add-zero, add-suc, suc-add}
use native.Mathlib.Omega.{arith}
use lib.ListN.{length, get_elem?}
use lib.Dec.{eqb}
use borrow.Author.Tests.{eqb-true, eqb-false, eq-eqb, ne_eqb}
use Rattle.theory.specs.Basics.{at, put, all, EachOf}
use Rattle.theory.proofs.Faults.{and_first, and_second}

module _ {A : Type 0} where
  pub put_same : (f : ℕ → A) (i : ℕ) (x : A) → put f i x i ≡ x
  unfolding put
  put_same f i x = ap (λ c. cond c x (f i)) (eq-eqb i i refl)

  pub put_other : (f : ℕ → A) (i : ℕ) (x : A) (j : ℕ) → j ≢ i → put f i x j ≡ f j
  unfolding put
  put_other f i x j h = ap (λ c. cond c x (f j)) (ne_eqb j i h)

  -- Whatever holds of the new value and of the other cells holds of every cell
  pub put_ind : (P : A → Type 0) (f : ℕ → A) (i : ℕ) (x : A) (j : ℕ) → (j ≡ i → P x) → (j ≢ i → P (f j)) → P (put f i x j)
  unfolding put
  put_ind P f i x j p q = go (eqb j i) refl
    where
      go : (b : Bool) → eqb j i ≡ b → P (cond b x (f j))
      go true e = p (eqb-true j i e)
      go false e = q (eqb-false j i e)

  pub put_cases : (f : ℕ → A) (i : ℕ) (x : A) (j : ℕ) (y : A) → (j ≡ i → x ≡ y) → (j ≢ i → f j ≡ y) → put f i x j ≡ y
  put_cases f i x j y = put_ind (λ z. z ≡ y) f i x j

  pub put-put : (f : ℕ → A) (i : ℕ) (x y : A) → put (put f i x) i y ≡ put f i y
  put-put f i x y = fun_ext λ j. put_cases (put f i x) i y j (put f i y j)
      (λ e. sym (ap (put f i y) e ∙ put_same f i y))
      (λ h. put_other f i x j h ∙ sym (put_other f i y j h))

  pub put_comm : (f : ℕ → A) (i j : ℕ) (x y : A) → i ≢ j → put (put f i x) j y ≡ put (put f j y) i x
  put_comm f i j x y h = fun_ext λ k. put_cases (put f i x) j y k (put (put f j y) i x k)
      (λ e. sym (put_other (put f j y) i x k (λ e'. h (sym e' ∙ e)) ∙ (ap (put f j y) e ∙ put_same f j y)))
      (λ n. put_cases f i x k (put (put f j y) i x k)
      (λ e. sym (ap (put (put f j y) i x) e ∙ put_same (put f j y) i x))
      (λ n'. sym (put_other (put f j y) i x k n' ∙ put_other f j y k n)))

  pub put_id : (f : ℕ → A) (i : ℕ) (x : A) → f i ≡ x → put f i x ≡ f
  put_id f i x e = fun_ext λ j. put_cases f i x j (f j) (λ e'. sym e ∙ ap f (sym e')) (λ h. refl)

-- xs stands in w from place q on. Places count from 1
abbrev pub Sits : {A : Type 0} → List A → ℕ → List A → Type 0
Sits w q [] = Unit {0}
Sits w q (x ∷ xs) = (at w q ≡ some x) × Sits w (suc q) xs

module _ {A : Type 0} (w : List A) where
  pub sits_left : (q : ℕ) (xs ys : List A) → Sits w q (xs ++ ys) → Sits w q xs
  sits_left q [] ys h = tt
  sits_left q (x ∷ xs) ys h = (h.0, sits_left (suc q) xs ys h.1)

  pub sits_right : (q : ℕ) (xs ys : List A) → Sits w q (xs ++ ys) → Sits w (q + length xs) ys
  sits_right q [] ys h = rw add-zero h
  sits_right q (x ∷ xs) ys h =
      subst (λ r. Sits w r ys) (suc-add q (length xs) ∙ sym (add-suc q (length xs))) (sits_right (suc q) xs ys h.1)

at_later : {A : Type 0} (x : A) (w : List A) (q : ℕ) (y : A) → at w q ≡ some y → at (x ∷ w) (suc q) ≡ some y
at_later x w zero y h = absurd (none-ne-some y h)
at_later x w (suc q) y h = h

pub sits_later : {A : Type 0} (x : A) (w : List A) (q : ℕ) (xs : List A) → Sits w q xs → Sits (x ∷ w) (suc q) xs
sits_later x w q [] h = tt
sits_later x w q (y ∷ xs) h = (at_later x w q y h.0, sits_later x w (suc q) xs h.1)

pub sits_self : {A : Type 0} (xs : List A) → Sits xs 1 xs
sits_self [] = tt
sits_self (x ∷ xs) = (refl, sits_later x xs 1 xs (sits_self xs))

-- What stands at a place stands within the list
get_elem-within : {A : Type 0} (l : List A) (n : ℕ) (a : A) → get_elem? l n ≡ some a → n < length l
get_elem-within [] n a e = absurd (none-ne-some a e)
get_elem-within (x ∷ l) zero a e = omega arith
get_elem-within (x ∷ l) (suc n) a e = omega (arith, get_elem-within l n a e)

pub at-within : {A : Type 0} (l : List A) (n : ℕ) (a : A) → at l n ≡ some a → (0 < n) × (n ≤ length l)
at-within l zero a e = absurd (none-ne-some a e)
at-within l (suc n) a e = let h : n < length l = get_elem-within l n a e in (omega arith, omega arith)

-- and has what each element has
pub each_at : {A : Type 0} (P : A → Type 0) (l : List A) (n : ℕ) (a : A) → EachOf P l → get_elem? l n ≡ some a → P a
each_at P [] n a h e = absurd (none-ne-some a e)
each_at P (x ∷ l) zero a h e = subst P (some-injective x a e) h.0
each_at P (x ∷ l) (suc n) a h e = each_at P l n a h.1 e

-- and a test passes there, where it passes at each
pub all-at : {A : Type 0} (f : A → Bool) (l : List A) (n : ℕ) (a : A) → all f l ≡ true → at l n ≡ some a → f a ≡ true
all-at f l zero a h e = absurd (none-ne-some a e)
all-at f [] (suc n) a h e = absurd (none-ne-some a e)
all-at f (x ∷ l) (suc zero) a h e = ap f (sym (some-injective x a e)) ∙ and_first (f x) (all f l) h
all-at f (x ∷ l) (suc (suc n)) a h e = all-at f l (suc n) a (and_second (f x) (all f l) h) e

-- and something stands at each place within
get_elem_there : {A : Type 0} (l : List A) (n : ℕ) → n < length l → (a : A) × (get_elem? l n ≡ some a)
get_elem_there [] n h = absurd (omega arith)
get_elem_there (a ∷ l) zero h = (a, refl)
get_elem_there (a ∷ l) (suc n) h = get_elem_there l n (omega arith)

pub at_there : {A : Type 0} (l : List A) (n : ℕ) → 0 < n → n ≤ length l → (a : A) × (at l n ≡ some a)
at_there l zero h g = absurd (omega arith)
at_there l (suc n) h g = get_elem_there l n (omega arith)
