-- Appends of m ones, one append after the other.
use mathlib.Core.Path.{◌≡◌, refl, ap, ◌∙◌}
use mathlib.Core.Bool.{Bool, true, false, cond}
use mathlib.Core.List.{List, [], ◌∷◌}
use Prim.Native.Nat.{ℕ, zero, suc, ◌+◌, ◌*◌, ◌≤◌, ◌<◌}
use native.Mathlib.Nat.{mul-zero, mul-suc, mul-le-mul_left}
use native.Mathlib.Numerals.{add-one}
use native.Mathlib.Omega.{arith}
use lib.ListN.{length, take, get_or, set, length-set}
use lib.Seq.{get_or-set_same, get_or-set_other, take-length}
use lib.Dec.{eqb}
use borrow.Author.Tests.{eqb-true, eqb-false, eq-eqb}
use Rattle.drains.specs.Drains.{times}
use Rattle.drains.specs.Pours.{Filled}

module _ (r : ℕ) where
  abbrev counting : Bool → ℕ → ℕ
  counting t n = cond t (suc n) n

  swap : (s t : Bool) (n : ℕ) → counting s (counting t n) ≡ counting t (counting s n)
  swap true true n = refl
  swap true false n = refl
  swap false true n = refl
  swap false false n = refl

  -- One append more
  pub times-next : (bs : List ℕ) (j : ℕ) → j < length bs
      → times r (take (suc j) bs) ≡ cond (eqb r (get_or bs j 0)) (suc (times r (take j bs))) (times r (take j bs))
  unfolding times
  times-next [] j h = absurd (omega arith)
  times-next (b ∷ bs) zero h = refl
  times-next (b ∷ bs) (suc j) h =
      ap (counting (eqb r b)) (times-next bs j (omega arith)) ∙ swap (eqb r b) (eqb r (get_or bs j 0)) (times r (take j bs))

  pub times-take : (bs : List ℕ) (j : ℕ) → times r (take j bs) ≤ times r bs
  unfolding times
  times-take bs zero = omega arith
  times-take [] (suc j) = omega arith
  times-take (b ∷ bs) (suc j) = go (eqb r b) (times-take bs j)
    where
      go : (t : Bool) → times r (take j bs) ≤ times r bs → counting t (times r (take j bs)) ≤ counting t (times r bs)
      go true h = omega arith
      go false h = h

pub filled_none : (bs : List ℕ) (m : ℕ) (l : List ℕ) → Filled (take 0 bs) m l l
unfolding times
filled_none bs m l = record { same = refl; more = λ i h. omega (arith, mul-zero m) }

module _ (bs : List ℕ) (m : ℕ) (before l : List ℕ) (j r : ℕ) (f : Filled (take j bs) m before l) (h : j < length bs)
    (is : r + 1 ≡ get_or bs j 0) (there : r < length before) where
  next-times : times (suc r) (take (suc j) bs) ≡ suc (times (suc r) (take j bs))
  next-times = times-next (suc r) bs j h ∙ rw (eq-eqb (suc r) (get_or bs j 0) (omega arith))

  pub filled_fits : get_or l r 0 + m ≤ get_or before r 0 + m * times (suc r) bs
  filled_fits =
      let all : m * suc (times (suc r) (take j bs)) ≤ m * times (suc r) bs =
      mul-le-mul_left m (rw next-times at (times-take (suc r) bs (suc j))) in
      omega (arith, f.more r there, mul-suc m (times (suc r) (take j bs)))

  pub filled_next : (x : ℕ) → x ≡ get_or l r 0 + m → Filled (take (j + 1) bs) m before (set l r x)
  filled_next x e = rw (add-one j) (record { same = length-set l r x ∙ f.same; more = more })
    where
      go : (i : ℕ) → i < length before → (t : Bool) → eqb (suc i) (get_or bs j 0) ≡ t
          → get_or (set l r x) i 0 ≡ get_or before i 0 + m * cond t (suc (times (suc i) (take j bs))) (times (suc i) (take j bs))
      go i hi true q =
          let i_is : i ≡ r = omega (arith, eqb-true (suc i) (get_or bs j 0) q) in
          let sum = mul-suc m (times (suc r) (take j bs)) in
          rw i_is (get_or-set_same l r x 0 (omega (arith, f.same)) ∙ (e ∙ omega (arith, f.more r there, sum)))
      go i hi false q =
          get_or-set_other l r i x 0 (λ z. eqb-false (suc i) (get_or bs j 0) q (omega arith)) ∙ f.more i hi

      more : (i : ℕ) → i < length before → get_or (set l r x) i 0 ≡ get_or before i 0 + m * times (suc i) (take (suc j) bs)
      more i hi = rw (times-next (suc i) bs j h) (go i hi (eqb (suc i) (get_or bs j 0)) refl)

pub filled_all : (bs : List ℕ) (m : ℕ) (before l : List ℕ) (j : ℕ) → j ≡ length bs → Filled (take j bs) m before l → Filled bs m before l
filled_all bs m before l j e f = let all : take j bs ≡ bs = ap (λ n. take n bs) e ∙ take-length bs in rw all at f
