-- The lengths after m turns, register by register; and what the code does to them.
use mathlib.Core.Path.{◌≡◌, refl, sym, ap, ◌∙◌}
use mathlib.Core.Bool.{Bool, true, false, cond}
use mathlib.Core.Logic.{◌⊎◌, inl, inr, ⊎_elim}
use mathlib.Core.List.{List}
use Prim.Native.Nat.{ℕ, zero, suc, ◌+◌, ◌-◌, ◌*◌, ◌≤◌, ◌<◌}
use native.Mathlib.Nat.{mul-zero, zero-mul}
use native.Mathlib.Omega.{arith}
use lib.ListN.{length, get_or, set, length-set, get_or-eq_default}
use lib.Seq.{ext_get_or, get_or-set_same, get_or-set_other}
use lib.Dec.{eqb, ltb}
use borrow.Author.Tests.{eqb-true, eqb-false, ltb-true, ltb-false}
use Rattle.theory.specs.Machines.{capacity_of}
use Rattle.theory.proofs.GoodMemory.{length-cells, get_or-cells}
use Rattle.drains.specs.Drains.{times, poured}
use Rattle.drains.specs.Pours.{Filled}

pub lt_or_le : (a b : ℕ) → (a < b) ⊎ (b ≤ a)
lt_or_le a b = go (ltb a b) refl
  where
    go : (t : Bool) → ltb a b ≡ t → (a < b) ⊎ (b ≤ a)
    go true e = inl (ltb-true a b e)
    go false e = inr (ltb-false a b e)

module _ (a : ℕ) (bs : List ℕ) (m : ℕ) (l : List ℕ) where
  abbrev then_at : ℕ → ℕ
  then_at i = cond (eqb (suc i) a) (get_or l i 0 - m) (get_or l i 0 + m * times (suc i) bs)

  pub poured-length : length (poured a bs m l) ≡ length l
  unfolding poured
  poured-length = length-cells (length l) then_at

  poured-at : (i : ℕ) → i < length l
      → get_or (poured a bs m l) i 0 ≡ cond (eqb (suc i) a) (get_or l i 0 - m) (get_or l i 0 + m * times (suc i) bs)
  unfolding poured
  poured-at i h = get_or-cells (length l) then_at 0 i h

  -- of a loop that names no register but those that there are
  pub poured_of : ((r : ℕ) → 1 ≤ times r bs → (1 ≤ r) × (r ≤ length l)) → (r : ℕ)
      → capacity_of (poured a bs m l) r ≡ cond (eqb r a) (capacity_of l r - m) (capacity_of l r + m * times r bs)
  poured_of named r = by_register r refl
    where
      -- a register that there is not
      none : (r : ℕ) → capacity_of l r ≡ 0 → capacity_of (poured a bs m l) r ≡ 0 → times r bs ≡ 0 → (t : Bool)
          → capacity_of (poured a bs m l) r ≡ cond t (capacity_of l r - m) (capacity_of l r + m * times r bs)
      none r x y z true = omega arith
      none r x y z false = rw (x, y, z, mul-zero m)

      unnamed : (r : ℕ) → ((1 ≤ r) × (r ≤ length l) → ⊥) → times r bs ≡ 0
      unnamed r other = go (times r bs) refl
        where
          go : (x : ℕ) → times r bs ≡ x → times r bs ≡ 0
          go zero e = e
          go (suc x) e = absurd (other (named r (omega arith)))

      by_register : (s : ℕ) → r ≡ s
          → capacity_of (poured a bs m l) s ≡ cond (eqb s a) (capacity_of l s - m) (capacity_of l s + m * times s bs)
      by_register zero e = none 0 refl refl (unnamed 0 (λ h. omega (arith, h.0))) (eqb 0 a)
      by_register (suc i) e = ⊎_elim
          (λ (h : i < length l). poured-at i h)
          (λ (h : length l ≤ i). none (suc i) (get_or-eq_default l 0 h)
          (get_or-eq_default (poured a bs m l) 0 (omega (arith, poured-length))) (unnamed (suc i) (λ z. omega (arith, z.1)))
          (eqb (suc i) a))
          (lt_or_le i (length l))

-- No turn
pub poured_none : (a : ℕ) (bs l : List ℕ) → poured a bs 0 l ≡ l
poured_none a bs l =
    ext_get_or 0 (poured a bs 0 l) l (poured-length a bs 0 l) λ i h.
    let below : i < length l = omega (arith, poured-length a bs 0 l) in
    poured-at a bs 0 l i below ∙ go i (eqb (suc i) a)
  where
    go : (i : ℕ) (t : Bool) → cond t (get_or l i 0 - 0) (get_or l i 0 + 0 * times (suc i) bs) ≡ get_or l i 0
    go i true = omega arith
    go i false = omega (arith, zero-mul (times (suc i) bs))

-- m less in one register, and m more in the others for each time that they are named
pub poured_filled : (a : ℕ) (bs : List ℕ) (m : ℕ) (l after : List ℕ) → times (suc a) bs ≡ 0 → a < length l
    → Filled bs m (set l a (get_or l a 0 - m)) after → after ≡ poured (suc a) bs m l
poured_filled a bs m l after apart there f =
    ext_get_or 0 after (poured (suc a) bs m l) (size ∙ sym (poured-length (suc a) bs m l)) λ i h.
    f.more i (omega (arith, f.same)) ∙ go i (eqb (suc i) (suc a)) refl
    ∙ sym (poured-at (suc a) bs m l i (omega (arith, size)))
  where
    x : ℕ
    x = get_or l a 0 - m

    size : length after ≡ length l
    size = f.same ∙ length-set l a x

    go : (i : ℕ) (t : Bool) → eqb (suc i) (suc a) ≡ t
        → get_or (set l a x) i 0 + m * times (suc i) bs ≡ cond t (get_or l i 0 - m) (get_or l i 0 + m * times (suc i) bs)
    go i true e =
        let here : i ≡ a = omega (arith, eqb-true (suc i) (suc a) e) in
        rw (here, get_or-set_same l a x 0 there, apart, mul-zero m) (omega arith)
    go i false e = rw (get_or-set_other l a i x 0 (λ z. eqb-false (suc i) (suc a) e (ap suc z)))
