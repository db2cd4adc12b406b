-- 32 cells: cells that agree, one that is written, and a list that stands at their front.
use mathlib.Core.Path.{◌≡◌, refl, sym, ap₂, ◌∙◌}
use mathlib.Core.Bool.{Bool, true, false}
use mathlib.Core.List.{List, ◌∷◌}
use Prim.Native.Nat.{ℕ, zero, suc, ◌≤◌, ◌<◌}
use native.Mathlib.Omega.{arith}
use lib.ListN.{length, take, get_or, set, length-set, length-take}
use lib.Seq.{ext_get_or, get_or-take, get_or-set_same, get_or-set_other}
use lib.Dec.{eqb}
use borrow.Author.Tests.{eqb-true, eqb-false}
use Rattle.theory.specs.Basics.{cells}
use Rattle.theory.proofs.GoodMemory.{length-cells, get_or-cells}
use Rattle.columns.specs.Columns.{padded}

-- Cells that agree
pub cells_same : (n : ℕ) (f g : ℕ → ℕ) → ((i : ℕ) → i < n → f i ≡ g i) → cells n f ≡ cells n g
cells_same zero f g h = refl
cells_same (suc n) f g h =
    ap₂ {C = List ℕ} ◌∷◌ (h 0 (omega arith)) (cells_same n (λ i. f (suc i)) (λ i. g (suc i)) (λ i l. h (suc i) (omega arith)))

-- Cells of which one is written
pub cells-set : (n : ℕ) (f g : ℕ → ℕ) (i x : ℕ) → (i < n → g i ≡ x) → ((j : ℕ) → (j ≡ i → ⊥) → g j ≡ f j) → set (cells n f) i x ≡ cells n g
cells-set n f g i x h o = ext_get_or 0 (set (cells n f) i x) (cells n g) sizes same
  where
    size : length (set (cells n f) i x) ≡ n
    size = length-set (cells n f) i x ∙ length-cells n f

    sizes : length (set (cells n f) i x) ≡ length (cells n g)
    sizes = size ∙ sym (length-cells n g)

    at : (j : ℕ) → j < n → (b : Bool) → eqb j i ≡ b → get_or (set (cells n f) i x) j 0 ≡ g j
    at j l true e =
        let here : j ≡ i = eqb-true j i e in
        rw here (get_or-set_same (cells n f) i x 0 (omega (arith, length-cells n f)) ∙ sym (h (omega arith)))
    at j l false e =
        let other : j ≡ i → ⊥ = eqb-false j i e in
        get_or-set_other (cells n f) i j x 0 other ∙ get_or-cells n f 0 j l ∙ sym (o j other)

    same : (j : ℕ) → j < length (set (cells n f) i x) → get_or (set (cells n f) i x) j 0 ≡ get_or (cells n g) j 0
    same j l = at j (omega (arith, size)) (eqb j i) refl ∙ sym (get_or-cells n g 0 j (omega (arith, size)))

-- A list in 32 cells

length-padded : (l : List ℕ) → length (padded l) ≡ 32
unfolding padded
length-padded l = length-cells 32 (λ i. get_or l i 0)

get_or-padded : (l : List ℕ) (i : ℕ) → i < 32 → get_or (padded l) i 0 ≡ get_or l i 0
unfolding padded
get_or-padded l i h = get_or-cells 32 (λ j. get_or l j 0) 0 i h

pub padded-take : (l : List ℕ) → length l ≤ 32 → take (length l) (padded l) ≡ l
padded-take l h = ext_get_or 0 (take (length l) (padded l)) l size same
  where
    size : length (take (length l) (padded l)) ≡ length l
    size = rw length-take (omega (arith, length-padded l))

    same : (i : ℕ) → i < length (take (length l) (padded l)) → get_or (take (length l) (padded l)) i 0 ≡ get_or l i 0
    same i g =
        let within : i < length l = omega (arith, size) in
        get_or-take (length l) (padded l) i 0 within ∙ get_or-padded l i (omega arith)
