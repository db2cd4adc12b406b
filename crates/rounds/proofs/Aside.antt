-- Numbers laid aside in 64 cells.
use mathlib.Core.Path.{◌≡◌, refl, sym, ap, ◌∙◌}
use mathlib.Core.Bool.{Bool, true, false}
use mathlib.Core.List.{List, ◌++◌}
use Prim.Native.Nat.{ℕ, ◌+◌, ◌-◌, ◌≤◌, ◌<◌, min}
use native.Mathlib.Omega.{arith}
use borrow.Author.Tests.{ltb-true, ltb-false}
use lib.Dec.{ltb}
use lib.ListN.{length, get_or, take, drop, replicate, length-append, length-take, length-drop, length-replicate}
use lib.ListN.{get_or-append, get_or-replicate, get_or-eq_default}
use lib.Seq.{ext_get_or, get_or-take, get_or-append_right, length-take-le}
use Rattle.std.proofs.lemmas.List.{get_or-drop}
use Rattle.theory.specs.Basics.{cells}
use Rattle.theory.proofs.GoodMemory.{length-cells, get_or-cells}

-- The cells that lay a list aside
abbrev pub aside : List ℕ → List ℕ
aside l = cells 64 (λ i. get_or l i 0)

-- As many numbers as there are cells put before the cells that are left, which have 0
pub aside_by : (l : List ℕ) (n : ℕ) (part : List ℕ) → n ≡ min (length l) 64 → part ≡ take n l → part ++ drop n (replicate 64 0) ≡ aside l
aside_by l n part few is = ext_get_or 0 (part ++ rest) (aside l) (whole ∙ sym (length-cells 64 (λ j. get_or l j 0))) λ j k.
    let below : j < 64 = omega (arith, whole) in
    go j below (ltb j n) refl ∙ sym (get_or-cells 64 (λ i. get_or l i 0) 0 j below)
  where
    rest : List ℕ
    rest = drop n (replicate 64 0)

    size : length part ≡ n
    size = rw is (length-take-le n l (omega arith))

    whole : length (part ++ rest) ≡ 64
    whole = length-append part rest ∙ omega (arith, size, length-drop n (replicate {A = ℕ} 64 0), length-replicate {A = ℕ} 64 0)

    go : (j : ℕ) → j < 64 → (t : Bool) → ltb j n ≡ t → get_or (part ++ rest) j 0 ≡ get_or l j 0
    go j k true e =
        let h : j < n = ltb-true j n e in
        get_or-append part rest 0 j (omega (arith, size)) ∙ rw is (get_or-take n l j 0 h)
    go j k false e =
        let h : n ≤ j = ltb-false j n e in
        get_or-append_right part rest j 0 (omega (arith, size))
        ∙ get_or-drop n (replicate 64 0) (j - length part) 0 ∙ get_or-replicate {A = ℕ} 64 (n + (j - length part)) 0 0 (omega (arith, size))
        ∙ sym (get_or-eq_default l 0 {n = j} (omega arith))

-- What was laid aside is the list again, as many as there were
pub aside_take : (l copy : List ℕ) → copy ≡ aside l → length l ≤ 64 → take (length l) copy ≡ l
aside_take l copy is few = ap (take (length l)) is ∙ ext_get_or 0 (take (length l) (aside l)) l size λ j k.
    get_or-take (length l) (aside l) j 0 (rw size at k) ∙ get_or-cells 64 (λ n. get_or l n 0) 0 j (omega (arith, rw size at k))
  where
    size : length (take (length l) (aside l)) ≡ length l
    size = simp length-take (omega (arith, length-cells 64 (λ n. get_or l n 0)))
