-- The lengths of registers, one of which has other contents.
use mathlib.Core.Path.{◌≡◌, refl, sym, ◌∙◌}
use mathlib.Core.Logic.{◌≢◌}
use mathlib.Core.Bool.{Bool, true, false}
use mathlib.Core.List.{List}
use Prim.Native.Nat.{ℕ, suc, ◌<◌}
use native.Mathlib.Omega.{arith}
use borrow.Author.Tests.{eqb-true, eqb-false}
use lib.Dec.{eqb}
use lib.ListN.{length, get_or, set, length-set}
use lib.Seq.{ext_get_or, get_or-set_same, get_or-set_other}
use Rattle.theory.specs.Basics.{put}
use Rattle.theory.specs.Word.{Symbol}
use Rattle.theory.specs.Machines.{lengths_of}
use Rattle.theory.proofs.Cells.{put_same, put_other}
use Rattle.theory.proofs.GoodMemory.{length-cells, get_or-cells}

pub lengths_put : (n : ℕ) (f : ℕ → List Symbol) (xs : List Symbol) (i : ℕ) → i < n
    → set (lengths_of n f) i (length xs) ≡ lengths_of n (put f (suc i) xs)
lengths_put n f xs i h = ext_get_or 0 (set (lengths_of n f) i (length xs)) (lengths_of n (put f (suc i) xs)) sizes each
  where
    size : length (lengths_of n f) ≡ n
    size = length-cells n λ j. length (f (suc j))

    sizes : length (set (lengths_of n f) i (length xs)) ≡ length (lengths_of n (put f (suc i) xs))
    sizes = length-set (lengths_of n f) i (length xs) ∙ size ∙ sym (length-cells n λ j. length (put f (suc i) xs (suc j)))

    each : (j : ℕ) → j < length (set (lengths_of n f) i (length xs))
        → get_or (set (lengths_of n f) i (length xs)) j 0 ≡ get_or (lengths_of n (put f (suc i) xs)) j 0
    each j l =
        let below : j < n = omega (arith, length-set (lengths_of n f) i (length xs), size) in
        let new = get_or-cells n (λ k. length (put f (suc i) xs (suc k))) 0 j below in
        go (eqb j i) refl below new
      where
        go : (t : Bool) → eqb j i ≡ t → j < n → get_or (lengths_of n (put f (suc i) xs)) j 0 ≡ length (put f (suc i) xs (suc j))
            → get_or (set (lengths_of n f) i (length xs)) j 0 ≡ get_or (lengths_of n (put f (suc i) xs)) j 0
        go true t below new =
            let e : j ≡ i = eqb-true j i t in
            rw (new, e, get_or-set_same (lengths_of n f) i (length xs) 0 (omega (arith, size)), put_same f (suc i) xs)
        go false t below new =
            let differ : j ≢ i = eqb-false j i t in
            let apart : suc j ≢ suc i = λ z. absurd (omega arith) in
            rw (new, get_or-set_other (lengths_of n f) i j (length xs) 0 differ, put_other f (suc i) xs (suc j) apart)
            (get_or-cells n (λ k. length (f (suc k))) 0 j below)
