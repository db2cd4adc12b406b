-- A list seen from the last place to the first.
use mathlib.Core.Path.{◌≡◌, refl, sym, ◌∙◌}
use mathlib.Core.Bool.{Bool, true, false}
use mathlib.Core.List.{List, [], ◌∷◌}
use Prim.Native.Nat.{ℕ, suc, ◌-◌, ◌≤◌, ◌<◌, min}
use native.Mathlib.Omega.{arith}
use lib.ListN.{length, take, drop, get_or, length-take, drop_of_length-le}
use lib.Seq.{drop-cons, length-take-le, get_or-take, take_all}
use lib.Dec.{ltb}
use borrow.Author.Tests.{ltb-true, ltb-false}

pub drop-back : (l : List ℕ) (k : ℕ) → 0 < k → k ≤ length l → drop (k - 1) l ≡ get_or l (k - 1) 0 ∷ drop k l
drop-back l k h g =
    let again : suc (k - 1) ≡ k = omega arith in
    let first : drop (k - 1) l ≡ get_or l (k - 1) 0 ∷ drop (suc (k - 1)) l = drop-cons l (k - 1) 0 (omega arith) in
    rw again at first

-- Of the first n
pub drop_back_take : (n : ℕ) (l : List ℕ) (k : ℕ) → n ≤ length l → 0 < k → k ≤ n
    → drop (k - 1) (take n l) ≡ get_or l (k - 1) 0 ∷ drop k (take n l)
drop_back_take n l k f h g =
    let size : length (take n l) ≡ n = length-take-le n l f in
    let within : k - 1 < n = omega arith in
    rw get_or-take at (drop-back (take n l) k h (omega arith))

pub drop_taken : (n : ℕ) (l : List ℕ) → drop n (take n l) ≡ []
drop_taken n l = drop_of_length-le (take n l) {i = n} (omega (arith, length-take n l))

-- The first n of m are the first of them all where n is m or more
pub take_least : (n : ℕ) (l : List ℕ) (m : ℕ) → length l ≡ m → take (min n m) l ≡ take n l
take_least n l m e = go (ltb n m) refl
  where
    go : (b : Bool) → ltb n m ≡ b → take (min n m) l ≡ take n l
    go true h =
        let same : min n m ≡ n = omega (arith, ltb-true n m h) in
        rw same
    go false h =
        let all_of : min n m ≡ m = omega (arith, ltb-false n m h) in
        rw all_of (take_all m l (omega arith) ∙ sym (take_all n l (omega (arith, ltb-false n m h))))
