-- The 82 numbers of a source state, by their parts, and once its capacities, values and passes-left have been written into theirs.
use mathlib.Core.Path.{◌≡◌, refl, sym, ap, ◌∙◌}
use mathlib.Core.List.{List, [], ◌∷◌, ◌++◌, append_assoc, append-nil}
use Prim.Native.Nat.{ℕ, ◌+◌, ◌-◌, ◌≤◌}
use native.Mathlib.Nat.{zero-add, suc-add}
use native.Mathlib.Omega.{arith}
use lib.ListN.{length, get_or, take, drop, set, length-append, length-take, length-drop, take-append-drop}
use lib.Seq.{take_at, drop_at, take_all, drop-cons, drop-drop}
use borrow.Rule.Slice.PartMut.{put_mid}

-- A part of so many numbers, from a place
pub part_length : (n : List ℕ) (a k : ℕ) → a ≤ length n → k ≤ length n - a → length (take k (drop a n)) ≡ k
part_length n a k h g = simp (length-take, length-drop) (omega arith)

-- Numbers by their parts: 32, two, 32 and 16
abbrev pub laid : List ℕ → ℕ → ℕ → List ℕ → List ℕ → List ℕ
laid c a b v p = c ++ (a ∷ b ∷ (v ++ p))

pub laid_same : {c c' v v' p p' : List ℕ} (a b : ℕ) → c ≡ c' → v ≡ v' → p ≡ p' → laid c a b v p ≡ laid c' a b v' p'
laid_same a b e f g = rw (e, f, g)

laid-length : (c : List ℕ) (a b : ℕ) (v p : List ℕ) → length c ≡ 32 → length v ≡ 32 → length p ≡ 16 → length (laid c a b v p) ≡ 82
laid-length c a b v p h g e = simp length-append (omega arith)

pub parts : (n : List ℕ) → length n ≡ 82 → laid (take 32 n) (get_or n 32 0) (get_or n 33 0) (take 32 (drop 34 n)) (take 16 (drop 66 n)) ≡ n
parts n e =
    let few : length (drop 66 n) ≤ 16 = simp length-drop (omega arith) in
    let rest : take 32 (drop 34 n) ++ take 16 (drop 66 n) ≡ drop 34 n =
    rw (take_all 16 (drop 66 n) few, ← drop-drop 32 34 n) (take-append-drop 32 (drop 34 n)) in
    ap (λ (r : List ℕ). take 32 n ++ (get_or n 32 0 ∷ get_or n 33 0 ∷ r)) rest
    ∙ (ap (λ (r : List ℕ). take 32 n ++ (get_or n 32 0 ∷ r)) (sym (drop-cons n 33 0 (omega arith)))
    ∙ (ap (λ (r : List ℕ). take 32 n ++ r) (sym (drop-cons n 32 0 (omega arith))) ∙ take-append-drop 32 n))

-- A part written behind others, and a number
put_part : (u w r v : List ℕ) (a k : ℕ) → length u ≡ a → length w ≡ k → put_mid a k (u ++ (w ++ r)) v ≡ u ++ (v ++ r)
put_part u w r v a k h g = rw (take_at u (w ++ r) a h, drop_at u (w ++ r) a h, drop_at w r k g)

put_behind : (c m w r v : List ℕ) (a k : ℕ) → length c + length m ≡ a → length w ≡ k
    → put_mid a k (c ++ (m ++ (w ++ r))) v ≡ c ++ (m ++ (v ++ r))
put_behind c m w r v a k h g =
    rw (← append_assoc c m (w ++ r), ← append_assoc c m (v ++ r)) (put_part (c ++ m) w r v a k (length-append c m ∙ h) g)

set_behind : (c r : List ℕ) (n x : ℕ) → set (c ++ r) (length c + n) x ≡ c ++ set r n x
set_behind [] r n x = rw (zero-add n)
set_behind (y ∷ c) r n x = rw (suc-add (length c) n) (ap (λ (l : List ℕ). y ∷ l) (set_behind c r n x))

set_at : (c r : List ℕ) (k n x : ℕ) → length c ≡ k → set (c ++ r) (k + n) x ≡ c ++ set r n x
set_at c r k n x e = rw (← e) (set_behind c r n x)

-- The numbers n before anything is written
module _ (n : List ℕ) (size : length n ≡ 82) where
  abbrev x : ℕ
  x = get_or n 32 0

  abbrev y : ℕ
  y = get_or n 33 0

  abbrev w : List ℕ
  w = take 32 (drop 34 n)

  abbrev q : List ℕ
  q = take 16 (drop 66 n)

  w_length : length w ≡ 32
  w_length = part_length n 34 32 (omega arith) (omega arith)

  q_length : length q ≡ 16
  q_length = part_length n 66 16 (omega arith) (omega arith)

  -- capacities c are written, then values v, then passes-left p
  module _ (c : List ℕ) (capacities : length c ≡ 32) where
    first : put_mid 0 32 n c ≡ laid c x y w q
    first =
        let long : length (take 32 n) ≡ 32 = simp length-take (omega arith) in
        ap (λ m. put_mid 0 32 m c) (sym (parts n size)) ∙ put_part [] (take 32 n) (x ∷ y ∷ (w ++ q)) c 0 32 refl long

    pub first-size : length (put_mid 0 32 n c) ≡ 82
    first-size = rw first (laid-length c x y w q capacities w_length q_length)

    module _ (v : List ℕ) (values : length v ≡ 32) where
      second : put_mid 34 32 (put_mid 0 32 n c) v ≡ laid c x y v q
      second = ap (λ m. put_mid 34 32 m v) first ∙ put_behind c (x ∷ y ∷ []) w q v 34 32 (omega arith) w_length

      pub second_size : length (put_mid 34 32 (put_mid 0 32 n c) v) ≡ 82
      second_size = rw second (laid-length c x y v q capacities values q_length)

      module _ (p : List ℕ) (passes : length p ≡ 16) where
        third : put_mid 66 16 (put_mid 34 32 (put_mid 0 32 n c) v) p ≡ laid c x y v p
        third =
            let last : _ = put_behind c (x ∷ y ∷ v) q [] p 66 16 (omega arith) q_length in
            ap (λ m. put_mid 66 16 m p) second ∙ (rw (append-nil q, append-nil p) at last)

        pub third_size : length (put_mid 66 16 (put_mid 34 32 (put_mid 0 32 n c) v) p) ≡ 82
        third_size = rw third (laid-length c x y v p capacities values passes)

        -- and then line and steps
        pub all-written : (a b : ℕ) → set (set (put_mid 66 16 (put_mid 34 32 (put_mid 0 32 n c) v) p) 32 a) 33 b ≡ laid c a b v p
        all-written a b =
            ap (λ m. set (set m 32 a) 33 b) third
            ∙ (ap (λ m. set m 33 b) (set_at c (x ∷ y ∷ (v ++ p)) 32 0 a capacities) ∙ set_at c (a ∷ y ∷ (v ++ p)) 32 1 b capacities)
