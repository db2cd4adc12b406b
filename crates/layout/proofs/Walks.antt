-- A store walked place by place: each place, of as many bytes as its capacity, is given others, and the places after it are as they were.
use mathlib.Core.Path.{◌≡◌, refl, sym, ap, ◌∙◌}
use mathlib.Core.Bool.{Bool, true, false}
use mathlib.Core.List.{◌++◌, append_assoc}
use Prim.Native.Nat.{ℕ, ◌+◌, ◌-◌, ◌≤◌, ◌<◌, min}
use native.Mathlib.Omega.{arith}
use borrow.Author.Tests.{ltb-true, ltb-false}
use borrow.Rule.Slice.PartMut.{put_mid, Post-is}
use lib.Dec.{ltb}
use lib.ListN.{length, take, drop, length-append, length-drop, drop_of_length-le, take-append-drop}
use lib.Seq.{take_all, take_at, drop_at, drop-drop, length-take-le}
use Rattle.theory.specs.Text.{Bytes}

-- So many elements of a list, or all
module _ (n m : ℕ) (l : Bytes) (is : m ≡ min n (length l)) where
  pub cut_take : take n l ≡ take m l
  cut_take = go (ltb n (length l)) refl
    where
      go : (t : Bool) → ltb n (length l) ≡ t → take n l ≡ take m l
      go true e = let h : n < length l = ltb-true n (length l) e in let same : n ≡ m = omega arith in ap (λ (k : ℕ). take k l) same
      go false e =
          let h : length l ≤ n = ltb-false n (length l) e in
          take_all n l h ∙ sym (take_all m l (omega arith))

  cut_drop : drop n l ≡ drop m l
  cut_drop = go (ltb n (length l)) refl
    where
      go : (t : Bool) → ltb n (length l) ≡ t → drop n l ≡ drop m l
      go true e = let h : n < length l = ltb-true n (length l) e in let same : n ≡ m = omega arith in ap (λ (k : ℕ). drop k l) same
      go false e =
          let h : length l ≤ n = ltb-false n (length l) e in
          drop_of_length-le l {i = n} h ∙ sym (drop_of_length-le l {i = m} (omega arith))

-- The places that end before byte `from` have their new bytes. From there on the store is as it was, and `rest` says what becomes of it,
-- as `whole` does of the old store
pub record Walked (whole rest : Bytes → Bytes) (old store : Bytes) (from : ℕ) : Type 0 where
  pub inside : from ≤ length store
  pub comes : whole old ≡ take from store ++ rest (drop from store)

pub walk_start : (whole : Bytes → Bytes) (old : Bytes) → Walked whole whole old old 0
walk_start whole old = record { inside = omega arith; comes = refl }

module _ {whole rest : Bytes → Bytes} {old store : Bytes} {from : ℕ} (o : Walked whole rest old store from) where
  pub walk_end : ((s : Bytes) → rest s ≡ s) → store ≡ whole old
  walk_end h = sym (o.comes ∙ rw (h (drop from store)) (take-append-drop from store))

  module _ (capacity size to : ℕ) (is : size ≡ min capacity (length store - from)) (at : to ≡ from + size) where
    place_inside : to ≤ length store
    place_inside = omega (arith, o.inside)

    place-size : length (take (to - from) (drop from store)) ≡ size
    place-size =
        let d : to - from ≡ size = omega arith in
        rw d (length-take-le size (drop from store) (omega (arith, length-drop from store, o.inside)))

    -- Its place has the bytes `one` of those that it had, and `later` says what becomes of the store after it
    pub walk_more : (one later : Bytes → Bytes) → ((place : Bytes) → length (one place) ≡ length place)
        → ((s : Bytes) → rest s ≡ one (take capacity s) ++ later (drop capacity s))
        → (part : Bytes) → part ≡ one (take (to - from) (drop from store))
        → Walked whole later old (put_mid from (to - from) store part) to
    walk_more one later keeps goes part is_one = record { inside = omega (arith, size_is, place_inside); comes = o.comes ∙ next }
      where
        d : to - from ≡ size
        d = omega arith

        front : Bytes
        front = take from store ++ part

        part_size : length part ≡ size
        part_size = ap length is_one ∙ keeps (take (to - from) (drop from store)) ∙ place-size

        front-size : length front ≡ to
        front-size = length-append (take from store) part ∙ omega (arith, part_size, length-take-le from store o.inside)

        whole_is : put_mid from (to - from) store part ≡ front ++ drop to store
        whole_is =
            ap (λ (x : Bytes). take from store ++ (part ++ x)) (Post-is from to store (omega arith))
            ∙ sym (append_assoc (take from store) part (drop to store))

        size_is : length (put_mid from (to - from) store part) ≡ length store
        size_is = ap length whole_is ∙ length-append front (drop to store) ∙ omega (arith, front-size, length-drop to store, place_inside)

        cut : size ≡ min capacity (length (drop from store))
        cut = omega (arith, length-drop from store)

        place : one (take capacity (drop from store)) ≡ part
        place =
            ap one (cut_take capacity size (drop from store) cut ∙ ap (λ (k : ℕ). take k (drop from store)) (sym d))
            ∙ sym is_one

        past : drop capacity (drop from store) ≡ drop to store
        past =
            cut_drop capacity size (drop from store) cut ∙ drop-drop size from store
            ∙ ap (λ (k : ℕ). drop k store) (sym at)

        next : take from store ++ rest (drop from store)
            ≡ take to (put_mid from (to - from) store part) ++ later (drop to (put_mid from (to - from) store part))
        next =
            rw (
              whole_is,
              take_at front (drop to store) to front-size,
              drop_at front (drop to store) to front-size,
              goes (drop from store),
              place,
              past,
            )
            (sym (append_assoc (take from store) part (later (drop to store))))
