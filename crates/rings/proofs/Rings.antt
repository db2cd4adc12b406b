-- Registers as rings: a symbol appended, the first symbol deleted; and from the lent store.
use mathlib.Core.Path.{◌≡◌, refl, sym, ap, ◌∙◌, subst}
use mathlib.Core.Logic.{◌≢◌}
use mathlib.Core.Bool.{Bool, true, false}
use mathlib.Core.List.{List, [], ◌∷◌, ◌++◌}
use Prim.Native.Nat.{ℕ, suc, ◌+◌, ◌-◌, ◌≤◌, ◌<◌}
use native.Mathlib.Omega.{arith}
use borrow.Author.Tests.{lt-ltb, le-ltb, ltb-true, ltb-false, eqb-true, eqb-false}
use lib.Dec.{eqb, ltb}
use lib.ListN.{length, get_or, set, length-set, length-append}
use lib.Seq.{get_or-set_same, get_or-set_other, set-get_or}
use Rattle.theory.specs.Basics.{put}
use Rattle.theory.specs.Word.{Symbol, byte_of}
use Rattle.theory.specs.Machines.{offset, laid}
use Rattle.theory.proofs.Cells.{put_same, put_other}
use Rattle.theory.proofs.GoodMemory.{length-laid, length_store, length-cells, get_or-cells}
use Rattle.theory.proofs.Offsets.{offset-whole, places_apart, place_inside}
use Rattle.rule10.specs.Lent.{Sized}
use Rattle.registers.specs.Held.{Held}
use Rattle.rings.specs.Ring.{Ring, Zeros, Appended, Deleted, wrapped}
use Rattle.rings.proofs.Registers.{lengths_put}
use Rattle.rings.proofs.OneRegister.{laid-append, laid_next, laid_last, held_byte}

-- Places in a ring

module _ (size k : ℕ) where
  pub wrapped_low : k < size → wrapped size k ≡ k
  unfolding wrapped
  wrapped_low h = rw (lt-ltb k size h)

  pub wrapped_high : size ≤ k → wrapped size k ≡ k - size
  unfolding wrapped
  wrapped_high h = rw (le-ltb k size h)

  pub wrapped_below : k < size + size → wrapped size k < size
  wrapped_below h = go (ltb k size) refl
    where
      go : (t : Bool) → ltb k size ≡ t → wrapped size k < size
      go true e = let l : k < size = ltb-true k size e in rw (wrapped_low l) l
      go false e = let l : size ≤ k = ltb-false k size e in rw (wrapped_high l) (omega arith)

module _ (size s : ℕ) (begins : s < size) where
  pub wrapped_apart : (j k : ℕ) → j < size → k < size → j ≢ k → wrapped size (s + j) ≢ wrapped size (s + k)
  wrapped_apart j k l m differ = go (ltb (s + j) size) refl (ltb (s + k) size) refl
    where
      go : (t : Bool) → ltb (s + j) size ≡ t → (u : Bool) → ltb (s + k) size ≡ u → wrapped size (s + j) ≢ wrapped size (s + k)
      go true e true d same = absurd (omega (
        arith,
        wrapped_low size (s + j) (ltb-true (s + j) size e),
        wrapped_low size (s + k)
            (ltb-true (s + k) size d),
        same,
        differ,
      ))
      go true e false d same = absurd (omega (
        arith,
        wrapped_low size (s + j) (ltb-true (s + j) size e),
        wrapped_high size (s + k)
            (ltb-false (s + k) size d),
        same,
        ltb-false (s + k) size d,
      ))
      go false e true d same = absurd (omega (
        arith,
        wrapped_high size (s + j) (ltb-false (s + j) size e),
        wrapped_low size (s + k)
            (ltb-true (s + k) size d),
        same,
        ltb-false (s + j) size e,
      ))
      go false e false d same = absurd (omega (
        arith,
        wrapped_high size (s + j) (ltb-false (s + j) size e),
        wrapped_high size (s + k)
            (ltb-false (s + k) size d),
        same,
        differ,
        ltb-false (s + j) size e,
        ltb-false (s + k) size d,
      ))

  -- from the next start on
  pub wrapped-next : (k : ℕ) → k + 1 < size → wrapped size (wrapped size (s + 1) + k) ≡ wrapped size (s + suc k)
  wrapped-next k l = go (ltb (s + 1) size) refl
    where
      go : (t : Bool) → ltb (s + 1) size ≡ t → wrapped size (wrapped size (s + 1) + k) ≡ wrapped size (s + suc k)
      go true e =
          let z : s + 1 + k ≡ s + suc k = omega arith in
          rw (wrapped_low size (s + 1) (ltb-true (s + 1) size e), z)
      go false e =
          let h : size ≤ s + 1 = ltb-false (s + 1) size e in
          let z : s + 1 - size + k ≡ k = omega arith in
          let y : s + suc k - size ≡ k = omega arith in
          rw (wrapped_high size (s + 1) h, z, wrapped_low size k (omega arith), wrapped_high size (s + suc k) (omega arith), y)

  pub wrapped_last : wrapped size (wrapped size (s + 1) + (size - 1)) ≡ s
  wrapped_last = go (ltb (s + 1) size) refl
    where
      go : (t : Bool) → ltb (s + 1) size ≡ t → wrapped size (wrapped size (s + 1) + (size - 1)) ≡ s
      go true e =
          rw (wrapped_low size (s + 1) (ltb-true (s + 1) size e), wrapped_high size (s + 1 + (size - 1)) (omega arith)) (omega arith)
      go false e =
          let h : size ≤ s + 1 = ltb-false (s + 1) size e in
          let z : s + 1 - size + (size - 1) ≡ s = omega arith in
          rw (wrapped_high size (s + 1) h, z, wrapped_low size s begins)

-- Bytes of two registers' places are apart
pub apart : (capacities : List ℕ) (i j a b : ℕ) → a < get_or capacities i 0 → b < get_or capacities j 0 → j ≢ i
    → offset capacities (suc j) + b ≢ offset capacities (suc i) + a
apart capacities i j a b l m differ = go (ltb j i) refl
  where
    go : (t : Bool) → ltb j i ≡ t → offset capacities (suc j) + b ≢ offset capacities (suc i) + a
    go true e same = absurd (omega (arith, places_apart capacities j i (ltb-true j i e), same))
    go false e same =
        let h : i ≤ j = ltb-false j i e in
        absurd (omega (arith, places_apart capacities i j (omega (arith, differ)), same))

-- Registers in rings, at register i, counted from 0

module _ {capacities : List ℕ} {f : ℕ → List Symbol} {store lengths starts : List ℕ} (h : Ring capacities f store lengths starts) where
  pub ring_paired : length lengths ≡ length capacities
  ring_paired = ap length h.counted ∙ length-cells (length capacities) (λ j. length (f (suc j)))

  pub ring_sized : length capacities ≤ 64 → ((i : ℕ) → get_or capacities i 0 ≤ 1024) → Sized capacities store lengths
  ring_sized r c = record { room = h.room; paired = ring_paired; registers = r; symbols = c }

  module _ (i : ℕ) (l : i < length capacities) where
    abbrev capacity : ℕ
    capacity = get_or capacities i 0

    -- from which byte it has its place
    abbrev from : ℕ
    from = offset capacities (suc i)

    abbrev s : ℕ
    s = get_or starts i 0

    abbrev xs : List Symbol
    xs = f (suc i)

    pub ring_length : get_or lengths i 0 ≡ length xs
    ring_length = ap (λ (k : List ℕ). get_or k i 0) h.counted ∙ get_or-cells (length capacities) (λ j. length (f (suc j))) 0 i l

    pub ring_within : get_or lengths i 0 ≤ capacity
    ring_within = rw ring_length (h.fits i l)

    -- one byte of its place, its length and its start changed
    ring_set : (ys : List Symbol) (a v start : ℕ) → length ys ≤ capacity → a < capacity → start < capacity
        → ((k : ℕ) → k < capacity
        → get_or (set store (from + a) v) (from + wrapped capacity (start + k)) 0 ≡ get_or (laid capacity ys) k 0)
        → Ring capacities (put f (suc i) ys) (set store (from + a) v) (set lengths i (length ys)) (set starts i start)
    ring_set ys a v start short inside begins here = record {
      room = length-set store (from + a) v ∙ h.room;
      enough = omega (arith, h.enough, length-set starts i start);
      counted =
          ap (λ (k : List ℕ). set k i (length ys)) h.counted
          ∙ lengths_put (length capacities) f ys i l;
      fits = λ j m. fitted j m (eqb j i) refl;
      begins = λ j m. begun j m (eqb j i) refl;
      stored = λ j m. held j m (eqb j i) refl;
    }
      where
        among : i < length starts
        among = omega (arith, h.enough)

        fitted : (j : ℕ) → j < length capacities → (t : Bool) → eqb j i ≡ t → length (put f (suc i) ys (suc j)) ≤ get_or capacities j 0
        fitted j m true e = rw (eqb-true j i e, put_same f (suc i) ys) short
        fitted j m false e =
            let differ : j ≢ i = eqb-false j i e in
            let other : suc j ≢ suc i = λ z. absurd (omega (arith, differ)) in
            rw (put_other f (suc i) ys (suc j) other) (h.fits j m)

        begun : (j : ℕ) → j < length capacities → (t : Bool) → eqb j i ≡ t → get_or (set starts i start) j 0 < get_or capacities j 0
        begun j m true e = rw (eqb-true j i e, get_or-set_same starts i start 0 among) begins
        begun j m false e = rw (get_or-set_other starts i j start 0 (eqb-false j i e)) (h.begins j m)

        held : (j : ℕ) → j < length capacities → (t : Bool) → eqb j i ≡ t → (k : ℕ) → k < get_or capacities j 0
            → get_or (set store (from + a) v)
            (offset capacities (suc j) + wrapped (get_or capacities j 0) (get_or (set starts i start) j 0 + k)) 0
            ≡ get_or (laid (get_or capacities j 0) (put f (suc i) ys (suc j))) k 0
        held j m true e k n =
            let is : j ≡ i = eqb-true j i e in
            rw (is, get_or-set_same starts i start 0 among, put_same f (suc i) ys) (here k (rw is at n))
        held j m false e k n =
            let differ : j ≢ i = eqb-false j i e in
            let other : suc j ≢ suc i = λ z. absurd (omega (arith, differ)) in
            let w : ℕ = wrapped (get_or capacities j 0) (get_or starts j 0 + k) in
            let below = wrapped_below (get_or capacities j 0) (get_or starts j 0 + k) (omega (arith, h.begins j m)) in
            rw (get_or-set_other starts i j start 0 differ, put_other f (suc i) ys (suc j) other)
            (get_or-set_other store (from + a) (offset capacities (suc j) + w) v 0
            (apart capacities i j a w inside below differ) ∙ h.stored j m k n)

    -- a byte of its place lies in the store
    pub ring_inside : (a : ℕ) → a < capacity → from + a < length store
    ring_inside a m = omega (arith, place_inside capacities i, h.room)

    pub ring_append : (x : Symbol) → get_or lengths i 0 < capacity
        → Appended capacities f i x true (set store (from + wrapped capacity (s + get_or lengths i 0)) (byte_of x))
        (set lengths i (get_or lengths i 0 + 1)) starts
    ring_append x short = (
      room,
      rw (ring_length, count_is) (subst
          (λ (l : List ℕ). Ring capacities (put f (suc i) (xs ++ (x ∷ []))) (set store (from + a) (byte_of x))
          (set lengths i (length (xs ++ (x ∷ [])))) l)
          (set-get_or starts i 0) (ring_set (xs ++ (x ∷ [])) a (byte_of x) s long inside (h.begins i l) here)),
    )
      where
        room : length xs < capacity
        room = rw ring_length at short

        long : length (xs ++ (x ∷ [])) ≤ capacity
        long = omega (arith, length-append xs (x ∷ []), room)

        count_is : length xs + 1 ≡ length (xs ++ (x ∷ []))
        count_is = sym (length-append xs (x ∷ []))

        a : ℕ
        a = wrapped capacity (s + length xs)

        inside : a < capacity
        inside = wrapped_below capacity (s + length xs) (omega (arith, room, h.begins i l))

        here : (k : ℕ) → k < capacity
            → get_or (set store (from + a) (byte_of x)) (from + wrapped capacity (s + k)) 0
            ≡ get_or (laid capacity (xs ++ (x ∷ []))) k 0
        here k m = go (eqb k (length xs)) refl
          where
            go : (t : Bool) → eqb k (length xs) ≡ t
                → get_or (set store (from + a) (byte_of x)) (from + wrapped capacity (s + k)) 0
                ≡ get_or (laid capacity (xs ++ (x ∷ []))) k 0
            go true e =
                let size = length-laid capacity xs (omega (arith, room)) in
                rw (
                  eqb-true k (length xs) e,
                  get_or-set_same store (from + a) (byte_of x) 0 (ring_inside a inside),
                  ← (laid-append capacity xs x room),
                )
                (sym (get_or-set_same (laid capacity xs) (length xs) (byte_of x) 0 (omega (arith, size, room))))
            go false e =
                let differ : k ≢ length xs = eqb-false k (length xs) e in
                let off = wrapped_apart capacity s (h.begins i l) k (length xs) m room differ in
                rw (← (laid-append capacity xs x room), get_or-set_other (laid capacity xs) (length xs) k (byte_of x) 0 differ)
                (get_or-set_other store (from + a) (from + wrapped capacity (s + k)) (byte_of x) 0
                (λ z. off (omega (arith, z))) ∙ h.stored i l k m)

    pub ring_full : (x : Symbol) → capacity ≤ get_or lengths i 0 → Appended capacities f i x false store lengths starts
    ring_full x long = (rw ring_length at long, h)

    pub ring_delete : 0 < get_or lengths i 0
        → Deleted capacities f i xs (get_or store (from + s) 0) (set store (from + s) 0) (set lengths i (get_or lengths i 0 - 1))
        (set starts i (wrapped capacity (s + 1)))
    ring_delete some = go xs refl
      where
        go : (ys : List Symbol) → xs ≡ ys
            → Deleted capacities f i ys (get_or store (from + s) 0) (set store (from + s) 0) (set lengths i
            (get_or lengths i 0 - 1))
            (set starts i (wrapped capacity (s + 1)))
        go [] e = absurd (omega (arith, ring_length, ap length e))
        go (x ∷ ys) e = (byte_is, rw count_is (ring_set ys s 0 (wrapped capacity (s + 1)) (omega (arith, room)) begins next here))
          where
            begins : s < capacity
            begins = h.begins i l

            room : length ys < capacity
            room = omega (arith, h.fits i l, ap length e)

            count_is : get_or lengths i 0 - 1 ≡ length ys
            count_is = omega (arith, ring_length, ap length e)

            next : wrapped capacity (s + 1) < capacity
            next = wrapped_below capacity (s + 1) (omega (arith, begins))

            first : wrapped capacity (s + 0) ≡ s
            first = let z : s + 0 ≡ s = omega arith in rw z (wrapped_low capacity s begins)

            old : (k : ℕ) → k < capacity → get_or store (from + wrapped capacity (s + k)) 0 ≡ get_or (laid capacity (x ∷ ys)) k 0
            old k m = h.stored i l k m ∙ ap (λ (zs : List Symbol). get_or (laid capacity zs) k 0) e

            byte_is : get_or store (from + s) 0 ≡ byte_of x
            byte_is = ap (λ (k : ℕ). get_or store (from + k) 0) (sym first) ∙ old 0 (omega (arith, room))

            here : (k : ℕ) → k < capacity
                → get_or (set store (from + s) 0) (from + wrapped capacity (wrapped capacity (s + 1) + k)) 0
                ≡ get_or (laid capacity ys) k 0
            here k m = at (ltb (k + 1) capacity) refl
              where
                at : (t : Bool) → ltb (k + 1) capacity ≡ t
                    → get_or (set store (from + s) 0) (from + wrapped capacity (wrapped capacity (s + 1) + k)) 0
                    ≡ get_or (laid capacity ys) k 0
                at true d =
                    let low : k + 1 < capacity = ltb-true (k + 1) capacity d in
                    let off = wrapped_apart capacity s begins (suc k) 0 (omega arith) (omega arith) (λ z. absurd (omega arith)) in
                    rw (wrapped-next capacity s begins k low)
                    (get_or-set_other store (from + s) (from + wrapped capacity (s + suc k)) 0 0
                    (λ z. off (omega (arith, z, first)))
                    ∙ old (suc k) (omega arith) ∙ laid_next capacity x ys room k low)
                at false d =
                    let z : k ≡ capacity - 1 = omega (arith, ltb-false (k + 1) capacity d) in
                    rw (z, wrapped_last capacity s begins, get_or-set_same store (from + s) 0 0 (ring_inside s begins))
                    (sym (laid_last capacity x ys room))

    pub ring_empty : get_or lengths i 0 ≡ 0 → Deleted capacities f i xs 0 store lengths starts
    ring_empty none = go xs refl
      where
        go : (ys : List Symbol) → xs ≡ ys → Deleted capacities f i ys 0 store lengths starts
        go [] e = (refl, h)
        go (x ∷ ys) e = absurd (omega (arith, ring_length, ap length e))

-- From the lent store

pub held_ring : {capacities : List ℕ} {f : ℕ → List Symbol} {store lengths starts : List ℕ} → Held capacities f store lengths
    → ((i : ℕ) → i < length capacities → 1 ≤ get_or capacities i 0) → Zeros (length capacities) starts
    → Ring capacities f store lengths starts
held_ring {capacities} {f} {store} {lengths} {starts} h some z = record {
  room = ap length h.stored ∙ length_store capacities f (length capacities) h.fits ∙ offset-whole capacities;
  enough = z.enough;
  counted = h.counted;
  fits = h.fits;
  begins = λ i l. rw (z.each i l) (some i l);
  stored = λ i l k m.
      let e : 0 + k ≡ k = omega arith in
      rw (z.each i l, e, wrapped_low (get_or capacities i 0) k m) (held_byte h i l k m);
}
