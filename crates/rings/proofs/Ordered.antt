-- Registers put in order: the order byte by byte, and what the lent store then holds.
use mathlib.Core.Path.{◌≡◌, refl, sym, ap, ◌∙◌}
use mathlib.Core.Bool.{Bool, true, false}
use mathlib.Core.List.{List, [], ◌∷◌}
use Prim.Native.Nat.{ℕ, zero, suc, ◌+◌, ◌-◌, ◌≤◌, ◌<◌}
use native.Mathlib.Omega.{arith}
use borrow.Author.Tests.{ltb-true, ltb-false}
use lib.Dec.{ltb}
use lib.ListN.{length, take, drop, get_or, length-append, length-drop, take-append-drop}
use lib.Seq.{get_or-take, get_or-drop, get_or-append-add, length-take-le, take-length, ext_get_or}
use Rattle.theory.specs.Basics.{sum}
use Rattle.theory.specs.Text.{Bytes}
use Rattle.theory.specs.Word.{Symbol}
use Rattle.theory.specs.Machines.{offset, laid}
use Rattle.theory.proofs.GoodMemory.{length-laid}
use Rattle.theory.proofs.Offsets.{offset-whole, place_inside}
use Rattle.registers.specs.Held.{Held}
use Rattle.order.specs.Order.{from_start, turned, in_order}
use Rattle.order.proofs.Turning.{turned_as, turned-length}
use Rattle.rings.specs.Ring.{Ring, wrapped}
use Rattle.rings.proofs.OneRegister.{get_d_front, places-stored}
use Rattle.rings.proofs.Rings.{wrapped_low, wrapped_high, wrapped_below}

from_start-at : (start : ℕ) (ring : Bytes) → start < length ring → (k : ℕ) → k < length ring
    → get_or (from_start start ring) k 0 ≡ get_or ring (wrapped (length ring) (start + k)) 0
from_start-at start ring inside k l = go (ltb (start + k) (length ring)) refl
  where
    go : (t : Bool) → ltb (start + k) (length ring) ≡ t → get_or (from_start start ring) k 0 ≡ get_or ring (wrapped (length ring) (start + k)) 0
    go true e =
        let low : start + k < length ring = ltb-true (start + k) (length ring) e in
        get_d_front (drop start ring) (take start ring) k (omega (arith, length-drop start ring))
        ∙ get_or-drop start ring k 0
        ∙ ap (λ (n : ℕ). get_or ring n 0) (sym (wrapped_low (length ring) (start + k) low))
    go false e =
        let high : length ring ≤ start + k = ltb-false (start + k) (length ring) e in
        let at : k ≡ length (drop start ring) + (start + k - length ring) = omega (arith, length-drop start ring) in
        ap (λ (n : ℕ). get_or (from_start start ring) n 0) at
        ∙ get_or-append-add (drop start ring) (take start ring) (start + k - length ring) 0
        ∙ get_or-take start ring (start + k - length ring) 0 (omega arith)
        ∙ ap (λ (n : ℕ). get_or ring n 0) (sym (wrapped_high (length ring) (start + k) high))

in_order-length : (capacities starts : List ℕ) (store : Bytes) → length (in_order capacities starts store) ≡ length store
unfolding in_order
in_order-length [] starts store = refl
in_order-length (c ∷ capacities) [] store = refl
in_order-length (c ∷ capacities) (s ∷ starts) store =
    let both = length-append (take c store) (drop c store) in
    length-append (turned s (take c store)) (in_order capacities starts (drop c store))
    ∙ omega (
      arith,
      turned-length s (take c store),
      in_order-length capacities starts (drop c store),
      both,
      ap length (take-append-drop c store),
    )

-- The bytes of a place within the capacity of any machine, whose start lies in it
in_order-at : (capacities starts : List ℕ) (store : Bytes) → length store ≡ sum capacities → (i : ℕ) → i < length capacities
    → i < length starts → get_or capacities i 0 ≤ 1024 → get_or starts i 0 < get_or capacities i 0 → (k : ℕ) → k < get_or capacities i 0
    → get_or (in_order capacities starts store) (offset capacities (suc i) + k) 0
    ≡ get_or store (offset capacities (suc i) + wrapped (get_or capacities i 0) (get_or starts i 0 + k)) 0
unfolding in_order
in_order-at [] starts store h i l g few b k m = absurd (omega arith)
in_order-at (c ∷ capacities) [] store h i l g few b k m = absurd (omega arith)
in_order-at (c ∷ capacities) (s ∷ starts) store h zero l g few b k m =
    let ring : Bytes = take c store in
    let size : length ring ≡ c = length-take-le c store (omega arith) in
    let w = wrapped c (s + k) in
    let none : (n : ℕ) → 0 + n ≡ n = λ n. omega arith in
    rw (none k, none w)
    (get_d_front (turned s ring) (in_order capacities starts (drop c store)) k (omega (arith, turned-length s ring, size))
    ∙ ap (λ (l : Bytes). get_or l k 0) (turned_as s ring (omega (arith, size)))
    ∙ from_start-at s ring (omega (arith, size)) k (omega (arith, size))
    ∙ ap (λ (n : ℕ). get_or ring (wrapped n (s + k)) 0) size
    ∙ get_or-take c store w 0 (wrapped_below c (s + k) (omega arith)))
in_order-at (c ∷ capacities) (s ∷ starts) store h (suc i) l g few b k m =
    let ring : Bytes = take c store in
    let front : length (turned s ring) ≡ c = turned-length s ring ∙ length-take-le c store (omega arith) in
    let before : ℕ = offset capacities (suc i) in
    let w = wrapped (get_or capacities i 0) (get_or starts i 0 + k) in
    let at : c + before + k ≡ length (turned s ring) + (before + k) = omega (arith, front) in
    let there : c + (before + w) ≡ c + before + w = omega arith in
    ap (λ (n : ℕ). get_or (in_order (c ∷ capacities) (s ∷ starts) store) n 0) at
    ∙ get_or-append-add (turned s ring) (in_order capacities starts (drop c store)) (before + k) 0
    ∙ in_order-at capacities starts (drop c store) (omega (arith, length-drop c store)) i (omega arith) (omega arith) few b k m
    ∙ get_or-drop c store (before + w) 0
    ∙ ap (λ (n : ℕ). get_or store n 0) there

pub ring_held : {capacities : List ℕ} {f : ℕ → List Symbol} {store lengths starts store' : List ℕ} → Ring capacities f store lengths starts
    → ((i : ℕ) → get_or capacities i 0 ≤ 1024) → store' ≡ in_order capacities starts store → Held capacities f store' lengths
ring_held {capacities} {f} {store} {lengths} {starts} {store'} h few is = record {
  stored = sym (places-stored capacities f store' (length capacities) place ∙ rw (offset-whole capacities, ← size) (take-length store'));
  counted = h.counted;
  fits = h.fits;
}
  where
    size : length store' ≡ sum capacities
    size = ap length is ∙ in_order-length capacities starts store ∙ h.room

    ordered : (i : ℕ) → i < length capacities → (k : ℕ) → k < get_or capacities i 0
        → get_or store' (offset capacities (suc i) + k) 0
        ≡ get_or store (offset capacities (suc i) + wrapped (get_or capacities i 0) (get_or starts i 0 + k)) 0
    ordered i l k m =
        ap (λ (b : Bytes). get_or b (offset capacities (suc i) + k) 0) is
        ∙ in_order-at capacities starts store h.room i l (omega (arith, h.enough)) (few i) (h.begins i l) k m

    place : (i : ℕ) → i < length capacities
        → take (get_or capacities i 0) (drop (offset capacities (suc i)) store') ≡ laid (get_or capacities i 0) (f (suc i))
    place i l = ext_get_or 0 (take capacity (drop from store')) (laid capacity (f (suc i))) (whole ∙ sym laid-size) each
      where
        capacity : ℕ
        capacity = get_or capacities i 0

        from : ℕ
        from = offset capacities (suc i)

        whole : length (take capacity (drop from store')) ≡ capacity
        whole = length-take-le capacity (drop from store') (omega (arith, length-drop from store', size, place_inside capacities i))

        laid-size : length (laid capacity (f (suc i))) ≡ capacity
        laid-size = length-laid capacity (f (suc i)) (h.fits i l)

        each : (k : ℕ) → k < length (take capacity (drop from store'))
            → get_or (take capacity (drop from store')) k 0 ≡ get_or (laid capacity (f (suc i))) k 0
        each k m =
            let n : k < capacity = omega (arith, whole) in
            get_or-take capacity (drop from store') k 0 n ∙ get_or-drop from store' k 0 ∙ ordered i l k n ∙ h.stored i l k n
