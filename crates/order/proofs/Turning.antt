-- Putting registers in order: one ring turned by way of a copy, and its places, one after the other.
use mathlib.Core.Path.{◌≡◌, refl, sym, ap, ◌∙◌}
use mathlib.Core.Bool.{Bool, true, false}
use mathlib.Core.List.{List, [], ◌∷◌, ◌++◌, append-nil}
use Prim.Native.Nat.{ℕ, ◌+◌, ◌-◌, ◌≤◌, ◌<◌, min}
use native.Mathlib.Omega.{arith}
use borrow.Author.Tests.{ltb-true, ltb-false, leb-true, leb-false, lt-leb, le-leb}
use lib.Dec.{ltb, leb}
use lib.ListN.{length, take, drop, length-append, length-drop, drop_of_length-le}
use lib.Seq.{take_all, take_at, take-append-le, drop-append-le, length-take-le}
use Rattle.theory.specs.Text.{Bytes}
use Rattle.output.specs.Puts.{Put}
use Rattle.output.proofs.Puts.{put_then, sets-front}
use Rattle.order.specs.Order.{from_start, turned, in_order}

-- Rings that stay as they are
pub begins_there : (start : ℕ) (ring : Bytes) → start ≡ 0 → ring ≡ from_start start ring
begins_there start ring e = rw e (sym (append-nil ring))

pub begins_past : (start : ℕ) (ring : Bytes) → length ring ≤ start → ring ≡ from_start start ring
begins_past start ring h = rw (drop_of_length-le ring {i = start} h, take_all start ring h)

from_start-length : (start : ℕ) (ring : Bytes) → length (from_start start ring) ≡ length ring
from_start-length start ring =
    length-append (drop start ring) (take start ring) ∙ go (ltb start (length ring)) refl
  where
    go : (t : Bool) → ltb start (length ring) ≡ t → length (drop start ring) + length (take start ring) ≡ length ring
    go true e =
        let h : start < length ring = ltb-true start (length ring) e in
        omega (arith, length-drop start ring, length-take-le start ring (omega arith))
    go false e =
        let h : length ring ≤ start = ltb-false start (length ring) e in
        omega (arith, length-drop start ring, ap length (take_all start ring h))

-- Rings above the capacity of any machine, and those within it
module _ (start : ℕ) (ring : Bytes) where
  pub left_alone : 1024 < length ring → ring ≡ turned start ring
  unfolding turned
  left_alone h = rw (lt-leb (length ring) 1024 h)

  pub turned_as : length ring ≤ 1024 → turned start ring ≡ from_start start ring
  unfolding turned
  turned_as h = rw (le-leb (length ring) 1024 h)

  pub turned-length : length (turned start ring) ≡ length ring
  turned-length = go (leb (length ring) 1024) refl
    where
      go : (t : Bool) → leb (length ring) 1024 ≡ t → length (turned start ring) ≡ length ring
      go true e = ap length (turned_as (leb-true (length ring) 1024 e)) ∙ from_start-length start ring
      go false e = ap length (sym (left_alone (leb-false (length ring) 1024 e)))

-- A ring copied, and its two parts put back the other way round
pub turned_by : {ring old mid out : Bytes} {i next j : ℕ} (start : ℕ) (room : Bytes) → start < length ring → length ring ≤ length room
    → Put ring 0 room old i → Put (take (length ring - start) (drop start old)) 0 ring mid next
    → Put (take (start - 0) (drop 0 old)) next mid out j → out ≡ from_start start ring
turned_by {ring} {old} start room inside enough was front back =
    let past : Bytes = drop (length ring) room in
    let turned : Bytes = from_start start ring in
    let is : old ≡ ring ++ past = was.wrote ∙ sets-front room ring enough in
    let first : take (length ring - start) (drop start old) ≡ drop start ring =
    rw (is, drop-append-le start ring past (omega arith)) (take_at (drop start ring) past (length ring - start) (length-drop start ring)) in
    let second : take (start - 0) (drop 0 old) ≡ take start ring =
    let all : start - 0 ≡ start = omega arith in rw (is, all) (take-append-le start ring past (omega arith)) in
    let size : length turned ≡ length ring = from_start-length start ring in
    let none : drop (length turned) ring ≡ [] = drop_of_length-le ring {i = length turned} (omega arith) in
    (put_then front back).wrote ∙ rw (first, second) (sets-front ring turned (omega arith) ∙ rw none (append-nil turned))

-- One place after the other, while there are both a capacity and a start
pub in_order_end : (cs ss : List ℕ) → min (length cs) (length ss) ≡ 0 → (store : Bytes) → in_order cs ss store ≡ store
unfolding in_order
in_order_end [] ss h store = refl
in_order_end (c ∷ cs) [] h store = refl
in_order_end (c ∷ cs) (s ∷ ss) h store = absurd (omega arith)

pub in_order_goes : {cs ss cs' ss' : List ℕ} {c s : ℕ} → cs ≡ c ∷ cs' → ss ≡ s ∷ ss' → (store : Bytes)
    → in_order cs ss store ≡ turned s (take c store) ++ in_order cs' ss' (drop c store)
unfolding in_order
in_order_goes e f store = rw (e, f)
