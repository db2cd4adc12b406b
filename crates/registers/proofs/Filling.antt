-- A fresh word's registers: a place of ones; a store filled place by place; lengths filled one by one.
use mathlib.Core.Path.{◌≡◌, refl, sym, ap, ap₂, ◌∙◌}
use mathlib.Core.Bool.{Bool, true, false}
use mathlib.Core.List.{List, [], ◌∷◌, ◌++◌, append_assoc, append-nil}
use Prim.Native.Nat.{ℕ, zero, suc, ◌+◌, ◌-◌, ◌≤◌, ◌<◌}
use native.Mathlib.Numerals.{add-one}
use native.Mathlib.Omega.{arith}
use borrow.Author.Tests.{ltb-false}
use lib.Dec.{ltb}
use lib.ListN.{length, take, drop, set, get_or, replicate, length-append, length-drop, length-replicate, length-set}
use lib.ListN.{get_or-eq_default, drop_of_length-le}
use lib.Seq.{take_at, take_all, length-take-le}
use borrow.Rule.Slice.PartMut.{put_mid, same_len_mid}
use Rattle.theory.specs.Basics.{sum}
use Rattle.theory.specs.Text.{Bytes}
use Rattle.theory.specs.Word.{Symbol, bytes_of}
use Rattle.theory.specs.Machines.{offset, ones, laid, store_of, lengths_of}
use Rattle.theory.proofs.GoodMemory.{length-laid, length-cells, get_or-cells}
use Rattle.theory.proofs.Offsets.{offset-next, offset_past, place_inside}
use Rattle.registers.specs.Held.{Held}
use Rattle.output.specs.Puts.{starting}
use Rattle.output.proofs.Puts.{starting-whole}
use Rattle.registers.specs.Fresh.{fresh_registers}
use Rattle.layout.proofs.OffsetTable.{agrees_next}

pub zeros_at : (m i : ℕ) → ◌≡◌ {A = ℕ} 0 (get_or (replicate m 0) i 0)
zeros_at zero i = refl
zeros_at (suc m) zero = refl
zeros_at (suc m) (suc i) = zeros_at m i

pub length-ones : (n : ℕ) → length (ones n) ≡ n
length-ones n = length-replicate n _

-- Ones with zeros after them, put where they fill a place
pub one_bytes : (n : ℕ) → bytes_of (ones n) ≡ replicate n 49
one_bytes zero = refl
one_bytes (suc n) = ap {B = Bytes} (λ r. 49 ∷ r) (one_bytes n)

pub runs-laid : (l : Bytes) {m : Bytes} (n : ℕ) → n ≤ length l → m ≡ starting (replicate n 49 ++ replicate (length l - n) 0) l
    → m ≡ laid (length l) (ones n)
runs-laid l n h written =
    let front : Bytes = replicate n 49 in
    let back : Bytes = replicate (length l - n) 0 in
    let w : Bytes = front ++ back in
    let front-size : length front ≡ n = length-replicate {A = ℕ} n 49 in
    let back-size : length back ≡ length l - n = length-replicate {A = ℕ} (length l - n) 0 in
    let size : length w ≡ length l = length-append front back ∙ omega arith in
    let rest : drop (length w) l ≡ [] = drop_of_length-le l {i = length w} (omega arith) in
    written ∙ starting-whole w l (omega arith) ∙ rw (rest, append-nil w, one_bytes n, length-ones n)

-- One place more of a store
pub store_next : (capacities : List ℕ) (i from to k : ℕ) (f : ℕ → List Symbol) (store part : Bytes) → to ≡ from + get_or capacities i 0
    → to ≤ length store → take from store ≡ store_of capacities i f → part ≡ laid (get_or capacities i 0) (f (suc i))
    → length (f (suc i)) ≤ get_or capacities i 0 → take to (put_mid from k store part) ≡ store_of capacities (suc i) f
unfolding store_of
store_next capacities i from to k f store part e h before last fits =
    let front : length (take from store) ≡ from = length-take-le from store (omega arith) in
    let size : length part ≡ get_or capacities i 0 = ap length last ∙ length-laid (get_or capacities i 0) (f (suc i)) fits in
    let both : length (take from store ++ part) ≡ to = length-append (take from store) part ∙ omega arith in
    rw (← append_assoc (take from store) part (drop k (drop from store)))
    (take_at (take from store ++ part) (drop k (drop from store)) to both ∙ rw (before, last))

-- A store and lengths of registers of such capacities, of which the first i are filled
pub record Filling (capacities : List ℕ) (f : ℕ → List Symbol) (i : ℕ) (s : Bytes) (l : List ℕ) : Type 0 where
  pub few : i ≤ length capacities
  pub room : length s ≡ sum capacities
  pub counts : length l ≡ length capacities
  pub store : take (offset capacities (suc i)) s ≡ store_of capacities i f
  pub lengths : take i l ≡ take i (lengths_of (length capacities) f)

module _ (capacities : List ℕ) (f : ℕ → List Symbol) where
  pub filling_none : (s : Bytes) (l : List ℕ) → length s ≡ sum capacities → length l ≡ length capacities → Filling capacities f 0 s l
  unfolding store_of
  filling_none s l h k = record { few = omega arith; room = h; counts = k; store = refl; lengths = refl }

  pub filling-all : (i : ℕ) (s : Bytes) (l : List ℕ) → ((j : ℕ) → length (f (suc j)) ≤ get_or capacities j 0) → Filling capacities f i s l
      → i ≡ length capacities → Held capacities f s l
  filling-all i s l fits h e =
      let count : ℕ = length capacities in
      let full : take (offset capacities (suc i)) s ≡ s
      = take_all (offset capacities (suc i)) s (omega (arith, h.room, offset_past capacities i (omega arith))) in
      let counted : take i l ≡ l = take_all i l (omega (arith, h.counts)) in
      let size : length (lengths_of count f) ≡ count = length-cells count (λ j. length (f (suc j))) in
      let all : take i (lengths_of count f) ≡ lengths_of count f = take_all i (lengths_of count f) (omega arith) in
      record {
        stored = sym full ∙ h.store ∙ ap (λ (n : ℕ). store_of capacities n f) e;
        counted = sym counted ∙ h.lengths ∙ all;
        fits = λ j below. fits j;
      }

-- What register i + 1 holds
module _ (values : List ℕ) where
  pub fresh-ones : (i : ℕ) → fresh_registers values (suc i) ≡ ones (get_or values i 0)
  fresh-ones i = go (ltb i (length values)) refl
    where
      go : (t : Bool) → ltb i (length values) ≡ t → fresh_registers values (suc i) ≡ ones (get_or values i 0)
      go true e = rw e
      go false e = rw (e, get_or-eq_default values 0 {n = i} (ltb-false i (length values) e))

  pub fresh-length : (i : ℕ) → length (fresh_registers values (suc i)) ≡ get_or values i 0
  fresh-length i = rw (fresh-ones i) (length-ones (get_or values i 0))

module _ (values capacities : List ℕ) (i from to k n : ℕ) (s l part : List ℕ) (h : Filling capacities (fresh_registers values) i s l)
    (below : i < length capacities) (starts : from ≡ offset capacities (suc i)) (ends : to ≡ offset capacities (suc (suc i)))
    (size : k ≡ to - from) where
  abbrev capacity : ℕ
  capacity = get_or capacities i 0

  next : to ≡ from + capacity
  next = omega (arith, offset-next capacities i)

  room : to ≤ length s
  room = omega (arith, place_inside capacities i, h.room, next)

  middle : length (take k (drop from s)) ≡ capacity
  middle =
      let rest : length (drop from s) ≡ length s - from = length-drop from s in
      length-take-le k (drop from s) (omega (arith, room)) ∙ omega (arith, next)

  pub filling-next : n ≡ get_or values i 0 → n ≤ capacity → part ≡ laid (length (take k (drop from s))) (ones n)
      → Filling capacities (fresh_registers values) (i + 1) (put_mid from k s part) (set l i n)
  filling-next e few down =
      let f = fresh_registers values in
      let count : ℕ = length capacities in
      let holds : ones n ≡ f (suc i) = ap {B = List Symbol} ones e ∙ sym (fresh-ones values i) in
      let place : part ≡ laid capacity (f (suc i)) = down ∙ ap₂ {C = Bytes} (λ c xs. laid c xs) middle holds in
      let fits : length (f (suc i)) ≤ capacity = omega (arith, fresh-length values i) in
      let long : length part ≡ capacity = ap length place ∙ length-laid capacity (f (suc i)) fits in
      let size_of : length (lengths_of count f) ≡ count = length-cells count (λ j. length (f (suc j))) in
      let there : n ≡ get_or (lengths_of count f) i 0
      = e ∙ sym (fresh-length values i) ∙ sym (get_or-cells count (λ j. length (f (suc j))) 0 i below) in
      let before : take from s ≡ store_of capacities i f = rw starts h.store in
      record {
        few = omega arith;
        room = same_len_mid from k s part (long ∙ sym middle) ∙ h.room;
        counts = length-set l i n ∙ h.counts;
        store = rw (add-one i, ← ends) (store_next capacities i from to k f s part next room before place fits);
        lengths = agrees_next l i n (lengths_of count f) (omega (arith, h.counts)) (omega arith) h.lengths there;
      }
