-- Laws of bytes put at a place: one put after the other, what has no place, where there is room for all, and what a part then is.
use mathlib.Core.Path.{◌≡◌, refl, sym, ap, ◌∙◌}
use mathlib.Core.List.{[], ◌∷◌, ◌++◌, append-nil, append_assoc}
use mathlib.Core.Bool.{Bool, true, false}
use Prim.Native.Nat.{ℕ, suc, ◌+◌, ◌-◌, ◌<◌, ◌≤◌, min}
use native.Mathlib.Nat.{zero-add, add-suc, add-zero}
use native.Mathlib.Numerals.{add-one}
use native.Mathlib.Omega.{arith}
use lib.Dec.{ltb}
use borrow.Author.Tests.{ltb-true, ltb-false}
use lib.ListN.{length, get_or, take, drop, set, length-append, length-take, length-drop, take-append-drop, drop_of_length-le}
use lib.Seq.{drop-drop, sets, sets-eq, length-sets, set_out, take-suc, length-take-le, take-length, take_all, take-set-le, drop-set-add}
use borrow.Rule.Slice.PartMut.{put_mid}
use Rattle.theory.specs.Text.{Bytes}
use Rattle.theory.proofs.Writes.{sets-append}
use Rattle.output.specs.Puts.{most, place, Put, starting}

-- Past the end nothing is written
sets_out : (u l : Bytes) (i : ℕ) → length l ≤ i → sets l i u ≡ l
sets_out [] l i h = refl
sets_out (b ∷ u) l i h = rw (set_out l i b h) (sets_out u l (suc i) (omega arith))

-- Nothing
pub put_nothing : (l : Bytes) (i : ℕ) → i ≤ most → length l ≤ most → Put [] i l l i
put_nothing l i h k = record { next = omega arith; wrote = refl; sized = k }

pub put-length : {u l m : Bytes} {i j : ℕ} → Put u i l m j → length m ≡ length l
put-length {u} {l} {i = i} p = ap length p.wrote ∙ length-sets l i u

-- Where the place after is the last, nothing is written there
sets-place : (v l : Bytes) (n : ℕ) → length l ≤ most → sets l (place n) v ≡ sets l n v
sets-place v l n h = go (ltb most n) refl
  where
    go : (t : Bool) → ltb most n ≡ t → sets l (place n) v ≡ sets l n v
    go true e =
        let past : most < n = ltb-true most n e in
        sets_out v l (place n) (omega arith) ∙ sym (sets_out v l n (omega arith))
    go false e =
        let inside : n ≤ most = ltb-false most n e in
        let is : place n ≡ n = omega arith in
        rw is

-- Two puts in a row, whether or not there is room for both
pub put_then : {u v l m n : Bytes} {i j k : ℕ} → Put u i l m j → Put v j m n k → Put (u ++ v) i l n k
put_then {u} {v} {l} {m} {n} {i} {j} {k} p q =
    let after : sets m (place (i + length u)) v ≡ sets (sets l i u) (i + length u) v =
    rw (sets-place v m (i + length u) (omega (arith, put-length p, p.sized)), p.wrote) in
    record {
      next = omega (arith, p.next, q.next, length-append u v);
      wrote = q.wrote ∙ rw (p.next, after) (sym (sets-append u v l i));
      sized = p.sized;
    }

-- What has a place, of what is put
pub all_placed : (u v l : Bytes) (i : ℕ) → (0 < length v → length l ≤ i + length u) → sets l i u ≡ sets l i (u ++ v)
all_placed u [] l i h = rw append-nil
all_placed u (b ∷ v) l i h =
    sym (sets-append u (b ∷ v) l i ∙ sets_out (b ∷ v) (sets l i u) (i + length u) (omega (arith, h (omega arith), length-sets l i u)))

module _ {l m : Bytes} {i k j : ℕ} where
  pub put-placed : {w : Bytes} → m ≡ sets l i (take k w) → k ≡ min (length w) (length l - i) → length l ≤ most → j ≡ place (i + length w)
      → Put w i l m j
  put-placed {w} f e h g =
      let whole : sets l i (take k w) ≡ sets l i (take k w ++ drop k w) =
      all_placed (take k w) (drop k w) l i (λ some. omega (arith, length-take k w, length-drop k w)) in
      record { next = g; wrote = f ∙ whole ∙ rw take-append-drop; sized = h }

-- One byte more
pub sets_more : (l m w : Bytes) (at i : ℕ) → i < length w → m ≡ sets l at (take i w)
    → set m (at + i) (get_or w i 0) ≡ sets l at (take (i + 1) w)
sets_more l m w at i h e =
    rw (e, add-one i, take-suc w i 0 h, sets-append (take i w) (get_or w i 0 ∷ []) l at, length-take-le i w (omega arith))

-- Bytes written over as many, inside
pub sets_mid : (u l : Bytes) (i k : ℕ) → k ≡ length u → i + k ≤ length l → put_mid i k l u ≡ sets l i u
sets_mid u l i k e h = rw (e, drop-drop (length u) i l) (rw (← append_assoc) (sym (sets-eq u l i (omega (arith, e)))))

-- At the front, where there is room: the bytes, and what was after them
pub sets-front : (l w : Bytes) → length w ≤ length l → sets l 0 w ≡ w ++ drop (length w) l
sets-front l w h = sets-eq w l 0 (omega arith) ∙ rw (zero-add (length w))

-- What is written behind some bytes leaves these as they were
sets_behind : (u l : Bytes) (i j : ℕ) → sets l (i + j) u ≡ take i l ++ sets (drop i l) j u
sets_behind [] l i j = sym (take-append-drop i l)
sets_behind (b ∷ u) l i j =
    rw (← add-suc i j, sets_behind u (set l (i + j) b) i (suc j), take-set-le i l (i + j) b (omega arith), drop-set-add i l j b)

-- Bytes put at the first place of a part
pub sets-starting : (u l : Bytes) → sets l 0 u ≡ starting u l
unfolding starting
sets-starting [] l = sym (take-length l)
sets-starting (b ∷ u) [] = sets_out u [] 1 (omega arith)
sets-starting (b ∷ u) (c ∷ l) = sets_behind u (b ∷ l) 1 0 ∙ ap {B = Bytes} (λ r. b ∷ r) (sets-starting u l)

-- Where it has room for all of them
pub starting-whole : (u l : Bytes) → length u ≤ length l → starting u l ≡ u ++ drop (length u) l
starting-whole u l h = sym (sets-starting u l) ∙ sets-front l u h

module _ {u l : Bytes} {i j : ℕ} (h : length l ≤ most) (e : j ≡ place (i + length u)) where
  -- Bytes written into the part that begins at a place, which goes to the end
  pub put_part : {part : Bytes} (k : ℕ) → length l - i ≤ k → part ≡ starting u (take k (drop i l)) → Put u i l (put_mid i k l part) j
  put_part {part} k to_the_end f =
      let rest : length (drop i l) ≤ k = omega (arith, length-drop i l) in
      let written : part ≡ sets (drop i l) 0 u = rw (take_all k (drop i l) rest, ← sets-starting u (drop i l)) at f in
      let whole : sets l i u ≡ take i l ++ sets (drop i l) 0 u = rw (add-zero i) at (sets_behind u l i 0) in
      record {
        next = e;
        wrote = rw (drop_of_length-le (drop i l) {i = k} rest, append-nil part, written) (sym whole);
        sized = h;
      }

  -- At a place past the end nothing is written
  pub put_past : length l ≤ i → Put u i l l j
  put_past past = record { next = e; wrote = sym (sets_out u l i past); sized = h }
