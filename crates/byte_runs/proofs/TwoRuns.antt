-- Two runs at the start of a part, as much of each as has a place.
use mathlib.Core.Path.{◌≡◌, refl, sym, ap, ◌∙◌}
use mathlib.Core.List.{◌++◌}
use mathlib.Core.Bool.{Bool, true, false}
use Prim.Native.Nat.{ℕ, ◌+◌, ◌-◌, ◌<◌, ◌≤◌, min}
use native.Mathlib.Omega.{arith}
use lib.Dec.{ltb}
use borrow.Author.Tests.{ltb-true, ltb-false}
use lib.ListN.{length, take, drop, replicate, length-append, length-take, length-drop, length-replicate, replicate-append-replicate}
use lib.Seq.{sets}
use borrow.Rule.Slice.PartMut.{put_mid}
use Rattle.theory.specs.Text.{Bytes}
use Rattle.output.specs.Puts.{most, place, Put, starting}
use Rattle.output.proofs.Puts.{put-length, put_then, all_placed, sets_mid, sets-front, sets-starting}

-- One run
module _ {l m : Bytes} {i k j : ℕ} where
  run-placed : (n b : ℕ) → m ≡ sets l i (replicate k b) → k ≡ min n (length l - i) → length l ≤ most → j ≡ place (i + n)
      → Put (replicate n b) i l m j
  run-placed n b f e h g =
      let all : k + (n - k) ≡ n = omega arith in
      let whole : sets l i (replicate k b) ≡ sets l i (replicate k b ++ replicate (n - k) b) =
      all_placed (replicate k b) (replicate (n - k) b) l i (λ some. omega (arith, length-replicate k b, length-replicate (n - k) b)) in
      record {
        next = rw (length-replicate n b) g;
        wrote = f ∙ whole ∙ rw (replicate-append-replicate k (n - k) b, all);
        sized = h;
      }

-- Both
module _ (l : Bytes) {m n : Bytes} (h : length l ≤ most) (count b more o : ℕ) where
  pub runs-starting : (k j : ℕ) → m ≡ sets l 0 (replicate k b) → n ≡ sets m k (replicate j o) → k ≡ min count (length l)
      → j ≡ min more (length l - k) → n ≡ starting (replicate count b ++ replicate more o) l
  runs-starting k j e f first second = go (ltb (length l) count) refl
    where
      one : Put (replicate count b) 0 l m (place (0 + count))
      one = run-placed {k = k} count b e (omega arith) h refl

      both : n ≡ sets m (place (0 + count)) (replicate j o) → n ≡ starting (replicate count b ++ replicate more o) l
      both g =
          let size : length m ≡ length l = put-length one in
          let two : Put (replicate more o) (place (0 + count)) m n (place (place (0 + count) + more))
          = run-placed {k = j} more o g (omega arith) (omega arith) refl in
          (put_then one two).wrote ∙ sets-starting (replicate count b ++ replicate more o) l

      go : (t : Bool) → ltb (length l) count ≡ t → n ≡ starting (replicate count b ++ replicate more o) l
      go true t =
          let past : length l < count = ltb-true (length l) count t in
          let none : j ≡ 0 = omega arith in
          both (f ∙ rw none)
      go false t =
          let inside : count ≤ length l = ltb-false (length l) count t in
          let here : k ≡ place (0 + count) = omega arith in
          both (rw here at f)

-- Both, as two fills of parts leave them
module _ (l : Bytes) (h : length l ≤ most) (count b more o : ℕ) where
  pub runs-filled : (k j : ℕ) {f g : Bytes} → f ≡ replicate (length (take k l)) b
      → g ≡ replicate (length (take (k + j - k) (drop k (f ++ drop k l)))) o → k ≡ min count (length l) → j ≡ min more (length l - k)
      → put_mid k (k + j - k) (f ++ drop k l) g ≡ starting (replicate count b ++ replicate more o) l
  runs-filled k j {f} {g} e d first second =
      let size : length (take k l) ≡ k = omega (arith, length-take k l) in
      let front : f ≡ replicate k b = rw size at e in
      let one : f ++ drop k l ≡ sets l 0 (replicate k b) =
      rw front (sym (rw (length-replicate k b) at (sets-front l (replicate k b) (omega (arith, length-replicate k b))))) in
      let whole : length (f ++ drop k l) ≡ length l =
      omega (arith, length-append f (drop k l), length-drop k l, ap length front, length-replicate k b) in
      let some : length (take (k + j - k) (drop k (f ++ drop k l))) ≡ j =
      omega (arith, length-take (k + j - k) (drop k (f ++ drop k l)), length-drop k (f ++ drop k l)) in
      let back : g ≡ replicate j o = rw some at d in
      let two : put_mid k (k + j - k) (f ++ drop k l) g ≡ sets (f ++ drop k l) k (replicate j o) =
      rw back (sets_mid (replicate j o) (f ++ drop k l) k (k + j - k) (omega (arith, length-replicate j o)) (omega arith)) in
      runs-starting l h count b more o k j one two first second
