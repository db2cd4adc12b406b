-- Bytes that are larger than the one before them, counted from a place on and part by part.
use mathlib.Core.Path.{◌≡◌, refl, ap, ◌∙◌}
use mathlib.Core.Logic.{⊎_elim}
use mathlib.Core.List.{List, [], ◌∷◌}
use Prim.Native.Nat.{ℕ, zero, suc, ◌+◌, ◌≤◌, ◌<◌}
use native.Mathlib.Omega.{arith}
use lib.ListN.{length, take, drop, get_or, length-drop}
use lib.Seq.{drop-cons}
use borrow.Author.Tests.{lt-ltb, le-ltb}
use Rattle.counting.specs.Counts.{rises}
use Rattle.counting.proofs.Flags.{lt_or_le}

pub no_rise : (a b : ℕ) (l : List ℕ) → b ≤ a → rises (a ∷ b ∷ l) ≡ rises (b ∷ l)
unfolding rises
no_rise a b l h = rw (le-ltb a b h) (omega arith)

pub rise : (a b : ℕ) (l : List ℕ) → a < b → rises (a ∷ b ∷ l) ≡ suc (rises (b ∷ l))
unfolding rises
rise a b l h = rw (lt-ltb a b h) (omega arith)

module _ (l : List ℕ) (i : ℕ) (h : i + 1 < length l) where
  two : (drop i l ≡ get_or l i 0 ∷ get_or l (i + 1) 0 ∷ drop (suc (suc i)) l) × (drop (i + 1) l ≡ get_or l (i + 1) 0 ∷ drop (suc (suc i)) l)
  two =
      let next : i + 1 ≡ suc i = omega arith in
      let second : drop (suc i) l ≡ get_or l (suc i) 0 ∷ drop (suc (suc i)) l = drop-cons l (suc i) 0 (omega arith) in
      let first : drop i l ≡ get_or l i 0 ∷ drop (suc i) l = drop-cons l i 0 (omega arith) in
      (rw next (first ∙ ap {B = List ℕ} (λ m. get_or l i 0 ∷ m) second), rw next second)

  pub rises_up : get_or l i 0 < get_or l (i + 1) 0 → rises (drop i l) ≡ suc (rises (drop (i + 1) l))
  rises_up g = rw (two.0, two.1) (rise (get_or l i 0) (get_or l (i + 1) 0) (drop (suc (suc i)) l) g)

  pub rises_level : get_or l (i + 1) 0 ≤ get_or l i 0 → rises (drop i l) ≡ rises (drop (i + 1) l)
  rises_level g = rw (two.0, two.1) (no_rise (get_or l i 0) (get_or l (i + 1) 0) (drop (suc (suc i)) l) g)

rises_short : (l : List ℕ) → length l ≤ 1 → rises l ≡ 0
unfolding rises
rises_short [] h = refl
rises_short (a ∷ []) h = refl
rises_short (a ∷ b ∷ l) h = absurd (omega arith)

pub rises_end : (l : List ℕ) (i : ℕ) → length l ≤ i + 1 → rises (drop i l) ≡ 0
rises_end l i h = rises_short (drop i l) (omega (arith, length-drop i l))

rises-length : (a : ℕ) (l : List ℕ) → rises (a ∷ l) ≤ length l
rises-length a [] = omega (arith, rises_short (a ∷ []) (omega arith))
rises-length a (b ∷ l) =
    let rest : rises (b ∷ l) ≤ length l = rises-length b l in
    ⊎_elim (λ h. omega (arith, rise a b l h)) (λ h. omega (arith, no_rise a b l h)) (lt_or_le a b)

pub rises_below : (l : List ℕ) → 1 ≤ length l → rises l < length l
rises_below [] h = absurd (omega arith)
rises_below (a ∷ l) h = omega (arith, rises-length a l)

-- The rises up to a byte and from it on
pub rises_part : (l : List ℕ) (m : ℕ) → m < length l → rises l ≡ rises (take (suc m) l) + rises (drop m l)
unfolding rises
rises_part [] m h = absurd (omega arith)
rises_part (a ∷ l) zero h = omega arith
rises_part (a ∷ []) (suc m) h = absurd (omega arith)
rises_part (a ∷ b ∷ l) (suc m) h = omega (arith, rises_part (b ∷ l) m (omega arith))
