-- Where a line ends, and lines that follow one another.
use mathlib.Core.Path.{◌≡◌, refl, sym, ap, ap₂, ◌∙◌}
use mathlib.Core.Bool.{Bool, true, false}
use mathlib.Core.List.{List, [], ◌∷◌}
use Prim.Native.Nat.{ℕ, suc, ◌+◌, ◌-◌, ◌≤◌, ◌<◌, min}
use native.Mathlib.Omega.{arith}
use lib.ListN.{length, take, drop, length-drop, length-take, drop_of_length-le}
use lib.Seq.{drop-drop, drop-length}
use lib.Dec.{ltb}
use borrow.Author.Tests.{ltb-true, ltb-false}
use Rattle.theory.specs.Text.{Bytes, LF, split_lines}
use Rattle.sheet.specs.Answers.{head_line, line_at, after_line}
use Rattle.text.specs.Runs.{leading, is_other, before}
use Rattle.text.proofs.Runs.{leading_length}
use Rattle.text.proofs.Lines.{first-line}
use Rattle.fields.proofs.Splits.{before-within}

before-length : (separator : ℕ) (t : Bytes) → before separator t ≤ length t
before-length separator = leading_length (is_other separator)

head_of : (t : Bytes) → head_line (split_lines t) ≡ take (before LF t) t
unfolding split_lines leading
head_of [] = refl
head_of (b ∷ t) = ap head_line (first-line (b ∷ t) (omega arith))

-- The line that begins at a byte
module _ (s : Bytes) (at : ℕ) where
  line_taken : line_at s at ≡ take (before LF (drop at s)) (drop at s)
  unfolding line_at
  line_taken = head_of (drop at s)

  pub line-length : length (line_at s at) ≡ before LF (drop at s)
  line-length = rw (line_taken, length-take) (omega (arith, before-length LF (drop at s)))

  -- and the lines behind it
  pub lines_next : at < length s → split_lines (drop at s) ≡ line_at s at ∷ split_lines (drop (after_line s at) s)
  lines_next h =
      let n : ℕ = before LF (drop at s) in
      let split : split_lines (drop at s) ≡ take n (drop at s) ∷ split_lines (drop (suc n) (drop at s)) =
      first-line (drop at s) (omega (arith, length-drop at s)) in
      let same : drop (suc n) (drop at s) ≡ drop (after_line s at) s = drop-drop (suc n) at s ∙ behind in
      split ∙ ap₂ {C = List Bytes} (λ l u. l ∷ split_lines u) (sym line_taken) same
    where
      m : ℕ
      m = at + suc (before LF (drop at s))

      go : (x : Bool) → ltb (length s) m ≡ x → drop m s ≡ drop (after_line s at) s
      go true e =
          let most : length s ≤ m = omega (arith, ltb-true (length s) m e) in
          let end : after_line s at ≡ length s = rw line-length (omega (arith, ltb-true (length s) m e)) in
          drop_of_length-le s most ∙ sym (rw end (drop-length s))
      go false e =
          let end : after_line s at ≡ m = rw line-length (omega (arith, ltb-false (length s) m e)) in
          rw end

      behind : drop m s ≡ drop (after_line s at) s
      behind = go (ltb (length s) m) refl

  -- The same line where the code finds it: from its first byte, or from the end of the sheet, to its last
  drop_clamped : drop (min at (length s)) s ≡ drop at s
  drop_clamped = go (ltb (length s) at) refl
    where
      go : (x : Bool) → ltb (length s) at ≡ x → drop (min at (length s)) s ≡ drop at s
      go true e =
          let past : length s < at = ltb-true (length s) at e in
          let from : min at (length s) ≡ length s = omega arith in
          rw from (drop-length s ∙ sym (drop_of_length-le s {i = at} (omega arith)))
      go false e =
          let from : min at (length s) ≡ at = omega (arith, ltb-false (length s) at e) in
          rw from

  module _ (from end : ℕ) (f : from ≡ min at (length s)) (e : end ≡ from + before LF (drop from s)) where
    same_drop : drop from s ≡ drop at s
    same_drop = rw f drop_clamped

    ends : end ≡ from + before LF (drop at s)
    ends = e ∙ ap (λ t. from + before LF t) same_drop

    pub part_end : end ≤ length s
    part_end = omega (arith, e, before-within LF s from (omega arith))

    pub part_line : take (end - from) (drop from s) ≡ line_at s at
    part_line =
        let size : end - from ≡ before LF (drop at s) = omega (arith, ends) in
        rw (size, same_drop) (sym line_taken)

    pub part_next : min (end + 1) (length s) ≡ after_line s at
    part_next = rw line-length (omega (arith, ends, before-length LF (drop at s), length-drop at s))
