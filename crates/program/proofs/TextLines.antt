-- Laws of the lines of a text: their numbers in the list as they are read.
use mathlib.Core.Path.{◌≡◌, refl, sym, ap, ◌∙◌}
use mathlib.Core.List.{List, [], ◌∷◌, ◌++◌, append_assoc, append-nil}
use Prim.Native.Nat.{ℕ, ◌+◌, ◌-◌, ◌*◌, ◌<◌, ◌≤◌}
use native.Mathlib.Omega.{arith}
use lib.ListN.{length, take, drop, length-append, drop_of_length-le}
use lib.Seq.{sets, sets-eq, take_at, length-take-le}
use Rattle.theory.specs.Text.{Bytes, LF, split_lines}
use Rattle.theory.specs.ProgramText.{command}
use Rattle.text.specs.Runs.{before}
use Rattle.text.proofs.Lines.{next_line}
use Rattle.command.specs.declared.Numbers.{Numbers}
use Rattle.command.specs.Lines.{numbered}
use Rattle.program.specs.Lines.{all_numbers, Lined}

-- The numbers of lines, as they are stored

numbers-stored : (l : List ℕ) (m a b c : ℕ) → m + 3 ≤ length l → take (m + 3) (sets l m (a ∷ b ∷ c ∷ [])) ≡ take m l ++ (a ∷ b ∷ c ∷ [])
numbers-stored l m a b c h =
    let front : List ℕ = take m l ++ (a ∷ b ∷ c ∷ []) in
    let long : length front ≡ m + 3 = omega (arith, length-append (take m l) (a ∷ b ∷ c ∷ []), length-take-le m l (omega arith)) in
    rw (sets-eq (a ∷ b ∷ c ∷ []) l m h) (take_at front (drop (m + 3) l) (m + 3) long)

-- Before the line at `at`: the numbers of the lines before it, and of those that are left, are those of the whole text
pub record LinesFrom (t l : List ℕ) (at lines : ℕ) : Type 0 where
  pub within : at ≤ length t + 1
  pub few : lines ≤ at
  pub size : length l ≡ 1536
  pub count : lines + length (split_lines (drop at t)) ≡ length (split_lines t)
  pub numbers : lines ≤ 512 → take (3 * lines) l ++ all_numbers (split_lines (drop at t)) ≡ all_numbers (split_lines t)

pub lines_start : (t l : List ℕ) → length l ≡ 1536 → LinesFrom t l 0 0
lines_start t l h = record { within = omega arith; few = omega arith; size = h; count = omega arith; numbers = λ k. refl }

module _ (t l : List ℕ) (at lines : ℕ) (h : LinesFrom t l at lines) where
  pub lines-read : length t ≤ at → Lined t l lines
  unfolding split_lines all_numbers
  lines-read k =
      let none_left : drop at t ≡ [] = drop_of_length-le t k in
      record {
        count = omega (arith, h.count, ap (λ u. length (split_lines u)) none_left);
        size = h.size;
        numbers = λ f. sym (append-nil (take (3 * lines) l)) ∙ (rw none_left at (h.numbers f));
      }

  module _ (more : at < length t) (end : ℕ) (e : end ≡ at + before LF (drop at t)) (k : end ≤ length t) where
    abbrev line : Bytes
    line = take (end - at) (drop at t)

    pub lines_next : (n : Numbers) (l' : List ℕ) → n ≡ numbered (command line) → length l' ≡ length l
        → (3 * lines + 3 ≤ length l → l' ≡ sets l (3 * lines) (n.kind ∷ (n.index ∷ (n.source ∷ []))))
        → LinesFrom t l' (end + 1) (lines + 1)
    unfolding all_numbers
    lines_next n l' f g s =
        let three : List ℕ = n.kind ∷ n.index ∷ n.source ∷ [] in
        let rest : List ℕ = all_numbers (split_lines (drop (end + 1) t)) in
        let m : 3 * (lines + 1) ≡ 3 * lines + 3 = omega arith in
        let front : lines + 1 ≤ 512 → take (3 * (lines + 1)) l' ≡ take (3 * lines) l ++ three =
        λ r. rw (m, s (omega (arith, h.size))) (numbers-stored l (3 * lines) n.kind n.index n.source (omega (arith, h.size))) in
        let left : all_numbers (split_lines (drop at t)) ≡ three ++ rest = rw (next_line t at end more e, f) in
        record {
          within = omega arith;
          few = omega (arith, h.few, e);
          size = omega (arith, g, h.size);
          count = omega (arith, h.count, ap length (next_line t at end more e));
          numbers = λ r. ap (λ u. u ++ rest) (front r) ∙ append_assoc (take (3 * lines) l) three rest
              ∙ rw (← left) (h.numbers (omega arith));
        }
