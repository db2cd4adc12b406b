-- The numbers of a table of records after so many turns, in arrays that begin as 0s.
use mathlib.Core.Path.{◌≡◌, sym, ap, ◌∙◌}
use mathlib.Core.List.{List, map}
use Prim.Native.Nat.{ℕ, ◌+◌, ◌≤◌, ◌<◌}
use native.Mathlib.Omega.{arith}
use lib.ListN.{length, get_or, set, replicate, length-map, length-replicate, get_or-map}
use Rattle.theory.specs.Word.{Entry}
use Rattle.word.specs.declared.answers.Instruction.{Instruction}
use Rattle.records.specs.declared.Numbers.{Numbers}
use Rattle.word.specs.Answers.{entry_of, entries_of}
use Rattle.records.specs.Records.{numbers_of}
use Rattle.word.proofs.Fills.{put_first, put_none, put-length, put_next}
use Rattle.record_counting.proofs.Tallies.{no_record}

abbrev pub kind_in : Entry → ℕ
kind_in e = e.kind

abbrev pub operand_in : Entry → ℕ
operand_in e = e.operand

module _ (f : Entry → ℕ) (t : List Instruction) where
  -- So many of the entries' numbers, and 0s after them
  unfoldable pub copied_at : ℕ → List ℕ
  copied_at j = put_first f (replicate 8192 0) (entries_of t) j

  zeros : length {A = ℕ} (replicate 8192 0) ≡ 8192
  zeros = length-replicate {A = ℕ} 8192 0

  pub copied_none : replicate 8192 0 ≡ copied_at 0
  unfolding copied_at
  copied_none = put_none f (replicate 8192 0) (entries_of t)

  pub copied_length : (j : ℕ) → j ≤ 8192 → j ≤ length t → length (copied_at j) ≡ 8192
  unfolding copied_at
  copied_length j h g =
      put-length f (replicate 8192 0) (entries_of t) j (omega (arith, zeros)) (omega (arith, length-map t entry_of)) ∙ zeros

  pub copied_next : (j : ℕ) → j < 8192 → j < length t → (x : ℕ) → x ≡ f (entry_of (get_or t j no_record))
      → set (copied_at j) j x ≡ copied_at (j + 1)
  unfolding copied_at
  copied_next j h g x e =
      put_next f (replicate 8192 0) (entries_of t) j x (omega (arith, zeros)) (omega (arith, length-map t entry_of))
      (e ∙ ap f (sym (get_or-map entry_of t j no_record)))

pub numbers_end : (t : List Instruction) (j n : ℕ) → j ≡ n
    → ◌≡◌ {A = Numbers} (record { kinds = copied_at kind_in t j; operands = copied_at operand_in t j }) (numbers_of (entries_of t) n)
unfolding copied_at numbers_of
numbers_end t j n e = ap (λ (k : ℕ). numbers_of (entries_of t) k) e

-- An array in a struct is spelled by its elements, each as it is
abbrev pub same : List ℕ → List ℕ
same = map (λ v. v)
