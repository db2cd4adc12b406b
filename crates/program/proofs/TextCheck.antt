-- Rules 1 to 8 of a text: the check of its numbers, whose indices are limited, is the check of its commands.
use mathlib.Core.Path.{◌≡◌, refl, sym, ap}
use mathlib.Core.Bool.{Bool, true, false, ◌||◌}
use mathlib.Core.Option
use mathlib.Core.Option.{Option, none, some, none-ne-some}
use mathlib.Core.List.{List, [], ◌∷◌, map}
use Prim.Native.Nat.{ℕ, suc, ◌≤◌, ◌<◌}
use native.Mathlib.Omega.{arith}
use borrow.Author.Tests.{leb-true, leb-false, lt-leb, le-leb}
use lib.Dec.{leb, eqb}
use lib.ListN.{length, length-map}
use Rattle.theory.specs.Basics.{or_else, present}
use Rattle.theory.specs.Text.{Bytes, split_lines, ends_in_LF}
use Rattle.theory.specs.ProgramText as P
use Rattle.theory.specs.ProgramText.{clear, increment, copy, loop, while, Command, plain, opens, closes, indices, above, command}
use Rattle.theory.specs.ProgramText.{command_of, listed}
use Rattle.theory.specs.TurnedDown.{refused, answer, rule_1, rule_2, rule_3, line_fault, open_past, lines_fault, text_lines}
use Rattle.theory.specs.TurnedDown.{line_fault_under, lines_fault_under, program_fault_under, text_fault_under, read_text_under}
use Rattle.theory.specs.TurnedDown.{read_list_under}
use Rattle.theory.specs.declared.Refusal.{Refusal}
use Rattle.theory.specs.declared.Setting.{Setting}
use Rattle.theory.proofs.Settings.{line_outside, program_outside}
use Rattle.theory.specs.ProgramText.{commands}
use Rattle.theory.proofs.Nesting.{indexed, first-line, next-lines, faultless}
use Rattle.command.specs.Lines.{limited, numbered}
use Rattle.program.specs.Lines.{all_numbers}

-- A command with its indices limited
abbrev capped : Command → Command
capped (plain (clear i)) = plain (clear (limited i))
capped (plain (increment i)) = plain (increment (limited i))
capped (plain (copy i j)) = plain (copy (limited i) (limited j))
capped (opens k i) = opens k (limited i)
capped (closes k i) = closes k (limited i)

abbrev capped_line : Option Command → Option Command
capped_line = Option.map capped

numbers_are : (o : Option Command) → let n = numbered o in command_of n.kind n.index n.source ≡ capped_line o
unfolding command_of
numbers_are none = refl
numbers_are (some (plain (clear i))) = refl
numbers_are (some (plain (increment i))) = refl
numbers_are (some (plain (copy i j))) = refl
numbers_are (some (opens loop i)) = refl
numbers_are (some (closes loop i)) = refl
numbers_are (some (opens while i)) = refl
numbers_are (some (closes while i)) = refl

listed-numbers : (ls : List Bytes) → listed (all_numbers ls) ≡ map capped_line (map command ls)
unfolding listed all_numbers
listed-numbers [] = refl
listed-numbers (l ∷ ls) = rw (numbers_are (command l), listed-numbers ls)

low_index : (i : ℕ) → suc i ≤ 32 → limited i ≡ i
low_index i h = omega arith

capped_low : (c : Command) → above (indices c) ≤ 32 → capped c ≡ c
capped_low (plain (clear i)) h = rw (low_index i (omega arith))
capped_low (plain (increment i)) h = rw (low_index i (omega arith))
capped_low (plain (copy i j)) h = rw (low_index i (omega arith), low_index j (omega arith))
capped_low (opens k i) h = rw (low_index i (omega arith))
capped_low (closes k i) h = rw (low_index i (omega arith))

capped_high : (c : Command) → 32 < above (indices c) → 32 < above (indices (capped c))
capped_high (plain (clear i)) h = omega arith
capped_high (plain (increment i)) h = omega arith
capped_high (plain (copy i j)) h = omega arith
capped_high (opens k i) h = omega arith
capped_high (closes k i) h = omega arith

-- A line that passes does not change, and the verdict on any line does not

passes_capped : (n : ℕ) (os : List P.Opening) (o : Option Command) → line_fault n os o ≡ none → capped_line o ≡ o
passes_capped n os none e = absurd (none-ne-some _ (sym e))
passes_capped n os (some c) e = ap some (capped_low c (indexed n os c e))

all_capped : (p : List (Option Command)) (n : ℕ) (os : List P.Opening) → lines_fault n os p ≡ none → map capped_line p ≡ p
all_capped [] n os e = refl
all_capped (c ∷ p) n os e =
    rw (passes_capped n os c (first-line n os c p e), all_capped p (suc n) (open_past n os c) (next-lines n os c p e))

module _ (σ : Setting) where
  line_capped : (n : ℕ) (os : List P.Opening) (o : Option Command) → line_fault_under σ n os (capped_line o) ≡ line_fault_under σ n os o
  line_capped n os none = refl
  line_capped n os (some c) = go (leb (above (indices c)) 32) refl
    where
      go : (b : Bool) → leb (above (indices c)) 32 ≡ b → line_fault_under σ n os (some (capped c)) ≡ line_fault_under σ n os (some c)
      go true e = rw (capped_low c (leb-true (above (indices c)) 32 e))
      go false e = rw (e, lt-leb (above (indices (capped c))) 32 (capped_high c (leb-false (above (indices c)) 32 e)))

  lines_capped : (p : List (Option Command)) (n : ℕ) (os : List P.Opening)
      → lines_fault_under σ n os (map capped_line p) ≡ lines_fault_under σ n os p
  unfolding lines_fault_under
  lines_capped [] n [] = refl
  lines_capped [] n (o ∷ os) = refl
  lines_capped (c ∷ p) n os = rw (line_capped n os c) (go (line_fault_under σ n os c) refl (lines_capped p (suc n) (open_past n os c)))
    where
      go : (v : Option Refusal) → line_fault_under σ n os c ≡ v
          → lines_fault_under σ (suc n) (open_past n os c) (map capped_line p) ≡ lines_fault_under σ (suc n) (open_past n os c) p
          → or_else v (lines_fault_under σ (suc n) (open_past n os (capped_line c)) (map capped_line p))
          ≡ or_else v (lines_fault_under σ (suc n) (open_past n os c) p)
      go none e r = rw (passes_capped n os c (line_outside σ n os c e)) r
      go (some q) e r = refl

  program_capped : (p : List (Option Command)) → program_fault_under σ (map capped_line p) ≡ program_fault_under σ p
  unfolding program_fault_under rule_3
  program_capped p = rw (length-map p capped_line, lines_capped p 1 [])

  -- What the numbers of a text are read as
  pub numbers_read : (t : Bytes)
      → read_list_under σ (all_numbers (split_lines t)) ≡ answer (program_fault_under σ (text_lines t)) (present (text_lines t))
  unfolding read_list_under commands
  numbers_read t = rw (listed-numbers (split_lines t), program_capped (text_lines t)) (go (program_fault_under σ (text_lines t)) refl)
    where
      go : (v : Option Refusal) → program_fault_under σ (text_lines t) ≡ v
          → answer v (present (map capped_line (text_lines t))) ≡ answer v (present (text_lines t))
      go none e = rw (all_capped (text_lines t) 1 [] (faultless (text_lines t) (program_outside σ (text_lines t) e)).1)
      go (some r) e = refl

-- The rules of a text, in order

module _ (σ : Setting) (t : Bytes) where
  pub refused_1 : 16384 < length t → read_text_under σ t ≡ refused (record { number = 1; place = 0 })
  unfolding read_text_under text_fault_under rule_1
  refused_1 h = rw (lt-leb (length t) 16384 h)

  module _ (h : length t ≤ 16384) where
    pub refused_2 : (eqb (length t) 0 || ends_in_LF t) ≡ false
        → read_text_under σ t ≡ refused (record { number = 2; place = length (split_lines t) })
    unfolding read_text_under text_fault_under rule_1 rule_2
    refused_2 e = rw (le-leb (length t) 16384 h, e)

    pub past_2 : (eqb (length t) 0 || ends_in_LF t) ≡ true → read_text_under σ t ≡ read_list_under σ (all_numbers (split_lines t))
    unfolding read_text_under text_fault_under rule_1 rule_2
    past_2 e = rw (le-leb (length t) 16384 h, e) (sym (numbers_read σ t))

  pub refused_3 : 512 < length (split_lines t)
      → read_list_under σ (all_numbers (split_lines t)) ≡ refused (record { number = 3; place = 513 })
  unfolding program_fault_under rule_3
  refused_3 h = rw (numbers_read σ t, length-map (split_lines t) command, lt-leb (length (split_lines t)) 512 h)
