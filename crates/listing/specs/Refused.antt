-- Document 02, request 6: what is turned down of a listing's text, and in which order. "The limits and places of 1 to 4 hold for listings,
-- but 3 is more than 256 lines (place 257)."
use Rattle.std.specs.Prelude.{◌&&◌, List, [], ◌∷◌, map, ℕ, suc, length, leb}
use Rattle.std.proofs.Math.Option.{Option, none, some}
use Rattle.theory.specs.Basics.{or_else, present}
use Rattle.theory.specs.Text.{Bytes, split_lines}
use Rattle.theory.specs.Machines.{is_limited}
use Rattle.theory.specs.TurnedDown.{refuse, unless, Answer, answer, rule_1, rule_2, translate_into}
use Rattle.theory.specs.declared.Refusal.{Refusal}
use Rattle.listing.specs.Listing.{Line, print, scan, line, word_text}

-- "at most 256 lines"
abbrev pub most_lines : ℕ
most_lines = 256

unfoldable pub rule_3 : {A : Type 0} → List A → Option Refusal
rule_3 l = unless (leb (length l) most_lines) 3 (suc most_lines)

-- Line n of so many: "22, a target outside 1 to the line count plus 1 (place its line)"; one answer where both are
abbrev pub rule_22 : ℕ → ℕ → Line → Option Refusal
rule_22 count n (print x r) = none
rule_22 count n (scan r e f) = unless (is_limited (suc count) e && is_limited (suc count) f) 22 n

-- 4, "A line is none of the spellings"; 22 stands "after 4, line by line with it"
abbrev pub line_fault : ℕ → ℕ → Option Line → Option Refusal
line_fault count n none = refuse 4 n
line_fault count n (some c) = rule_22 count n c

-- Lines from n on, of a listing of so many
unfoldable pub lines_fault : ℕ → ℕ → List (Option Line) → Option Refusal
lines_fault count n [] = none
lines_fault count n (c ∷ cs) = or_else (line_fault count n c) (lines_fault count (suc n) cs)

unfoldable pub listing_fault : List (Option Line) → Option Refusal
listing_fault l = or_else (rule_3 l) (lines_fault (length l) 1 l)

abbrev pub text_lines : Bytes → List (Option Line)
text_lines t = map line (split_lines t)

-- A listing handed in as text: 1 to 4 and 22
unfoldable pub text_fault : Bytes → Option Refusal
text_fault t = or_else (rule_1 t) (or_else (rule_2 t) (listing_fault (text_lines t)))

unfoldable pub read_listing : Bytes → Answer (List Line)
read_listing t = answer (text_fault t) (present (text_lines t))

-- and translated into a lent output: these, then 19
abbrev pub translate_listing : Bytes → Bytes → Answer (List Line)
translate_listing lent t = translate_into word_text lent (read_listing t)
