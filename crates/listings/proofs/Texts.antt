-- The lines of a text from its numbers: targets are kept at most 65535, which changes no answer, as a listing has fewer lines.
use mathlib.Core.Path.{◌≡◌, refl, sym, ap, ◌∙◌}
use mathlib.Core.Bool.{Bool, true, false}
use mathlib.Core.Option
use mathlib.Core.Option.{Option, none, some, none-ne-some}
use mathlib.Core.List.{List, [], ◌∷◌, ◌++◌, map}
use Prim.Native.Nat.{ℕ, suc, ◌*◌, ◌≤◌, ◌<◌, min}
use native.Mathlib.Omega.{arith}
use borrow.Author.Tests.{leb-true, leb-false, le-leb, lt-leb}
use lib.Dec.{leb}
use lib.ListN.{length, length-append, length-map}
use Rattle.theory.specs.Basics.{present}
use Rattle.theory.specs.Machines.{is_limited}
use Rattle.theory.specs.TurnedDown.{answer}
use Rattle.theory.specs.Word.{one, hash}
use Rattle.theory.specs.declared.Refusal.{Refusal}
use Rattle.theory.proofs.Faults.{none_first, none_second}
use Rattle.listing.specs.Listing.{Line, print, scan}
use Rattle.listing.specs.Refused.{most_lines, rule_3, line_fault, lines_fault, listing_fault}
use Rattle.listing.specs.Claims.{Targets}
use Rattle.listing.proofs.Targets.{line-targets}
use Rattle.listing_numbers.specs.Numbers.{most_target, numbers, list_of}
use Rattle.listing_check.specs.Lined.{line_of, lined, read}

-- A line with its targets kept low
abbrev low : Line → Line
low (print x n) = print x n
low (scan n e f) = scan n (min e most_target) (min f most_target)

abbrev low_line : Option Line → Option Line
low_line = Option.map low

lined-numbers : (o : Option Line) (l : List ℕ) → lined (numbers o ++ l) ≡ low_line o ∷ lined l
unfolding lined line_of
lined-numbers none l = refl
lined-numbers (some (print one n)) l = refl
lined-numbers (some (print hash n)) l = refl
lined-numbers (some (scan n e f)) l = refl

lined_list : (ls : List (Option Line)) → lined (list_of ls) ≡ map low_line ls
unfolding lined list_of
lined_list [] = refl
lined_list (o ∷ ls) = lined-numbers o (list_of ls) ∙ ap {B = List (Option Line)} (λ r. low_line o ∷ r) (lined_list ls)

-- The list has four numbers a line
numbers-length : (o : Option Line) → length (numbers o) ≡ 4
numbers-length none = refl
numbers-length (some (print one n)) = refl
numbers-length (some (print hash n)) = refl
numbers-length (some (scan n e f)) = refl

pub list_length : (ls : List (Option Line)) → length (list_of ls) ≡ 4 * length ls
unfolding list_of
list_length [] = refl
list_length (o ∷ ls) = length-append (numbers o) (list_of ls) ∙ omega (arith, numbers-length o, list_length ls)

-- The verdict on a line does not change
module _ (count : ℕ) (few : count ≤ most_lines) where
  target_low : (e : ℕ) → is_limited (suc count) (min e most_target) ≡ is_limited (suc count) e
  target_low e = go (leb e most_target) refl
    where
      go : (b : Bool) → leb e most_target ≡ b → is_limited (suc count) (min e most_target) ≡ is_limited (suc count) e
      go true t = let same : min e most_target ≡ e = omega (arith, leb-true e most_target t) in rw same
      go false t =
          let above : most_target < e = leb-false e most_target t in
          let same : min e most_target ≡ most_target = omega arith in
          rw (
            same,
            lt-leb most_target (suc count) (omega arith),
            le-leb 1 e (omega arith),
            lt-leb e (suc count) (omega arith),
          )

  line_low : (n : ℕ) (o : Option Line) → line_fault count n (low_line o) ≡ line_fault count n o
  line_low n none = refl
  line_low n (some (print x r)) = refl
  line_low n (some (scan r e f)) = rw (target_low e, target_low f)

  -- and a line that passes does not change
  passes_low : (n : ℕ) (o : Option Line) → line_fault count n o ≡ none → low_line o ≡ o
  passes_low n none h = absurd (none-ne-some _ (sym h))
  passes_low n (some (print x r)) h = refl
  passes_low n (some (scan r e f)) h =
      let t : Targets count (scan r e f) = line-targets count n (scan r e f) h in
      let one_same : min e most_target ≡ e = omega (arith, t.1) in
      let hash_same : min f most_target ≡ f = omega (arith, t.3) in
      rw (one_same, hash_same)

  lines_low : (n : ℕ) (ls : List (Option Line)) → lines_fault count n (map low_line ls) ≡ lines_fault count n ls
  unfolding lines_fault
  lines_low n [] = refl
  lines_low n (o ∷ ls) = rw (line_low n o, lines_low (suc n) ls)

  all_low : (n : ℕ) (ls : List (Option Line)) → lines_fault count n ls ≡ none → map low_line ls ≡ ls
  unfolding lines_fault
  all_low n [] h = refl
  all_low n (o ∷ ls) h =
      rw (
        passes_low n o (none_first (line_fault count n o) _ h),
        all_low (suc n) ls (none_second (line_fault count n o) _ h),
      )

-- What the numbers of lines are read as
pub numbers_read : (ls : List (Option Line)) → length ls ≤ most_lines → read (list_of ls) ≡ answer (listing_fault ls) (present ls)
unfolding listing_fault rule_3
numbers_read ls few =
    rw (lined_list ls, length-map ls low_line, le-leb (length ls) most_lines few, lines_low (length ls) few 1 ls)
    (go (lines_fault (length ls) 1 ls) refl)
  where
    go : (v : Option Refusal) → lines_fault (length ls) 1 ls ≡ v → answer v (present (map low_line ls)) ≡ answer v (present ls)
    go none e = rw (all_low (length ls) few 1 ls e)
    go (some r) e = refl
