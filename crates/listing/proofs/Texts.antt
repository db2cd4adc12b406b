-- Texts of listings: what is read is an accepted listing written as that text, and every accepted listing is read from its text.
use mathlib.Core.Path.{◌≡◌, refl, sym, ap, ap₂, ◌∙◌}
use mathlib.Core.Bool.{Bool, true, false}
use mathlib.Core.Option.{Option, none, some}
use mathlib.Core.List.{List, [], ◌∷◌, ◌++◌, map, nil≢cons, cons≢nil, head-eq_of_cons-eq, tail-eq_of_cons-eq}
use Prim.Native.Nat.{ℕ, suc, ◌+◌, ◌*◌, ◌/◌, ◌%◌, ◌≤◌, ◌<◌}
use native.Mathlib.Omega.{arith}
use lib.ListN.{length, length-append}
use lib.Dec.{ltb}
use borrow.Author.Tests.{ltb-true, ltb-false}
use Rattle.theory.specs.Limits
use Rattle.theory.specs.Basics.{present, EachOf}
use Rattle.theory.specs.Text.{Bytes, bytes, LF, decimal, split_lines}
use Rattle.theory.specs.Word.{one, hash}
use Rattle.theory.specs.TurnedDown.{done, rule_1, rule_2}
use Rattle.theory.specs.declared.Refusal.{Refusal}
use Rattle.theory.proofs.Faults.{none_second, answer_done}
use Rattle.theory.proofs.Lists.{present_some}
use Rattle.theory.proofs.Numerals.{all_append, decimal_large, decimal-digits, decimal_short}
use Rattle.theory.proofs.Sizes.{each_map}
use Rattle.theory.proofs.Texts.{NoLF, digits_without, split_first, joined, joined-passes, lines_again}
use Rattle.listing.specs.Listing.{Line, print, scan, spelling, text_of, line}
use Rattle.listing.specs.Refused.{most_lines, line_fault, lines_fault, rule_3, listing_fault, text_lines, text_fault, read_listing}
use Rattle.listing.specs.Claims.{OnASet, Accepted, ListingsRead, Targets}
use Rattle.listing.proofs.Targets.{accepted_targets}
use Rattle.listing.proofs.Fits.{few_lines}
use Rattle.listing.proofs.Spelled.{lines-spelled}

-- Reading undoes writing

number_no_LF : (n : ℕ) → NoLF (decimal n)
number_no_LF n = digits_without LF (omega arith) (decimal n) (decimal-digits n)

numbers_no_LF : (n : ℕ) (t : Bytes) → NoLF t → NoLF (decimal n ++ (bytes " " ++ t))
numbers_no_LF n t h = all_append _ (decimal n) (bytes " " ++ t) (number_no_LF n) h

spelling_no_LF : (c : Line) → NoLF (spelling c)
spelling_no_LF (print one n) = number_no_LF n
spelling_no_LF (print hash n) = number_no_LF n
spelling_no_LF (scan n e f) =
    numbers_no_LF n (decimal e ++ (bytes " " ++ decimal f)) (numbers_no_LF e (decimal f) (number_no_LF f))

text-joined : (l : List Line) → text_of l ≡ joined (map spelling l)
unfolding text_of
text-joined [] = refl
text-joined (c ∷ l) = ap {B = Bytes} (λ t. spelling c ++ (LF ∷ t)) (text-joined l)

text-lines_of : (l : List Line) → EachOf OnASet l → text_lines (text_of l) ≡ map some l
unfolding text_of split_lines
text-lines_of [] s = refl
text-lines_of (c ∷ l) s =
    ap (map line) (split_first (spelling c) (text_of l) (spelling_no_LF c))
    ∙ ap₂ {C = List (Option Line)} ◌∷◌ (lines-spelled.read c s.0) (text-lines_of l s.1)

-- A register has at most two digits and a target at most three, so that 256 lines keep rule 1

number_short : (n : ℕ) → n < 1000 → length (decimal n) ≤ 3
number_short n h = go (ltb n 10) refl
  where
    go : (t : Bool) → ltb n 10 ≡ t → length (decimal n) ≤ 3
    go true e = omega (arith, decimal_short n (omega (arith, ltb-true n 10 e)))
    go false e =
        rw (decimal_large n (ltb-false n 10 e), length-append (decimal (n / 10)) ((48 + n % 10) ∷ []))
        (omega (arith, decimal_short (n / 10) (omega arith)))

spelling_short : (c : Line) → OnASet c → Targets most_lines c → length (spelling c) ≤ 14
spelling_short (print one n) s t = omega (arith, decimal_short n (omega (arith, s.last)))
spelling_short (print hash n) s t = omega (arith, decimal_short n (omega (arith, s.last)))
spelling_short (scan n e f) s t =
    let number : length (decimal n) ≤ 2 = decimal_short n (omega (arith, s.last)) in
    let first : length (decimal e) ≤ 3 = number_short e (omega arith) in
    let second : length (decimal f) ≤ 3 = number_short f (omega arith) in
    simp length-append (omega arith)

text_short : (l : List Line) → EachOf OnASet l → EachOf (Targets most_lines) l → length (text_of l) ≤ 15 * length l
unfolding text_of
text_short [] s t = omega arith
text_short (c ∷ l) s t =
    let line : length (spelling c) ≤ 14 = spelling_short c s.0 t.0 in
    let rest : length (text_of l) ≤ 15 * length l = text_short l s.1 t.1 in
    simp length-append (omega arith)

accepted_short : (l : List Line) → Accepted l → length (text_of l) ≤ Limits.most_bytes
accepted_short l a =
    let few : length l ≤ most_lines = few_lines l a in
    let targets : EachOf (Targets most_lines) l =
    each_map (Targets (length l)) (Targets most_lines) (more-targets (length l) few) l (accepted_targets l a) in
    omega (arith, text_short l a.registers targets)
  where
    more-targets : (n : ℕ) → n ≤ most_lines → (c : Line) → Targets n c → Targets most_lines c
    more-targets n h (print x r) t = tt
    more-targets n h (scan r e f) t = (t.0, omega arith, t.2, omega arith)

text-passes : (l : List Line) → Accepted l → text_fault (text_of l) ≡ none
unfolding text_fault
text-passes l a =
    let short : length (joined (map spelling l)) ≤ Limits.most_bytes = rw (text-joined l) at (accepted_short l a) in
    let lines : text_lines (joined (map spelling l)) ≡ map some l = rw (text-joined l) at (text-lines_of l a.registers) in
    rw (text-joined l, joined-passes (map spelling l) short (listing_fault (text_lines (joined (map spelling l)))), lines) a.passes

-- Writing undoes reading

-- Where rule 4 turns no line down each is there
pub all-present : (count n : ℕ) (l : List (Option Line)) → lines_fault count n l ≡ none → map some (present l) ≡ l
unfolding lines_fault
all-present count n [] h = refl
all-present count n (none ∷ l) h = cc
all-present count n (some c ∷ l) h =
    ap {B = List (Option Line)} (λ r. some c ∷ r)
    (all-present count (suc n) l (none_second (line_fault count n (some c)) (lines_fault count (suc n) l) h))

nothing_missing : (l : List (Option Line)) → listing_fault l ≡ none → map some (present l) ≡ l
unfolding listing_fault
nothing_missing l h = all-present (length l) 1 l (none_second (rule_3 l) (lines_fault (length l) 1 l) h)

-- Lines that are read as a listing are its lines
lines_read_as : (ls : List Bytes) (l : List Line) → map some l ≡ map line ls → EachOf OnASet l × (text_of l ≡ joined ls)
unfolding text_of
lines_read_as [] [] h = (tt, refl)
lines_read_as [] (c ∷ l) h = absurd (cons≢nil h)
lines_read_as (t ∷ ls) [] h = absurd (nil≢cons h)
lines_read_as (t ∷ ls) (c ∷ l) h =
    let first : OnASet c × (spelling c ≡ t) = lines-spelled.only t c (sym (head-eq_of_cons-eq h)) in
    let rest : EachOf OnASet l × (text_of l ≡ joined ls) = lines_read_as ls l (tail-eq_of_cons-eq h) in
    ((first.0, rest.0), ap₂ {C = Bytes} (λ s r. s ++ (LF ∷ r)) first.1 rest.1)

pub listings_read : ListingsRead
unfolding read_listing text_fault
listings_read = record { accepted = λ t l h. accepted t l h; each = λ l a. each l a }
  where
    each : (l : List Line) → Accepted l → read_listing (text_of l) ≡ done l
    each l a = rw (text-passes l a, text-lines_of l a.registers, present_some l)

    accepted : (t : Bytes) (l : List Line) → read_listing t ≡ done l → Accepted l × (text_of l ≡ t)
    accepted t l h =
        let found : _ = answer_done (text_fault t) (present (text_lines t)) l h in
        let fault : Option Refusal = listing_fault (text_lines t) in
        let passes : fault ≡ none = none_second (rule_2 t) fault (none_second (rule_1 t) _ found.0) in
        let lines : map some l ≡ text_lines t = rw found.1 at (nothing_missing (text_lines t) passes) in
        let read : _ = lines_read_as (split_lines t) l lines in
        (record { registers = read.0; passes = rw lines passes }, read.1 ∙ lines_again t fault found.0)
