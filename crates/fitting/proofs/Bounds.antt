-- The numbers of refusals: a rule's number has two digits at most, and a place is not beyond the symbols that a word may have.
use mathlib.Core.Path.{◌≡◌, refl, sym, ap, subst, ◌∙◌}
use mathlib.Core.Bool.{Bool, true, false, cond, not, ◌&&◌, ◌||◌}
use mathlib.Core.Option.{Option, none, some, none-ne-some, some-injective}
use mathlib.Core.List.{List, [], ◌∷◌, map}
use Prim.Native.Nat.{ℕ, zero, suc, ◌+◌, ◌≤◌}
use native.Mathlib.Omega.{arith}
use borrow.Author.Tests.{leb-true, ltb-true}
use lib.Dec.{eqb, leb, ltb}
use lib.ListN.{length, take, length-map}
use Rattle.theory.specs.TurnedDown.{next_byte, next_entry}
use Rattle.theory.specs.Limits
use Rattle.theory.specs.Basics.{given, or_else, and_then, EachOf}
use Rattle.theory.specs.Text.{Bytes, LF, onto_first, split_lines, ends_in_LF}
use Rattle.theory.specs.ProgramText as P
use Rattle.theory.specs.ProgramText.{loop, while, Command, plain, opens, closes, indices, above}
use Rattle.theory.specs.Word.{Entry, symbol_of, is_symbol}
use Rattle.theory.specs.Machines.{is_limited}
use Rattle.theory.specs.TurnedDown.{same_kind, refuse, unless, rule_1, rule_2, rule_3, rule_20, pair_fault, line_fault_under, open_past}
use Rattle.theory.specs.TurnedDown.{lines_fault_under, program_fault, program_fault_under, text_lines, text_fault, text_fault_under}
use Rattle.theory.specs.TurnedDown.{rule_11, first_failing, rule_12, entry_size, entry_fault}
use Rattle.theory.specs.TurnedDown.{first_along, rule_13, total, rule_14, names_register, lacks, rule_15, word_entries, word_fault}
use Rattle.theory.specs.TurnedDown.{table_rule_11, bad_entry, table_fault}
use Rattle.theory.specs.declared.Refusal.{Refusal}
use Rattle.theory.specs.declared.Setting.{Setting}
use Rattle.theory.specs.declared.Setting.TheVariants.{Any, LoopOnly}
use Rattle.listing.specs.Listing.{Line, print, scan}
use Rattle.listing.specs.Refused as L
use Rattle.theory.proofs.Faults.{unless_none, and_second, none_first, none_second, given_some}
use Rattle.theory.proofs.Words.{spell_of_entries, total-length, formed_of_table, table_good}

abbrev pub Low : Option Refusal → Type 0
Low o = (r : Refusal) → o ≡ some r → (r.number ≤ 99) × (r.place ≤ 600000)

pub low_none : Low none
low_none r e = absurd (none-ne-some r e)

pub low_at : (n p : ℕ) → n ≤ 99 → p ≤ 600000 → Low (refuse n p)
low_at n p h l r e =
    let same = some-injective (record { number = n; place = p }) r e in
    (subst (λ (q : Refusal). q.number ≤ 99) same h, subst (λ (q : Refusal). q.place ≤ 600000) same l)

pub low_unless : (b : Bool) (n p : ℕ) → n ≤ 99 → p ≤ 600000 → Low (unless b n p)
low_unless true n p h l = low_none
low_unless false n p h l = low_at n p h l

pub low_or : (x y : Option Refusal) → Low x → (x ≡ none → Low y) → Low (or_else x y)
low_or none y l m = m refl
low_or (some r) y l m = l

low_then : (x : Option ℕ) (n : ℕ) → n ≤ 99 → ((i : ℕ) → x ≡ some i → i ≤ 600000) → Low (and_then x (refuse n))
low_then none n h l = low_none
low_then (some i) n h l = low_at n i h (l i refl)

-- Programs

lines_few : (t : Bytes) → length (split_lines t) ≤ length t
unfolding split_lines
lines_few [] = omega arith
lines_few (b ∷ t) = go (eqb b LF) (split_lines t) (lines_few t)
  where
    go : (x : Bool) (ls : List Bytes) → length ls ≤ length t → length (cond x ([] ∷ ls) (onto_first b ls)) ≤ suc (length t)
    go true ls h = omega arith
    go false [] h = omega arith
    go false (l ∷ ls) h = omega arith

pair_low : (n : ℕ) (os : List P.Opening) (c : Command) → n ≤ 600000 → Low (pair_fault n os c)
pair_low n os (plain c) h = low_none
pair_low n os (opens k i) h = low_unless (ltb (length os) Limits.most_open) 6 n (omega arith) h
pair_low n [] (closes k i) h = low_at 7 n (omega arith) h
pair_low n (o ∷ os) (closes k i) h = low_unless (same_kind k o.kind && eqb i o.index) 7 n (omega arith) h

while_low : (σ : Setting) (n : ℕ) (c : Command) → n ≤ 600000 → Low (rule_20 σ n c)
while_low Any n c h = low_none
while_low LoopOnly n (plain c) h = low_none
while_low LoopOnly n (opens loop i) h = low_none
while_low LoopOnly n (opens while i) h = low_at 20 n (omega arith) h
while_low LoopOnly n (closes loop i) h = low_none
while_low LoopOnly n (closes while i) h = low_at 20 n (omega arith) h

line_low : (σ : Setting) (n : ℕ) (os : List P.Opening) (c : Option Command) → n ≤ 600000 → Low (line_fault_under σ n os c)
line_low σ n os none h = low_at 4 n (omega arith) h
line_low σ n os (some c) h =
    low_or _ _ (low_unless (leb (above (indices c)) (suc Limits.most_index)) 5 n (omega arith) h)
    (λ e. low_or _ _ (while_low σ n c h) (λ e. pair_low n os c h))

abbrev LowLines : List P.Opening → Type 0
LowLines os = EachOf (λ o. o.line ≤ 600000) os

open_low : (n : ℕ) (os : List P.Opening) (c : Option Command) → n ≤ 600000 → LowLines os → LowLines (open_past n os c)
open_low n os none h l = l
open_low n os (some (plain c)) h l = l
open_low n os (some (opens k i)) h l = (h, l)
open_low n [] (some (closes k i)) h l = tt
open_low n (o ∷ os) (some (closes k i)) h l = l.1

lines_low : (σ : Setting) (n : ℕ) (os : List P.Opening) (p : List (Option Command)) → n + length p ≤ 600000 → LowLines os
    → Low (lines_fault_under σ n os p)
unfolding lines_fault_under
lines_low σ n [] [] h l = low_none
lines_low σ n (o ∷ os) [] h l = low_at 8 o.line (omega arith) l.0
lines_low σ n [] (c ∷ p) h l =
    low_or _ _ (line_low σ n [] c (omega arith))
    (λ e. lines_low σ (suc n) (open_past n [] c) p (omega arith) (open_low n [] c (omega arith) l))
lines_low σ n (o ∷ os) (c ∷ p) h l =
    low_or _ _ (line_low σ n (o ∷ os) c (omega arith))
    (λ e. lines_low σ (suc n) (open_past n (o ∷ os) c) p (omega arith) (open_low n (o ∷ os) c (omega arith) l))

pub few_lines : (p : List (Option Command)) → program_fault p ≡ none → length p ≤ 512
unfolding program_fault_under rule_3
few_lines p e = leb-true (length p) 512 (unless_none (leb (length p) 512) 3 513 (none_first _ _ e))

pub program_low : (σ : Setting) (p : List (Option Command)) → Low (program_fault_under σ p)
unfolding program_fault_under rule_3
program_low σ p =
    low_or _ _ (low_unless (leb (length p) 512) 3 513 (omega arith) (omega arith))
    (λ e. let few = leb-true (length p) 512 (unless_none (leb (length p) 512) 3 513 e) in lines_low σ 1 [] p (omega arith) tt)

pub few_bytes : (t : Bytes) → text_fault t ≡ none → length t ≤ 16384
unfolding text_fault_under rule_1
few_bytes t e = leb-true (length t) 16384 (unless_none (leb (length t) 16384) 1 0 (none_first _ _ e))

-- Rules 1 and 2, and then those of its lines
bytes_low : (t : Bytes) (o : Option Refusal) → Low o → Low (or_else (rule_1 t) (or_else (rule_2 t) o))
unfolding rule_1 rule_2
bytes_low t o l =
    low_or _ _ (low_unless (leb (length t) 16384) 1 0 (omega arith) (omega arith))
    (λ e. let few = leb-true (length t) 16384 (unless_none (leb (length t) 16384) 1 0 e) in
    low_or _ _ (low_unless (eqb (length t) 0 || ends_in_LF t) 2 (length (split_lines t)) (omega arith) (omega (arith, lines_few t)))
    (λ f. l))

pub text_low : (σ : Setting) (t : Bytes) → Low (text_fault_under σ t)
unfolding text_fault_under
text_low σ t = bytes_low t (program_fault_under σ (text_lines t)) (program_low σ (text_lines t))

-- Listings

target_low : (count n : ℕ) (c : Option Line) → n ≤ 600000 → Low (L.line_fault count n c)
target_low count n none h = low_at 4 n (omega arith) h
target_low count n (some (print x r)) h = low_none
target_low count n (some (scan r e f)) h =
    low_unless (is_limited (suc count) e && is_limited (suc count) f) 22 n (omega arith) h

targets_low : (count n : ℕ) (l : List (Option Line)) → n + length l ≤ 600000 → Low (L.lines_fault count n l)
unfolding L.lines_fault
targets_low count n [] h = low_none
targets_low count n (c ∷ l) h =
    low_or _ _ (target_low count n c (omega arith)) (λ e. targets_low count (suc n) l (omega arith))

pub listing_low : (t : Bytes) → Low (L.text_fault t)
unfolding L.text_fault L.listing_fault L.rule_3
listing_low t =
    let l : List (Option Line) = L.text_lines t in
    bytes_low t (L.listing_fault l)
    (low_or _ _ (low_unless (leb (length l) 256) 3 257 (omega arith) (omega arith))
    (λ e. targets_low (length l) 1 l (omega (arith, leb-true (length l) 256 (unless_none (leb (length l) 256) 3 257 e)))))

-- Words

failing_within : (f : ℕ → Bool) (n : ℕ) (l : List ℕ) (i : ℕ) → first_failing f n l ≡ some i → i ≤ n + length l
unfolding first_failing
failing_within f n [] i e = absurd (none-ne-some i e)
failing_within f n (b ∷ l) i e = go (f b) e (failing_within f (suc n) l i)
  where
    go : (x : Bool) → cond x (first_failing f (suc n) l) (some n) ≡ some i → (first_failing f (suc n) l ≡ some i → i ≤ suc n + length l)
        → i ≤ n + length (b ∷ l)
    go true e later = omega (arith, later e)
    go false e later = omega (arith, some-injective n i e)

-- The first answer along entries, each of which is within its entry
along-within : (f : ℕ → Entry → Option ℕ) → ((n : ℕ) (e : Entry) (i : ℕ) → f n e ≡ some i → i ≤ n + entry_size e)
    → (n : ℕ) (t : List Entry) (i : ℕ) → first_along next_byte f n t ≡ some i → i ≤ n + total t
unfolding first_along
along-within f h n [] i e = absurd (none-ne-some i e)
along-within f h n (x ∷ t) i e = go (f n x) refl e (along-within f h (n + entry_size x) t i)
  where
    go : (o : Option ℕ) → f n x ≡ o → or_else o (first_along next_byte f (n + entry_size x) t) ≡ some i
        → (first_along next_byte f (n + entry_size x) t ≡ some i → i ≤ n + entry_size x + total t) → i ≤ n + total (x ∷ t)
    go none q e later = omega (arith, later e)
    go (some j) q e later = omega (arith, h n x i (q ∙ e))

fault_within : (n : ℕ) (e : Entry) (i : ℕ) → entry_fault n e ≡ some i → i ≤ n + entry_size e
fault_within n e i = go (eqb e.operand 0) (ltb 5 e.kind) refl (eqb e.kind 0)
  where
    go : (a b : Bool) → ltb 5 e.kind ≡ b → (c : Bool)
        → or_else (given a n) (or_else (given b (n + e.operand + 5)) (given c (n + e.operand))) ≡ some i → i ≤ n + entry_size e
    go true b q c h = omega (arith, some-injective n i h)
    go false true q c h = omega (arith, some-injective (n + e.operand + 5) i h, ltb-true 5 e.kind q)
    go false false q true h = omega (arith, some-injective (n + e.operand) i h)
    go false false q false h = absurd (none-ne-some i h)

lacks-within : (registers n : ℕ) (e : Entry) (i : ℕ) → lacks registers n e ≡ some i → i ≤ n
lacks-within registers n e i h = omega (arith, (given_some (names_register e.kind && ltb registers e.operand) n i h).1)

total-take : (k : ℕ) (t : List Entry) → total (take k t) ≤ total t
total-take zero t = omega arith
total-take (suc k) [] = omega arith
total-take (suc k) (e ∷ t) = omega (arith, total-take k t)

word_total : (w : Bytes) → total (word_entries w) ≡ length w
word_total w =
    sym (total-length (word_entries w)) ∙ ap length (spell_of_entries (map symbol_of w)) ∙ length-map w symbol_of

pub few_symbols : (w : Bytes) → rule_11 w ≡ none → length w ≤ 600000
unfolding rule_11
few_symbols w e = leb-true (length w) 600000 (and_second (leb 1 (length w)) _ (unless_none _ 11 0 e))

pub few_instructions : (w : Bytes) → word_fault w ≡ none → length (word_entries w) ≤ 8192
unfolding word_fault rule_14
few_instructions w e =
    leb-true (length (word_entries w)) 8192
    (unless_none _ 14 _ (none_second (rule_13 next_byte entry_fault (word_entries w)) _
    (none_second (rule_12 w) _ (none_second (rule_11 w) _ e))))

rule_11_low : (w : Bytes) → Low (rule_11 w)
unfolding rule_11
rule_11_low w = low_unless (is_limited 600000 (length w)) 11 0 (omega arith) (omega arith)

pub word_low : (w : Bytes) → Low (word_fault w)
unfolding word_fault rule_12 rule_13 rule_14
word_low w =
    let t = word_entries w in
    low_or (rule_11 w) _ (rule_11_low w) (λ e.
    let few = few_symbols w e in
    low_or _ _ (low_then (first_failing is_symbol 0 w) 12 (omega arith) (λ i h. omega (arith, few, failing_within is_symbol 0 w i h))) (λ f.
    low_or _ _ (low_then (first_along next_byte entry_fault 0 t) 13 (omega arith)
    (λ i h. omega (arith, few, word_total w, along-within entry_fault fault_within 0 t i h))) (λ g.
    low_unless (leb (length t) 8192) 14 (total (take 8192 t)) (omega arith) (omega (arith, few, word_total w, total-take 8192 t)))))

pub word_for_low : (registers : ℕ) (w : Bytes) → Low (or_else (word_fault w) (rule_15 next_byte registers (word_entries w)))
unfolding word_fault rule_15
word_for_low registers w =
    let t = word_entries w in
    low_or _ _ (word_low w) (λ e.
    let few = few_symbols w (none_first (rule_11 w) _ e) in
    low_then (first_along next_byte (lacks registers) 0 t) 15 (omega arith)
    (λ i h. omega (arith, few, word_total w, along-within (lacks registers) lacks_inside 0 t i h)))
  where
    lacks_inside : (n : ℕ) (e : Entry) (i : ℕ) → lacks registers n e ≡ some i → i ≤ n + entry_size e
    lacks_inside n e i h = omega (arith, lacks-within registers n e i h)

-- Tables

-- The first entry with an answer, where each before it has a symbol
entry-within : (f : ℕ → Entry → Option ℕ) → ((n : ℕ) (e : Entry) (i : ℕ) → f n e ≡ some i → i ≤ n)
    → ((n : ℕ) (e : Entry) → f n e ≡ none → 1 ≤ entry_size e)
    → (n : ℕ) (t : List Entry) (i : ℕ) → first_along next_entry f n t ≡ some i → i ≤ n + total t
unfolding first_along
entry-within f h g n [] i e = absurd (none-ne-some i e)
entry-within f h g n (x ∷ t) i e = go (f n x) refl e (entry-within f h g (suc n) t i)
  where
    go : (o : Option ℕ) → f n x ≡ o → or_else o (first_along next_entry f (suc n) t) ≡ some i
        → (first_along next_entry f (suc n) t ≡ some i → i ≤ suc n + total t) → i ≤ n + total (x ∷ t)
    go none q e later = omega (arith, later e, g n x q)
    go (some j) q e later = omega (arith, h n x i (q ∙ e))

bad_within : (n : ℕ) (e : Entry) (i : ℕ) → bad_entry n e ≡ some i → i ≤ n
bad_within n e i h = omega (arith, (given_some (not (is_limited 5 e.kind) || eqb e.operand 0) n i h).1)

good_size : (n : ℕ) (e : Entry) → bad_entry n e ≡ none → 1 ≤ entry_size e
unfolding first_along
good_size n e h = omega (arith, (formed_of_table n (e ∷ []) (rw h)).0.operand)

-- The first entry with an answer is an entry
entry_below : (f : ℕ → Entry → Option ℕ) → ((n : ℕ) (e : Entry) (i : ℕ) → f n e ≡ some i → i ≤ n)
    → (n : ℕ) (t : List Entry) (i : ℕ) → first_along next_entry f n t ≡ some i → i ≤ n + length t
unfolding first_along
entry_below f h n [] i e = absurd (none-ne-some i e)
entry_below f h n (x ∷ t) i e = go (f n x) refl e (entry_below f h (suc n) t i)
  where
    go : (o : Option ℕ) → f n x ≡ o → or_else o (first_along next_entry f (suc n) t) ≡ some i
        → (first_along next_entry f (suc n) t ≡ some i → i ≤ suc n + length t) → i ≤ n + length (x ∷ t)
    go none q e later = omega (arith, later e)
    go (some j) q e later = omega (arith, h n x i (q ∙ e))

pub table_low : (t : List Entry) → Low (table_fault t)
unfolding table_fault table_rule_11 rule_13 rule_14
table_low t =
    let few : Bool = leb 1 (length t) && leb (total t) 600000 in
    low_or _ _ (low_unless few 11 0 (omega arith) (omega arith)) (λ e.
    let small = leb-true (total t) 600000 (and_second (leb 1 (length t)) _ (unless_none few 11 0 e)) in
    low_or _ _ (low_then (first_along next_entry bad_entry 0 t) 13 (omega arith)
    (λ i h. omega (arith, small, entry-within bad_entry bad_within good_size 0 t i h)))
    (λ f. low_unless (leb (length t) 8192) 14 8192 (omega arith) (omega arith)))

pub table_for_low : (registers : ℕ) (t : List Entry) → Low (or_else (table_fault t) (rule_15 next_entry registers t))
unfolding rule_15
table_for_low registers t =
    low_or _ _ (table_low t) (λ e.
    low_then (first_along next_entry (lacks registers) 0 t) 15 (omega arith)
    (λ i h. omega (arith, (table_good t e).instructions, entry_below (lacks registers) (lacks-within registers) 0 t i h)))
