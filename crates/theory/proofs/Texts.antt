-- Program texts: reading undoes writing, and writing undoes reading where the text is in digits.
use mathlib.Core.Path.{◌≡◌, refl, sym, ap, ap₂, ◌∙◌}
use mathlib.Core.Bool.{Bool, true, false, not, ◌&&◌, ◌||◌, or-true}
use mathlib.Core.Option.{Option, none, some}
use mathlib.Core.List.{List, [], ◌∷◌, ◌++◌, map, head-eq_of_cons-eq, tail-eq_of_cons-eq}
use Prim.Native.Nat.{ℕ, zero, suc, ◌*◌, ◌≤◌, ◌<◌}
use native.Mathlib.Omega.{arith}
use lib.ListN.{length, length-append, replicate}
use lib.Dec.{eqb, eqb-suc-zero}
use borrow.Author.Tests.{eqb-true, ne_eqb, le-leb, not-true}
use Rattle.theory.specs.Limits
use Rattle.theory.specs.Basics.{or_else, present, all, EachOf}
use Rattle.theory.specs.Text.{Bytes, bytes, LF, is_digit, prime, in_digits, decimal, name_of, Notation, by_digits, by_primes, name_by}
use Rattle.theory.specs.Text.{onto_first, split_lines, ends_in_LF}
use Rattle.theory.specs.ProgramText.{clear, increment, copy, loop, while, Command, plain, opens, closes}
use Rattle.theory.specs.ProgramText.{spelling_by, spelling, text_of, command}
use Rattle.theory.specs.TurnedDown.{done, rule_1, rule_2}
use Rattle.theory.specs.TurnedDown.{text_lines, program_fault_under, text_fault, text_fault_under, read_text, read_text_under}
use Rattle.theory.specs.Claims.{Accepted, TextRoundTrip}
use Rattle.theory.specs.declared.Refusal.{Refusal}
use Rattle.theory.specs.declared.Setting.{Setting}
use Rattle.theory.specs.declared.Setting.TheVariants.{Any}
use Rattle.theory.proofs.Faults.{none_first, none_second, unless_none, and_first, and_second}
use Rattle.theory.proofs.Nesting.{LowIndices, low, short, nothing_missing, text-read, text_sound}
use Rattle.theory.proofs.Lists.{present_some}
use Rattle.theory.proofs.Numerals.{all_append, digit_least, decimal-digits, decimal_short}
use Rattle.theory.proofs.Spellings.{arrow, command_of-spelling, in_digits-append, spelling-in_digits, spelling_of_digits}

-- Lines

-- A byte does not occur
abbrev pub Without : ℕ → Bytes → Type 0
Without x l = all (λ b. not (eqb b x)) l ≡ true

abbrev pub NoLF : Bytes → Type 0
NoLF = Without LF

-- The first line of a text is what stands before its first LF
pub split_first : (l t : Bytes) → NoLF l → split_lines (l ++ (LF ∷ t)) ≡ l ∷ split_lines t
unfolding split_lines
split_first [] t h = refl
split_first (b ∷ l) t h =
    let other : eqb b LF ≡ false = not-true (eqb b LF) (and_first (not (eqb b LF)) _ h) in
    rw (other, split_first l t (and_second (not (eqb b LF)) _ h))

-- LF and blank come before every byte of a name
pub digits_without : (x : ℕ) → x < prime → (d : Bytes) → all is_digit d ≡ true → Without x d
digits_without x l [] h = refl
digits_without x l (b ∷ d) h =
    let least : 48 ≤ b = digit_least b (and_first (is_digit b) _ h) in
    rw (ne_eqb b x (λ e. omega arith)) (digits_without x l d (and_second (is_digit b) _ h))

primes_without : (x : ℕ) → x < prime → (n : ℕ) → Without x (replicate n prime)
primes_without x l zero = refl
primes_without x l (suc n) = rw (ne_eqb prime x (λ e. omega arith)) (primes_without x l n)

pub name_without : (x : ℕ) → x < prime → (v : Notation) (i : ℕ) → Without x (name_by v i)
unfolding name_of
name_without x l by_digits i = rw (ne_eqb 88 x (λ e. omega arith)) (digits_without x l (decimal i) (decimal-digits i))
name_without x l by_primes i = rw (ne_eqb 88 x (λ e. omega arith)) (primes_without x l i)

pub name_no_LF : (v : Notation) (i : ℕ) → NoLF (name_by v i)
name_no_LF = name_without LF (omega arith)

-- A name with a text behind it
named_no_LF : (v : Notation) (i : ℕ) (t : Bytes) → NoLF t → NoLF (name_by v i ++ t)
named_no_LF v i t h = all_append _ (name_by v i) t (name_no_LF v i) h

pub spelling_no_LF : (v w : Notation) (c : Command) → NoLF (spelling_by v w c)
spelling_no_LF v w (plain (clear i)) = named_no_LF v i (bytes " <- 0") refl
spelling_no_LF v w (plain (increment i)) = named_no_LF v i (arrow ++ (name_by w i ++ bytes " + 1")) (named_no_LF w i (bytes " + 1") refl)
spelling_no_LF v w (plain (copy i j)) = named_no_LF v i (arrow ++ name_by w j) (name_no_LF w j)
spelling_no_LF v w (opens loop i) = name_no_LF v i
spelling_no_LF v w (closes loop i) = name_no_LF v i
spelling_no_LF v w (opens while i) = named_no_LF v i (bytes " != 0") refl
spelling_no_LF v w (closes while i) = named_no_LF v i (bytes " != 0") refl

-- Lines with LF after each
abbrev pub joined : List Bytes → Bytes
joined [] = []
joined (l ∷ ls) = l ++ (LF ∷ joined ls)

-- Lines that each spell a command are read as those commands
module _ {A : Type 0} (line : A → Bytes) (meant : A → Command) where
  pub lines-read : ((a : A) → NoLF (line a)) → ((a : A) → command (line a) ≡ some (meant a))
      → (l : List A) → text_lines (joined (map line l)) ≡ map (λ a. some (meant a)) l
  unfolding split_lines
  lines-read n r [] = refl
  lines-read n r (a ∷ l) =
      ap (map command) (split_first (line a) (joined (map line l)) (n a)) ∙ ap₂ {C = List (Option Command)} ◌∷◌ (r a) (lines-read n r l)

pub text-joined : (p : List Command) → text_of p ≡ joined (map spelling p)
unfolding text_of
text-joined [] = refl
text-joined (c ∷ p) = ap {B = Bytes} (λ t. spelling c ++ (LF ∷ t)) (text-joined p)

pub text-lines_of : (p : List Command) → text_lines (text_of p) ≡ map some p
unfolding spelling
text-lines_of p =
    rw (text-joined p) (lines-read spelling (λ c. c) (spelling_no_LF by_digits by_digits) (command_of-spelling by_digits by_digits) p)

-- The text again, where its last byte is LF
joined-first : (b : ℕ) (ls : List Bytes) (c : ℕ) (t : Bytes) → joined ls ≡ c ∷ t → joined (onto_first b ls) ≡ b ∷ c ∷ t
joined-first b [] c t h = cc
joined-first b (l ∷ ls) c t h = ap {B = Bytes} (λ r. b ∷ r) h

pub joined-lines : (t : Bytes) → ends_in_LF t ≡ true → joined (split_lines t) ≡ t
unfolding split_lines ends_in_LF
joined-lines [] h = cc
joined-lines (b ∷ []) h = rw (h, eqb-true b LF h)
joined-lines (b ∷ c ∷ t) h = go (eqb b LF) refl (joined-lines (c ∷ t) h)
  where
    go : (x : Bool) → eqb b LF ≡ x → joined (split_lines (c ∷ t)) ≡ c ∷ t → joined (split_lines (b ∷ c ∷ t)) ≡ b ∷ c ∷ t
    go true e rest = rw e (ap₂ {C = Bytes} ◌∷◌ (sym (eqb-true b LF e)) rest)
    go false e rest = rw e (joined-first b (split_lines (c ∷ t)) c t rest)

-- Rules 1 and 2 of a text that is written

-- Rule 2's test: there are no bytes, or the last is LF
abbrev Ended : Bytes → Type 0
Ended t = (eqb (length t) 0 || ends_in_LF t) ≡ true

ended_cons : (b : ℕ) (t : Bytes) → Ended (b ∷ t) → ends_in_LF (b ∷ t) ≡ true
ended_cons b t h = rw (eqb-suc-zero (length t)) at h

ends-line : (l t : Bytes) → Ended t → ends_in_LF (l ++ (LF ∷ t)) ≡ true
unfolding ends_in_LF
ends-line [] [] h = refl
ends-line [] (c ∷ t) h = ended_cons c t h
ends-line (b ∷ l) t h = behind (l ++ (LF ∷ t)) (ends-line l t h)
  where
    behind : (u : Bytes) → ends_in_LF u ≡ true → ends_in_LF (b ∷ u) ≡ true
    behind [] e = cc
    behind (c ∷ u) e = e

joined-ended : (ls : List Bytes) → Ended (joined ls)
joined-ended [] = refl
joined-ended (l ∷ ls) = rw (ends-line l (joined ls) (joined-ended ls)) (or-true (eqb (length (joined (l ∷ ls))) 0))

-- Such a text, short enough, has the faults alone that are looked for after these
pub joined-passes : (ls : List Bytes) → length (joined ls) ≤ Limits.most_bytes → (others : Option Refusal)
    → or_else (rule_1 (joined ls)) (or_else (rule_2 (joined ls)) others) ≡ others
unfolding rule_1 rule_2
joined-passes ls h others = rw (le-leb (length (joined ls)) Limits.most_bytes h, joined-ended ls)

pub lines_fault_only : (σ : Setting) (ls : List Bytes) → length (joined ls) ≤ Limits.most_bytes
    → text_fault_under σ (joined ls) ≡ program_fault_under σ (text_lines (joined ls))
unfolding text_fault_under
lines_fault_only σ ls h = joined-passes ls h (program_fault_under σ (text_lines (joined ls)))

name_short : (i : ℕ) → i < 100 → length (name_of i) ≤ 3
unfolding name_of
name_short i h = omega (arith, decimal_short i h)

-- A line has 17 bytes at most, and LF
pub spelling_short : (c : Command) → LowIndices c → length (spelling c) ≤ 17
unfolding spelling
spelling_short (plain (clear i)) h = let n : _ = name_short i (omega arith) in simp length-append (omega arith)
spelling_short (plain (increment i)) h = let n : _ = name_short i (omega arith) in simp length-append (omega arith)
spelling_short (plain (copy i j)) h =
    let n : _ = name_short i (omega arith) in
    let m : _ = name_short j (omega arith) in
    simp length-append (omega arith)
spelling_short (opens loop i) h = omega (arith, name_short i (omega arith))
spelling_short (closes loop i) h = omega (arith, name_short i (omega arith))
spelling_short (opens while i) h = let n : _ = name_short i (omega arith) in simp length-append (omega arith)
spelling_short (closes while i) h = let n : _ = name_short i (omega arith) in simp length-append (omega arith)

text_short : (p : List Command) → EachOf LowIndices p → length (text_of p) ≤ 18 * length p
unfolding text_of
text_short [] h = omega arith
text_short (c ∷ p) h =
    let line : length (spelling c) ≤ 17 = spelling_short c h.0 in
    let rest : length (text_of p) ≤ 18 * length p = text_short p h.1 in
    simp length-append (omega arith)

-- The text of an accepted program is read
pub text_accepted : (p : List Command) → Accepted p → text_fault (text_of p) ≡ none
text_accepted p h =
    let fits : length (text_of p) ≤ Limits.most_bytes = omega (arith, text_short p (low p h), short p h) in
    let lines : text_lines (joined (map spelling p)) ≡ map some p = rw (text-joined p) at (text-lines_of p) in
    rw (text-joined p) (lines_fault_only Any (map spelling p) (rw (text-joined p) at fits) ∙ rw lines h)

-- What is read is written again, where it is in digits

-- A text with its first line cut off
cut_in_digits : (l t : Bytes) → in_digits (l ++ (LF ∷ t)) ≡ (in_digits l && in_digits t)
unfolding in_digits
cut_in_digits l t = in_digits-append l (LF ∷ t) refl

pub text_in-digits : (p : List Command) → in_digits (text_of p) ≡ true
unfolding text_of in_digits
text_in-digits [] = refl
text_in-digits (c ∷ p) = rw (cut_in_digits (spelling c) (text_of p), spelling-in_digits c) (text_in-digits p)

-- Lines that are read as a program are its lines
pub text_of-lines : (ls : List Bytes) (p : List Command) → map some p ≡ map command ls → in_digits (joined ls) ≡ true
    → text_of p ≡ joined ls
unfolding text_of
text_of-lines [] [] h d = refl
text_of-lines [] (c ∷ p) h d = cc
text_of-lines (l ∷ ls) [] h d = cc
text_of-lines (l ∷ ls) (c ∷ p) h d =
    let both : (in_digits l && in_digits (joined ls)) ≡ true = sym (cut_in_digits l (joined ls)) ∙ d in
    let line : spelling c ≡ l = spelling_of_digits l c (sym (head-eq_of_cons-eq h)) (and_first (in_digits l) _ both) in
    ap₂ {C = Bytes} (λ s r. s ++ (LF ∷ r)) line (text_of-lines ls p (tail-eq_of_cons-eq h) (and_second (in_digits l) _ both))

whole-lines : (t : Bytes) → Ended t → joined (split_lines t) ≡ t
unfolding split_lines
whole-lines [] h = refl
whole-lines (b ∷ t) h = joined-lines (b ∷ t) (ended_cons b t h)

-- A text that rules 1 and 2 let pass is its lines
pub lines_again : (t : Bytes) (others : Option Refusal) → or_else (rule_1 t) (or_else (rule_2 t) others) ≡ none → joined (split_lines t) ≡ t
unfolding rule_2
lines_again t others h =
    whole-lines t (unless_none _ 2 (length (split_lines t)) (none_first (rule_2 t) others (none_second (rule_1 t) _ h)))

-- A text that is read is its lines, and each of them is read
pub lines_of-read : (t : Bytes) (p : List Command) → read_text t ≡ done p → (map some p ≡ text_lines t) × (joined (split_lines t) ≡ t)
unfolding text_fault_under
lines_of-read t p h =
    let found : _ = text-read t p h in
    let lines : map some (present (text_lines t)) ≡ text_lines t = nothing_missing (text_lines t) (text_sound t found.0) in
    (rw found.1 at lines, lines_again t (program_fault_under Any (text_lines t)) found.0)

pub text_round_trip : TextRoundTrip
unfolding read_text_under
text_round_trip = record { read = λ p h. read p h; written = λ t p h d. written t p h d; digits = λ p. text_in-digits p }
  where
    read : (p : List Command) → Accepted p → read_text (text_of p) ≡ done p
    read p h = rw (text_accepted p h, text-lines_of p, present_some p)

    written : (t : Bytes) (p : List Command) → read_text t ≡ done p → in_digits t ≡ true → text_of p ≡ t
    written t p h d =
        let r : _ = lines_of-read t p h in
        text_of-lines (split_lines t) p r.0 (rw r.1 d) ∙ r.1
