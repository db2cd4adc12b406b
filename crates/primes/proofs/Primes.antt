-- Names in digits and in primes: of lines, of programs and of the names line of a sheet.
use mathlib.Core.Path.{◌≡◌, refl, sym, ap, ap₂, ◌∙◌}
use mathlib.Core.Option.{Option, none, some, some-injective, none-ne-some}
use mathlib.Core.List.{List, [], ◌∷◌, ◌++◌, map, append-nil, nil≢cons, cons≢nil, head-eq_of_cons-eq, tail-eq_of_cons-eq}
use Prim.Native.Nat.{ℕ, ◌≤◌}
use native.Mathlib.Omega.{arith}
use lib.ListN.{length}
use Rattle.theory.specs.Limits
use Rattle.theory.specs.Basics.{present, every, with_all}
use Rattle.theory.specs.Text.{Bytes, LF, blank, name, name_of}
use Rattle.theory.specs.Text.{Notation, by_digits, by_primes, name_by, split_lines, split_blanks, fields, blanked}
use Rattle.theory.specs.ProgramText.{Command, spelling, text_of, command}
use Rattle.theory.specs.RunSheet.{whole, names}
use Rattle.theory.specs.TurnedDown.{Answer, answer, text_lines, program_fault_under, text_fault_under, read_text_under}
use Rattle.theory.specs.declared.Setting.{Setting}
use Rattle.theory.proofs.Faults.{and_then_some}
use Rattle.theory.proofs.Numerals.{found, name-written}
use Rattle.theory.proofs.Spellings.{name_alone, command_of-spelling, spelling_of_command, Spells}
use Rattle.theory.proofs.Texts.{NoLF, name_without, spelling_no_LF, joined, lines-read, lines_fault_only, lines_of-read}
use Rattle.primes.specs.Claims.{EitherNotation, Line, program_by, line_by, text_by, in_writing, Respelled}
use Rattle.primes.specs.Claims.{written_name, names_by, indices_by, NamesEitherNotation}
use Rattle.primes.proofs.Fields.{split_blanked, Split, split_whole}

pub either_notation : EitherNotation
either_notation = record { each = λ v w c. command_of-spelling v w c; only = λ t c h. spelling_of_command t c h }

-- Programs

by_joined : (ls : List Line) → text_by ls ≡ joined (map line_by ls)
by_joined [] = refl
by_joined (l ∷ ls) = ap {B = Bytes} (λ t. line_by l ++ (LF ∷ t)) (by_joined ls)

lines_by : (ls : List Line) → text_lines (text_by ls) ≡ map (λ l. some l.command) ls
lines_by ls = rw (by_joined ls) (lines-read line_by (λ l. l.command) no_LF each ls)
  where
    each : (l : Line) → command (line_by l) ≡ some l.command
    each l = command_of-spelling l.first l.second l.command

    no_LF : (l : Line) → NoLF (line_by l)
    no_LF l = spelling_no_LF l.first l.second l.command

program_lines : (ls : List Line) → map (λ l. some l.command) ls ≡ map some (program_by ls)
program_lines [] = refl
program_lines (l ∷ ls) = ap {B = List (Option Command)} (λ r. some l.command ∷ r) (program_lines ls)

-- The answer, by the program alone
answer_to : Setting → List Command → Answer (List Command)
answer_to σ p = answer (program_fault_under σ (map some p)) (present (map some p))

answer_by : (σ : Setting) (ls : List Line) → length (text_by ls) ≤ Limits.most_bytes
    → read_text_under σ (text_by ls) ≡ answer_to σ (program_by ls)
unfolding read_text_under answer_to
answer_by σ ls h =
    let lines : text_lines (text_by ls) ≡ map some (program_by ls) = lines_by ls ∙ program_lines ls in
    let short : length (joined (map line_by ls)) ≤ Limits.most_bytes = rw (by_joined ls) at h in
    let fault : text_fault_under σ (text_by ls) ≡ program_fault_under σ (text_lines (text_by ls)) =
    rw (by_joined ls) (lines_fault_only σ (map line_by ls) short) in
    rw (fault, lines)

written_by : (p : List Command) → text_by (map in_writing p) ≡ text_of p
unfolding text_of spelling
written_by [] = refl
written_by (c ∷ p) = ap {B = Bytes} (λ t. spelling c ++ (LF ∷ t)) (written_by p)

-- Lines that are read as a program spell it
abbrev Spelled : List Bytes → List Command → Type 0
Spelled t p = (ls : List Line) × (text_by ls ≡ joined t) × (program_by ls ≡ p)

spelled_by : (t : List Bytes) (p : List Command) → map some p ≡ map command t → Spelled t p
spelled_by [] [] h = ([], refl, refl)
spelled_by [] (c ∷ p) h = absurd (cons≢nil h)
spelled_by (l ∷ t) [] h = absurd (nil≢cons h)
spelled_by (l ∷ t) (c ∷ p) h =
    let s : Spells l c = spelling_of_command l c (sym (head-eq_of_cons-eq h)) in
    let r : Spelled t p = spelled_by t p (tail-eq_of_cons-eq h) in (
      record { command = c; first = s.0; second = s.1 } ∷ r.0,
      ap₂ {C = Bytes} (λ u w. u ++ (LF ∷ w)) s.2 r.1,
      ap {B = List Command} (λ q. c ∷ q) r.2,
    )

pub respelled : Respelled
respelled =
    record {
      lines = λ ls. lines_by ls;
      answer = λ σ a b same h k. answer_by σ a h ∙ ap (answer_to σ) same ∙ sym (answer_by σ b k);
      written = λ p. written_by p;
      only = λ t p h.
          let r : _ = lines_of-read t p h in
          let s : Spelled (split_lines t) p = spelled_by (split_lines t) p r.0 in
          (s.0, s.1 ∙ r.1, s.2);
    }

-- Names lines

abbrev field : Bytes → Option ℕ
field f = whole (name f)

field_of : (n : Notation × ℕ) → field (written_name n) ≡ some n.1
field_of n = rw (name_alone n.0 n.1)

fields_read : (l : List (Notation × ℕ)) → every (map field (map written_name l)) ≡ some (indices_by l)
fields_read [] = refl
fields_read (n ∷ l) = rw (field_of n, fields_read l)

-- A line that begins with a name is not empty
fields_by : (v : Notation) (i : ℕ) (l : List (Notation × ℕ)) → fields (names_by ((v, i) ∷ l)) ≡ map written_name ((v, i) ∷ l)
unfolding name_of
fields_by v i l = begins v l ∙ split_blanked written_name (λ n. name_without blank (omega arith) n.0 n.1) (v, i) l
  where
    begins : (v : Notation) (l : List (Notation × ℕ)) → fields (names_by ((v, i) ∷ l)) ≡ split_blanks (names_by ((v, i) ∷ l))
    begins by_digits [] = refl
    begins by_digits (n ∷ l) = refl
    begins by_primes [] = refl
    begins by_primes (n ∷ l) = refl

-- A field that is read is a name
abbrev Written : Bytes → ℕ → Type 0
Written f i = (v : Notation) × (written_name (v, i) ≡ f)

field-written : (f : Bytes) (i : ℕ) → field f ≡ some i → Written f i
field-written f i h =
    let r : _ = and_then_some (name f) _ i h in
    let w : _ = name-written f r.0 r.1 in
    go r.0.rest r.0.value r.2 w.0 w.1
  where
    go : (rest : Bytes) (n : ℕ) → whole (some (found n rest)) ≡ some i → (v : Notation) → name_by v n ++ rest ≡ f → Written f i
    go [] n e v u = (v, ap (name_by v) (sym (some-injective n i e)) ∙ sym (append-nil (name_by v n)) ∙ u)
    go (b ∷ rest) n e v u = absurd (none-ne-some i e)

-- Fields that are all read are names
abbrev AllWritten : List Bytes → List ℕ → Type 0
AllWritten fs is = (l : List (Notation × ℕ)) × (map written_name l ≡ fs) × (indices_by l ≡ is)

all-written : (fs : List Bytes) (is : List ℕ) → every (map field fs) ≡ some is → AllWritten fs is
all-written [] is h = ([], refl, some-injective [] is h)
all-written (f ∷ fs) is h = go (field f) (every (map field fs)) refl refl h (all-written fs)
  where
    go : (o : Option ℕ) (r : Option (List ℕ)) → field f ≡ o → every (map field fs) ≡ r → with_all o r ≡ some is
        → ((js : List ℕ) → every (map field fs) ≡ some js → AllWritten fs js) → AllWritten (f ∷ fs) is
    go none r d e k rest = absurd (none-ne-some is k)
    go (some i) none d e k rest = absurd (none-ne-some is k)
    go (some i) (some js) d e k rest =
        let first : Written f i = field-written f i d in
        let l : AllWritten fs js = rest js e in (
          (first.0, i) ∷ l.0,
          ap₂ {C = List Bytes} ◌∷◌ first.1 l.1,
          ap {B = List ℕ} (λ r. i ∷ r) l.2 ∙ some-injective (i ∷ js) is k,
        )

joins : (l : List (Notation × ℕ)) (f : Bytes) (fs : List Bytes) → map written_name l ≡ f ∷ fs → names_by l ≡ blanked f fs
joins [] f fs e = absurd (nil≢cons e)
joins (n ∷ l) f fs e = ap₂ {C = Bytes} blanked (head-eq_of_cons-eq e) (tail-eq_of_cons-eq e)

pub names_either_notation : NamesEitherNotation
unfolding names
names_either_notation = record { each = λ l. each l; only = λ t is h. only t is h }
  where
    each : (l : List (Notation × ℕ)) → names (names_by l) ≡ some (indices_by l)
    each [] = refl
    each (n ∷ l) = ap (λ fs. every (map field fs)) (fields_by n.0 n.1 l) ∙ fields_read (n ∷ l)

    only : (t : Bytes) (is : List ℕ) → names t ≡ some is → (l : List (Notation × ℕ)) × (names_by l ≡ t) × (indices_by l ≡ is)
    only [] is h = ([], refl, some-injective [] is h)
    only (b ∷ t) is h =
        let s : Split (b ∷ t) = split_whole (b ∷ t) in
        let a : AllWritten (s.field ∷ s.others) is = all-written _ is (rw s.split at h) in
        (a.0, joins a.0 s.field s.others a.1 ∙ s.whole, a.2)
