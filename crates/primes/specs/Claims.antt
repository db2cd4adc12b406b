-- Document 02, request 3, "Variables with primes": what is read from the two notations of a name, and from nothing else. The proofs are in
-- proofs/.
use Rattle.std.specs.Prelude.{◌≡◌, List, [], ◌∷◌, ◌++◌, map, ℕ, ◌≤◌, length}
use Rattle.std.proofs.Math.Option.{some}
use Rattle.theory.specs.Limits
use Rattle.theory.specs.Text.{Bytes, LF, Notation, by_digits, name_by, blanked}
use Rattle.theory.specs.ProgramText.{Command, spelling_by, text_of, command}
use Rattle.theory.specs.RunSheet.{names}
use Rattle.theory.specs.TurnedDown.{done, text_lines, read_text, read_text_under}
use Rattle.theory.specs.declared.Setting.{Setting}

-- 1. Lines: "A variable may now be spelled as X and its index in primes"; "One line … may spell their variable both ways"
pub record EitherNotation : Type 0 where
  -- a command of any indices is read from each of its spellings
  pub each : (v w : Notation) (c : Command) → command (spelling_by v w c) ≡ some c
  -- and from nothing else
  pub only : (t : Bytes) (c : Command) → command t ≡ some c → (v : Notation) × (w : Notation) × (spelling_by v w c ≡ t)

-- 2. Programs: each line in notations of its own, so "the two lines of a pair" too

-- A command, and the notation of its first name and of its second
pub record Line : Type 0 where
  pub command : Command
  pub first : Notation
  pub second : Notation

abbrev pub program_by : List Line → List Command
program_by = map (λ l. l.command)

-- As `text_of`, in those notations
abbrev pub line_by : Line → Bytes
line_by l = spelling_by l.first l.second l.command

abbrev pub text_by : List Line → Bytes
text_by [] = []
text_by (l ∷ ls) = line_by l ++ (LF ∷ text_by ls)

-- As the writer has it
abbrev pub in_writing : Command → Line
in_writing c = record { command = c; first = by_digits; second = by_digits }

pub record Respelled : Type 0 where
  -- Every text so spelled is read as its program, line by line
  pub lines : (ls : List Line) → text_lines (text_by ls) ≡ map (λ l. some l.command) ls
  -- Two that differ in nothing but the notation of their names get the same answer, the program or the refusal, under either setting; rule
  -- 1, which counts bytes, may refuse one of them alone
  pub answer : (σ : Setting) (a b : List Line) → program_by a ≡ program_by b
      → length (text_by a) ≤ Limits.most_bytes → length (text_by b) ≤ Limits.most_bytes
      → read_text_under σ (text_by a) ≡ read_text_under σ (text_by b)
  -- "The writer always uses digits": what it writes is one of them
  pub written : (p : List Command) → text_by (map in_writing p) ≡ text_of p
  -- and no other text is accepted
  pub only : (t : Bytes) (p : List Command) → read_text t ≡ done p → (ls : List Line) × (text_by ls ≡ t) × (program_by ls ≡ p)

-- 3. Sheets: "The rule holds in program lines and in sheet names"

abbrev pub written_name : Notation × ℕ → Bytes
written_name n = name_by n.0 n.1

-- A names line: single blanks between the names; none of them is the empty line
abbrev pub names_by : List (Notation × ℕ) → Bytes
names_by [] = []
names_by (n ∷ l) = blanked (written_name n) (map written_name l)

abbrev pub indices_by : List (Notation × ℕ) → List ℕ
indices_by = map (λ n. n.1)

pub record NamesEitherNotation : Type 0 where
  pub each : (l : List (Notation × ℕ)) → names (names_by l) ≡ some (indices_by l)
  pub only : (t : Bytes) (is : List ℕ) → names t ≡ some is
      → (l : List (Notation × ℕ)) × (names_by l ≡ t) × (indices_by l ≡ is)
