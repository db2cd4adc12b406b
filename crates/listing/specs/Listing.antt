-- Document 02, request 6, "Scan-and-delete listings": lines, their spelling, the step, and the listing's word. The machine is that of
-- source document 004, whose exits are numbered by the alphabet: `1` first, then `#`.
use Rattle.std.specs.Prelude.{cond, List, [], ◌∷◌, ◌++◌, map, ℕ, suc, ◌+◌, ◌-◌, length, take, eqb, ltb}
use Rattle.std.proofs.Math.Option
use Rattle.std.proofs.Math.Option.{Option}
use Rattle.theory.specs.Limits
use Rattle.theory.specs.Basics.{at, put, given, or_else, and_then, default, sum}
use Rattle.theory.specs.Text.{Bytes, Found, bytes, following, same, numeral, decimal, LF}
use Rattle.theory.specs.Runs.{Machine}
use Rattle.theory.specs.Word.{Symbol, one, hash, Instruction, append, forward, backward, cases, spell, bytes_of}
use Rattle.theory.specs.Machines.{is_limited}
use Rattle.theory.specs.declared.End.TheVariants.{Halted}

-- Lines

-- `print one n` is `P1 n`, `print hash n` is `P# n`, `scan n e f` is `Scd n e f`
pub data Line : Type 0 where
  print : Symbol → ℕ → Line
  scan : (n e f : ℕ) → Line

-- Writing
abbrev pub print_name : Symbol → Bytes
print_name one = bytes "P1 "
print_name hash = bytes "P# "

abbrev pub spelling : Line → Bytes
spelling (print x n) = print_name x ++ decimal n
spelling (scan n e f) = bytes "Scd " ++ (decimal n ++ (bytes " " ++ (decimal e ++ (bytes " " ++ decimal f))))

-- Each line ends in LF
unfoldable pub text_of : List Line → Bytes
text_of [] = []
text_of (l ∷ ls) = spelling l ++ (LF ∷ text_of ls)

-- Reading: a register's number, "with n from 1 to 64, no leading zeros", and what follows it
abbrev pub in_range : Found ℕ → Option (Found ℕ)
in_range f = given (is_limited Limits.most_registers f.value) f

unfoldable pub register_number : Bytes → Option (Found ℕ)
register_number t = and_then (numeral t) in_range

-- A line that is exactly this symbol's name and a register; and one that is exactly `Scd`, a register and two targets, of any size
unfoldable pub prints : Symbol → Bytes → Option Line
prints x t =
    and_then (following (print_name x) t) λ u.
    and_then (register_number u) λ n.
    given (same (bytes "") n.rest) (print x n.value)

unfoldable pub scans : Bytes → Option Line
scans t =
    and_then (following (bytes "Scd ") t) λ u.
    and_then (register_number u) λ n.
    and_then (following (bytes " ") n.rest) λ v.
    and_then (numeral v) λ e.
    and_then (following (bytes " ") e.rest) λ w.
    and_then (numeral w) λ f.
    given (same (bytes "") f.rest) (scan n.value e.value f.value)

-- The line that bytes spell; none where they are none of the spellings (rule 4)
unfoldable pub line : Bytes → Option Line
line t = or_else (prints one t) (or_else (prints hash t) (scans t))

-- The step

-- Lines count from 1. Every number names a register, which holds both symbols, and any amount of them
pub record State : Type 0 where
  pub line : ℕ
  pub registers : ℕ → List Symbol

-- "Scd goes to the next line on empty, else deletes the first symbol and goes to line e for 1, f for #"; register n holds xs
abbrev pub scanned : (n e f : ℕ) → State → List Symbol → State
scanned n e f s [] = record { line = suc s.line; registers = s.registers }
scanned n e f s (one ∷ xs) = record { line = e; registers = put s.registers n xs }
scanned n e f s (hash ∷ xs) = record { line = f; registers = put s.registers n xs }

-- "place a_i on the end of ⟨n⟩" (document 004), and the next line
abbrev pub perform : State → Line → State
perform s (print x n) = record { line = suc s.line; registers = put s.registers n (s.registers n ++ (x ∷ [])) }
perform s (scan n e f) = scanned n e f s (s.registers n)

-- One step; none at no line of the listing
unfoldable pub step : List Line → State → Option State
step l s = Option.map (perform s) (at l s.line)

-- "Line count plus 1 is halted"
abbrev pub machine : List Line → Machine State
machine l = record { ended = λ s. given (eqb s.line (suc (length l))) Halted; next = step l }

-- What a line costs its word: "1 for each P line done and 2 for each Scd done"
abbrev pub line_steps : Line → ℕ
line_steps (print x n) = 1
line_steps (scan n e f) = 2

abbrev pub word_steps : List Line → State → ℕ
word_steps l s = default 0 (Option.map line_steps (at l s.line))

-- The word: "F1, then one append for a P line, and for Scd: cases, F3, and two transfers to the targets"

-- The instructions of a line
abbrev pub size : Line → ℕ
size (print x n) = 1
size (scan n e f) = 4

-- The place of line i's first instruction: F1 is at place 1, so line 1 at place 2. Line count plus 1 is at the place after the last
unfoldable pub place : List Line → ℕ → ℕ
place l i = 2 + sum (map size (take (i - 1) l))

-- At place q, to go to place t. They are never the same: a transfer is the third or fourth instruction of its line
abbrev pub transfer : (q t : ℕ) → Instruction
transfer q t = cond (ltb q t) (forward (t - q)) (backward (q - t))

-- A line of the listing l, whose first instruction is at place q
abbrev pub line_code : List Line → ℕ → Line → List Instruction
line_code l q (print x n) = append x n ∷ []
line_code l q (scan n e f) = cases n ∷ forward 3 ∷ transfer (q + 2) (place l e) ∷ transfer (q + 3) (place l f) ∷ []

-- Lines of it that follow one another from there
unfoldable pub code : List Line → ℕ → List Line → List Instruction
code l q [] = []
code l q (c ∷ cs) = line_code l q c ++ code l (q + size c) cs

unfoldable pub word : List Line → List Instruction
word l = forward 1 ∷ code l 2 l

unfoldable pub word_text : List Line → Bytes
word_text l = bytes_of (spell (word l))
