-- Document 01, "Run sheet and run tool": the text that the run tool prints, whole, from the program's text and the sheet's.
use Rattle.std.specs.Prelude.{◌&&◌, List, [], ◌∷◌, ◌++◌, ℕ, length, replicate, eqb, leb}
use Rattle.std.proofs.Math.Option.{Option}
use Rattle.theory.specs.Limits
use Rattle.theory.specs.Basics.{or_else, default, all}
use Rattle.theory.specs.Text.{Bytes, bytes, decimal, line_of, split_lines}
use Rattle.theory.specs.ProgramText.{Command, variables}
use Rattle.theory.specs.Runs.{Outcome, run, within_each}
use Rattle.theory.specs.Source as S
use Rattle.theory.specs.Word as W
use Rattle.theory.specs.Translation.{word_of, word_text}
use Rattle.theory.specs.Machines.{fresh_source, fresh_word, capacity_of, is_limited}
use Rattle.theory.specs.RunSheet.{values, start}
use Rattle.theory.specs.TurnedDown.{Answer, done, refused, answer, after, unless, read_text, sheet_fault, rule_21, names_of}
use Rattle.theory.specs.declared.Refusal.{Refusal}
use Rattle.theory.specs.declared.End.{End}
use Rattle.theory.specs.declared.End.TheVariants.{Halted, Strayed, Spent, Full}

abbrev pub end_name : End → Bytes
end_name Halted = bytes "halted"
end_name Strayed = bytes "strayed"
end_name Spent = bytes "spent"
end_name Full = bytes "full"

-- A report is made for registers of given capacities, one list for all its rows (document 02, request 5). The run tool's are "64
-- registers, capacity 1,024"
abbrev pub tool_capacities : List ℕ
tool_capacities = replicate Limits.tool_registers Limits.tool_capacity

-- The two runs of a line: the source's, and its word's, from fresh states of the same values, on registers of these capacities, with the
-- tool's budgets
unfoldable pub source_on : List ℕ → List Command → (ℕ → ℕ) → Outcome S.State
source_on capacities p v = run (S.machine (within_each (capacity_of capacities)) p) Limits.tool_source_budget 0 (fresh_source v)

unfoldable pub word_on : List ℕ → List Command → (ℕ → ℕ) → Outcome W.State
word_on capacities p v =
    run (W.machine (within_each (capacity_of capacities)) (word_of p)) Limits.tool_word_budget 0 (fresh_word (variables p) v)

abbrev pub tool_source : List Command → (ℕ → ℕ) → Outcome S.State
tool_source = source_on tool_capacities

abbrev pub tool_word : List Command → (ℕ → ℕ) → Outcome W.State
tool_word = word_on tool_capacities

abbrev pub header : Bytes
header = line_of (bytes "source-end" ∷ bytes "source-steps" ∷ bytes "word-end" ∷ bytes "word-steps" ∷ bytes "X0" ∷ [])

-- "Fields: how the source ended, its steps, how the word ended, its steps, the source's X0 then"
unfoldable pub shown : Outcome S.State → Outcome W.State → Bytes
shown s w = line_of (end_name s.end ∷ decimal s.steps ∷ end_name w.end ∷ decimal w.steps ∷ decimal (s.state.values 0) ∷ [])

unfoldable pub row : List ℕ → List Command → List ℕ → Bytes → Bytes
row capacities p ns l = let v = start ns (default [] (values l)) in shown (source_on capacities p v) (word_on capacities p v)

unfoldable pub rows : List ℕ → List Command → List ℕ → List Bytes → Bytes
rows capacities p ns [] = []
rows capacities p ns (l ∷ ls) = row capacities p ns l ++ rows capacities p ns ls

abbrev pub rows_of : List ℕ → List Command → List Bytes → Bytes
rows_of capacities p [] = []
rows_of capacities p (l ∷ ls) = rows capacities p (names_of (l ∷ ls)) ls

-- Rule 10, of capacities that are no set's of "64 registers". With so many, rule 15 turns no word of a program down (claim `WordsFit`)
unfoldable pub capacities_fault : List ℕ → Option Refusal
capacities_fault capacities =
    unless (eqb (length capacities) Limits.tool_registers && all (is_limited Limits.most_capacity) capacities) 10 0

-- An accepted program: 10, 21 "after 15", 16 to 18; then "Its word buffer has 65,536 bytes; a longer word is 19"
unfoldable pub report_fault : List ℕ → List Command → Bytes → Option Refusal
report_fault capacities p sheet =
    or_else (capacities_fault capacities)
    (or_else (rule_21 (capacity_of capacities) p)
    (or_else (sheet_fault p capacities sheet)
    (unless (leb (length (word_text p)) Limits.tool_word_bytes) 19 0)))

-- "After the header comes a line for each run"
unfoldable pub report_answer : List ℕ → Bytes → Bytes → Answer Bytes
report_answer capacities t sheet =
    after (read_text t) λ p. answer (report_fault capacities p sheet) (header ++ rows_of capacities p (split_lines sheet))

-- "On a refusal it prints only `refused`, the number and the place, with single blanks"
abbrev pub printed : Answer Bytes → Bytes
printed (done t) = t
printed (refused r) = line_of (bytes "refused" ∷ decimal r.number ∷ decimal r.place ∷ [])

unfoldable pub report_on : List ℕ → Bytes → Bytes → Bytes
report_on capacities t sheet = printed (report_answer capacities t sheet)

-- What the run tool prints
abbrev pub report : Bytes → Bytes → Bytes
report = report_on tool_capacities
