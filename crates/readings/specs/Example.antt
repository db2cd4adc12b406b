-- The kinds of example, and what each says. Its rows are in Refusals and Results.
use Rattle.std.specs.Prelude.{◌≡◌, Bool, List, [], ◌∷◌, ◌++◌, map, ℕ, zero, suc, ℤ, length, get_or, replicate}
use Rattle.std.proofs.Math.Option.{Option, none, some}
use Prim.Native.String.{String}
use Rattle.theory.specs.Basics.{cells, sum}
use Rattle.theory.specs.Text.{Bytes, bytes, in_digits}
use Rattle.theory.specs.ProgramText.{Command, indices, variables, text_of, list_of}
use Rattle.theory.specs.Runs.{Outcome, run, within_each, within}
use Rattle.theory.specs.Source as S
use Rattle.theory.specs.Word as W
use Rattle.theory.specs.Word.{Entry, symbol_of}
use Rattle.theory.specs.Translation.{word_of, charge}
use Rattle.theory.specs.Machines.{fresh_source, fresh_word, capacity_of, SourceState, Memory, count, refilled, Position, Value, valued}
use Rattle.theory.specs.Machines.{word_value}
use Rattle.theory.specs.TurnedDown.{Answer, done, refused, mapped, lend}
use Rattle.theory.specs.TurnedDown.{lent_after, instructions, word_entries, sheet_fault_for, rule_9, rule_10, rule_21}
use Rattle.theory.specs.TurnedDown.{read_text_under, read_list_under}
use Rattle.theory.specs.TurnedDown.{read_text, read_list, read_word, read_table, read_word_for, read_table_for, run_program, run_on}
use Rattle.theory.specs.RunTool.{tool_capacities, report, report_on}
use Rattle.theory.specs.declared.Refusal.{Refusal}
use Rattle.theory.specs.declared.Setting.{Setting}
use Rattle.theory.specs.declared.Setting.TheVariants.{Any, LoopOnly}
use Rattle.theory.specs.declared.End.{End}
use Rattle.bench.specs.Table as T
use Rattle.tidy.specs.Forms.{word_in, text_in}
use Rattle.tidy.specs.declared.Form.{Form}

-- What a run of a source shows: its end, its steps, its line, the first so many values and passes left
pub record SourceShown : Type 0 where
  pub end : End
  pub steps : ℕ
  pub line : ℕ
  pub values : List ℕ
  pub passes : List ℕ

-- The same of a word on a machine, with the memory that it leaves
pub record WordShown : Type 0 where
  pub end : End
  pub steps : ℕ
  pub place : ℤ
  pub memory : Memory

-- The word of a program in one of its forms, and the word's run
pub record FormShown : Type 0 where
  pub word : Bytes
  pub run : T.Shown

pub data Example : Type 0 where
  -- what is turned down, and with what: a text, a list, a word, a table
  text : Bytes → Option Refusal → Example
  list : List ℕ → Option Refusal → Example
  word : Bytes → Option Refusal → Example
  entries : List Entry → Option Refusal → Example
  -- a text and a list, outside the LOOP-only setting and under it
  lesson : Bytes → Option Refusal → Option Refusal → Example
  list_lesson : List ℕ → Option Refusal → Option Refusal → Example
  -- a word and a table on a machine of so many registers
  machine : ℕ → Bytes → Option Refusal → Example
  table : ℕ → List Entry → Option Refusal → Example
  -- a program's source state, a machine's memory, a sheet for a program of so many variables: of the tool's capacities, of these
  source : String → SourceState → Option Refusal → Example
  memory : Memory → Option Refusal → Example
  sheet : ℕ → Bytes → Option Refusal → Example
  sheet_with : ℕ → List ℕ → Bytes → Option Refusal → Example
  -- a program whose word is to run on registers of these capacities, the first that of register 1
  fitting : String → List ℕ → Option Refusal → Example
  -- a lent output and what is to be written there: whether it is turned down, and what the output then holds
  output : List ℕ → Answer (List ℕ) → Option Refusal → List ℕ → Example
  fills : List Entry → Answer (List Entry) → Option Refusal → List Entry → Example
  -- the indices that each line names
  names : String → List (List ℕ) → Example
  -- what a text is read as, in numbers; how many variables it has; the text that is written of it
  reads : String → List ℕ → Example
  counts : String → ℕ → Example
  writes : String → String → Example
  -- whether a text is in digits
  digits : String → Bool → Example
  -- a row as those of the table: a program with its word and both runs, or a word with its run
  row : T.Row → Example
  -- the charge of the step that a program is about to do, in each of some states
  charges : String → List SourceState → List ℕ → Example
  -- a program's run from a state, and a word's on a memory from a position, with a budget
  runs : String → SourceState → ℕ → SourceShown → Example
  word_runs : String → Memory → Position → ℕ → WordShown → Example
  -- a program's run and its word's, on registers of these capacities and from these values: the end and the steps of each
  together : String → List ℕ → List ℕ → End × ℕ → End × ℕ → Example
  -- the value of a word at a place, on a machine of so many registers that hold these
  value : String → ℤ → ℕ → List String → Option Value → Example
  -- a program in a form, and its word's run from these values
  form : Form → String → List ℕ → FormShown → Example
  -- numbers and bytes that a definition gives
  numbers : List ℕ → List ℕ → Example
  spelled : Bytes → String → Example
  -- the run tool: program, sheet and what it prints
  prints : Bytes → Bytes → String → Example
  -- a report on registers of these capacities
  prints_on : List ℕ → Bytes → Bytes → String → Example

abbrev pub refusal : {A : Type 0} → Answer A → Option Refusal
refusal (done a) = none
refusal (refused r) = some r

abbrev pub under_both : {A : Type 0} → (Setting → Answer A) → Option Refusal × Option Refusal
under_both read = (refusal (read Any), refusal (read LoopOnly))

abbrev pub lends : {A : Type 0} → List A → Answer (List A) → Option Refusal × List A
lends lent r = let a = lend lent r in (refusal a, lent_after lent a)

unfoldable pub show_source : ℕ → ℕ → Outcome S.State → SourceShown
show_source n m o =
    let s = o.state in
    record { end = o.end; steps = o.steps; line = s.line; values = cells n s.values; passes = cells m s.passes }

unfoldable pub show_word : Memory → Outcome W.State → WordShown
show_word m o = record { end = o.end; steps = o.steps; place = o.state.place; memory = refilled m o.state.registers }

unfoldable pub show_form : Form → List ℕ → List Command → FormShown
show_form f v p =
    let start = fresh_word (variables p) (λ i. get_or v i 0) in
    record { word = text_in f p; run = T.show (length v) (run (W.machine (within 1024) (word_in f p)) T.budget 0 start) }

unfoldable pub show_ends : List ℕ → List ℕ → List Command → (End × ℕ) × (End × ℕ)
show_ends l v p =
    let s = run (S.machine (within_each (capacity_of l)) p) T.budget 0 (fresh_source (λ i. get_or v i 0)) in
    let t = run (W.machine (within_each (capacity_of l)) (word_of p)) T.budget 0 (fresh_word (variables p) (λ i. get_or v i 0)) in
    ((s.end, s.steps), (t.end, t.steps))

abbrev pub Holds : Example → Type 0
Holds (text t r) = refusal (read_text t) ≡ r
Holds (list l r) = refusal (read_list l) ≡ r
Holds (word w r) = refusal (read_word w) ≡ r
Holds (entries t r) = refusal (read_table t) ≡ r
Holds (lesson t outside under) = under_both (λ σ. read_text_under σ t) ≡ (outside, under)
Holds (list_lesson l outside under) = under_both (λ σ. read_list_under σ l) ≡ (outside, under)
Holds (machine registers w r) = refusal (read_word_for registers w) ≡ r
Holds (table registers t r) = refusal (read_table_for registers t) ≡ r
Holds (source t s r) = mapped (λ p. rule_9 p s) (read_text (bytes t)) ≡ done r
Holds (memory m r) = rule_10 m ≡ r
Holds (sheet K t r) = sheet_fault_for K tool_capacities t ≡ r
Holds (sheet_with K l t r) = sheet_fault_for K l t ≡ r
Holds (fitting t l r) = mapped (rule_21 (capacity_of l)) (read_text (bytes t)) ≡ done r
Holds (output lent a r l) = lends lent a ≡ (r, l)
Holds (fills lent a r l) = lends lent a ≡ (r, l)
Holds (names t is) = mapped (map indices) (read_text (bytes t)) ≡ done is
Holds (reads t l) = mapped list_of (read_text (bytes t)) ≡ done l
Holds (counts t K) = mapped variables (read_text (bytes t)) ≡ done K
Holds (writes t u) = mapped text_of (read_text (bytes t)) ≡ done (bytes u)
Holds (digits t b) = in_digits (bytes t) ≡ b
Holds (row r) = T.Holds r
Holds (charges t ss l) = mapped (λ p. map (λ s. charge p s.state) ss) (read_text (bytes t)) ≡ done l
Holds (runs t s budget e) =
    mapped (show_source (length e.values) (length e.passes)) (run_program (read_text (bytes t)) s budget) ≡ done e
Holds (word_runs w m p budget e) = mapped (show_word m) (run_on m p budget (read_word_for (count m) (bytes w))) ≡ done e
Holds (together t l v e e') = mapped (show_ends l v) (read_text (bytes t)) ≡ done (e, e')
Holds (value w q n rs v) = word_value (instructions (word_entries (bytes w))) n (record { place = q; registers = T.from rs }) ≡ v
Holds (form f t v e) = mapped (show_form f v) (read_text (bytes t)) ≡ done e
Holds (numbers l expected) = l ≡ expected
Holds (spelled b expected) = b ≡ bytes expected
Holds (prints t s out) = report t s ≡ bytes out
Holds (prints_on l t s out) = report_on l t s ≡ bytes out

-- n times the same
abbrev pub times : ℕ → Bytes → Bytes
times zero t = []
times (suc n) t = t ++ times n t

-- A variable by so many primes, whatever stands behind it
abbrev pub primed : ℕ → String → Bytes
primed n t = bytes "X" ++ (times n (bytes "'") ++ bytes t)

abbrev pub passes : Option Refusal
passes = none

-- a word whose value is this
abbrev pub has : String → Option Value
has v = some (valued (map symbol_of (bytes v)))

abbrev pub entry : ℕ → ℕ → Entry
entry k n = record { kind = k; operand = n }

-- A source state, of the first capacities, a line, the first values and passes left; and one of equal capacities
abbrev pub unlike : List ℕ → ℕ → List ℕ → List ℕ → SourceState
unlike capacities l v k = record {
  capacities = capacities;
  steps = 0;
  state = record { line = l; values = λ i. get_or v i 0; passes = λ d. get_or k d 0 };
}

abbrev pub state : ℕ → ℕ → List ℕ → List ℕ → SourceState
state capacity = unlike (replicate 32 capacity)

-- A fresh state, with a count of steps
abbrev pub fresh : ℕ → ℕ → List ℕ → SourceState
fresh capacity count v = record { capacities = replicate 32 capacity; steps = count; state = fresh_source (λ i. get_or v i 0) }

abbrev pub nested : String
nested = "loop X0\nloop X0\nendloop X0\nendloop X0\n"

abbrev pub nested_unlike : String
nested_unlike = "loop X1\nwhile X2 != 0\nloop X0\nendloop X0\nendwhile X2 != 0\nendloop X1\n"

abbrev pub loop_in_while : String
loop_in_while = "while X0 != 0\nloop X0\nX0 <- 0\nendloop X0\nendwhile X0 != 0\n"

-- A memory of such capacities; one whose registers are all empty
abbrev pub uneven : List ℕ → String → List ℕ → Memory
uneven capacities b l = record { capacities = capacities; store = bytes b; lengths = l }

abbrev pub all_empty : List ℕ → Memory
all_empty capacities = record { capacities = capacities; store = replicate (sum capacities) 0; lengths = replicate (length capacities) 0 }

-- A memory of one register; one of so many registers, all empty
abbrev pub register : ℕ → String → List ℕ → Memory
register capacity b l = uneven (capacity ∷ []) b l

abbrev pub empty : ℕ → ℕ → Memory
empty n capacity = all_empty (replicate n capacity)

-- A memory of so many registers of capacity 2
abbrev pub several : ℕ → String → List ℕ → Memory
several n b l = uneven (replicate n 2) b l
