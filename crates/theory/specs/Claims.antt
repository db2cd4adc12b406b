-- The claims about these definitions, stated. Each is a type of which proofs/ has one element; docs/PROMISES.md names it.
use Rattle.std.specs.Prelude.{◌≡◌, ◌≢◌, ◌⊎◌, ◌↔◌, true, List, map, ℕ, suc, ◌+◌, ◌*◌, ◌<◌, ◌≤◌, length}
use Rattle.std.proofs.Math.Option.{Option, none, some}
use Rattle.theory.specs.Limits
use Rattle.theory.specs.Basics.{at, EachOf}
use Rattle.theory.specs.Text.{Bytes, in_digits}
use Rattle.theory.specs.ProgramText.{clear, increment, copy, Command, plain, opens, closes, variables}
use Rattle.theory.specs.ProgramText.{Block, lines, block_of, text_of, list_of}
use Rattle.theory.specs.Runs.{register, Machine, run, Goes, each, unlimited, within_each, within}
use Rattle.theory.specs.Source as S
use Rattle.theory.specs.Word as W
use Rattle.theory.specs.Word.{Symbol, Instruction, append, Entry, operand, kind, table_of, spell, spell_entries, bytes_of}
use Rattle.theory.specs.Translation.{word, word_of, word_text, charge}
use Rattle.theory.specs.Machines.{fresh_source, fresh_word, holding, SourceState, run_source, Memory, Position, run_word}
use Rattle.theory.specs.Machines.{capacity_of, count, is_memory, contents, refilled}
use Rattle.theory.specs.TurnedDown.{done, program_fault, read_text, read_list, read_word, read_word_for, read_table, table_fault}
use Rattle.theory.specs.TurnedDown.{instructions, is_source, names_register, rule_21}
use Rattle.theory.specs.RunTool.{tool_capacities, tool_source, tool_word, capacities_fault}
use Rattle.theory.specs.declared.End.{End}
use Rattle.theory.specs.declared.End.TheVariants.{Halted, Strayed, Spent, Full}

-- "a program is accepted when rules 1 to 8 (3 to 8 for a list) don't turn it down": 1 and 2 are about its text, the others about its
-- commands
abbrev pub Accepted : List Command → Type 0
Accepted p = program_fault (map some p) ≡ none

abbrev pub ReadsAccepted : Type 0
ReadsAccepted =
    ((t : Bytes) (p : List Command) → read_text t ≡ done p → Accepted p)
    × ((l : List ℕ) (p : List Command) → read_list l ≡ done p → Accepted p)

-- and it is the lines of its block, whose word is the program's
abbrev pub WellNested : Type 0
WellNested = (p : List Command) → Accepted p → lines (block_of p) ≡ p

-- 1. Demand 3

abbrev pub Ends : {S : Type 0} → Machine S → End → S → Type 0
Ends M e s = M.ended s ≡ some e

-- Unlimited runs: the source's, with the sum of its charges, and the word's, with its steps
abbrev pub SourceRun : List Command → S.State → ℕ → S.State → Type 0
SourceRun p = Goes (S.step unlimited p) (charge p)

abbrev pub WordRun : List Instruction → W.State → ℕ → W.State → Type 0
WordRun w = Goes (W.step unlimited w) each

-- Register i+1 has as many 1s as variable i and no #, for the first K variables; every other register is empty
abbrev pub HoldsValues : ℕ → S.State → W.State → Type 0
HoldsValues K s t = (r : ℕ) → 0 < r → t.registers r ≡ holding K s.values r

-- Of a program p of K variables that start at v, and its word w
pub record Demand3 (p : List Command) (w : List Instruction) (v : ℕ → ℕ) : Type 0 where
  -- where the source halts its word halts, after 1 + the sum of the charges, and holds the variables' values
  pub halts : (c : ℕ) (s : S.State) → SourceRun p (fresh_source v) c s → Ends (S.machine unlimited p) Halted s
      → (t : W.State) × WordRun w (fresh_word (variables p) v) (1 + c) t × Ends (W.machine unlimited w) Halted t
      × HoldsValues (variables p) s t
  -- where the word halts its source halts, and the word's steps and registers are these
  pub only : (m : ℕ) (t : W.State) → WordRun w (fresh_word (variables p) v) m t → Ends (W.machine unlimited w) Halted t
      → (c : ℕ) × (s : S.State) × SourceRun p (fresh_source v) c s × Ends (S.machine unlimited p) Halted s
      × (m ≡ 1 + c) × HoldsValues (variables p) s t
  -- the source goes on until it halts
  pub goes_on : (c : ℕ) (s : S.State) → SourceRun p (fresh_source v) c s → S.step unlimited p s ≡ none
      → Ends (S.machine unlimited p) Halted s
  -- the word never strays
  pub stays : (m : ℕ) (t : W.State) → WordRun w (fresh_word (variables p) v) m t → Ends (W.machine unlimited w) Strayed t → ⊥

-- "For every accepted program, and whatever values its variables start at"; and of well-nested programs of any length and any index
abbrev pub DemandOfPrograms : Type 0
DemandOfPrograms = (p : List Command) → Accepted p → (v : ℕ → ℕ) → Demand3 p (word_of p) v

abbrev pub DemandOfBlocks : Type 0
DemandOfBlocks = (b : Block) (v : ℕ → ℕ) → Demand3 (lines b) (word b) v

-- 2. "A variable's capacity is that of its register" (document 02, request 5): the values fit, and the capacities "pass 21"
abbrev pub Fitting : List Command → (ℕ → ℕ) → (ℕ → ℕ) → Type 0
Fitting p capacity v = (rule_21 capacity p ≡ none) × ((i : ℕ) → i < variables p → v i ≤ capacity (register i))

-- "From a fresh state, equal values and equal capacity, and where neither run ends as spent, the source is full exactly when its word is".
-- "Where the capacities pass 21, whether or not the call checks it, source and word are still full for the same runs"
abbrev pub FullTogether : Type 0
FullTogether =
    (p : List Command) → Accepted p → (capacity v : ℕ → ℕ) → Fitting p capacity v → (b b' : ℕ)
    → let s = run (S.machine (within_each capacity) p) b 0 (fresh_source v) in
    let t = run (W.machine (within_each capacity) (word_of p)) b' 0 (fresh_word (variables p) v) in
    s.end ≢ Spent → t.end ≢ Spent → (s.end ≡ Full) ↔ (t.end ≡ Full)

-- "a word that fills up inside a copy reports its own steps": of a copy of j into i it has cleared i, gone 4 steps for each 1 that register
-- i has room for, and taken one more 1 of j
abbrev pub filling : (ℕ → ℕ) → Option Command → S.State → ℕ
filling capacity (some (plain (copy i j))) s = 2 * s.values i + 2 + 4 * capacity (register i) + 1
filling capacity (some (plain (clear i))) s = 0
filling capacity (some (plain (increment i))) s = 0
filling capacity (some (opens k i)) s = 0
filling capacity (some (closes k i)) s = 0
filling capacity none s = 0

-- "the sum of charges then covers completed source steps only": c is the sum of the charges of the source's steps
abbrev pub StepsTogether : Type 0
StepsTogether =
    (p : List Command) → Accepted p → (capacity v : ℕ → ℕ) → Fitting p capacity v → (b b' : ℕ)
    → let s = run (S.machine (within_each capacity) p) b 0 (fresh_source v) in
    let t = run (W.machine (within_each capacity) (word_of p)) b' 0 (fresh_word (variables p) v) in
    s.end ≢ Spent → t.end ≢ Spent
    → (c : ℕ) × SourceRun p (fresh_source v) c s.state
    × (s.end ≢ Full → t.steps ≡ 1 + c)
    × (s.end ≡ Full → t.steps ≡ 1 + c + filling capacity (at p s.state.line) s.state)

-- Registers "all of one capacity": rule 21 turns nothing down, and no copy lacks room
abbrev pub FullAtOneCapacity : Type 0
FullAtOneCapacity =
    (p : List Command) → Accepted p → (capacity : ℕ) (v : ℕ → ℕ) → ((i : ℕ) → i < variables p → v i ≤ capacity) → (b b' : ℕ)
    → let s = run (S.machine (within capacity) p) b 0 (fresh_source v) in
    let t = run (W.machine (within capacity) (word_of p)) b' 0 (fresh_word (variables p) v) in
    s.end ≢ Spent → t.end ≢ Spent
    → ((s.end ≡ Full) ↔ (t.end ≡ Full)) × ((c : ℕ) × SourceRun p (fresh_source v) c s.state × (t.steps ≡ 1 + c))

-- "Full is given only where the step would put more than the capacity into a register or variable": from a state that rule 9 lets pass,
-- and from any machine. A run that is full stands before such a step, which it could do on unlimited registers
abbrev pub SourceLacksRoom : List Command → (ℕ → ℕ) → S.State → Type 0
SourceLacksRoom p capacity s =
    ((i : ℕ) × (at p s.line ≡ some (plain (increment i))) × (capacity (register i) < suc (s.values i)))
    ⊎ ((i : ℕ) × (j : ℕ) × (at p s.line ≡ some (plain (copy i j))) × (capacity (register i) < s.values j))

abbrev pub WordLacksRoom : List Instruction → (ℕ → ℕ) → W.State → Type 0
WordLacksRoom w capacity s =
    (x : Symbol) × (n : ℕ) × (W.fetch w s.place ≡ some (append x n)) × (capacity n < suc (length (s.registers n)))

abbrev pub SourceFull : Type 0
SourceFull =
    (p : List Command) → Accepted p → (s : SourceState) (b : ℕ) → is_source p s ≡ true
    → let o = run_source p s b in
    o.end ≡ Full
    → SourceLacksRoom p (capacity_of s.capacities) o.state × ((s' : S.State) × (S.step unlimited p o.state ≡ some s'))

abbrev pub WordFull : Type 0
WordFull =
    (w : List Instruction) (m : Memory) (p : Position) (b : ℕ)
    → let o = run_word w m p b in
    o.end ≡ Full → WordLacksRoom w (capacity_of m.capacities) o.state × ((t : W.State) × (W.step unlimited w o.state ≡ some t))

-- Spent is given only where the budget is used up, or the count stands at 4,294,967,295, and the state has not ended
abbrev pub SpentMeans : {S : Type 0} → Machine S → Type 0
SpentMeans {S} M =
    (b n : ℕ) (s : S)
    → let o = run M b n s in
    o.end ≡ Spent → ((o.steps ≡ b) ⊎ (Limits.last_count ≤ n + o.steps)) × (M.ended o.state ≡ none)

abbrev pub SpentRightly : Type 0
SpentRightly =
    ((p : List Command) (capacity : ℕ → ℕ) → SpentMeans (S.machine (within_each capacity) p))
    × ((w : List Instruction) (capacity : ℕ → ℕ) → SpentMeans (W.machine (within_each capacity) w))

-- 3. Sizes of the word of an accepted program. "No word is above 600,000 symbols; this is proved." So a set with 64 registers never turns
-- it down
abbrev pub NamesAtMost : ℕ → Instruction → Type 0
NamesAtMost most i = names_register (kind i) ≡ true → operand i ≤ most

-- Of a word w of a program of K variables
pub record Sized (K : ℕ) (w : List Instruction) : Type 0 where
  pub some_instruction : 1 ≤ length w
  pub few_symbols : length (spell w) ≤ Limits.most_symbols
  pub few_instructions : length w ≤ Limits.most_instructions
  pub operands_from_1 : EachOf (λ i. 1 ≤ operand i) w
  pub low_registers : EachOf (NamesAtMost (K + 17)) w
  pub few_variables : K ≤ suc Limits.most_index

-- and of its symbols as they are written
pub record FitsASet (K : ℕ) (w : List Instruction) (text : Bytes) : Type 0 where
  pub sized : Sized K w
  pub read : read_word_for Limits.most_registers text ≡ done (table_of w)
  pub same : instructions (table_of w) ≡ w

abbrev pub WordsFit : Type 0
WordsFit = (p : List Command) → Accepted p → FitsASet (variables p) (word_of p) (word_text p)

-- 4. "reading undoes writing for every program, and writing undoes reading only for texts in digits": every text that is written is one
pub record TextRoundTrip : Type 0 where
  pub read : (p : List Command) → Accepted p → read_text (text_of p) ≡ done p
  pub written : (t : Bytes) (p : List Command) → read_text t ≡ done p → in_digits t ≡ true → text_of p ≡ t
  pub digits : (p : List Command) → in_digits (text_of p) ≡ true

abbrev pub ListRoundTrip : Type 0
ListRoundTrip =
    ((p : List Command) → Accepted p → read_list (list_of p) ≡ done p)
    × ((l : List ℕ) (p : List Command) → read_list l ≡ done p → list_of p ≡ l)

-- A word is written from its table, and a table from its instructions
abbrev pub WordRoundTrip : Type 0
WordRoundTrip =
    ((t : List Entry) → table_fault t ≡ none → read_word (bytes_of (spell_entries t)) ≡ done t)
    × ((w : Bytes) (t : List Entry) → read_word w ≡ done t → bytes_of (spell_entries t) ≡ w)

abbrev pub TableRoundTrip : Type 0
TableRoundTrip =
    ((w : List Instruction) → EachOf (λ i. 1 ≤ operand i) w → instructions (table_of w) ≡ w)
    × ((t t' : List Entry) → read_table t ≡ done t' → table_of (instructions t) ≡ t)

-- 5. "A budget cut in two gives the same state and the same total"; the same end too, but where the second part is 0
abbrev pub BudgetsCut : Type 1
BudgetsCut =
    (S : Type 0) (M : Machine S) (a b n : ℕ) (s : S)
    → let first = run M a n s in
    let second = run M b (n + first.steps) first.state in
    let whole = run M (a + b) n s in
    (whole.state ≡ second.state) × (whole.steps ≡ first.steps + second.steps) × (0 < b → whole.end ≡ second.end)

-- 6. The steps of a bounded run are those of the unlimited run; and where it ends as halted or strayed, that run ends there so
abbrev pub SourceUnlimited : Type 0
SourceUnlimited =
    (p : List Command) (capacity : ℕ → ℕ) (b n : ℕ) (s : S.State)
    → let o = run (S.machine (within_each capacity) p) b n s in
    Goes (S.step unlimited p) each s o.steps o.state × (o.end ≡ Halted → Ends (S.machine unlimited p) Halted o.state)

abbrev pub WordUnlimited : Type 0
WordUnlimited =
    (w : List Instruction) (capacity : ℕ → ℕ) (b n : ℕ) (s : W.State)
    → let o = run (W.machine (within_each capacity) w) b n s in
    Goes (W.step unlimited w) each s o.steps o.state
    × (o.end ≢ Spent → o.end ≢ Full → Ends (W.machine unlimited w) o.end o.state)

-- 7. What a run hands back from a good state is good again: rule 9 and rule 10 turn it down in no later call
abbrev pub SourceStaysGood : Type 0
SourceStaysGood =
    (p : List Command) → Accepted p → (s : SourceState) (b : ℕ) → is_source p s ≡ true
    → let o = run_source p s b in
    is_source p (record { capacities = s.capacities; steps = s.steps + o.steps; state = o.state }) ≡ true

-- The instructions name only registers that the memory has, as rule 15 makes sure
abbrev pub MemoryStaysGood : Type 0
MemoryStaysGood =
    (w : List Instruction) (m : Memory) (p : Position) (b : ℕ)
    → is_memory m ≡ true → EachOf (λ i. 1 ≤ operand i) w → EachOf (NamesAtMost (count m)) w
    → let o = run_word w m p b in
    let m' = refilled m o.state.registers in
    (is_memory m' ≡ true) × ((r : ℕ) → 0 < r → contents m' r ≡ o.state.registers r)

-- Filled with the contents that it has, a memory is what it was
abbrev pub RefilledWithItsContents : Type 0
RefilledWithItsContents = (m : Memory) → is_memory m ≡ true → refilled m (contents m) ≡ m

-- 8. Charges as printed: where the run tool prints `halted` for both, the word's count is 1 + the sum of the charges of the source's
-- steps, which are as many as it prints, and the word's registers hold the source's values
abbrev pub ChargesAsPrinted : Type 0
ChargesAsPrinted =
    (p : List Command) → Accepted p → (v : ℕ → ℕ)
    → let s = tool_source p v in
    let o = tool_word p v in
    s.end ≡ Halted → o.end ≡ Halted
    → (c : ℕ) × SourceRun p (fresh_source v) c s.state × (o.steps ≡ 1 + c)
    × Goes (S.step unlimited p) each (fresh_source v) s.steps s.state
    × HoldsValues (variables p) s.state o.state

-- The run tool's registers are of one capacity: rules 10 and 21 turn nothing down there
abbrev pub ToolHasRoom : Type 0
ToolHasRoom =
    (p : List Command) → Accepted p → (capacities_fault tool_capacities ≡ none) × (rule_21 (capacity_of tool_capacities) p ≡ none)

-- and where it prints `spent` for neither run, what `FullAtOneCapacity` says holds of what it prints
abbrev pub FullAsPrinted : Type 0
FullAsPrinted =
    (p : List Command) → Accepted p → (v : ℕ → ℕ) → ((i : ℕ) → i < variables p → v i ≤ Limits.tool_capacity)
    → let s = tool_source p v in
    let w = tool_word p v in
    s.end ≢ Spent → w.end ≢ Spent
    → ((s.end ≡ Full) ↔ (w.end ≡ Full)) × ((c : ℕ) × SourceRun p (fresh_source v) c s.state × (w.steps ≡ 1 + c))
