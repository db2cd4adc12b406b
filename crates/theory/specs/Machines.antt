-- Document 01, "Machines of the set": fresh states, the layout of a machine's store, and the value of a halted word.
use Rattle.std.specs.Prelude.{◌≡◌, Bool, cond, ◌&&◌, List, [], ◌++◌, map, ℕ, zero, suc, ◌+◌, ◌-◌, ◌<◌, ℤ, pos, length, get_or, take, drop, replicate, eqb, ltb, leb}
use Rattle.std.proofs.Math.Option.{Option, none, some}
use Rattle.theory.specs.Basics.{cells, sum, all, all_below}
use Rattle.theory.specs.Text.{Bytes}
use Rattle.theory.specs.Limits.{most_registers, most_capacity}
use Rattle.theory.specs.Runs.{Outcome, run, within_each}
use Rattle.theory.specs.ProgramText.{Command}
use Rattle.theory.specs.Source as S
use Rattle.theory.specs.Word as W
use Rattle.theory.specs.Word.{Symbol, one, Instruction, bytes_of, symbol_of, is_symbol}
use Rattle.theory.specs.declared.End.{End}
use Rattle.theory.specs.declared.End.TheVariants.{Halted}

-- Fresh states: "line or place 1, no steps and passes-left all 0; a word's registers beyond its source's variables are then empty"
abbrev pub fresh_source : (ℕ → ℕ) → S.State
fresh_source v = record { line = 1; values = v; passes = λ d. 0 }

-- as many 1s
abbrev pub ones : ℕ → List Symbol
ones n = replicate n one

-- "register i+1 holding as many 1s as variable i has and no #", for the first K variables; every other register empty
abbrev pub holding : ℕ → (ℕ → ℕ) → ℕ → List Symbol
holding K v zero = []
holding K v (suc i) = cond (ltb i K) (ones (v i)) []

abbrev pub fresh_word : ℕ → (ℕ → ℕ) → W.State
fresh_word K v = record { place = pos 1; registers = holding K v }

-- Document 02, request 5: "Each register gets its own capacity". Capacities are lent as a list, register r's at r - 1, so that the one of
-- variable i, "that of its register", stands at i. A register that the list lacks has none
abbrev pub capacity_of : List ℕ → ℕ → ℕ
capacity_of capacities zero = 0
capacity_of capacities (suc i) = get_or capacities i 0

-- The state of a source on a set: the capacities of its variables, variable i's at i, its count of steps, and where it stands. The set
-- keeps 32 capacities, 32 values and 16 passes-left
pub record SourceState : Type 0 where
  pub capacities : List ℕ
  pub steps : ℕ
  pub state : S.State

-- A run of the source from such a state; its count of steps afterwards is the one before plus the steps taken
unfoldable pub run_source : List Command → SourceState → ℕ → Outcome S.State
run_source p s budget = run (S.machine (within_each (capacity_of s.capacities)) p) budget s.steps s.state

-- A machine's memory: the capacity of each register, "the lent store", and "Lengths are a second lent list, one for each register"
pub record Memory : Type 0 where
  pub capacities : List ℕ
  pub store : Bytes
  pub lengths : List ℕ

-- as many registers as capacities
abbrev pub count : Memory → ℕ
count m = length m.capacities

-- Document 02, request 5: "the places following one another in register order". From which byte of the store register r has its place: the
-- sum of the capacities before its own
abbrev pub offset : List ℕ → ℕ → ℕ
offset capacities zero = 0
offset capacities (suc i) = sum (take i capacities)

-- "its symbols from the start of that place and byte 0 after them"
abbrev pub laid : ℕ → List Symbol → Bytes
laid capacity xs = bytes_of xs ++ replicate (capacity - length xs) 0

-- "the store is exactly all places": those of the first n registers, and their lengths
unfoldable pub store_of : List ℕ → ℕ → (ℕ → List Symbol) → Bytes
store_of capacities zero f = []
store_of capacities (suc n) f = store_of capacities n f ++ laid (capacity_of capacities (suc n)) (f (suc n))

abbrev pub lengths_of : ℕ → (ℕ → List Symbol) → List ℕ
lengths_of n f = cells n (λ i. length (f (suc i)))

-- The bytes of register r's place, and what it holds
abbrev pub place_of : Memory → ℕ → Bytes
place_of m r = take (capacity_of m.capacities r) (drop (offset m.capacities r) m.store)

abbrev pub contents : Memory → ℕ → List Symbol
contents m zero = []
contents m (suc i) = map symbol_of (take (get_or m.lengths i 0) (place_of m (suc i)))

-- A place is laid out so, with a length of n: n is within the capacity, n symbols, and byte 0 after them
abbrev pub is_laid : ℕ → ℕ → Bytes → Bool
is_laid capacity n b = leb n capacity && all is_symbol (take n b) && all (eqb 0) (drop n b)

abbrev pub is_limited : ℕ → ℕ → Bool
is_limited most n = leb 1 n && leb n most

-- Rule 10's sizes, where it reads each capacity: "1 to 1,024, and the store is exactly their sum". And its layout
abbrev pub is_sized : Memory → Bool
is_sized m =
    is_limited most_registers (count m)
    && all (is_limited most_capacity) m.capacities
    && eqb (length m.store) (offset m.capacities (suc (count m)))
    && eqb (length m.lengths) (count m)

unfoldable pub is_memory : Memory → Bool
is_memory m =
    is_sized m
    && all_below (count m) (λ i. is_laid (capacity_of m.capacities (suc i)) (get_or m.lengths i 0) (place_of m (suc i)))

-- The memory with other contents
abbrev pub refilled : Memory → (ℕ → List Symbol) → Memory
refilled m f = record {
  capacities = m.capacities;
  store = store_of m.capacities (count m) f;
  lengths = lengths_of (count m) f;
}

-- The "small record of place and steps": place is a signed 32-bit number, any value; steps an unsigned 32-bit count
pub record Position : Type 0 where
  pub place : ℤ
  pub steps : ℕ

abbrev pub word_state : Memory → Position → W.State
word_state m p = record { place = p.place; registers = contents m }

unfoldable pub run_word : List Instruction → Memory → Position → ℕ → Outcome W.State
run_word w m p budget = run (W.machine (within_each (capacity_of m.capacities)) w) budget p.steps (word_state m p)

-- Document 02, request 2: "The paper counts a value only when every register but the first is empty. So a halted word's value is now
-- register 1 under that condition, and otherwise the answer is untidy"
pub data Value : Type 0 where
  valued : List Symbol → Value
  untidy : Value

-- The condition, on registers without end: the paper's "a halt with y in R1 and all other registers empty"
abbrev pub HasValue : (ℕ → List Symbol) → List Symbol → Type 0
HasValue f xs = (f 1 ≡ xs) × ((r : ℕ) → 1 < r → f r ≡ [])

-- On a machine of n registers it is a test: registers 2 to n hold nothing
abbrev pub is_tidy : ℕ → (ℕ → List Symbol) → Bool
is_tidy n f = all_below (n - 1) (λ i. eqb (length (f (i + 2))) 0)

abbrev pub value_at : ℕ → (ℕ → List Symbol) → Value
value_at n f = cond (is_tidy n f) (valued (f 1)) untidy

-- Of a word that is not halted the papers say nothing: here it has no value, and is not untidy either
abbrev pub halted_only : {A : Type 0} → Option End → A → Option A
halted_only none x = none
halted_only (some Halted) x = some x
halted_only (some End.Strayed) x = none
halted_only (some End.Spent) x = none
halted_only (some End.Full) x = none

unfoldable pub word_value : List Instruction → ℕ → W.State → Option Value
word_value w n s = halted_only (W.ended_at (length w) s.place) (value_at n s.registers)
