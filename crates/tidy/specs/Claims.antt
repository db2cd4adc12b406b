-- Document 02, request 2, "The value as the paper has it": what the tidy word does. The proofs are in proofs/.
use Rattle.std.specs.Prelude.{◌≡◌, List, ℕ, zero, suc, ◌+◌, ◌*◌, ◌≤◌}
use Rattle.theory.specs.ProgramText.{Command, variables, Block, lines}
use Rattle.theory.specs.Runs.{run, unlimited, within_each}
use Rattle.theory.specs.Source as S
use Rattle.theory.specs.Word as W
use Rattle.theory.specs.Word.{Instruction}
use Rattle.theory.specs.Translation.{word, word_of}
use Rattle.theory.specs.Machines.{fresh_source, fresh_word, holding, valued, HasValue, value_at}
use Rattle.theory.specs.Claims.{Accepted, Ends, SourceRun, WordRun, HoldsValues, FitsASet}
use Rattle.theory.specs.declared.End.TheVariants.{Halted, Strayed}
use Rattle.tidy.specs.Forms.{tidy_word, tidy_word_of, tidy_text, tidy_charges}

-- 1. "From demand 3's starts, on unlimited registers, the tidy word halts exactly when its program does"

-- A program p that starts at v has halted in s, its charges c in all; its tidy word has halted in t after m steps. Of these
pub record Tidied (p : List Command) (w : List Instruction) (v : ℕ → ℕ) (c : ℕ) (s : S.State) (m : ℕ) (t : W.State) : Type 0 where
  -- what demand 3 says of the plain word w
  pub plain_end : W.State
  pub plain_run : WordRun w (fresh_word (variables p) v) (1 + c) plain_end
  pub plain_halted : Ends (W.machine unlimited w) Halted plain_end
  pub plain_holds : HoldsValues (variables p) s plain_end
  -- "its steps are the plain word's plus these charges"
  pub steps : m ≡ 1 + c + tidy_charges (variables p) plain_end.registers
  -- "at the end it always has a value, as many 1s as X0 (none if K is 0)", which is what the plain word leaves in register 1
  pub value : HasValue t.registers (holding (variables p) s.values 1)

-- Of a program p whose variables start at v, its plain word w and its tidy word w⁺
pub record TidyDemand (p : List Command) (w w⁺ : List Instruction) (v : ℕ → ℕ) : Type 0 where
  -- where the source halts the tidy word halts
  pub halts : (c : ℕ) (s : S.State) → SourceRun p (fresh_source v) c s → Ends (S.machine unlimited p) Halted s
      → (m : ℕ) × (t : W.State) × WordRun w⁺ (fresh_word (variables p) v) m t × Ends (W.machine unlimited w⁺) Halted t
      × Tidied p w v c s m t
  -- and where the tidy word halts the source halts
  pub only : (m : ℕ) (t : W.State) → WordRun w⁺ (fresh_word (variables p) v) m t → Ends (W.machine unlimited w⁺) Halted t
      → (c : ℕ) × (s : S.State) × SourceRun p (fresh_source v) c s × Ends (S.machine unlimited p) Halted s
      × Tidied p w v c s m t
  -- the tidy word never strays
  pub stays : (m : ℕ) (t : W.State) → WordRun w⁺ (fresh_word (variables p) v) m t → Ends (W.machine unlimited w⁺) Strayed t → ⊥

-- As demand 3: of every accepted program, and of blocks of any length, depth and index
abbrev pub TidyDemandOfPrograms : Type 0
TidyDemandOfPrograms = (p : List Command) → Accepted p → (v : ℕ → ℕ) → TidyDemand p (word_of p) (tidy_word_of p) v

abbrev pub TidyDemandOfBlocks : Type 0
TidyDemandOfBlocks = (b : Block) (v : ℕ → ℕ) → TidyDemand (lines b) (word b) (tidy_word b) v

-- The charges are known from the source: variable i is in register i + 1, so variables 1 to K - 1 are cleared
unfoldable pub clear_charges : ℕ → (ℕ → ℕ) → ℕ
clear_charges zero v = 0
clear_charges (suc zero) v = 0
clear_charges (suc (suc n)) v = clear_charges (suc n) v + (2 * v (suc n) + 2)

abbrev pub TidyChargesByValues : Type 0
TidyChargesByValues =
    (K : ℕ) (s : S.State) (t : W.State) → HoldsValues K s t → tidy_charges K t.registers ≡ clear_charges K s.values

-- With one variable or none there is nothing to clear
abbrev pub TidyNothingToClear : Type 0
TidyNothingToClear = (p : List Command) → Accepted p → variables p ≤ 1 → tidy_word_of p ≡ word_of p

-- 2. On a set. Where the tidy word's run ends as halted, with whatever capacities, budget and count of steps, so does the program's
-- unlimited run, and on a machine of any number of registers the answer is that value, never untidy
abbrev pub TidyValue : Type 0
TidyValue =
    (p : List Command) → Accepted p → (v capacity : ℕ → ℕ) (b n : ℕ)
    → let o = run (W.machine (within_each capacity) (tidy_word_of p)) b n (fresh_word (variables p) v) in
    o.end ≡ Halted
    → (c : ℕ) × (s : S.State) × SourceRun p (fresh_source v) c s × Ends (S.machine unlimited p) Halted s
    × Tidied p (word_of p) v c s o.steps o.state
    × ((k : ℕ) → value_at k o.state.registers ≡ valued (holding (variables p) s.values 1))

-- 3. The tidy word of an accepted program keeps the limits of a word, and a set with 64 registers never turns it down
abbrev pub TidyWordsFit : Type 0
TidyWordsFit = (p : List Command) → Accepted p → FitsASet (variables p) (tidy_word_of p) (tidy_text p)
