-- Document 02, request 1, "A LOOP-only lesson": what the reader accepts under the setting, and that all of it halts. The proofs are in
-- proofs/.
use Rattle.std.specs.Prelude.{◌≡◌, ◌↔◌, List, ℕ}
use Rattle.std.proofs.Math.Option.{Option, none}
use Rattle.theory.specs.Basics.{present, EachOf}
use Rattle.theory.specs.Text.{Bytes}
use Rattle.theory.specs.ProgramText.{loop, Command, plain, opens, closes, variables, commands, Block, empty, single, pair, lines}
use Rattle.theory.specs.Runs.{unlimited}
use Rattle.theory.specs.Source as S
use Rattle.theory.specs.Word as W
use Rattle.theory.specs.Word.{Instruction}
use Rattle.theory.specs.Translation.{word, word_of}
use Rattle.theory.specs.Machines.{fresh_source, fresh_word}
use Rattle.theory.specs.TurnedDown.{done, rule_20, program_fault, program_fault_under, text_lines}
use Rattle.theory.specs.TurnedDown.{read_text, read_text_under, read_list, read_list_under}
use Rattle.theory.specs.Claims.{Ends, SourceRun, WordRun}
use Rattle.theory.specs.declared.Setting.TheVariants.{Any, LoopOnly}
use Rattle.theory.specs.declared.End.TheVariants.{Halted}

-- 1. "Under that setting the reader accepts only LOOP programs"

-- A command that is no `while` or `endwhile` line
abbrev pub NoWhile : Command → Type 0
NoWhile (plain c) = Unit {0}
NoWhile (opens k i) = k ≡ loop
NoWhile (closes k i) = k ≡ loop

abbrev pub LoopLines : List Command → Type 0
LoopLines = EachOf NoWhile

-- A line that is none of the spellings is none of these two either
abbrev pub LoopLinesOf : List (Option Command) → Type 0
LoopLinesOf l = LoopLines (present l)

pub record LoopProgramsRead : Type 0 where
  -- "Outside the setting nothing differs": there rule 20 turns no line down
  pub outside : (n : ℕ) (c : Command) → rule_20 Any n c ≡ none
  -- no rule turns a program down under the setting exactly where none does outside it and no line is a `while` or `endwhile` line
  pub accepted : (l : List (Option Command)) → (program_fault_under LoopOnly l ≡ none) ↔ ((program_fault l ≡ none) × LoopLinesOf l)
  -- and where no line is one, the answer is that outside the setting, whatever it is; so too of a text and a list as they are handed in
  pub same_fault : (l : List (Option Command)) → LoopLinesOf l → program_fault_under LoopOnly l ≡ program_fault l
  pub same_text : (t : Bytes) → LoopLinesOf (text_lines t) → read_text_under LoopOnly t ≡ read_text t
  pub same_list : (l : List ℕ) → LoopLines (commands l) → read_list_under LoopOnly l ≡ read_list l
  -- so they are read as the program p exactly where they are read as p outside the setting and p has no such line
  pub text_accepted : (t : Bytes) (p : List Command) → (read_text_under LoopOnly t ≡ done p) ↔ ((read_text t ≡ done p) × LoopLines p)
  pub list_accepted : (l : List ℕ) (p : List Command) → (read_list_under LoopOnly l ≡ done p) ↔ ((read_list l ≡ done p) × LoopLines p)

-- 2. "For each accepted one, and for all starting values on unlimited registers, the team shows that the run ends, and so does its word's"

-- From demand 3's starts, the variables at v, both runs end as halted
abbrev pub Halts : List Command → List Instruction → (ℕ → ℕ) → Type 0
Halts p w v =
    ((c : ℕ) × (s : S.State) × SourceRun p (fresh_source v) c s × Ends (S.machine unlimited p) Halted s)
    × ((m : ℕ) × (t : W.State) × WordRun w (fresh_word (variables p) v) m t × Ends (W.machine unlimited w) Halted t)

abbrev pub LoopProgramsHalt : Type 0
LoopProgramsHalt =
    ((t : Bytes) (p : List Command) → read_text_under LoopOnly t ≡ done p → (v : ℕ → ℕ) → Halts p (word_of p) v)
    × ((l : List ℕ) (p : List Command) → read_list_under LoopOnly l ≡ done p → (v : ℕ → ℕ) → Halts p (word_of p) v)

-- The same of blocks of any length, depth and index

-- A block of LOOP pairs alone
abbrev pub Loops : Block → Type 0
Loops empty = Unit {0}
Loops (single c b) = Loops b
Loops (pair k i body b) = (k ≡ loop) × Loops body × Loops b

abbrev pub LoopBlocksHalt : Type 0
LoopBlocksHalt = (b : Block) → Loops b → (v : ℕ → ℕ) → Halts (lines b) (word b) v
