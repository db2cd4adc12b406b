-- What each entry hands back, and what its lent slices then hold, by the definitions behind it.
use Rattle.std.specs.Prelude.{◌≡◌, List, ℕ, ℤ}
use Rattle.theory.specs.TurnedDown.{write_word_into, translate_into, run_on}
use Rattle.theory.specs.Text.{Bytes}
use Rattle.theory.specs.ProgramText.{Command, list_of}
use Rattle.theory.specs.Word.{Entry}
use Rattle.theory.specs.Machines.{Memory}
use Rattle.theory.specs.TurnedDown.{Answer, after, mapped, lent_after, read_program_into, write_program_into, read_word_into}
use Rattle.theory.specs.declared.Setting.{Setting}
use Rattle.tidy.specs.declared.Form.{Form}
use Rattle.tidy.specs.Forms.{text_in}
use Rattle.listing.specs.Listing.{Line, word_text}
use Rattle.word.specs.Answers as Words
use Rattle.states.specs.Numbers.{run_numbers, LentAfter}
use Rattle.memory.specs.Calls.{position, answered}
use Rattle.memory.specs.declared.answers.Position.{Position}
use Rattle.report.specs.Answers.{report_into}
use Rattle.packing.specs.Packed.{packed, commands, sizes, listing_sizes, count, ending}

-- Under a setting, a text read into a lent list of three numbers a command: the variables and the commands
pub record ReadsProgram (σ : Setting) (text : Bytes) (list : List ℕ) (r : ℕ) (list' : List ℕ) : Type 0 where
  pub result : r ≡ packed commands (read_program_into σ list text)
  pub list_after : list' ≡ lent_after list (mapped list_of (read_program_into σ list text))

-- Under a setting, a list written as a text into lent bytes: the bytes
pub record WritesProgram (σ : Setting) (list : List ℕ) (text : Bytes) (r : ℕ) (text' : Bytes) : Type 0 where
  pub result : r ≡ packed count (write_program_into σ text list)
  pub text_after : text' ≡ lent_after text (write_program_into σ text list)

-- A program or a listing handed in as A, translated into a lent word as `text` writes it: the word's sizes
pub record TranslatesInto {P : Type 0} (sizes : P → ℕ) (text : P → Bytes) (A : Answer P) (word : Bytes) (r : ℕ) (word' : Bytes)
    : Type 0 where
  pub result : r ≡ packed sizes (translate_into text word A)
  pub word_after : word' ≡ lent_after word (mapped text (translate_into text word A))

-- A program, in a form
abbrev pub Translates : Form → Answer (List Command) → (word : Bytes) (r : ℕ) (word' : Bytes) → Type 0
Translates form = TranslatesInto (sizes form) (text_in form)

-- A listing
abbrev pub TranslatesListing : Answer (List Line) → (word : Bytes) (r : ℕ) (word' : Bytes) → Type 0
TranslatesListing = TranslatesInto listing_sizes word_text

-- A program handed in as A, run from a state that is lent as 82 numbers: how the run ended, with its steps; and the numbers then
pub record RunsSource (A : Answer (List Command)) (numbers : List ℕ) (budget r : ℕ) (numbers' : List ℕ) : Type 0 where
  pub result : r ≡ packed ending (after A (run_numbers numbers budget))
  pub state_after : LentAfter numbers (after A (run_numbers numbers budget)) numbers'

-- Where a lent machine stands
abbrev pub stands_at : ℤ → ℕ → Position
stands_at place steps = record { place = place; steps = steps }

-- A word or a table, handed in as A, run on a lent machine: how the run ended, with its steps; and the machine then
pub record RunsOn (m : Memory) (at : Position) (A : Answer (List Entry)) (budget r : ℕ)
    (store' : Bytes) (lengths' : List ℕ) (at' : Position) : Type 0 where
  pub result : r ≡ packed ending (run_on m (position at) budget A)
  pub store_after : store' ≡ (answered m at (run_on m (position at) budget A)).store
  pub lengths_after : lengths' ≡ (answered m at (run_on m (position at) budget A)).lengths
  pub position_after : at' ≡ (answered m at (run_on m (position at) budget A)).run.position

-- A word read into two lent lists of numbers: the number of instructions
pub record ReadsWord (word : Bytes) (kinds operands : List ℕ) (r : ℕ) (kinds' operands' : List ℕ) : Type 0 where
  pub result : r ≡ packed count (read_word_into kinds operands word)
  pub kinds_after : kinds' ≡ lent_after kinds (mapped Words.kinds_of (read_word_into kinds operands word))
  pub operands_after : operands' ≡ lent_after operands (mapped Words.operands_of (read_word_into kinds operands word))

-- A table of two lists written as a word: the number of symbols
pub record WritesWord (table : List Entry) (word : Bytes) (r : ℕ) (word' : Bytes) : Type 0 where
  pub result : r ≡ packed count (write_word_into word table)
  pub word_after : word' ≡ lent_after word (write_word_into word table)

-- The report of a program's text and a sheet on registers of these capacities, written into lent bytes: the bytes
pub record Reports (text sheet : Bytes) (capacities : List ℕ) (out : Bytes) (r : ℕ) (out' : Bytes) : Type 0 where
  pub result : r ≡ packed count (report_into out capacities text sheet)
  pub out_after : out' ≡ lent_after out (report_into out capacities text sheet)
