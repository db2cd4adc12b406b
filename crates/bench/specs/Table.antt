-- Document 01, "Bench examples": those marked P, as one table, and what it says of each row that it holds. The proof, by computation, is in
-- proofs/TableHolds.
use Rattle.std.specs.Prelude.{◌≡◌, List, [], ◌∷◌, map, ℕ, zero, suc, ℤ, pos, length, get_or}
use Prim.Native.String.{String}
use Rattle.theory.specs.Basics.{cells, EachOf}
use Rattle.theory.specs.Text.{Bytes, bytes}
use Rattle.theory.specs.ProgramText.{Command, variables}
use Rattle.theory.specs.Runs.{Outcome, run, within}
use Rattle.theory.specs.Source as S
use Rattle.theory.specs.Word as W
use Rattle.theory.specs.Word.{Symbol, Entry, symbol_of, bytes_of}
use Rattle.theory.specs.Translation.{word_of, word_text}
use Rattle.theory.specs.Machines.{fresh_source, fresh_word}
use Rattle.theory.specs.TurnedDown.{Answer, done, refused, read_text, read_word, instructions}
use Rattle.theory.specs.declared.End.{End}
use Rattle.theory.specs.declared.End.TheVariants.{Halted, Strayed, Full}

-- What a run of a word shows: its end, its steps, its place and the first so many registers
pub record Shown : Type 0 where
  pub end : End
  pub steps : ℕ
  pub place : ℤ
  pub registers : List Bytes

-- What both runs of a program show: its word, the source's end, steps and the first so many variables, and the word's run
pub record Both : Type 0 where
  pub word : Bytes
  pub end : End
  pub steps : ℕ
  pub values : List ℕ
  pub run : Shown

-- A row: a program with its capacity and starting values, or a word with its starting registers; and what is expected
pub data Row : Type 0 where
  program : String → ℕ → List ℕ → Both → Row
  word : String → List String → Shown → Row

-- The budget of these runs
abbrev pub budget : ℕ
budget = 1000

unfoldable pub show : ℕ → Outcome W.State → Shown
show n o =
    record { end = o.end; steps = o.steps; place = o.state.place; registers = cells n (λ i. bytes_of (o.state.registers (suc i))) }

unfoldable pub show_both : ℕ → List ℕ → List Command → Both
show_both capacity v p =
    let s = run (S.machine (within capacity) p) budget 0 (fresh_source (λ i. get_or v i 0)) in
    record {
      word = word_text p;
      end = s.end;
      steps = s.steps;
      values = cells (length v) s.state.values;
      run = show (length v) (run (W.machine (within capacity) (word_of p)) budget 0 (fresh_word (variables p) (λ i. get_or v i 0)));
    }

-- Register r, of the contents given, the first that of register 1
abbrev pub from : List String → ℕ → List Symbol
from rs zero = []
from rs (suc i) = map symbol_of (bytes (get_or rs i ""))

unfoldable pub show_word : List String → List Entry → Shown
show_word rs t = show (length rs) (run (W.machine (within 1024) (instructions t)) budget 0 (record { place = pos 1; registers = from rs }))

-- The text is read and shows what the row expects
abbrev pub ShowsBoth : Answer (List Command) → ℕ → List ℕ → Both → Type 0
ShowsBoth (refused r) capacity v expected = ⊥
ShowsBoth (done p) capacity v expected = show_both capacity v p ≡ expected

abbrev pub Shows : Answer (List Entry) → List String → Shown → Type 0
Shows (refused r) rs expected = ⊥
Shows (done t) rs expected = show_word rs t ≡ expected

abbrev pub Holds : Row → Type 0
Holds (program text capacity v expected) = ShowsBoth (read_text (bytes text)) capacity v expected
Holds (word text rs expected) = Shows (read_word (bytes text)) rs expected

abbrev pub adder : String
adder = "loop X1\nX0 <- X0 + 1\nendloop X1\n"

abbrev pub adder_word : String
adder_word = "1###11#####1111###1111#111#1111####111#####111###11#111####1111#####111###1#111####"

abbrev pub copy_word : String
copy_word = "1###1#####11###11####11#####1111###1#111#1111####111#####111###11#111####"

-- What is expected, in the order of the records' fields
abbrev pub shows : End → ℕ → ℤ → List String → Shown
shows e n q rs = record { end = e; steps = n; place = q; registers = map bytes rs }

abbrev pub gives : String → End → ℕ → List ℕ → Shown → Both
gives w e n v r = record { word = bytes w; end = e; steps = n; values = v; run = r }

unfoldable pub table : List Row
table =
    program adder 1024 (0 ∷ 3 ∷ []) (gives adder_word Halted 7 (3 ∷ 3 ∷ []) (shows Halted 37 (pos 15) ("111" ∷ "111" ∷ [])))
    ∷ program adder 1024 (0 ∷ 0 ∷ []) (gives adder_word Halted 1 (0 ∷ 0 ∷ []) (shows Halted 7 (pos 15) ("" ∷ "" ∷ [])))
    ∷ program "" 1024 [] (gives "1###" Halted 0 [] (shows Halted 1 (pos 2) []))
    ∷ program "X0 <- X1\n" 1024 (1 ∷ 2 ∷ []) (gives copy_word Halted 1 (2 ∷ 2 ∷ []) (shows Halted 23 (pos 14) ("11" ∷ "11" ∷ [])))
    ∷ program "X2 <- X2\n" 1024 (0 ∷ 0 ∷ 4 ∷ [])
    (gives "1###111#####11###111#" Halted 1 (0 ∷ 0 ∷ 4 ∷ []) (shows Halted 3 (pos 5) ("" ∷ "" ∷ "1111" ∷ [])))
    ∷ program "while X1 != 0\nX1 <- 0\nendwhile X1 != 0\n" 1024 (0 ∷ 5 ∷ [])
    (gives "1###11#####111111###11#11#####11###11####111111####" Halted 4 (0 ∷ 0 ∷ []) (shows Halted 18 (pos 9) ("" ∷ "" ∷ [])))
    ∷ word "11###" [] (shows Strayed 1 (pos 3) [])
    ∷ word "1####" [] (shows Strayed 1 (pos 0) [])
    ∷ word "1#####" ("" ∷ []) (shows Halted 1 (pos 2) ("" ∷ []))
    ∷ word "1#####" ("1" ∷ []) (shows Strayed 1 (pos 3) ("" ∷ []))
    ∷ word "11#####111111###111###1##1111####1#111111####" ("#" ∷ "1#" ∷ []) (shows Halted 9 (pos 8) ("#1#" ∷ "" ∷ []))
    ∷ program "X0 <- X0 + 1\n" 2 (2 ∷ []) (gives "1###1#" Full 0 (2 ∷ []) (shows Full 1 (pos 2) ("11" ∷ [])))
    ∷ []

-- Every row holds
abbrev pub TableHolds : Type 0
TableHolds = EachOf Holds table
