-- Document 02, request 6: an example for each place of listings that is easily misread. The proof, by computation, is in
-- proofs/Computed.
use Rattle.std.specs.Prelude.{◌≡◌, List, [], ◌∷◌, ◌++◌, map, ℕ, suc, pos, length, replicate}
use Rattle.std.proofs.Math.Option
use Rattle.std.proofs.Math.Option.{Option, none, some}
use Prim.Native.String.{String}
use Rattle.theory.specs.Limits
use Rattle.theory.specs.Basics.{at, default, cells, EachOf}
use Rattle.theory.specs.Text.{Bytes, bytes, LF}
use Rattle.theory.specs.Runs.{run, unlimited}
use Rattle.theory.specs.Word as W
use Rattle.theory.specs.Word.{Symbol, one, hash, symbol_of}
use Rattle.theory.specs.TurnedDown.{refuse, Answer, done, refused, mapped}
use Rattle.theory.specs.declared.Refusal.{Refusal}
use Rattle.theory.specs.declared.End.{End}
use Rattle.theory.specs.declared.End.TheVariants.{Halted}
use Rattle.listing.specs.Listing.{Line, print, scan, text_of, State, step, machine, word_steps, word, word_text}
use Rattle.listing.specs.Refused.{text_fault, read_listing, translate_listing}

-- Registers: what the first of them hold
abbrev pub Contents : Type 0
Contents = List (List Symbol)

abbrev pub symbols : String → List Symbol
symbols t = map symbol_of (bytes t)

-- What a run shows: its end, its steps and the registers
pub record Shown : Type 0 where
  pub end : End
  pub steps : ℕ
  pub registers : Contents

pub data Example : Type 0 where
  -- what is turned down of a text, and with what
  text : Bytes → Option Refusal → Example
  -- what a text is read as
  reads : String → List Line → Example
  -- what is handed back of a text that is translated into so many bytes
  translates : ℕ → String → Answer (List Line) → Example
  -- the word that is written of a text
  writes : String → String → Example
  -- one step, at this line and with these registers: the line and the registers after it
  steps : String → ℕ → Contents → Option (ℕ × Contents) → Example
  -- the steps of the word for this line
  costs : String → ℕ → ℕ → Example
  -- the listing's run from its first line, and the word's
  runs : String → Contents → Shown → Shown → Example

abbrev pub registers_of : Contents → ℕ → List Symbol
registers_of rs r = default [] (at rs r)

abbrev pub contents_of : ℕ → (ℕ → List Symbol) → Contents
contents_of n f = cells n (λ i. f (suc i))

-- The budget of these runs
abbrev pub budget : ℕ
budget = 100

unfoldable pub show : Contents → List Line → Shown × Shown
show rs l =
    let s = run (machine l) budget 0 (record { line = 1; registers = registers_of rs }) in
    let t = run (W.machine unlimited (word l)) budget 0 (record { place = pos 1; registers = registers_of rs }) in (
      record { end = s.end; steps = s.steps; registers = contents_of (length rs) s.state.registers },
      record { end = t.end; steps = t.steps; registers = contents_of (length rs) t.state.registers },
    )

unfoldable pub show_step : ℕ → Contents → List Line → Option (ℕ × Contents)
show_step i rs l =
    Option.map (λ (s : State). (s.line, contents_of (length rs) s.registers))
    (step l (record { line = i; registers = registers_of rs }))

abbrev pub Holds : Example → Type 0
Holds (text t r) = text_fault t ≡ r
Holds (reads t l) = read_listing (bytes t) ≡ done l
Holds (translates n t a) = translate_listing (replicate n 0) (bytes t) ≡ a
Holds (writes t w) = mapped word_text (read_listing (bytes t)) ≡ done (bytes w)
Holds (steps t i rs r) = mapped (show_step i rs) (read_listing (bytes t)) ≡ done r
Holds (costs t i n) = mapped (λ l. word_steps l (record { line = i; registers = registers_of [] })) (read_listing (bytes t)) ≡ done n
Holds (runs t rs s w) = mapped (show rs) (read_listing (bytes t)) ≡ done (s, w)

abbrev pub passes : Option Refusal
passes = none

-- So many lines of one kind
abbrev pub lines : ℕ → List Line
lines n = replicate n (print one 1)

-- Rules 1 to 3
unfoldable pub texts : List Example
texts =
    text [] passes
    ∷ text (replicate (suc Limits.most_bytes) LF) (refuse 1 0)
    ∷ text (bytes "P1 1") (refuse 2 1)  -- the last line has no LF
    ∷ text (bytes "P1 1\nP1 1") (refuse 2 2)
    ∷ text (bytes "\r") (refuse 2 1)
    ∷ text (replicate 257 LF ++ bytes "z") (refuse 2 258)  -- 2 before 3
    ∷ text (text_of (lines 256)) passes
    ∷ text (text_of (lines 257)) (refuse 3 257)
    ∷ text (replicate 300 LF) (refuse 3 257)  -- 3 before 4, its place fixed
    ∷ []

-- Rule 4: the register
unfoldable pub registers : List Example
registers =
    text (bytes "P1 0\n") (refuse 4 1)  -- "n from 1 to 64, no leading zeros"
    ∷ text (bytes "P1 1\n") passes
    ∷ text (bytes "P# 64\n") passes
    ∷ text (bytes "P1 65\n") (refuse 4 1)
    ∷ text (bytes "P1 01\n") (refuse 4 1)
    ∷ text (bytes "P# 65\n") (refuse 4 1)
    ∷ text (bytes "Scd 64 1 1\n") passes
    ∷ text (bytes "Scd 0 1 1\n") (refuse 4 1)
    ∷ text (bytes "Scd 65 1 1\n") (refuse 4 1)
    ∷ text (bytes "P1 18446744073709551617\n") (refuse 4 1)  -- a numeral of any number of digits
    ∷ []

-- Rule 4: every byte of the spelling
unfoldable pub spellings : List Example
spellings =
    text (bytes "\n") (refuse 4 1)  -- an empty line is no spelling
    ∷ text (bytes "P1  1\n") (refuse 4 1)
    ∷ text (bytes "P1 1 \n") (refuse 4 1)
    ∷ text (bytes " P1 1\n") (refuse 4 1)
    ∷ text (bytes "p1 1\n") (refuse 4 1)
    ∷ text (bytes "scd 1 1 1\n") (refuse 4 1)
    ∷ text (bytes "P1\t1\n") (refuse 4 1)
    ∷ text (bytes "P1 1\r\n") (refuse 4 1)
    ∷ text (bytes "P11\n") (refuse 4 1)
    ∷ text (bytes "P2 1\n") (refuse 4 1)
    ∷ text (bytes "P1 \n") (refuse 4 1)
    ∷ text (bytes "Scd 1 1\n") (refuse 4 1)
    ∷ text (bytes "Scd 1 1 1 1\n") (refuse 4 1)
    ∷ text (bytes "Scd 1  1 1\n") (refuse 4 1)
    ∷ text (bytes "Scd 1 01 1\n") (refuse 4 1)  -- targets have no leading zeros either
    ∷ text (bytes "Scd 1 1 00\n") (refuse 4 1)
    ∷ []

-- Rule 22: "a target outside 1 to the line count plus 1", and where it stands in the order
unfoldable pub targets : List Example
targets =
    text (bytes "Scd 1 0 1\n") (refuse 22 1)
    ∷ text (bytes "Scd 1 1 0\n") (refuse 22 1)
    ∷ text (bytes "Scd 1 2 2\n") passes
    ∷ text (bytes "Scd 1 3 1\n") (refuse 22 1)
    ∷ text (bytes "Scd 1 1 3\n") (refuse 22 1)
    ∷ text (bytes "Scd 1 3 0\n") (refuse 22 1)
    ∷ text (bytes "Scd 1 18446744073709551617 1\n") (refuse 22 1)
    ∷ text (bytes "P1 1\nScd 1 1 4\n") (refuse 22 2)
    ∷ text (text_of (scan 1 257 1 ∷ lines 255)) passes
    ∷ text (text_of (scan 1 257 1 ∷ lines 254)) (refuse 22 1)  -- the count is that of the whole text
    ∷ text (bytes "Scd 1 9 1\nz\n") (refuse 22 1)  -- "line by line with it"
    ∷ text (bytes "z\nScd 1 0 1\n") (refuse 4 1)
    ∷ text (bytes "P1 1\nz\n") (refuse 4 2)
    ∷ text (bytes "Scd 65 0 0\n") (refuse 4 1)  -- in a line 4 first
    ∷ text (bytes "P1 1\nScd 1 1 0\nScd 1 0 1\n") (refuse 22 2)
    ∷ []

-- Moves register 2 to the end of register 1. A 1 put into register 3 and deleted again takes it to line 7
abbrev pub moving : String
moving = "P1 3\nScd 3 7 7\nP1 1\nP1 3\nScd 3 7 7\nP# 1\nScd 2 3 6\n"

-- What is read and written. In the word that moves a register the transfers are F9, F8, F3, F2, B9 and B4
unfoldable pub words : List Example
words =
    reads "P1 1\nP# 64\nScd 2 4 1\n" (print one 1 ∷ print hash 64 ∷ scan 2 4 1 ∷ [])
    ∷ writes "" "1###"
    ∷ writes "P1 2\nP# 1\n" "1###11#1##"
    ∷ writes "Scd 1 1 2\n" "1###1#####111###11####1###"
    ∷ writes
    moving
    "1###111#111#####111###111111111###11111111###1#111#111#####111###111###11###1##11#####111###111111111####1111####"
    ∷ translates 4 "" (done [])
    ∷ translates 3 "" (refused (record { number = 19; place = 0 }))
    ∷ translates 0 "Scd 1 3 1\n" (refused (record { number = 22; place = 1 }))
    ∷ []

-- Steps and runs
unfoldable pub moves : List Example
moves =
    steps "Scd 2 3 1\nP1 1\n" 1 (symbols "1" ∷ symbols "" ∷ []) (some (2, symbols "1" ∷ symbols "" ∷ []))
    ∷ steps "Scd 2 3 1\nP1 1\n" 1 (symbols "1" ∷ symbols "1#" ∷ []) (some (3, symbols "1" ∷ symbols "#" ∷ []))
    ∷ steps "Scd 2 3 1\nP1 1\n" 1 (symbols "1" ∷ symbols "#1" ∷ []) (some (1, symbols "1" ∷ symbols "1" ∷ []))
    ∷ steps "P1 1\nP# 2\n" 1 (symbols "#" ∷ symbols "#" ∷ []) (some (2, symbols "#1" ∷ symbols "#" ∷ []))
    ∷ steps "P1 1\nP# 2\n" 2 (symbols "1" ∷ symbols "1" ∷ []) (some (3, symbols "1" ∷ symbols "1#" ∷ []))
    ∷ steps "P1 1\nP# 2\n" 3 (symbols "1" ∷ symbols "1" ∷ []) none
    ∷ steps "P1 1\nP# 2\n" 0 (symbols "1" ∷ symbols "1" ∷ []) none
    ∷ costs "P1 1\nScd 1 3 3\n" 1 1
    ∷ costs "P1 1\nScd 1 3 3\n" 2 2
    ∷ costs "P1 1\nScd 1 3 3\n" 3 0  -- no line
    ∷ runs moving (symbols "#" ∷ symbols "1#" ∷ symbols "" ∷ [])
    (record { end = Halted; steps = 9; registers = symbols "#1#" ∷ symbols "" ∷ symbols "" ∷ [] })
    (record { end = Halted; steps = 15; registers = symbols "#1#" ∷ symbols "" ∷ symbols "" ∷ [] })
    ∷ runs "" (symbols "#" ∷ []) (record { end = Halted; steps = 0; registers = symbols "#" ∷ [] })
    (record { end = Halted; steps = 1; registers = symbols "#" ∷ [] })
    ∷ []

abbrev pub ExamplesHold : Type 0
ExamplesHold = EachOf (EachOf Holds) (texts ∷ registers ∷ spellings ∷ targets ∷ words ∷ moves ∷ [])
