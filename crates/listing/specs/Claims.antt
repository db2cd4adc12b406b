-- Document 02, request 6: the claims about listings, stated. Each is a type of which proofs/ has one element; docs/PROMISES.md names it.
use Rattle.std.specs.Prelude.{◌≡◌, List, map, pos, ℕ, suc, ◌+◌, ◌≤◌, length}
use Rattle.std.proofs.Math.Option.{none, some}
use Rattle.theory.specs.Limits
use Rattle.theory.specs.Basics.{EachOf}
use Rattle.theory.specs.Text.{Bytes}
use Rattle.theory.specs.Runs.{Goes, unlimited}
use Rattle.theory.specs.Word as W
use Rattle.theory.specs.Word.{Symbol, Instruction, operand, table_of, spell}
use Rattle.theory.specs.TurnedDown.{done, read_word_for, instructions}
use Rattle.theory.specs.Claims.{Ends, WordRun, NamesAtMost}
use Rattle.theory.specs.declared.End.TheVariants.{Halted, Strayed}
use Rattle.listing.specs.Listing.{Line, print, scan, spelling, line, text_of, State, step, machine, word_steps, word, word_text}
use Rattle.listing.specs.Refused.{listing_fault, read_listing}

-- 1. Lines and texts

-- The number of a line's register, and "n from 1 to 64"
abbrev pub register : Line → ℕ
register (print x n) = n
register (scan n e f) = n

pub record OnASet (c : Line) : Type 0 where
  pub first : 1 ≤ register c
  pub last : register c ≤ Limits.most_registers

-- A line is read from its spelling and from nothing else
pub record LinesSpelled : Type 0 where
  pub read : (c : Line) → OnASet c → line (spelling c) ≡ some c
  pub only : (t : Bytes) (c : Line) → line t ≡ some c → OnASet c × (spelling c ≡ t)

-- A listing is accepted when rules 3, 4 and 22 don't turn its lines down, each register being one of a set's
pub record Accepted (l : List Line) : Type 0 where
  pub registers : EachOf OnASet l
  pub passes : listing_fault (map some l) ≡ none

-- What is read is an accepted listing, written as this text; and every accepted listing is read from its text
pub record ListingsRead : Type 0 where
  pub accepted : (t : Bytes) (l : List Line) → read_listing t ≡ done l → Accepted l × (text_of l ≡ t)
  pub each : (l : List Line) → Accepted l → read_listing (text_of l) ≡ done l

-- 2. "On unlimited registers with equal contents, a listing halts exactly when its word does, with the same words in all registers; the
-- word's steps are 1 for the F1, 1 for each P line done and 2 for each Scd done"

-- Runs of a listing on unlimited registers, with the steps that its word has for them; and where both begin, on contents f
abbrev pub ListingRun : List Line → State → ℕ → State → Type 0
ListingRun l = Goes (step l) (word_steps l)

abbrev pub at_line_1 : (ℕ → List Symbol) → State
at_line_1 f = record { line = 1; registers = f }

abbrev pub at_place_1 : (ℕ → List Symbol) → W.State
at_place_1 f = record { place = pos 1; registers = f }

-- "the same words in all registers"
abbrev pub SameWords : State → W.State → Type 0
SameWords s t = (r : ℕ) → t.registers r ≡ s.registers r

-- Of a listing l, its word w, and what the registers hold at the start
pub record ListingDemand (l : List Line) (w : List Instruction) (f : ℕ → List Symbol) : Type 0 where
  -- where the listing halts its word halts
  pub halts : (c : ℕ) (s : State) → ListingRun l (at_line_1 f) c s → Ends (machine l) Halted s
      → (t : W.State) × WordRun w (at_place_1 f) (1 + c) t × Ends (W.machine unlimited w) Halted t × SameWords s t
  -- where the word halts the listing halts, and the word's steps and registers are these
  pub only : (m : ℕ) (t : W.State) → WordRun w (at_place_1 f) m t → Ends (W.machine unlimited w) Halted t
      → (c : ℕ) × (s : State) × ListingRun l (at_line_1 f) c s × Ends (machine l) Halted s × (m ≡ 1 + c) × SameWords s t
  -- the listing goes on until it halts
  pub goes_on : (c : ℕ) (s : State) → ListingRun l (at_line_1 f) c s → step l s ≡ none → Ends (machine l) Halted s
  -- the word never strays
  pub stays : (m : ℕ) (t : W.State) → WordRun w (at_place_1 f) m t → Ends (W.machine unlimited w) Strayed t → ⊥

-- A line's targets are lines of the listing, or the line after its last
abbrev pub Targets : ℕ → Line → Type 0
Targets count (print x n) = Unit {0}
Targets count (scan n e f) = (1 ≤ e) × (e ≤ suc count) × (1 ≤ f) × (f ≤ suc count)

-- Of every listing with such targets, of any length and on any registers; so of every accepted one
abbrev pub DemandOfListings : Type 0
DemandOfListings = (l : List Line) → EachOf (Targets (length l)) l → (f : ℕ → List Symbol) → ListingDemand l (word l) f

abbrev pub DemandOfAccepted : Type 0
DemandOfAccepted = (l : List Line) → Accepted l → (f : ℕ → List Symbol) → ListingDemand l (word l) f

-- 3. The word of an accepted listing keeps the limits of a word, names registers of a set alone, and a set with 64 registers reads it: no
-- rule from 11 to 15 turns it down
pub record ListingFits (l : List Line) : Type 0 where
  pub few_symbols : length (spell (word l)) ≤ Limits.most_symbols
  pub few_instructions : length (word l) ≤ Limits.most_instructions
  pub operands_from_1 : EachOf (λ i. 1 ≤ operand i) (word l)
  pub low_registers : EachOf (NamesAtMost Limits.most_registers) (word l)
  pub read : read_word_for Limits.most_registers (word_text l) ≡ done (table_of (word l))
  pub same : instructions (table_of (word l)) ≡ word l

abbrev pub ListingWordsFit : Type 0
ListingWordsFit = (l : List Line) → Accepted l → ListingFits l
