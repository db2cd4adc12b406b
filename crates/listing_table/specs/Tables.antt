-- Places of a listing's lines, entries put into a table of two lists, and what making a table hands back.
use Rattle.theory.specs.declared.Refusal.{Refusal}
use Rattle.std.specs.Prelude.{◌≡◌, cond, List, [], ◌∷◌, ℕ, suc, ◌+◌, ◌≤◌, eqb, length, get_or, Result, Ok, Err}
use Rattle.std.proofs.Math.Option.{none}
use Rattle.std.proofs.lemmas.List.Edits.{sets}
use Rattle.theory.specs.Word.{Entry, forward, entry_of, table_of}
use Rattle.theory.specs.TurnedDown.{Answer, done, refused}
use Rattle.word.specs.Answers.{kinds_of, operands_of}
use Rattle.listing_numbers.specs.declared.Numbers.{Numbers}
use Rattle.listing.specs.Listing.{Line, place, transfer, word}
use Rattle.listing.specs.Refused.{most_lines, lines_fault}
use Rattle.listing_check.specs.Lined.{lined, read, Whole}

-- F1 and four instructions for each of 256 lines
abbrev pub most_entries : ℕ
most_entries = 1025

-- Lines that pass
pub record Passed (l : List ℕ) (lines : ℕ) : Type 0 where
  pub whole : Whole l lines
  pub few : lines ≤ most_lines
  pub passes : lines_fault lines 1 (lined l) ≡ none

-- The instructions of a line of this kind
abbrev pub kind_size : ℕ → ℕ
kind_size kind = cond (eqb kind 5) 4 1

-- The place of each line by its number, and of the line after the last
abbrev pub Placed : List Line → (lines : ℕ) → List ℕ → Type 0
Placed l lines places = (n : ℕ) → n ≤ suc lines → get_or places n 0 ≡ place l n

-- The entries of a line whose first instruction is at place q, by its numbers and the places of its targets
abbrev pub line_entries : Numbers → (q one hash : ℕ) → List Entry
line_entries n q one hash =
    record { kind = n.kind; operand = n.register }
    ∷ cond (eqb n.kind 5) (entry_of (forward 3) ∷ entry_of (transfer (q + 2) one) ∷ entry_of (transfer (q + 3) hash) ∷ []) []

-- Entries put into a table from an index on, as far as it has room
pub record Tabled (t : List Entry) (at : ℕ) (kinds operands kinds' operands' : List ℕ) : Type 0 where
  pub kinds_put : kinds' ≡ sets kinds at (kinds_of t)
  pub operands_put : operands' ≡ sets operands at (operands_of t)

-- How many instructions the table of a listing's word has, or the first refusal
abbrev pub counted : Answer (List Line) → Result ℕ Refusal
counted (done l) = Ok (length (word l))
counted (refused r) = Err r

-- The lists afterwards: with the numbers of the word's instructions at their front, as far as they have room, or as they were
abbrev pub kinds_filled : List ℕ → Answer (List Line) → List ℕ
kinds_filled kinds (done l) = sets kinds 0 (kinds_of (table_of (word l)))
kinds_filled kinds (refused r) = kinds

abbrev pub operands_filled : List ℕ → Answer (List Line) → List ℕ
operands_filled operands (done l) = sets operands 0 (operands_of (table_of (word l)))
operands_filled operands (refused r) = operands

-- What is handed back for a list of numbers, and the lent lists then
abbrev pub Fills : List ℕ → (kinds operands : List ℕ) → Result ℕ Refusal → (kinds' operands' : List ℕ) → Type 0
Fills list kinds operands r kinds' operands' =
    (r ≡ counted (read list)) × (kinds' ≡ kinds_filled kinds (read list)) × (operands' ≡ operands_filled operands (read list))
