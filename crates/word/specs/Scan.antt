-- What the functions inside this crate hand back: the symbols at the front of a word, and its items.
use Rattle.theory.specs.declared.Refusal.{Refusal}
use Rattle.std.specs.Prelude.{◌≡◌, cond, List, ℕ, ◌+◌, ◌≤◌, min, length, drop, eqb, Result}
use Rattle.std.proofs.Math.Option.{none}
use Rattle.theory.specs.Limits
use Rattle.theory.specs.Word.{is_symbol}
use Rattle.theory.specs.Machines.{is_limited}
use Rattle.theory.specs.TurnedDown.{done, answer, word_entries, entries_fault, word_fault, lent_after}
use Rattle.text.specs.Runs.{leading, run}
use Rattle.word.specs.declared.answers.Item.{Item}
use Rattle.word.specs.Answers.{kinds_of, operands_of, read_answer}

abbrev pub symbols : List ℕ → ℕ
symbols = leading is_symbol

-- The kind that a number of # makes; 0 where it makes none
unfoldable pub kind_number : ℕ → ℕ
kind_number k = cond (is_limited 5 k) k 0

-- The largest number of 32 bits
abbrev pub widest : ℕ
widest = 4294967295

-- The item of n ones and then k # that starts at a place
abbrev pub item : ℕ → ℕ → ℕ → Item
item at n k = record { kind = kind_number k; operand = min n widest; next = at + n + k }

-- How many ones stand from a place on, and how many # behind them
abbrev pub ones_at : List ℕ → ℕ → ℕ
ones_at w at = run 49 (drop at w)

abbrev pub hashes_at : List ℕ → ℕ → ℕ
hashes_at w at = run 35 (drop (at + ones_at w at) w)

unfoldable pub item_at : List ℕ → ℕ → Item
item_at w at = item at (ones_at w at) (hashes_at w at)

-- Where an item that is no instruction has its fault
unfoldable pub fault_place : ℕ → Item → ℕ
fault_place at e =
    cond (eqb e.operand 0) at
    (cond (eqb e.next (at + e.operand)) (at + e.operand)
    (at + e.operand + 5))

-- A word that rules 11 and 12 let pass
pub record Readable (w : List ℕ) : Type 0 where
  pub known : symbols w ≡ length w
  pub short : length w ≤ Limits.most_symbols

-- Rules 13 and 14
unfoldable pub scan_answer : List ℕ → Result ℕ Refusal
scan_answer w = read_answer (answer (entries_fault (word_entries w)) (word_entries w))

-- A word that no rule turns down, and lent lists that have room for its instructions
pub record Fillable (w : List ℕ) (count : ℕ) (kinds operands : List ℕ) : Type 0 where
  pub passed : word_fault w ≡ none
  pub whole : count ≡ length (word_entries w)
  pub kinds_room : count ≤ length kinds
  pub operands_room : count ≤ length operands

pub record Filled (w : List ℕ) (kinds operands kinds' operands' : List ℕ) : Type 0 where
  pub kinds_put : kinds' ≡ lent_after kinds (done (kinds_of (word_entries w)))
  pub operands_put : operands' ≡ lent_after operands (done (operands_of (word_entries w)))
