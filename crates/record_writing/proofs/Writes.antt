-- A table of records that is written as a word, record by record: what is written after so many turns, and all of it by the answer.
use Rattle.theory.specs.declared.Refusal.{Refusal}
use Rattle.std.specs.Prelude.{Result, Ok, Err}
use mathlib.Core.Path.{◌≡◌, refl, ap, ◌∙◌}
use mathlib.Core.List.{List, [], ◌∷◌}
use Prim.Native.Nat.{ℕ, ◌+◌, ◌≤◌, ◌<◌}
use native.Mathlib.Omega.{arith}
use lib.ListN.{length, take, get_or, length-map, get_or-map}
use lib.Seq.{take_all, take-length}
use Rattle.theory.specs.Text.{Bytes}
use Rattle.theory.specs.Word.{Entry, spell_entries}
use Rattle.theory.proofs.Words.{entry}
use Rattle.output.specs.Puts.{most, starting}
use Rattle.output.proofs.Puts.{put-length, sets-starting}
use Rattle.instruction.specs.Instructions.{text, Spelt}
use Rattle.instruction.proofs.Instructions.{spelt_none, spelt_more}
use Rattle.word.specs.declared.answers.Instruction.{Instruction}
use Rattle.word.specs.Answers.{entry_of, entries_of, WritesInto}
use Rattle.tally.specs.declared.Tally.{Tally}
use Rattle.tally.specs.Tallies.{tally_of, answered}
use Rattle.tally.proofs.Spelling.{wrote, left}
use Rattle.record_writing.specs.Written.{written_count}
use Rattle.record_counting.proofs.Tallies.{no_record}

-- The first j records of a table were put at the start of a word, up to a place
pub record Spelling (table : List Instruction) (j : ℕ) (before after : Bytes) (at : ℕ) : Type 0 where
  pub spelt : Spelt (take j (entries_of table)) 0 before after at

module _ (table : List Instruction) (word : Bytes) where
  pub spelling_none : length word ≤ most → Spelling table 0 word word 0
  spelling_none h = record { spelt = spelt_none word 0 (omega arith) h }

  module _ (j : ℕ) {after : Bytes} {at : ℕ} (p : Spelling table j word after at) where
    pub spelling-length : length after ≡ length word
    spelling-length = put-length p.spelt.put

    pub spelling-more : j < length table → {after' : Bytes} {at' : ℕ} → Spelt (entry_of (get_or table j no_record) ∷ []) at after after' at'
        → Spelling table (j + 1) word after' at'
    spelling-more h {after'} {at'} q =
        let t : List Entry = entries_of table in
        let l : j < length t = omega (arith, length-map table entry_of) in
        let here : Spelt (get_or t j (entry 0 0) ∷ []) at after after' at' = rw (get_or-map entry_of table j no_record) q in
        record { spelt = spelt_more t j (entry 0 0) l p.spelt here }

    pub spelling_end : (n : ℕ) → j ≡ n → after ≡ starting (text (take n (entries_of table))) word
    spelling_end n e = p.spelt.put.wrote ∙ rw e (sets-starting (text (take n (entries_of table))) word)

-- The whole writer: the tally of the table, what is answered by it, how many records are written, and the word then
module _ (table : List Instruction) (word word' : Bytes) (d : Tally) (q : d ≡ tally_of (entries_of table)) (r : Result ℕ Refusal) (a : r ≡ answered
    d (length word)) (m : ℕ) (c : m ≡ written_count r (length table)) where
  abbrev t : List Entry
  t = entries_of table

  pub count-within : m ≤ length table
  count-within = go r c
    where
      go : (r : Result ℕ Refusal) → m ≡ written_count r (length table) → m ≤ length table
      go (Ok n) e = omega arith
      go (Err f) e = omega arith

  -- Nothing is written where it is refused
  starting_none : starting (text []) word ≡ word
  unfolding starting spell_entries
  starting_none = take-length word

  pub writes_table : word' ≡ starting (text (take m t)) word → WritesInto t word r word'
  writes_table w = go r refl
    where
      go : (s : Result ℕ Refusal) → r ≡ s → WritesInto t word s word'
      go (Ok n) e =
          let count : m ≡ length table = c ∙ ap (λ (s : Result ℕ Refusal). written_count s (length table)) e in
          let all : take m t ≡ t = take_all m t (omega (arith, length-map table entry_of)) in
          wrote t word d q r a n e word' (w ∙ rw all)
      go (Err f) e =
          let count : m ≡ 0 = c ∙ ap (λ (s : Result ℕ Refusal). written_count s (length table)) e in
          let none : word' ≡ word = w ∙ rw count starting_none in
          rw none (left t word d q r a f e)
