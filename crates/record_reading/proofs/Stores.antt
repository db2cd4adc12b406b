-- A table of records that is filled from a word: its entries after so many turns, and where the next instruction starts.
use Rattle.std.specs.Prelude.{Result, Ok, Err}
use mathlib.Core.Path.{◌≡◌, refl, sym, ap, ◌∙◌}
use mathlib.Core.Bool.{Bool, true, false}
use mathlib.Core.Option.{Option, none, some}
use mathlib.Core.List.{List}
use Prim.Native.Nat.{ℕ, zero, suc, ◌+◌, ◌≤◌, ◌<◌}
use native.Mathlib.Numerals.{add-one}
use native.Mathlib.Omega.{arith}
use lib.ListN.{length, take, set}
use Rattle.theory.specs.Word.{Entry}
use lib.Dec.{leb}
use borrow.Author.Tests.{leb-true}
use Rattle.theory.specs.TurnedDown.{word_entries, word_fault, total, read_word, rule_19, done, lent_after}
use Rattle.theory.specs.declared.Refusal.{Refusal}
use Rattle.word.specs.declared.answers.Instruction.{Instruction}
use Rattle.word.specs.declared.answers.Item.{Item}
use Rattle.word.specs.Answers.{record_of, records_of, read_answer}
use Rattle.record_reading.specs.Answers.{ReadsTable}
use Rattle.word.specs.Scan.{item_at}
use Rattle.record_counting.specs.Counted.{answer_count}
use Rattle.record_reading.specs.Storing.{measured, Storable, stored}
use Rattle.word.proofs.Along.{Along, along-start}
use Rattle.word.proofs.Fills.{put_none, put-length, put_next, put_all, item-kind, item-operand, item-along}

-- Where the instruction after j others starts
unfoldable pub start : List ℕ → ℕ → ℕ
start w j = total (take j (word_entries w))

abbrev pub record_in : Item → Instruction
record_in e = record { kind = e.kind; operand = e.operand }

pub start_none : (w : List ℕ) → 0 ≡ start w 0
unfolding start
start_none w = refl

pub stored_none : (w : List ℕ) (table : List Instruction) → table ≡ stored w 0 table
unfolding stored
stored_none w table = put_none record_of table (word_entries w)

-- A reader that has passed j instructions
module _ (w : List ℕ) (fine : word_fault w ≡ none) where
  along : (j : ℕ) → j ≤ length (word_entries w) → Along w (start w j) j
  unfolding start
  along zero h = along-start w
  along (suc j) h =
      let next : Along w (item_at w (start w j)).next (j + 1) = item-along w fine (start w j) j (along j (omega arith)) (omega arith) in
      rw (next.start, add-one j) at next

module _ (w : List ℕ) (n : ℕ) (table : List Instruction) (p : Storable w n table) (j : ℕ) where
  pub stored-length : j ≤ n → length (stored w j table) ≡ length table
  unfolding stored
  stored-length h = put-length record_of table (word_entries w) j (omega (arith, p.room)) (omega (arith, p.within))

  module _ (h : j < n) where
    fine : word_fault w ≡ none
    fine = p.passed (omega arith)

    here : Along w (start w j) j
    here = along w fine j (omega (arith, p.within))

    inside : j < length (word_entries w)
    inside = omega (arith, p.within)

    module _ (e : Item) (q : e ≡ item_at w (start w j)) where
      pub stored_more : set (stored w j table) j (record_in e) ≡ stored w (j + 1) table
      unfolding stored
      stored_more =
          let kind : (item_at w (start w j)).kind ≡ _ = item-kind w fine (start w j) j here inside in
          let operand : (item_at w (start w j)).operand ≡ _ = item-operand w fine (start w j) j here inside in
          put_next record_of table (word_entries w) j (record_in e) (omega (arith, p.room)) inside (rw (q, kind, operand))

      pub start-more : e.next ≡ start w (j + 1)
      unfolding start
      start-more = rw q (item-along w fine (start w j) j here inside).start

-- The whole reader: what it measured, what it stored, and what it hands back
module _ (w : List ℕ) (table : List Instruction) (r : Result ℕ Refusal) (n : ℕ) (m : r ≡ read_answer (measured (length table) w)) (c : n ≡
    answer_count r) where
  abbrev t : List Entry
  t = word_entries w

  abbrev Both : Type 0
  Both = Storable w n table × ((table' : List Instruction) → table' ≡ stored w n table → ReadsTable w table r table')

  -- Where a rule turned the word down nothing is stored
  nothing_stored : n ≡ 0 → Storable w n table × (stored w n table ≡ table)
  nothing_stored z = (
    record { room = omega arith; within = omega arith; passed = λ h. absurd (omega arith) },
    ap (λ (k : ℕ). stored w k table) z ∙ sym (stored_none w table),
  )

  all-stored : n ≡ length t → stored w n table ≡ lent_after table (done (records_of t))
  unfolding stored
  all-stored all = put_all record_of table t n all

  by_faults : (o : Option Refusal) → word_fault w ≡ o → (b : Bool) → leb (length t) (length table) ≡ b → Both
  unfolding read_word measured rule_19 lent_after
  by_faults (some f) e b q =
      let a : r ≡ Err f = rw e at m in
      let none_kept : _ = nothing_stored (c ∙ ap answer_count a) in
      (none_kept.0, λ table' s. (rw e a, rw e (s ∙ none_kept.1)))
  by_faults none e false q =
      let a : r ≡ Err (record { number = 19; place = 0 }) = rw (e, q) at m in
      let none_kept : _ = nothing_stored (c ∙ ap answer_count a) in
      (none_kept.0, λ table' s. (rw (e, q) a, rw (e, q) (s ∙ none_kept.1)))
  by_faults none e true q =
      let a : r ≡ Ok (length t) = rw (e, q) at m in
      let all : n ≡ length t = c ∙ ap answer_count a in
      let room : length t ≤ length table = leb-true (length t) (length table) q in (
        record { room = omega arith; within = omega arith; passed = λ h. e },
        λ table' s. (rw (e, q) a, rw (e, q) (s ∙ all-stored all)),
      )

  both : Both
  both = by_faults (word_fault w) refl (leb (length t) (length table)) refl

  pub storable : Storable w n table
  storable = both.0

  pub reads_table : (table' : List Instruction) → table' ≡ stored w n table → ReadsTable w table r table'
  reads_table = both.1
