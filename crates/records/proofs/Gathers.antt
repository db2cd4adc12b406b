-- A table of records as numbers: what is gathered of it.
use mathlib.Core.Path.{◌≡◌, refl, sym}
use mathlib.Core.Option.{Option, none, some}
use mathlib.Core.List.{List, map}
use Prim.Native.Nat.{ℕ, ◌≤◌}
use native.Mathlib.Omega.{arith}
use lib.ListN.{length}
use Rattle.theory.specs.Word.{Entry}
use Rattle.theory.specs.TurnedDown.{mapped, lent_after, table_fault, read_table}
use Rattle.theory.specs.declared.Refusal.{Refusal}
use Rattle.theory.proofs.Words.{table_good}
use Rattle.records.specs.Answers.{no_numbers, gathered}
use Rattle.tally.specs.Tallies.{tally_of}
use Rattle.records.specs.Records.{judged_count, numbers_of, finished}
use Rattle.word.proofs.Fills.{put_first, put_none, put_all}
use Rattle.tally.proofs.Counts.{judged_tally}
use Rattle.records.proofs.Copies.{kind_in, operand_in}

module _ (t : List Entry) where
  -- A table is turned down, or all its entries are instructions
  by_fault : {P : Type 0} (o : Option Refusal) → table_fault t ≡ o → ((r : Refusal) → table_fault t ≡ some r → P)
      → (table_fault t ≡ none → P) → P
  by_fault none e down up = up e
  by_fault (some r) e down up = down r e

  cases : {P : Type 0} → ((r : Refusal) → table_fault t ≡ some r → P) → (table_fault t ≡ none → P) → P
  cases = by_fault (table_fault t) refl

  count_none : (r : Refusal) → table_fault t ≡ some r → judged_count (tally_of t) ≡ 0
  unfolding judged_count read_table
  count_none r e = rw (judged_tally t, e)

  count-all : table_fault t ≡ none → judged_count (tally_of t) ≡ length t
  unfolding judged_count read_table
  count-all e = rw (judged_tally t, e)

  pub count-within : (judged_count (tally_of t) ≤ length t) × (judged_count (tally_of t) ≤ 8192)
  count-within =
      cases
      (λ r e. let z : _ = count_none r e in (omega arith, omega arith))
      (λ e. let z : _ = count-all e in (omega arith, omega (arith, (table_good t e).instructions)))

  -- The numbers of as many entries as there are instructions
  module _ (f : Entry → ℕ) where
    first-numbers : put_first f no_numbers t (judged_count (tally_of t)) ≡ lent_after no_numbers (mapped (map f) (read_table t))
    unfolding read_table lent_after
    first-numbers =
        cases
        (λ r e. rw (count_none r e, e) (sym (put_none f no_numbers t)))
        (λ e. rw e (put_all f no_numbers t (judged_count (tally_of t)) (count-all e)))

  pub gathered-all : finished (tally_of t) (numbers_of t (judged_count (tally_of t))) ≡ gathered t
  unfolding finished numbers_of gathered
  gathered-all = rw (first-numbers kind_in, first-numbers operand_in, judged_tally t)
