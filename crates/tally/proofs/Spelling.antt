-- A table written as a word: what is answered by its tally, and what is written then.
use Rattle.std.specs.Prelude.{Result, Ok, Err}
use mathlib.Core.Path.{◌≡◌, refl, sym, ap, ◌∙◌}
use mathlib.Core.Bool.{Bool, true, false}
use mathlib.Core.Option.{Option, none, some}
use mathlib.Core.List.{List}
use Prim.Native.Nat.{ℕ, ◌≤◌, ◌<◌}
use native.Mathlib.Omega.{arith}
use lib.Dec.{leb, ltb}
use lib.ListN.{length}
use borrow.Author.Tests.{ltb-true, ltb-false, leb-true, le-leb, lt-leb}
use Rattle.theory.specs.Text.{Bytes}
use Rattle.theory.specs.Word.{Entry}
use Rattle.theory.specs.TurnedDown.{Answer, done, refused, total, table_fault, read_table, rule_19, lent_after, write_word_into}
use Rattle.theory.specs.declared.Refusal.{Refusal}
use Rattle.theory.proofs.Words.{word-length, table_good}
use Rattle.output.specs.Puts.{starting}
use Rattle.output.proofs.Puts.{starting-whole}
use Rattle.instruction.specs.Instructions.{text}
use Rattle.word.specs.Answers.{written_answer, WritesInto}
use Rattle.tally.specs.declared.Tally.{Tally}
use Rattle.tally.specs.Tallies.{tally_of, answered}
use Rattle.tally.proofs.Counts.{judged_tally}

-- An answer is not both
never : {P : Type 0} (n : ℕ) (f : Refusal) → Ok n ≡ Err f → P
never n f h = absurd (let x : ◌≡◌ {A = ℕ} 0 1 = cc in omega arith)

module _ (t : List Entry) (word : Bytes) where
  -- The tally of a table that passes has all of its symbols
  size_of : table_fault t ≡ none → (tally_of t).size ≡ total t
  unfolding tally_of
  size_of fine = omega (arith, (table_good t fine).symbols)

  -- What is answered
  answered_tally : answered (tally_of t) (length word) ≡ written_answer (write_word_into word t)
  unfolding answered read_table write_word_into rule_19
  answered_tally = go (table_fault t) refl
    where
      room : table_fault t ≡ none → (b : Bool) → ltb (length word) (total t) ≡ b
          → answered (tally_of t) (length word) ≡ written_answer (write_word_into word t)
      room e true l =
          let short : length word < length (text t) = omega (arith, word-length t, ltb-true (length word) (total t) l) in
          rw (judged_tally t, e, size_of e, l, lt-leb (length (text t)) (length word) short)
      room e false l =
          let long : length (text t) ≤ length word = omega (arith, word-length t, ltb-false (length word) (total t) l) in
          rw (judged_tally t, e, size_of e, l, le-leb (length (text t)) (length word) long) (ap Ok (sym (word-length t)))

      go : (o : Option Refusal) → table_fault t ≡ o → answered (tally_of t) (length word) ≡ written_answer (write_word_into word t)
      go none e = room e (ltb (length word) (total t)) refl
      go (some r) e = rw (judged_tally t, e)

  -- What the word is then
  written-whole : (n : ℕ) → Ok n ≡ written_answer (write_word_into word t)
      → starting (text t) word ≡ lent_after word (write_word_into word t)
  unfolding read_table write_word_into rule_19 lent_after
  written-whole n h = go (table_fault t) refl
    where
      room : table_fault t ≡ none → (b : Bool) → leb (length (text t)) (length word) ≡ b
          → starting (text t) word ≡ lent_after word (write_word_into word t)
      room e true l =
          let long : length (text t) ≤ length word = leb-true (length (text t)) (length word) l in
          rw (e, l) (starting-whole (text t) word long)
      room e false l = never n (record { number = 19; place = 0 }) (rw (e, l) at h)

      go : (o : Option Refusal) → table_fault t ≡ o → starting (text t) word ≡ lent_after word (write_word_into word t)
      go none e = room e (leb (length (text t)) (length word)) refl
      go (some r) e = never n r (rw e at h)

  module _ (s : Tally) (q : s ≡ tally_of t) (r : Result ℕ Refusal) (a : r ≡ answered s (length word)) where
    answer_is : (r' : Result ℕ Refusal) → r ≡ r' → r' ≡ written_answer (write_word_into word t)
    answer_is r' e = sym e ∙ a ∙ ap (λ (u : Tally). answered u (length word)) q ∙ answered_tally

    pub wrote : (n : ℕ) → r ≡ Ok n → (word' : Bytes) → word' ≡ starting (text t) word → WritesInto t word (Ok n) word'
    wrote n e word' w = (answer_is (Ok n) e, w ∙ written-whole n (answer_is (Ok n) e))

    pub left : (f : Refusal) → r ≡ Err f → WritesInto t word (Err f) word
    unfolding lent_after
    left f e = (answer_is (Err f) e, go (write_word_into word t) (answer_is (Err f) e))
      where
        go : (o : Answer Bytes) → Err f ≡ written_answer o → word ≡ lent_after word o
        go (done u) h = never (length u) f (sym h)
        go (refused g) h = refl
