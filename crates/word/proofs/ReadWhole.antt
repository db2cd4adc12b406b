-- A word read into two arrays that have room for every word: what comes of it, rule by rule.
use Rattle.std.specs.Prelude.{Result, Ok, Err}
use mathlib.Core.Path.{◌≡◌, refl, sym, ap, ◌∙◌}
use mathlib.Core.Option.{Option, none, some}
use mathlib.Core.List.{List, [], ◌∷◌}
use Prim.Native.Nat.{ℕ, ◌≤◌}
use native.Mathlib.Omega.{arith}
use borrow.Author.Tests.{leb-true, le-leb}
use lib.Dec.{leb}
use lib.ListN.{length, take, length-map}
use lib.Seq.{take_at}
use Rattle.theory.specs.Text.{Bytes}
use Rattle.theory.specs.Basics.{or_else}
use Rattle.theory.specs.Word.{Entry, byte_of, bytes_of, spell_entries}
use Rattle.theory.specs.TurnedDown.{done, answer, after, total, word_fault, word_entries, read_word, read_word_into, entries_fault}
use Rattle.theory.specs.TurnedDown.{rule_11, rule_12, rule_13, rule_14, rule_19, lent_after, entry_fault, next_byte}
use Rattle.theory.specs.declared.Refusal.{Refusal}
use Rattle.theory.proofs.Faults.{and_second, and_first, none_first, none_second, none_refused, unless_none}
use Rattle.theory.proofs.Words.{GoodTable, formed_of_word, total-length, word_round_trip}
use Rattle.word.specs.Answers.{kinds_of, operands_of, zipped, read_answer, Reads}
use Rattle.word.proofs.Zipped.{zipped_self}

-- The entries of a word that rules 11 to 14 let pass are a table that rules 11, 13 and 14 let pass
module _ (w : Bytes) (h : word_fault w ≡ none) where
  abbrev t : List Entry
  t = word_entries w

  after_11 : or_else (rule_12 w) (entries_fault t) ≡ none
  unfolding word_fault
  after_11 = none_second (rule_11 w) _ h

  after_12 : entries_fault t ≡ none
  after_12 = none_second (rule_12 w) _ after_11

  limited : (1 ≤ length w) × (length w ≤ 600000)
  unfolding word_fault rule_11
  limited =
      let l = unless_none _ 11 0 (none_first (rule_11 w) _ h) in
      (leb-true 1 (length w) (and_first (leb 1 (length w)) _ l), leb-true (length w) 600000 (and_second (leb 1 (length w)) _ l))

  size : total t ≡ length w
  unfolding read_word
  size =
      let same : bytes_of (spell_entries t) ≡ w = word_round_trip.1 w t (rw h) in
      sym (total-length t) ∙ sym (length-map (spell_entries t) byte_of) ∙ ap length same

  some_entry : (u : List Entry) → 1 ≤ total u → 1 ≤ length u
  some_entry [] l = l
  some_entry (e ∷ u) l = omega arith

  pub word_good : GoodTable t
  unfolding rule_13 rule_14
  word_good = record {
    some = some_entry t (omega (arith, size, limited.0));
    symbols = omega (arith, size, limited.1);
    formed = formed_of_word 0 t (none_refused _ 13 (none_first (rule_13 next_byte entry_fault t) _ after_12));
    instructions = leb-true (length t) 8192 (unless_none _ 14 _ (none_second (rule_13 next_byte entry_fault t) _ after_12));
  }

-- The instructions of a word stand at the front of two lists
pub record Got (w : Bytes) (n : ℕ) (kinds operands : List ℕ) : Type 0 where
  pub passes : word_fault w ≡ none
  pub few : n ≤ 8192
  pub table : zipped (take n kinds) (take n operands) ≡ word_entries w

-- Arrays of 8,192 have room, so that rule 19 never applies
module _ (w : Bytes) (kinds operands : List ℕ) (k : length kinds ≡ 8192) (o : length operands ≡ 8192) where
  read_is : read_word_into kinds operands w ≡ read_word w
  unfolding read_word_into read_word rule_19
  read_is = go (word_fault w) refl
    where
      go : (f : Option Refusal) → word_fault w ≡ f
          → after (answer f (word_entries w)) (λ t. answer (or_else (rule_19 kinds t) (rule_19 operands t)) t) ≡ answer f (word_entries w)
      go (some r) e = refl
      go none e =
          let few = (word_good w e).instructions in
          rw (
            le-leb (length (word_entries w)) (length kinds) (omega (arith, few, k)),
            le-leb (length (word_entries w)) (length operands) (omega (arith, few, o)),
          )

  module _ {r : Result ℕ Refusal} {kinds' operands' : List ℕ} (h : Reads w kinds operands r kinds' operands') where
    answers : r ≡ read_answer (answer (word_fault w) (word_entries w))
    unfolding read_word
    answers = h.0 ∙ ap read_answer read_is

    pub got_refused : (x : Refusal) → r ≡ Err x → word_fault w ≡ some x
    got_refused x e = go (word_fault w) (sym e ∙ answers)
      where
        go : (f : Option Refusal) → Err x ≡ read_answer (answer f (word_entries w)) → f ≡ some x
        go none z = let y : ◌≡◌ {A = ℕ} 0 1 = cc in absurd (omega arith)
        go (some x') z = cc

    done_then : (n : ℕ) → r ≡ Ok n → (word_fault w ≡ none) × (n ≡ length (word_entries w))
    done_then n e = go (word_fault w) (sym e ∙ answers)
      where
        go : (f : Option Refusal) → Ok n ≡ read_answer (answer f (word_entries w)) → (f ≡ none) × (n ≡ length (word_entries w))
        go none z = (refl, cc)
        go (some x) z = let y : ◌≡◌ {A = ℕ} 0 1 = cc in absurd (omega arith)

    module _ (none_faulty : word_fault w ≡ none) (n : ℕ) (size_is : n ≡ length (word_entries w)) where
      into_is : read_word_into kinds operands w ≡ done (word_entries w)
      unfolding read_word
      into_is = read_is ∙ rw none_faulty

      kinds_read : take n kinds' ≡ kinds_of (word_entries w)
      unfolding lent_after
      kinds_read =
          rw (h.1, into_is)
          (take_at (kinds_of (word_entries w)) _ n (length-map (word_entries w) (λ e. e.kind) ∙ sym size_is))

      operands_read : take n operands' ≡ operands_of (word_entries w)
      unfolding lent_after
      operands_read =
          rw (h.2, into_is)
          (take_at (operands_of (word_entries w)) _ n (length-map (word_entries w) (λ e. e.operand) ∙ sym size_is))

    pub got_done : (n : ℕ) → r ≡ Ok n → Got w n kinds' operands'
    got_done n e =
        let d = done_then n e in
        record {
          passes = d.0;
          few = omega (arith, d.1, (word_good w d.0).instructions);
          table = rw (kinds_read d.0 n d.1, operands_read d.0 n d.1) (zipped_self (word_entries w));
        }
