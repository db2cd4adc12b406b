-- What the rules of words come to, as a reader checks them one after another: 11 by the length, 12 by the symbols at the front, then 13
-- and 14, then 19.
use Rattle.std.specs.Prelude.{Ok, Err}
use mathlib.Core.Path.{◌≡◌, refl, ap}
use mathlib.Core.Bool.{true}
use mathlib.Core.Option.{Option, none, some}
use mathlib.Core.List.{List, [], ◌∷◌}
use Prim.Native.Nat.{ℕ, ◌+◌, ◌≤◌, ◌<◌}
use native.Mathlib.Omega.{arith}
use lib.ListN.{length}
use lib.Dec.{leb}
use borrow.Author.Tests.{le-leb, lt-leb}
use Rattle.theory.specs.Limits
use Rattle.theory.specs.Word.{is_symbol, entries}
use Rattle.theory.specs.Machines.{is_limited}
use Rattle.theory.specs.TurnedDown.{lent_after, read_word, word_entries, word_fault, next_byte, entry_fault, read_word_into}
use Rattle.theory.specs.TurnedDown.{rule_11, rule_12, rule_13, rule_14, rule_19}
use Rattle.theory.specs.declared.Refusal.{Refusal}
use Rattle.counting.specs.Counts.{instruction_count}
use Rattle.counting.proofs.Runs.{failing_some, failing_none}
use Rattle.counting.proofs.Symbols.{Known}
use Rattle.word.specs.Answers.{read_answer, Reads}
use Rattle.word.specs.Scan.{symbols, scan_answer, Filled}

some_bytes : (w : List ℕ) → 0 < length (word_entries w) → 1 ≤ length w
unfolding entries
some_bytes [] h = h
some_bytes (b ∷ w) h = omega arith

module _ (w : List ℕ) where
  abbrev Sized : Type 0
  Sized = (1 ≤ length w) × (length w ≤ Limits.most_symbols)

  sized : Sized → is_limited Limits.most_symbols (length w) ≡ true
  sized s = rw (le-leb 1 (length w) s.0, le-leb (length w) Limits.most_symbols s.1)

  pub empty-word : length w ≡ 0 → Err (record { number = 11; place = 0 }) ≡ read_answer (read_word w)
  unfolding read_word word_fault rule_11
  empty-word h = rw h

  pub long-word : Limits.most_symbols < length w → Err (record { number = 11; place = 0 }) ≡ read_answer (read_word w)
  unfolding read_word word_fault rule_11
  long-word h = rw (le-leb 1 (length w) (omega arith), lt-leb (length w) Limits.most_symbols h)

  pub unknown_symbol : Sized → symbols w < length w → Err (record { number = 12; place = symbols w }) ≡ read_answer (read_word w)
  unfolding read_word word_fault rule_11 rule_12
  unknown_symbol s h = let here : 0 + symbols w ≡ symbols w = omega arith in rw (sized s, failing_some is_symbol 0 w h, here)

  pub known_symbols : Sized → Known w → scan_answer w ≡ read_answer (read_word w)
  unfolding read_word word_fault rule_11 rule_12 scan_answer
  known_symbols s h = rw (sized s, failing_none is_symbol 0 w h)

  -- A word that was counted passes rules 12 and 13
  pub counted-word : length w ≤ Limits.most_symbols → (n : ℕ) → n ≡ instruction_count w → 0 < n → n ≤ Limits.most_instructions
      → Ok n ≡ read_answer (read_word w)
  unfolding instruction_count read_word word_fault rule_11 rule_14
  counted-word short n e some_left few = go (rule_12 w) refl (rule_13 next_byte entry_fault (word_entries w)) refl
    where
      go : (x : Option Refusal) → rule_12 w ≡ x → (y : Option Refusal) → rule_13 next_byte entry_fault (word_entries w) ≡ y
          → Ok n ≡ read_answer (read_word w)
      go (some r) d y f = absurd (let z : n ≡ 0 = rw d at e in omega arith)
      go none d (some r) f = absurd (let z : n ≡ 0 = rw (d, f) at e in omega arith)
      go none d none f =
          let z : n ≡ length (word_entries w) = rw (d, f) at e in
          let limited : leb (length (word_entries w)) Limits.most_instructions ≡ true =
          le-leb (length (word_entries w)) Limits.most_instructions (omega arith) in
          rw (sized (some_bytes w (omega arith), short), d, f, limited) (ap Ok z)

  -- What a reader that measured a word hands back, and the lent lists then

  pub measured : (n : ℕ) → Ok n ≡ read_answer (read_word w) → (word_fault w ≡ none) × (n ≡ length (word_entries w))
  unfolding read_word
  measured n h = go (word_fault w) refl
    where
      go : (o : Option Refusal) → word_fault w ≡ o → (word_fault w ≡ none) × (n ≡ length (word_entries w))
      go none e = (e, let g : Ok n ≡ Ok (length (word_entries w)) = rw e at h in cc)
      go (some r) e = absurd (let g : Ok n ≡ Err r = rw e at h in let x : ◌≡◌ {A = ℕ} 0 1 = cc in omega arith)

  module _ (kinds operands : List ℕ) where
    pub read_refused : (r : Refusal) → Err r ≡ read_answer (read_word w) → Reads w kinds operands (Err r) kinds operands
    unfolding read_word read_word_into lent_after
    read_refused r h = go (word_fault w) refl
      where
        go : (o : Option Refusal) → word_fault w ≡ o → Reads w kinds operands (Err r) kinds operands
        go none e = absurd (let g : Err r ≡ Ok (length (word_entries w)) = rw e at h in let x : ◌≡◌ {A = ℕ} 0 1 = cc in omega arith)
        go (some s) e = let g : Err r ≡ Err s = rw e at h in (rw e g, rw e, rw e)

    module _ (fine : word_fault w ≡ none) where
      pub kinds_short : length kinds < length (word_entries w) → Reads w kinds operands (Err (record { number = 19; place = 0 }))
          kinds operands
      unfolding read_word read_word_into rule_19 lent_after
      kinds_short h = let n : _ = lt-leb (length (word_entries w)) (length kinds) h in (rw (fine, n), rw (fine, n), rw (fine, n))

      pub operands_short : length (word_entries w) ≤ length kinds → length operands < length (word_entries w)
          → Reads w kinds operands (Err (record { number = 19; place = 0 })) kinds operands
      unfolding read_word read_word_into rule_19 lent_after
      operands_short g h =
          let m : _ = le-leb (length (word_entries w)) (length kinds) g in
          let n : _ = lt-leb (length (word_entries w)) (length operands) h in
          (rw (fine, m, n), rw (fine, m, n), rw (fine, m, n))

      pub both_fit : length (word_entries w) ≤ length kinds → length (word_entries w) ≤ length operands
          → (n : ℕ) → n ≡ length (word_entries w) → (kinds' operands' : List ℕ) → Filled w kinds operands kinds' operands'
          → Reads w kinds operands (Ok n) kinds' operands'
      unfolding read_word read_word_into rule_19
      both_fit g h n e kinds' operands' f =
          let m : _ = le-leb (length (word_entries w)) (length kinds) g in
          let l : _ = le-leb (length (word_entries w)) (length operands) h in
          (rw (fine, m, l) (ap Ok e), rw (fine, m, l) f.kinds_put, rw (fine, m, l) f.operands_put)
