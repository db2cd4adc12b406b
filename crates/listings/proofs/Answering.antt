-- What is answered: of a table, of lines that are numbers, and of a text, rule by rule.
use Rattle.instruction.specs.declared.Size.{Size}
use Rattle.std.specs.Prelude.{Result, Ok, Err}
use mathlib.Core.Path.{◌≡◌, refl, sym, ◌∙◌}
use mathlib.Core.Bool.{true, false, ◌||◌}
use mathlib.Core.Option.{Option, none, some}
use mathlib.Core.List.{List}
use Prim.Native.Nat.{ℕ, ◌*◌, ◌≤◌, ◌<◌}
use native.Mathlib.Omega.{arith}
use borrow.Author.Tests.{le-leb, lt-leb}
use lib.Dec.{eqb}
use lib.ListN.{length, take, drop, length-map}
use lib.Seq.{take_at}
use Rattle.theory.specs.Limits.{most_bytes}
use Rattle.theory.specs.Basics.{present}
use Rattle.theory.specs.Text.{Bytes, split_lines, ends_in_LF}
use Rattle.theory.specs.Word.{Entry, spell, spell_entries, bytes_of, entry_of, table_of}
use Rattle.theory.specs.TurnedDown.{Answer, done, refused, answer, after, mapped, lend, lent_after, table_fault, read_table}
use Rattle.theory.specs.TurnedDown.{rule_1, rule_2, rule_19, write_word_into, translate_into}
use Rattle.theory.specs.declared.Refusal.{Refusal}
use Rattle.theory.proofs.Faults.{answer_done}
use Rattle.theory.proofs.Words.{good_table}
use Rattle.theory.proofs.Sizes.{word_good}
use Rattle.output.specs.Puts.{starting}
use Rattle.output.proofs.Puts.{starting-whole}
use Rattle.word.specs.Answers.{written_answer, zipped}
use Rattle.listing.specs.Listing.{Line, line, word, word_text}
use Rattle.listing.specs.Refused.{most_lines, rule_3, listing_fault, text_lines, text_fault, read_listing, translate_listing}
use Rattle.listing.specs.Claims.{ListingFits}
use Rattle.listing.proofs.Fits.{listing_words_fit}
use Rattle.listing.proofs.Texts.{listings_read}
use Rattle.listing_numbers.specs.Numbers.{list_of}
use Rattle.listings.specs.Answers.{Answers, sized, Sized, written}
use Rattle.listing_check.specs.Lined.{read}
use Rattle.listing_table.specs.Tables.{most_entries, Tabled, counted, kinds_filled, operands_filled, Fills}
use Rattle.listing_table.proofs.Tabling.{table-back, tabled_kinds, tabled_operands}
use Rattle.listing_table.proofs.Filled.{word_fits}
use Rattle.listings.proofs.Texts.{list_length, numbers_read}

-- A table written

pub sized_done : (n : ℕ) (a : Answer Bytes) {w : Result ℕ Refusal} {symbols : ℕ} → w ≡ written_answer a → w ≡ Ok symbols
    → Ok (record { symbols = symbols; instructions = n }) ≡ sized n a
sized_done n (done u) {symbols = symbols} e f = let same : symbols ≡ length u = cc in rw same
sized_done n (refused r) e f = cc

pub sized_refused : (n : ℕ) (a : Answer Bytes) {w : Result ℕ Refusal} {r : Refusal} → w ≡ written_answer a → w ≡ Err r
    → Err r ≡ sized n a
sized_refused n (done u) e f = cc
sized_refused n (refused q) e f = cc

-- What is written is the table's word
written-word : (lent : Bytes) (t : List Entry) (w : Bytes) → write_word_into lent t ≡ done w → w ≡ bytes_of (spell_entries t)
unfolding write_word_into read_table
written-word lent t w e = go (table_fault t) e
  where
    go : (o : Option Refusal) → lend lent (mapped (λ u. bytes_of (spell_entries u)) (answer o t)) ≡ done w → w ≡ bytes_of (spell_entries t)
    go none g = sym (answer_done (rule_19 lent (bytes_of (spell_entries t))) (bytes_of (spell_entries t)) w g).1
    go (some r) g = cc

some_instruction : (l : List Line) → 1 ≤ length (word l)
unfolding word
some_instruction l = omega arith

-- The table of a listing's word
module _ (lent : Bytes) (l : List Line) where
  pub listing_written : {r : Result Size Refusal} {out : Bytes} → Sized (length (word l)) (table_of (word l)) lent r out
      → Answers (written lent l) lent r out
  unfolding word_text spell
  listing_written {r} {out} s = go (write_word_into lent (table_of (word l))) refl
    where
      go : (a : Answer Bytes) → write_word_into lent (table_of (word l)) ≡ a → Answers (written lent l) lent r out
      go (done w) e =
          let whole : w ≡ word_text l = written-word lent (table_of (word l)) w e in
          (s.0 ∙ rw (e, whole), s.1 ∙ rw (e, whole))
      go (refused q) e = (s.0 ∙ rw e, s.1 ∙ rw e)

  -- from lists that have room for it
  pub filled_written : {count : ℕ} {k o k' o' : List ℕ} → count ≡ length (word l) → length (word l) ≤ most_entries
      → Tabled (table_of (word l)) 0 k o k' o' → length k ≡ most_entries → length o ≡ most_entries
      → {r : Result Size Refusal} {out : Bytes} → Sized count (zipped (take count k') (take count o')) lent r out
      → Answers (written lent l) lent r out
  filled_written {count} {k' = k'} {o'} e short t room_k room_o s =
      let size : count ≡ length (table_of (word l)) = e ∙ sym (length-map (word l) entry_of) in
      let back : zipped (take count k') (take count o') ≡ table_of (word l)
      = table-back (table_of (word l)) count size t (omega arith) (omega arith) in
      listing_written (rw (back, e) at s)

  -- No rule but 19 turns it down, where the listing is accepted
  pub listing_fits : ListingFits l → written lent l ≡ answer (rule_19 lent (word_text l)) l
  unfolding write_word_into read_table word_text spell
  listing_fits f =
      let good : table_fault (table_of (word l)) ≡ none
      = good_table _ (word_good (word l) (some_instruction l) f.few_symbols f.few_instructions f.operands_from_1) in
      rw good (go (rule_19 lent (word_text l)))
    where
      go : (o : Option Refusal) → mapped (λ w. l) (answer o (word_text l)) ≡ answer o l
      go none = refl
      go (some r) = refl

-- Lines as numbers, from what `fill` handed back

module _ (lent : Bytes) (list k o : List ℕ) {k' o' : List ℕ} {r : Result ℕ Refusal} (f : Fills list k o r k' o') where
  pub list_refused : {q : Refusal} → r ≡ Err q → Answers (after (read list) (written lent)) lent (Err q) lent
  unfolding lent_after
  list_refused {q} e = go (read list) f.0
    where
      go : (a : Answer (List Line)) → r ≡ counted a → Answers (after a (written lent)) lent (Err q) lent
      go (done l) g = absurd (let z : ◌≡◌ {A = ℕ} 0 1 = cc in omega arith)
      go (refused p) g = let same : q ≡ p = cc in (rw same, refl)

  -- A list that passes, with its table in the lists
  record Filled (count : ℕ) : Type 0 where
    listing : List Line
    is : read list ≡ done listing
    size : count ≡ length (word listing)
    table : Tabled (table_of (word listing)) 0 k o k' o'

  module _ {count : ℕ} (e : r ≡ Ok count) where
    filled : Filled count
    filled = go (read list) refl f.0 f.1 f.2
      where
        go : (a : Answer (List Line)) → read list ≡ a → r ≡ counted a → k' ≡ kinds_filled k a → o' ≡ operands_filled o a → Filled count
        go (done l) i g p q = record { listing = l; is = i; size = cc; table = record { kinds_put = p; operands_put = q } }
        go (refused q) i g p h = absurd (let z : ◌≡◌ {A = ℕ} 0 1 = cc in omega arith)

    module _ (room_k : length k ≡ most_entries) (room_o : length o ≡ most_entries) where
      pub list_room : (count ≤ length k') × (count ≤ length o')
      list_room =
          let short : _ = word_fits list filled.listing filled.is in
          let kinds : _ = tabled_kinds filled.table in
          let operands : _ = tabled_operands filled.table in
          (omega (arith, filled.size), omega (arith, filled.size))

      pub list_answered : {s : Result Size Refusal} {out : Bytes} → Sized count (zipped (take count k') (take count o')) lent s out
          → Answers (after (read list) (written lent)) lent s out
      list_answered a =
          let short : _ = word_fits list filled.listing filled.is in
          rw filled.is (filled_written lent filled.listing filled.size short filled.table room_k room_o a)

-- A text: rules 1 to 3, then its lines

module _ (lent t : Bytes) where
  -- An accepted listing's word is written as its definition says
  written_as_said : after (read_listing t) (written lent) ≡ translate_listing lent t
  unfolding translate_into
  written_as_said = go (read_listing t) refl
    where
      go : (a : Answer (List Line)) → read_listing t ≡ a → after a (written lent) ≡ after a (λ l. answer (rule_19 lent (word_text l)) l)
      go (done l) e = listing_fits lent l (listing_words_fit l (listings_read.accepted t l e).0)
      go (refused r) e = refl

  text_refused : (r : Refusal) → read_listing t ≡ refused r → Answers (translate_listing lent t) lent (Err r) lent
  unfolding translate_into lent_after
  text_refused r e = (rw e, rw e)

  pub refused_1 : most_bytes < length t → Answers (translate_listing lent t) lent (Err (record { number = 1; place = 0 })) lent
  unfolding read_listing text_fault rule_1
  refused_1 h = text_refused _ (rw (lt-leb (length t) most_bytes h))

  module _ (h : length t ≤ most_bytes) (lines : ℕ) (n : lines ≡ length (split_lines t)) where
    pub refused_2 : (eqb (length t) 0 || ends_in_LF t) ≡ false
        → Answers (translate_listing lent t) lent (Err (record { number = 2; place = lines })) lent
    unfolding read_listing text_fault rule_1 rule_2
    refused_2 e = text_refused _ (rw (le-leb (length t) most_bytes h, e, n))

    module _ (e : (eqb (length t) 0 || ends_in_LF t) ≡ true) where
      many : length (text_lines t) ≡ lines
      many = length-map (split_lines t) line ∙ sym n

      past_2 : read_listing t ≡ answer (listing_fault (text_lines t)) (present (text_lines t))
      unfolding read_listing text_fault rule_1 rule_2
      past_2 = rw (le-leb (length t) most_bytes h, e)

      pub refused_3 : most_lines < lines → Answers (translate_listing lent t) lent (Err (record { number = 3; place = 257 })) lent
      unfolding listing_fault rule_3
      refused_3 g = text_refused _ (past_2 ∙ rw (many, lt-leb lines most_lines g))

      module _ (few : lines ≤ most_lines) where
        past_3 : read_listing t ≡ read (list_of (text_lines t))
        past_3 = past_2 ∙ sym (numbers_read (text_lines t) (omega (arith, many)))

        pub text-answered : (list fresh : List ℕ) → length fresh ≡ 1024 → list ≡ starting (list_of (text_lines t)) fresh
            → {r : Result Size Refusal} {out : Bytes} → Answers (after (read (take (4 * lines) list)) (written lent)) lent r out
            → Answers (translate_listing lent t) lent r out
        text-answered list fresh room put a =
            let numbers : List ℕ = list_of (text_lines t) in
            let size : length numbers ≡ 4 * lines = list_length (text_lines t) ∙ rw many in
            let front : take (4 * lines) list ≡ numbers
            = rw (put, starting-whole numbers fresh (omega arith)) (take_at numbers (drop (length numbers) fresh) (4 * lines) size) in
            rw (← written_as_said, past_3, ← front) a
