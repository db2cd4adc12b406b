-- Words and tables: reading undoes writing, and writing undoes reading.
use mathlib.Core.Path.{◌≡◌, refl, sym, ap, ap₂, ◌∙◌}
use mathlib.Core.Logic.{◌≢◌}
use mathlib.Core.Bool.{Bool, true, false, not, ◌||◌}
use mathlib.Core.Option.{Option, none, some}
use mathlib.Core.List.{List, [], ◌∷◌, ◌++◌, map, append_assoc, append-nil}
use Prim.Native.Nat.{ℕ, zero, suc, ◌+◌, ◌≤◌}
use native.Mathlib.Omega.{arith}
use lib.ListN.{length, replicate, length-append, length-map, length-replicate}
use lib.Dec.{eqb, leb, ltb, eqb-suc-zero}
use borrow.Author.Tests.{eqb-true, eqb-false, leb-true, le-leb, ltb-false, le-ltb, ne_eqb, not-false}
use Rattle.theory.specs.Limits
use Rattle.theory.specs.Basics.{given, or_else, EachOf}
use Rattle.theory.specs.Text.{Bytes}
use Rattle.theory.specs.Word.{Symbol, one, hash, byte_of, is_symbol, symbol_of, Instruction, append, forward, backward, cases}
use Rattle.theory.specs.Word.{operand, Entry, entry_of, table_of, instruction_of, spell_entries, bytes_of}
use Rattle.theory.specs.Word.{one_before, hash_before, entries}
use Rattle.theory.specs.Machines.{is_limited}
use Rattle.theory.specs.TurnedDown.{done, first_failing, entry_size, total}
use Rattle.theory.specs.TurnedDown.{next_byte, next_entry, first_along, entry_fault, bad_entry}
use Rattle.theory.specs.TurnedDown.{rule_11, rule_12, rule_13, rule_14, word_entries, word_fault, read_word, instructions}
use Rattle.theory.specs.TurnedDown.{table_rule_11, table_fault, read_table}
use Rattle.theory.specs.Claims.{WordRoundTrip, TableRoundTrip}
use Rattle.theory.specs.declared.Refusal.{Refusal}
use Rattle.theory.proofs.Faults.{none_first, none_second, neither, given_none, answer_done, unless_none, none_refused}
use Rattle.theory.proofs.Faults.{and_first, and_second, or_first, or_second}

-- Bytes and symbols

pub symbols_of-bytes : (s : List Symbol) → map symbol_of (bytes_of s) ≡ s
symbols_of-bytes [] = refl
symbols_of-bytes (one ∷ s) = ap {B = List Symbol} (λ l. one ∷ l) (symbols_of-bytes s)
symbols_of-bytes (hash ∷ s) = ap {B = List Symbol} (λ l. hash ∷ l) (symbols_of-bytes s)

pub byte_of_symbol : (b : ℕ) → is_symbol b ≡ true → byte_of (symbol_of b) ≡ b
byte_of_symbol b h = go (eqb b 49) refl
  where
    go : (t : Bool) → eqb b 49 ≡ t → byte_of (symbol_of b) ≡ b
    go true e = rw e (sym (eqb-true b 49 e))
    go false e = rw e (sym (eqb-true b 35 (rw e at h)))

pub one_is_symbol : (b : ℕ) → b ≡ 49 → is_symbol b ≡ true
one_is_symbol b h = rw h

-- Rule 12 turns nothing down exactly where all bytes are symbols
pub bytes_of-symbols : (n : ℕ) (w : Bytes) → first_failing is_symbol n w ≡ none → bytes_of (map symbol_of w) ≡ w
unfolding first_failing
bytes_of-symbols n [] h = refl
bytes_of-symbols n (b ∷ w) h = go (is_symbol b) refl (bytes_of-symbols (suc n) w)
  where
    go : (t : Bool) → is_symbol b ≡ t → (first_failing is_symbol (suc n) w ≡ none → bytes_of (map symbol_of w) ≡ w)
        → bytes_of (map symbol_of (b ∷ w)) ≡ b ∷ w
    go true e rest = ap₂ {C = List ℕ} ◌∷◌ (byte_of_symbol b e) (rest (rw e at h))
    go false e rest = let x : none ≡ some n = sym (rw e at h) in cc

pub bytes_are_symbols : (n : ℕ) (s : List Symbol) → first_failing is_symbol n (bytes_of s) ≡ none
unfolding first_failing
bytes_are_symbols n [] = refl
bytes_are_symbols n (one ∷ s) = bytes_are_symbols (suc n) s
bytes_are_symbols n (hash ∷ s) = bytes_are_symbols (suc n) s

-- Entries of symbols

abbrev pub entry : ℕ → ℕ → Entry
entry n k = record { kind = k; operand = n }

-- The symbols are none, or begin with `1`: here an entry ends
abbrev pub Apart : List Symbol → Type 0
Apart [] = Unit {0}
Apart (one ∷ s) = Unit {0}
Apart (hash ∷ s) = ⊥

one_before_apart : (t : List Entry) → hash_before (one_before t) ≡ entry 0 1 ∷ one_before t
one_before_apart [] = refl
one_before_apart (e ∷ t) = rw (eqb-suc-zero e.operand)

hash_apart : (s : List Symbol) → Apart s → hash_before (entries s) ≡ entry 0 1 ∷ entries s
unfolding entries
hash_apart [] a = refl
hash_apart (one ∷ s) a = one_before_apart (entries s)
hash_apart (hash ∷ s) a = absurd a

hashes : (k : ℕ) (s : List Symbol) → Apart s → entries (replicate (suc k) hash ++ s) ≡ entry 0 (suc k) ∷ entries s
unfolding entries
hashes zero s a = hash_apart s a
hashes (suc k) s a = ap {B = List Entry} hash_before (hashes k s a)

-- `1`s join the entry behind them
ones : (n k : ℕ) (s : List Symbol) (t : List Entry) → entries s ≡ entry 0 k ∷ t → entries (replicate n one ++ s) ≡ entry n k ∷ t
unfolding entries
ones zero k s t h = h
ones (suc n) k s t h = ap {B = List Entry} one_before (ones n k s t h)

-- `1`s and then `#`s are one entry in front of the others. Without `1`s too, which only the first entry of some symbols can be
pub entries-first : (n k : ℕ) (s : List Symbol) → 1 ≤ k → Apart s
    → entries (replicate n one ++ (replicate k hash ++ s)) ≡ entry n k ∷ entries s
entries-first n zero s h a = absurd (omega arith)
entries-first n (suc k) s h a = ones n (suc k) (replicate (suc k) hash ++ s) (entries s) (hashes k s a)

-- Entries spelled again

spell_one : (t : List Entry) → spell_entries (one_before t) ≡ one ∷ spell_entries t
unfolding spell_entries
spell_one [] = refl
spell_one (e ∷ t) = refl

spell_hash : (t : List Entry) → spell_entries (hash_before t) ≡ hash ∷ spell_entries t
unfolding spell_entries
spell_hash [] = refl
spell_hash (e ∷ t) = go (eqb e.operand 0) refl
  where
    go : (b : Bool) → eqb e.operand 0 ≡ b → spell_entries (hash_before (e ∷ t)) ≡ hash ∷ spell_entries (e ∷ t)
    go true h = rw (h, eqb-true e.operand 0 h)
    go false h = rw h

pub spell_of_entries : (s : List Symbol) → spell_entries (entries s) ≡ s
unfolding entries spell_entries
spell_of_entries [] = refl
spell_of_entries (one ∷ s) = spell_one (entries s) ∙ ap {B = List Symbol} (λ l. one ∷ l) (spell_of_entries s)
spell_of_entries (hash ∷ s) = spell_hash (entries s) ∙ ap {B = List Symbol} (λ l. hash ∷ l) (spell_of_entries s)

-- As many symbols as kinds and operands sum to
pub total-length : (t : List Entry) → length (spell_entries t) ≡ total t
unfolding spell_entries
total-length [] = refl
total-length (e ∷ t) =
    let r : length (spell_entries t) ≡ total t = total-length t in
    simp (length-append, length-replicate) (omega arith)

-- Entries that can be instructions

-- "n ones (n at least 1) and then 1 to 5 #"
pub record Formed (e : Entry) : Type 0 where
  pub operand : 1 ≤ e.operand
  pub kind : 1 ≤ e.kind
  pub at_most : e.kind ≤ 5

spelled_apart : (t : List Entry) (s : List Symbol) → EachOf Formed t → Apart s → Apart (spell_entries t ++ s)
unfolding spell_entries
spelled_apart [] s f a = a
spelled_apart (e ∷ t) s f a = go e.operand f.0.operand
  where
    go : (n : ℕ) → 1 ≤ n → Apart ((replicate n one ++ (replicate e.kind hash ++ spell_entries t)) ++ s)
    go zero h = absurd (omega arith)
    go (suc n) h = tt

-- The entries of entries spelled, with other symbols behind them
pub entries-append : (t : List Entry) (s : List Symbol) → EachOf Formed t → Apart s → entries (spell_entries t ++ s) ≡ t ++ entries s
unfolding spell_entries
entries-append [] s f a = refl
entries-append (e ∷ t) s f a =
    let n : List Symbol = replicate e.operand one in
    let k : List Symbol = replicate e.kind hash in
    let r : List Symbol = spell_entries t ++ s in
    let apart : (n ++ (k ++ spell_entries t)) ++ s ≡ n ++ (k ++ r) = simp append_assoc in
    let ends : Apart r = spelled_apart t s f.1 a in
    let first : entries (n ++ (k ++ r)) ≡ e ∷ entries r = entries-first e.operand e.kind r f.0.kind ends in
    ap entries apart ∙ first ∙ ap {B = List Entry} (λ l. e ∷ l) (entries-append t s f.1 a)

pub entries_of-spell : (t : List Entry) → EachOf Formed t → entries (spell_entries t) ≡ t
unfolding entries
entries_of-spell t f =
    let h : entries (spell_entries t ++ []) ≡ t ++ [] = entries-append t [] f tt in
    rw (append-nil (spell_entries t), append-nil t) at h

-- What rule 13 says of entries, in a word and in a table

not_zero : (n : ℕ) → eqb n 0 ≡ false → 1 ≤ n
not_zero n h = let x : n ≢ 0 = eqb-false n 0 h in omega arith

positive : (n : ℕ) → 1 ≤ n → eqb n 0 ≡ false
positive n h = ne_eqb n 0 (λ e. omega arith)

entry-formed : (n : ℕ) (e : Entry) → entry_fault n e ≡ none → Formed e
entry-formed n e h =
    let no_1 : Option ℕ = given (eqb e.operand 0) n in
    let sixth : Option ℕ = given (ltb 5 e.kind) (n + e.operand + 5) in
    let no-# : Option ℕ = given (eqb e.kind 0) (n + e.operand) in
    let kinds : or_else sixth no-# ≡ none = none_second no_1 (or_else sixth no-#) h in
    record {
      operand = not_zero e.operand (given_none (eqb e.operand 0) n (none_first no_1 (or_else sixth no-#) h));
      kind = not_zero e.kind (given_none (eqb e.kind 0) (n + e.operand) (none_second sixth no-# kinds));
      at_most = ltb-false 5 e.kind (given_none (ltb 5 e.kind) (n + e.operand + 5) (none_first sixth no-# kinds));
    }

formed-entry : (n : ℕ) (e : Entry) → Formed e → entry_fault n e ≡ none
formed-entry n e f =
    rw (positive e.operand f.operand, le-ltb 5 e.kind f.at_most, positive e.kind f.kind)

pub formed_of_word : (n : ℕ) (t : List Entry) → first_along next_byte entry_fault n t ≡ none → EachOf Formed t
unfolding first_along
formed_of_word n [] h = tt
formed_of_word n (e ∷ t) h =
    let rest : Option ℕ = first_along next_byte entry_fault (n + entry_size e) t in
    (entry-formed n e (none_first (entry_fault n e) rest h), formed_of_word (n + entry_size e) t (none_second (entry_fault n e) rest h))

pub word_of-formed : (n : ℕ) (t : List Entry) → EachOf Formed t → first_along next_byte entry_fault n t ≡ none
unfolding first_along
word_of-formed n [] f = refl
word_of-formed n (e ∷ t) f = neither (entry_fault n e) _ (formed-entry n e f.0) (word_of-formed (n + entry_size e) t f.1)

good_formed : (n : ℕ) (e : Entry) → bad_entry n e ≡ none → Formed e
good_formed n e h =
    let good : (not (is_limited 5 e.kind) || eqb e.operand 0) ≡ false = given_none _ n h in
    let kinds : is_limited 5 e.kind ≡ true = not-false (is_limited 5 e.kind) (or_first (not (is_limited 5 e.kind)) _ good) in
    record {
      operand = not_zero e.operand (or_second (not (is_limited 5 e.kind)) (eqb e.operand 0) good);
      kind = leb-true 1 e.kind (and_first (leb 1 e.kind) _ kinds);
      at_most = leb-true e.kind 5 (and_second (leb 1 e.kind) _ kinds);
    }

formed_good : (n : ℕ) (e : Entry) → Formed e → bad_entry n e ≡ none
formed_good n e f = rw (le-leb 1 e.kind f.kind, le-leb e.kind 5 f.at_most, positive e.operand f.operand)

pub formed_of_table : (n : ℕ) (t : List Entry) → first_along next_entry bad_entry n t ≡ none → EachOf Formed t
unfolding first_along
formed_of_table n [] h = tt
formed_of_table n (e ∷ t) h =
    let rest : Option ℕ = first_along next_entry bad_entry (suc n) t in
    (good_formed n e (none_first (bad_entry n e) rest h), formed_of_table (suc n) t (none_second (bad_entry n e) rest h))

pub table_of-formed : (n : ℕ) (t : List Entry) → EachOf Formed t → first_along next_entry bad_entry n t ≡ none
unfolding first_along
table_of-formed n [] f = refl
table_of-formed n (e ∷ t) f = neither (bad_entry n e) _ (formed_good n e f.0) (table_of-formed (suc n) t f.1)

pub total-append : (t u : List Entry) → total (t ++ u) ≡ total t + total u
total-append [] u = omega arith
total-append (e ∷ t) u = omega (arith, total-append t u)

-- What no rule of words, or of tables, turning something down comes to

pub record GoodTable (t : List Entry) : Type 0 where
  pub some : 1 ≤ length t
  pub symbols : total t ≤ Limits.most_symbols
  pub formed : EachOf Formed t
  pub instructions : length t ≤ Limits.most_instructions

pub table_good : (t : List Entry) → table_fault t ≡ none → GoodTable t
unfolding table_fault table_rule_11 rule_13 rule_14
table_good t h =
    let sizes : _ = unless_none _ 11 0 (none_first (table_rule_11 t) _ h) in
    let formed : Option Refusal = rule_13 next_entry bad_entry t in
    let few : Option Refusal = rule_14 Limits.most_instructions t in
    let rest : or_else formed few ≡ none = none_second (table_rule_11 t) _ h in
    let count : _ = unless_none _ 14 Limits.most_instructions (none_second formed few rest) in
    record {
      some = leb-true 1 (length t) (and_first (leb 1 (length t)) _ sizes);
      symbols = leb-true (total t) Limits.most_symbols (and_second (leb 1 (length t)) _ sizes);
      formed = formed_of_table 0 t (none_refused _ 13 (none_first formed few rest));
      instructions = leb-true (length t) Limits.most_instructions count;
    }

pub good_table : (t : List Entry) → GoodTable t → table_fault t ≡ none
unfolding table_fault table_rule_11 rule_13 rule_14
good_table t g =
    rw (
      le-leb 1 (length t) g.some,
      le-leb (total t) Limits.most_symbols g.symbols,
      table_of-formed 0 t g.formed,
      le-leb (length t) Limits.most_instructions g.instructions,
    )

-- The round trips

total_some : (t : List Entry) → EachOf Formed t → 1 ≤ length t → 1 ≤ total t
total_some [] f h = h
total_some (e ∷ t) f h = let x : 1 ≤ e.operand = f.0.operand in omega arith

-- A word that is spelled has the entries that it is spelled from
pub entries_of-word : (t : List Entry) → EachOf Formed t → word_entries (bytes_of (spell_entries t)) ≡ t
entries_of-word t f = ap entries (symbols_of-bytes (spell_entries t)) ∙ entries_of-spell t f

pub word-length : (t : List Entry) → length (bytes_of (spell_entries t)) ≡ total t
word-length t = length-map (spell_entries t) byte_of ∙ total-length t

-- A table that its rules don't turn down is a word that its rules don't turn down
pub word_accepted : (t : List Entry) → GoodTable t → word_fault (bytes_of (spell_entries t)) ≡ none
unfolding word_fault rule_11 rule_12 rule_13 rule_14
word_accepted t g =
    rw (
      word-length t,
      le-leb 1 (total t) (total_some t g.formed g.some),
      le-leb (total t) Limits.most_symbols g.symbols,
      bytes_are_symbols 0 (spell_entries t),
      entries_of-word t g.formed,
      word_of-formed 0 t g.formed,
      le-leb (length t) Limits.most_instructions g.instructions,
    )

pub word_round_trip : WordRoundTrip
unfolding read_word word_fault rule_12
word_round_trip = (read, written)
  where
    read : (t : List Entry) → table_fault t ≡ none → read_word (bytes_of (spell_entries t)) ≡ done t
    read t h = let g : GoodTable t = table_good t h in rw (word_accepted t g, entries_of-word t g.formed)

    written : (w : Bytes) (t : List Entry) → read_word w ≡ done t → bytes_of (spell_entries t) ≡ w
    written w t h =
        let a : _ = answer_done (word_fault w) (word_entries w) t h in
        let symbols : rule_12 w ≡ none = none_first (rule_12 w) _ (none_second (rule_11 w) _ a.0) in
        let spelled : spell_entries t ≡ map symbol_of w = ap spell_entries (sym a.1) ∙ spell_of_entries (map symbol_of w) in
        ap bytes_of spelled ∙ bytes_of-symbols 0 w (none_refused _ 12 symbols)

-- An instruction of its entry, and the entry of an instruction

pub instruction_of-entry : (i : Instruction) → 1 ≤ operand i → instruction_of (entry_of i) ≡ some i
unfolding instruction_of
instruction_of-entry (append one n) h = rw (positive n h)
instruction_of-entry (append hash n) h = rw (positive n h)
instruction_of-entry (forward n) h = rw (positive n h)
instruction_of-entry (backward n) h = rw (positive n h)
instruction_of-entry (cases n) h = rw (positive n h)

pub instructions_of_table : (w : List Instruction) → EachOf (λ i. 1 ≤ operand i) w → instructions (table_of w) ≡ w
instructions_of_table [] h = refl
instructions_of_table (i ∷ w) h =
    rw (instruction_of-entry i h.0) (ap {B = List Instruction} (λ l. i ∷ l) (instructions_of_table w h.1))

pub formed_of_instructions : (w : List Instruction) → EachOf (λ i. 1 ≤ operand i) w → EachOf Formed (table_of w)
formed_of_instructions [] h = tt
formed_of_instructions (i ∷ w) h = (formed i h.0, formed_of_instructions w h.1)
  where
    formed : (i : Instruction) → 1 ≤ operand i → Formed (entry_of i)
    formed (append one n) h = record { operand = h; kind = omega arith; at_most = omega arith }
    formed (append hash n) h = record { operand = h; kind = omega arith; at_most = omega arith }
    formed (forward n) h = record { operand = h; kind = omega arith; at_most = omega arith }
    formed (backward n) h = record { operand = h; kind = omega arith; at_most = omega arith }
    formed (cases n) h = record { operand = h; kind = omega arith; at_most = omega arith }

-- The instruction of an entry that can be one
pub instruction_formed : (e : Entry) → Formed e → (i : Instruction) × (instruction_of e ≡ some i) × (entry_of i ≡ e)
unfolding instruction_of
instruction_formed e f = go e.kind refl f.kind f.at_most
  where
    go : (k : ℕ) → e.kind ≡ k → 1 ≤ k → k ≤ 5 → (i : Instruction) × (instruction_of e ≡ some i) × (entry_of i ≡ e)
    go zero h l m = absurd (omega arith)
    go (suc zero) h l m = (append one e.operand, rw (positive e.operand f.operand, h), rw h)
    go (suc (suc zero)) h l m = (append hash e.operand, rw (positive e.operand f.operand, h), rw h)
    go (suc (suc (suc zero))) h l m = (forward e.operand, rw (positive e.operand f.operand, h), rw h)
    go (suc (suc (suc (suc zero)))) h l m = (backward e.operand, rw (positive e.operand f.operand, h), rw h)
    go (suc (suc (suc (suc (suc zero))))) h l m = (cases e.operand, rw (positive e.operand f.operand, h), rw h)
    go (suc (suc (suc (suc (suc (suc k)))))) h l m = absurd (omega arith)

pub table_of-instructions : (t : List Entry) → EachOf Formed t → table_of (instructions t) ≡ t
table_of-instructions [] f = refl
table_of-instructions (e ∷ t) f =
    let i : _ = instruction_formed e f.0 in
    rw i.1 (ap₂ {C = List Entry} ◌∷◌ i.2 (table_of-instructions t f.1))

pub table_round_trip : TableRoundTrip
unfolding read_table
table_round_trip = (instructions_of_table, λ t t' h. table_of-instructions t (table_good t (answer_done (table_fault t) t t' h).0).formed)
