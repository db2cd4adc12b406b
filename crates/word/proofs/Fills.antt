-- A lent list that is filled from a table, entry by entry, as a reader of a word that no rule turns down goes along.
use mathlib.Core.Path.{◌≡◌, sym, ap₂, ◌∙◌}
use mathlib.Core.Logic.{⊎_elim}
use mathlib.Core.Option.{none}
use mathlib.Core.List.{List, ◌∷◌, map}
use Prim.Native.Nat.{ℕ, suc, ◌+◌, ◌≤◌, ◌<◌}
use native.Mathlib.Numerals.{add-one}
use native.Mathlib.Omega.{arith}
use lib.ListN.{length, drop, get_or, set, length-map, get_or-map}
use lib.Seq.{drop-cons, paste, paste-zero, paste-suc, length-paste, take_all}
use lib.Dec.{leb}
use borrow.Author.Tests.{leb-true}
use Rattle.theory.specs.TurnedDown.{entries_fault}
use Rattle.theory.specs.TurnedDown.{next_byte}
use Rattle.theory.specs.Limits
use Rattle.theory.specs.Word.{Entry, is_symbol}
use Rattle.theory.specs.TurnedDown.{word_entries, word_fault, rule_11, rule_12, rule_13, entry_fault, first_along}
use Rattle.theory.specs.TurnedDown.{done, lent_after}
use Rattle.theory.proofs.Faults.{none_first, none_second, unless_none, none_refused, and_second}
use Rattle.theory.proofs.Words.{entry, Formed, formed_of_word}
pub use Rattle.counting.proofs.Flags.{lt_or_le}
use Rattle.counting.proofs.Runs.{none_failing}
use Rattle.word.specs.Scan.{Readable, symbols, item_at, ones_at, hashes_at}
use Rattle.word.proofs.Items.{ones-within}
use Rattle.word.proofs.Along.{Along, along_end, entry_here, item-next, kind_of_some}

-- A list of which the first i elements come from another

abbrev pub put_first : {A : Type 0} → (Entry → A) → List A → List Entry → ℕ → List A
put_first f lent t i = paste lent 0 (map f t) i

module _ {A : Type 0} (f : Entry → A) (lent : List A) (t : List Entry) where
  pub put_none : lent ≡ put_first f lent t 0
  put_none = paste-zero lent 0 (map f t)

  pub put-length : (i : ℕ) → i ≤ length lent → i ≤ length t → length (put_first f lent t i) ≡ length lent
  put-length i h g = length-paste lent 0 (map f t) i (omega arith) (omega (arith, length-map t f))

  pub put_next : (i : ℕ) (x : A) → i < length lent → i < length t → x ≡ f (get_or t i (entry 0 0))
      → set (put_first f lent t i) i x ≡ put_first f lent t (i + 1)
  put_next i x h g e =
      let z : i ≡ 0 + i = omega arith in
      let here : x ≡ get_or (map f t) i (f (entry 0 0)) = e ∙ sym (get_or-map f t i (entry 0 0)) in
      rw (add-one i)
      (ap₂ (λ (k : ℕ) (y : A). set (put_first f lent t i) k y) z here
      ∙ paste-suc lent 0 (map f t) i (f (entry 0 0)) (omega arith) (omega (arith, length-map t f)))

  pub put_all : (i : ℕ) → i ≡ length t → put_first f lent t i ≡ lent_after lent (done (map f t))
  unfolding lent_after
  put_all i e =
      let n : i ≡ length (map f t) = e ∙ sym (length-map t f) in
      let z : 0 + i ≡ i = omega arith in
      rw (z, n, take_all (length (map f t)) (map f t) (omega arith))

-- A word that no rule turns down

module _ (w : List ℕ) (fine : word_fault w ≡ none) where
  passed_12 : rule_12 w ≡ none
  unfolding word_fault
  passed_12 = none_first (rule_12 w) _ (none_second (rule_11 w) _ fine)

  pub passed_13 : first_along next_byte entry_fault 0 (word_entries w) ≡ none
  unfolding word_fault rule_13
  passed_13 =
      let rest : entries_fault (word_entries w) ≡ none = none_second (rule_12 w) _ (none_second (rule_11
      w) _ fine) in
      none_refused _ 13 (none_first (rule_13 next_byte entry_fault (word_entries w)) _ rest)

  known : symbols w ≡ length w
  unfolding rule_12
  known = none_failing is_symbol 0 w (none_refused _ 12 passed_12)

  pub readable : Readable w
  unfolding word_fault rule_11
  readable = record {
    known = known;
    short = leb-true (length w) Limits.most_symbols (and_second (leb 1 (length w)) _ (unless_none _ 11 0 (none_first (rule_11 w) _
        fine)));
  }

  module _ (at count : ℕ) (a : Along w at count) (h : count < length (word_entries w)) where
    pub before_end : at < length w
    before_end = ⊎_elim (λ l. l) (λ l. absurd (omega (arith, (along_end w at count a l).0))) (lt_or_le at (length w))

    -- The entry that starts here, and what `item_at` hands back of it
    abbrev here : Entry
    here = get_or (word_entries w) count (entry 0 0)

    is_here : here ≡ entry (ones_at w at) (hashes_at w at)
    is_here = entry_here w known at count a before_end (entry 0 0)

    formed : Formed here
    formed =
        let left : drop count (word_entries w) ≡ here ∷ drop (suc count) (word_entries w) = drop-cons (word_entries w) count (entry 0 0)
        h in
        (rw left at (formed_of_word at (drop count (word_entries w)) (a.clean ∙ passed_13))).0

    pub item-kind : (item_at w at).kind ≡ here.kind
    unfolding item_at
    item-kind = let f : Formed (entry (ones_at w at) (hashes_at w at)) = rw is_here at formed in rw is_here (kind_of_some (hashes_at w
        at) f.kind f.at_most)

    pub item-operand : (item_at w at).operand ≡ here.operand
    unfolding item_at
    item-operand = rw is_here (omega (arith, ones-within w at a.reached, readable.short))

    pub item-along : Along w (item_at w at).next (count + 1)
    item-along =
        item-next w known at count a before_end
        (λ z. omega (arith, item-operand, formed.operand))
        (λ z. omega (arith, item-kind, formed.kind))
