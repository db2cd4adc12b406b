-- A reader's way along a word, from entry to entry: what it has passed, what is left, and what rules 13 and 14 say where it stops.
use Rattle.std.specs.Prelude.{Ok, Err}
use mathlib.Core.Path.{◌≡◌, refl, sym, ap, ap₂, ◌∙◌}
use mathlib.Core.Logic.{◌⊎◌, inl, inr, ⊎_elim}
use mathlib.Core.Bool.{Bool, true, false}
use mathlib.Core.Option.{Option, none, some}
use mathlib.Core.List.{List, [], ◌∷◌, ◌++◌}
use Prim.Native.Nat.{ℕ, zero, suc, ◌+◌, ◌≤◌, ◌<◌, min, zero-le}
use native.Mathlib.Numerals.{add-one}
use native.Mathlib.Omega.{arith}
use lib.ListN.{length, take, drop, get_or, length-drop, drop_of_length-le}
use lib.Seq.{drop-cons, take-suc}
use lib.Dec.{eqb, leb}
use borrow.Author.Tests.{eq-eqb, ne_eqb, eqb-false, le-leb, lt-leb, leb-true, leb-false, lt-ltb, le-ltb}
use Rattle.theory.specs.Limits
use Rattle.theory.specs.Word.{Entry, entries}
use Rattle.theory.specs.TurnedDown.{word_entries, entry_fault, entry_size, first_along, total, rule_13, rule_14, next_byte}
use Rattle.theory.proofs.Words.{entry, total-append}
use Rattle.word.specs.Scan.{kind_number, widest, item, item_at, ones_at, hashes_at, fault_place, scan_answer}
use Rattle.counting.proofs.Symbols.{Known}
use Rattle.word.proofs.Items.{entries_at, ones-within, next-within}

-- The entries before the place `at` are `count`, and have no fault of rule 13
pub record Along (w : List ℕ) (at count : ℕ) : Type 0 where
  pub reached : at ≤ length w
  pub passed : count ≤ length (word_entries w)
  pub start : at ≡ total (take count (word_entries w))
  pub rest : word_entries (drop at w) ≡ drop count (word_entries w)
  pub clean : first_along next_byte entry_fault at (drop count (word_entries w)) ≡ first_along next_byte entry_fault 0 (word_entries w)

pub along-start : (w : List ℕ) → Along w 0 0
along-start w = record { reached = zero-le; passed = zero-le; start = refl; rest = refl; clean = refl }

-- Kinds and faults

pub kind_of_none : (k : ℕ) → kind_number k ≡ 0 → (k ≡ 0) ⊎ (5 < k)
unfolding kind_number
kind_of_none zero h = inl refl
kind_of_none (suc k) h = go (leb (suc k) 5) refl
  where
    go : (t : Bool) → leb (suc k) 5 ≡ t → (suc k ≡ 0) ⊎ (5 < suc k)
    go true e = absurd (omega (arith, rw (le-leb 1 (suc k) (omega arith), e) at h))
    go false e = inr (leb-false (suc k) 5 e)

pub kind_of_some : (k : ℕ) → 1 ≤ k → k ≤ 5 → kind_number k ≡ k
unfolding kind_number
kind_of_some k l m = rw (le-leb 1 k l, le-leb k 5 m)

kind_in : (k : ℕ) → (kind_number k ≡ 0 → ⊥) → (1 ≤ k) × (k ≤ 5)
unfolding kind_number
kind_in zero h = absurd (h refl)
kind_in (suc k) h = go (leb (suc k) 5) refl
  where
    go : (t : Bool) → leb (suc k) 5 ≡ t → (1 ≤ suc k) × (suc k ≤ 5)
    go true e = (omega arith, leb-true (suc k) 5 e)
    go false e = absurd (h (rw (le-leb 1 (suc k) (omega arith), e)))

module _ (at n k : ℕ) where
  fault_none : (n ≡ 0 → ⊥) → (kind_number k ≡ 0 → ⊥) → entry_fault at (entry n k) ≡ none
  fault_none h g =
      let b : (1 ≤ k) × (k ≤ 5) = kind_in k g in
      rw (ne_eqb n 0 h, le-ltb 5 k b.1, ne_eqb k 0 (λ e. omega arith))

  fault_some : n ≤ widest → (n ≡ 0) ⊎ (kind_number k ≡ 0) → entry_fault at (entry n k) ≡ some (fault_place at (item at n k))
  unfolding fault_place
  fault_some small h = go (eqb n 0) refl h
    where
      kept : min n widest ≡ n
      kept = omega (arith, small)

      go : (t : Bool) → eqb n 0 ≡ t → (n ≡ 0) ⊎ (kind_number k ≡ 0) → entry_fault at (entry n k) ≡ some (fault_place at (item at n k))
      go true e h = rw (kept, e)
      go false e (inl z) = absurd (eqb-false n 0 e z)
      go false e (inr z) =
          ⊎_elim
          (λ q. rw (kept, e, eq-eqb (at + n + k) (at + n) (omega arith), eq-eqb k 0 q, le-ltb 5 k (omega arith)))
          (λ q. rw (kept, e, ne_eqb (at + n + k) (at + n) (λ x. omega arith), lt-ltb 5 k q))
          (kind_of_none k z)

-- One entry further

module _ (f : ℕ → Entry → Option ℕ) (at : ℕ) (e : Entry) (t : List Entry) where
  along_past : f at e ≡ none → first_along next_byte f at (e ∷ t) ≡ first_along next_byte f (at + entry_size e) t
  unfolding first_along
  along_past h = rw h

  along_here : (place : ℕ) → f at e ≡ some place → first_along next_byte f at (e ∷ t) ≡ some place
  unfolding first_along
  along_here place h = rw h

module _ (w : List ℕ) (known : Known w) (at count : ℕ) (a : Along w at count) (h : at < length w) where
  abbrev t : List Entry
  t = word_entries w

  abbrev n : ℕ
  n = ones_at w at

  abbrev k : ℕ
  k = hashes_at w at

  left : drop count t ≡ entry n k ∷ word_entries (drop (at + n + k) w)
  left = sym a.rest ∙ entries_at w known at h

  pub entry_left : count < length t
  entry_left = omega (arith, length-drop count t, ap length left)

  pub entry_here : (d : Entry) → get_or t count d ≡ entry n k
  entry_here d = let c : drop count t ≡ get_or t count d ∷ drop (suc count) t = drop-cons t count d entry_left in cc left

  behind : word_entries (drop (at + n + k) w) ≡ drop (suc count) t
  behind = let c : _ = drop-cons t count (entry 0 0) entry_left in cc left

  clean_next : entry_fault at (entry n k) ≡ none
      → first_along next_byte entry_fault (at + n + k) (drop (suc count) t) ≡ first_along next_byte entry_fault 0 t
  clean_next f =
      let place : at + n + k ≡ at + (n + k) = omega arith in
      ap₂ (λ (m : ℕ) (l : List Entry). first_along next_byte entry_fault m l) place (sym behind)
      ∙ sym (along_past entry_fault at (entry n k) (word_entries (drop (at + n + k) w)) f)
      ∙ ap (λ (l : List Entry). first_along next_byte entry_fault at l) (sym left)
      ∙ a.clean

  pub along-next : entry_fault at (entry n k) ≡ none → Along w (at + n + k) (count + 1)
  along-next f =
      let taken : take (suc count) t ≡ take count t ++ (get_or t count (entry 0 0) ∷ []) = take-suc t count (entry 0 0) entry_left in
      let size : total (take (suc count) t) ≡ at + n + k =
      rw (taken, total-append (take count t) (get_or t count (entry 0 0) ∷ []), entry_here (entry 0 0)) (omega (arith, a.start)) in
      rw (add-one count) record {
        reached = next-within w at a.reached;
        passed = entry_left;
        start = sym size;
        rest = behind;
        clean = clean_next f;
      }

  -- Rule 13 turns the word down at an entry that has a fault
  pub fault_here : (place : ℕ) → entry_fault at (entry n k) ≡ some place → first_along next_byte entry_fault 0 t ≡ some place
  fault_here place f =
      sym a.clean
      ∙ ap (λ (l : List Entry). first_along next_byte entry_fault at l) left
      ∙ along_here entry_fault at (entry n k) (word_entries (drop (at + n + k) w)) place f

-- What `item_at` hands back where a reader stands
module _ (w : List ℕ) (known : Known w) (at count : ℕ) (a : Along w at count) (h : at < length w) where
  pub item-next : ((item_at w at).operand ≡ 0 → ⊥) → ((item_at w at).kind ≡ 0 → ⊥) → Along w (item_at w at).next (count + 1)
  unfolding item_at
  item-next g f = along-next w known at count a h (fault_none at (ones_at w at) (hashes_at w at) (λ z. g (omega (arith, z))) f)

  pub item_fault : length w ≤ Limits.most_symbols → ((item_at w at).operand ≡ 0) ⊎ ((item_at w at).kind ≡ 0)
      → Err (record { number = 13; place = fault_place at (item_at w at) }) ≡ scan_answer w
  unfolding item_at scan_answer rule_13
  item_fault short g =
      let n : ℕ = ones_at w at in
      let k : ℕ = hashes_at w at in
      let place : ℕ = fault_place at (item at n k) in
      let small : n ≤ widest = omega (arith, ones-within w at a.reached, short) in
      rw (fault_here w known at count a h place (fault_some at n k small (⊎_elim (λ z. inl (omega (arith, z))) inr g)))

-- At the word's end every entry is passed
pub along_end : (w : List ℕ) (at count : ℕ) → Along w at count → length w ≤ at
    → (count ≡ length (word_entries w)) × (first_along next_byte entry_fault 0 (word_entries w) ≡ none)
unfolding first_along entries
along_end w at count a h =
    let none_left : drop count (word_entries w) ≡ [] = sym a.rest ∙ ap word_entries (drop_of_length-le w h) in
    let all : length (drop count (word_entries w)) ≡ 0 = ap length none_left in (
      omega (arith, length-drop count (word_entries w), a.passed),
      sym a.clean ∙ ap (λ (l : List Entry). first_along next_byte entry_fault at l) none_left,
    )

-- Rule 14: the answer, with the start of the first instruction too many
pub scan_count : (w : List ℕ) (count : ℕ) → count ≡ length (word_entries w) → first_along next_byte entry_fault 0 (word_entries w) ≡ none
    → count ≤ Limits.most_instructions → Ok count ≡ scan_answer w
unfolding scan_answer rule_13 rule_14
scan_count w count e f h = rw (f, le-leb (length (word_entries w)) Limits.most_instructions (omega arith)) (ap Ok e)

pub scan_many : (w : List ℕ) (count extra : ℕ) → count ≡ length (word_entries w)
    → first_along next_byte entry_fault 0 (word_entries w) ≡ none
    → Limits.most_instructions < count → extra ≡ total (take Limits.most_instructions (word_entries w))
    → Err (record { number = 14; place = extra }) ≡ scan_answer w
unfolding scan_answer rule_13 rule_14
scan_many w count extra e f h x = rw (f, lt-leb (length (word_entries w)) Limits.most_instructions (omega arith), x)
