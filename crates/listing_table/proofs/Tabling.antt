-- Laws of entries put into a table: one put after the other, and the instructions of a listing's lines.
use mathlib.Core.Path.{◌≡◌, refl, sym, ap, ◌∙◌}
use mathlib.Core.Option.{some}
use mathlib.Core.List.{List, [], ◌∷◌, ◌++◌, map, map-append}
use Prim.Native.Nat.{ℕ, suc, ◌+◌, ◌-◌, ◌≤◌, ◌<◌}
use native.Mathlib.Numerals.{add-one}
use native.Mathlib.Omega.{arith}
use borrow.Author.Tests.{eq-eqb, ne_eqb}
use lib.ListN.{length, take, drop, get_or, length-map, drop_of_length-le}
use lib.Seq.{sets, length-sets, take_at}
use Rattle.theory.specs.Word.{Entry, forward, entry_of, table_of}
use Rattle.theory.proofs.Writes.{sets-append}
use Rattle.word.specs.declared.answers.Instruction.{Instruction as Record}
use Rattle.word.specs.Answers.{kinds_of, operands_of, zipped, record_of, entry_of as record-entry}
use Rattle.word.proofs.Zipped.{zipped_self}
use Rattle.output.proofs.Puts.{sets-front}
use Rattle.listing.specs.Listing.{Line, size, place, transfer, line_code, code, word}
use Rattle.listing.specs.Claims.{Targets}
use Rattle.listing.proofs.Places.{line-length, place-start, place-next}
use Rattle.listing_numbers.specs.declared.Numbers.{Numbers}
use Rattle.listing_check.specs.Lined.{line_of, numbers_at, lines_of}
use Rattle.listing_table.specs.Tables.{Passed, most_entries, Placed, line_entries, Tabled}
use Rattle.listing_table.proofs.Placing.{place_bounds}
use Rattle.listing_table.proofs.Lines.{three_kinds, kind-most, LineAt, line_at, lines-length}

-- Numbers of entries, put one after the other
module _ (f : Entry → ℕ) (t u : List Entry) (i j : ℕ) (k k' : List ℕ) (p : k' ≡ sets k i (map f t)) (e : j ≡ i + length t) where
  sets_then : sets k i (map f (t ++ u)) ≡ sets k' j (map f u)
  sets_then = rw (map-append f t u, sets-append (map f t) (map f u) k i, length-map t f, e, p)

module _ {t u : List Entry} {i j : ℕ} {k o k' o' k'' o'' : List ℕ} (p : Tabled t i k o k' o') (e : j ≡ i + length t) where
  pub tabled_then : Tabled u j k' o' k'' o'' → Tabled (t ++ u) i k o k'' o''
  tabled_then q = record {
    kinds_put = q.kinds_put ∙ sym (sets_then _ t u i j k k' p.kinds_put e);
    operands_put = q.operands_put ∙ sym (sets_then _ t u i j o o' p.operands_put e);
  }

  pub tabled_rest : Tabled (t ++ u) i k o k'' o'' → Tabled u j k' o' k'' o''
  tabled_rest q = record {
    kinds_put = q.kinds_put ∙ sets_then _ t u i j k k' p.kinds_put e;
    operands_put = q.operands_put ∙ sets_then _ t u i j o o' p.operands_put e;
  }

-- The lists keep their lengths
pub tabled_kinds : {t : List Entry} {i : ℕ} {k o k' o' : List ℕ} → Tabled t i k o k' o' → length k' ≡ length k
tabled_kinds {t} {i} {k} p = ap length p.kinds_put ∙ length-sets k i (kinds_of t)

pub tabled_operands : {t : List Entry} {i : ℕ} {k o k' o' : List ℕ} → Tabled t i k o k' o' → length o' ≡ length o
tabled_operands {t} {i} {o = o} p = ap length p.operands_put ∙ length-sets o i (operands_of t)

-- The entries of a line: one of a P line, and three more of an `Scd`
module _ (n : Numbers) (q one hash : ℕ) {i : ℕ} {k o k' o' : List ℕ}
    (first : Tabled (record { kind = n.kind; operand = n.register } ∷ []) i k o k' o') where
  pub print_put : (n.kind ≡ 5 → ⊥) → Tabled (line_entries n q one hash) i k o k' o'
  print_put h = rw (ne_eqb n.kind 5 h) first

  pub scan_put : n.kind ≡ 5 → {a b : Record} → a ≡ record_of (entry_of (transfer (q + 2) one))
      → b ≡ record_of (entry_of (transfer (q + 3) hash)) → {k'' o'' : List ℕ}
      → Tabled (entry_of (forward 3) ∷ record-entry a ∷ record-entry b ∷ []) (i + 1) k' o' k'' o''
      → Tabled (line_entries n q one hash) i k o k'' o''
  scan_put h e f exits = rw (eq-eqb n.kind 5 h) (tabled_then first refl (rw (e, f) at exits))

-- The instructions of a line, by its numbers
line_coded : (l : List Line) (lines : ℕ) (places : List ℕ) → Placed l lines places → (n : Numbers) (c : Line) → line_of n ≡ some c
    → Targets lines c → (q : ℕ)
    → line_entries n q (get_or places n.one 0) (get_or places n.hash 0) ≡ table_of (line_code l q c)
line_coded l lines places placed n c e targets q =
    three_kinds
    (λ d. Targets lines d → line_entries n q (get_or places n.one 0) (get_or places n.hash 0) ≡ table_of (line_code l q d)) n c e
    (λ k h. rw k) (λ k h. rw k) (λ k h. rw (k, placed n.one h.1, placed n.hash h.3)) targets

-- The code of lines that follow one another: what is left of it after the first
code-next : (l : List Line) (q q' : ℕ) (c : Line) (cs : List Line) {k o k' o' k'' o'' : List ℕ} → 1 ≤ q → q' ≡ q + size c
    → Tabled (table_of (line_code l q c)) (q - 1) k o k' o' → Tabled (table_of (code l q (c ∷ cs))) (q - 1) k o k'' o''
    → Tabled (table_of (code l q' cs)) (q' - 1) k' o' k'' o''
unfolding code
code-next l q q' c cs h e p r =
    let after : q' - 1 ≡ (q - 1) + length (table_of (line_code l q c))
    = rw (length-map (line_code l q c) entry_of, line-length l q c, e) (omega arith) in
    tabled_rest p after (rw (e, ← map-append entry_of (line_code l q c) (code l (q + size c) cs)) r)

-- Before line i + 1: what is left to be put, after which the table is all that it is to be
pub record Left (l : List Line) (lines i : ℕ) (k o k'' o'' : List ℕ) : Type 0 where
  pub within : i ≤ lines
  pub rest : Tabled (table_of (code l (place l (suc i)) (drop i l))) (place l (suc i) - 1) k o k'' o''

-- All that it is to be
abbrev pub kinds_after : List Line → List ℕ → List ℕ
kinds_after l k = sets k 1 (kinds_of (table_of (code l 2 l)))

abbrev pub operands_after : List Line → List ℕ → List ℕ
operands_after l o = sets o 1 (operands_of (table_of (code l 2 l)))

pub left_all : (l : List Line) (lines : ℕ) (k o : List ℕ) → Left l lines 0 k o (kinds_after l k) (operands_after l o)
left_all l lines k o = record { within = omega arith; rest = rw (place-start l) (record { kinds_put = refl; operands_put = refl }) }

-- All lines of a list that passes, with their places
module _ (list : List ℕ) (lines : ℕ) (p : Passed list lines) where
  abbrev l : List Line
  l = lines_of list

  module _ (places : List ℕ) (placed : Placed l lines places) {i : ℕ} (h : i < lines) where
    here : get_or places (i + 1) 0 ≡ place l (suc i)
    here = placed (i + 1) (omega arith) ∙ rw (add-one i)

    pub line_fits : (n : Numbers) → n ≡ numbers_at list i
        → (n.kind ≤ 5) × (1 ≤ get_or places (i + 1) 0) × (get_or places (i + 1) 0 ≤ most_entries)
    line_fits n e = (
      let a : LineAt list lines i = line_at list lines p i h in kind-most n a.line (rw e a.numbers),
      omega (arith, here, (place_bounds l i).0),
      omega (arith, here, (place_bounds l i).1, p.few),
    )

    pub left_next : {k o k' o' k'' o'' : List ℕ} → Left l lines i k o k'' o'' → (n : Numbers) → n ≡ numbers_at list i → (q one hash : ℕ)
        → q ≡ get_or places (i + 1) 0 → one ≡ get_or places n.one 0 → hash ≡ get_or places n.hash 0
        → Tabled (line_entries n q one hash) (q - 1) k o k' o' → Left l lines (i + 1) k' o' k'' o''
    left_next {k} {o} {k'} {o'} {k''} {o''} left n e q one hash at-q at_one at-hash t =
        let a : LineAt list lines i = line_at list lines p i h in
        let numbers : line_of n ≡ some a.line = rw e a.numbers in
        let place_is : q ≡ place l (suc i) = at-q ∙ here in
        let next : place l (suc (i + 1)) ≡ q + size a.line = rw (add-one i, place_is) (place-next l (suc i) a.line a.is) in
        let put : Tabled (table_of (line_code l q a.line)) (q - 1) k o k' o'
        = rw (at_one, at-hash, line_coded l lines places placed n a.line numbers a.targets q) at t in
        let lines_left : drop i l ≡ a.line ∷ drop (i + 1) l = a.rest ∙ rw (add-one i) in
        let rest : Tabled (table_of (code l q (a.line ∷ drop (i + 1) l))) (q - 1) k o k'' o''
        = rw (lines_left, ← place_is) at left.rest in
        let after_F1 : 1 ≤ q = omega (arith, (place_bounds l i).0) in
        record { within = omega arith; rest = code-next l q _ a.line (drop (i + 1) l) after_F1 next put rest }

  pub left_none : {i : ℕ} {k₀ o₀ k o : List ℕ} → lines ≤ i → Left l lines i k o (kinds_after l k₀) (operands_after l o₀)
      → Tabled (table_of (code l 2 l)) 1 k₀ o₀ k o
  unfolding code
  left_none {i} h left =
      let none_left : drop i l ≡ [] = drop_of_length-le l {i = i} (omega (arith, lines-length list lines p)) in
      let r : _ = rw none_left at left.rest in
      record { kinds_put = sym r.kinds_put; operands_put = sym r.operands_put }

-- F1 and all lines
pub word_tabled : (l : List Line) {k o k' o' k'' o'' : List ℕ} → Tabled (entry_of (forward 1) ∷ []) 0 k o k' o'
    → Tabled (table_of (code l 2 l)) 1 k' o' k'' o'' → Tabled (table_of (word l)) 0 k o k'' o''
unfolding word
word_tabled l p q = tabled_then p refl q

-- The table read back from its lists, which have room for it
pub table-back : (t : List Entry) (n : ℕ) {k o k' o' : List ℕ} → n ≡ length t → Tabled t 0 k o k' o' → n ≤ length k → n ≤ length o
    → zipped (take n k') (take n o') ≡ t
table-back t n {k} {o} {k'} {o'} e p h g =
    rw (front k k' (kinds_of t) p.kinds_put (length-map t _) h, front o o' (operands_of t) p.operands_put (length-map t _) g)
    (zipped_self t)
  where
    front : (l l' u : List ℕ) → l' ≡ sets l 0 u → length u ≡ length t → n ≤ length l → take n l' ≡ u
    front l l' u put same room = rw (put, sets-front l u (omega arith)) (take_at u (drop (length u) l) n (omega arith))
