-- The places of the lines of a list that passes, each after the one before.
use mathlib.Core.Path.{◌≡◌, refl, sym, ap, ◌∙◌}
use mathlib.Core.Bool.{Bool, true, false}
use mathlib.Core.List.{List}
use Prim.Native.Nat.{ℕ, zero, suc, ◌+◌, ◌*◌, ◌≤◌, ◌<◌}
use native.Mathlib.Numerals.{add-one}
use native.Mathlib.Omega.{arith}
use borrow.Author.Tests.{eqb-true, eqb-false}
use lib.Dec.{eqb}
use lib.ListN.{length, get_or, set, take, replicate, length-take, length-set}
use lib.Seq.{get_or-set_same, get_or-set_other}
use Rattle.listing.specs.Listing.{Line, size, place, word}
use Rattle.listing.proofs.Places.{place_is, place_end, place-next}
use Rattle.listing.proofs.Fits.{sizes, sizes-most}
use Rattle.listing_numbers.specs.declared.Numbers.{Numbers}
use Rattle.listing_check.specs.Lined.{numbers_at, lines_of}
use Rattle.listing_table.specs.Tables.{Passed, kind_size, most_entries, Placed}
use Rattle.listing_table.proofs.Lines.{LineAt, line_at, lines-length, sized}

-- The place of line i + 1 is low
pub place_bounds : (l : List Line) (i : ℕ) → (2 ≤ place l (suc i)) × (place l (suc i) ≤ 2 + 4 * i)
place_bounds l i =
    let here : place l (suc i) ≡ 2 + sizes (take i l) = place_is l i in
    (omega arith, omega (arith, sizes-most (take i l), length-take i l))

-- The places up to that of line i + 1 are there
pub record Known (l : List Line) (lines i : ℕ) (places : List ℕ) : Type 0 where
  pub within : i ≤ lines
  pub room : length places ≡ 258
  pub known : (n : ℕ) → n ≤ suc i → get_or places n 0 ≡ place l n

pub known_first : (l : List Line) (lines : ℕ) → Known l lines 0 (replicate 258 2)
unfolding place
known_first l lines = record { within = omega arith; room = refl; known = λ n h. go n h }
  where
    go : (n : ℕ) → n ≤ 1 → get_or (replicate 258 2) n 0 ≡ place l n
    go zero h = refl
    go (suc zero) h = refl
    go (suc (suc n)) h = absurd (omega arith)

pub place_low : {l : List Line} {lines i : ℕ} {places : List ℕ} → Known l lines i places → get_or places (i + 1) 0 ≤ 2 + 4 * i
place_low {l} {i = i} k = rw (k.known (i + 1) (omega arith), add-one i) (place_bounds l i).1

module _ (list : List ℕ) (lines : ℕ) (p : Passed list lines) {i : ℕ} {places : List ℕ} (k : Known (lines_of list) lines i places)
    (h : i < lines) where
  abbrev l : List Line
  l = lines_of list

  -- What is put after them
  abbrev new : ℕ → ℕ
  new s = get_or places (i + 1) 0 + s

  new_is : (s : ℕ) → s ≡ size (line_at list lines p i h).line → new s ≡ place l (i + 1 + 1)
  new_is s e =
      let a : LineAt list lines i = line_at list lines p i h in
      let last : i + 1 + 1 ≡ suc (suc i) = omega arith in
      rw (last, k.known (i + 1) (omega arith), add-one i, e) (sym (place-next l (suc i) a.line a.is))

  pub known_next : (n : Numbers) → n ≡ numbers_at list i → (s : ℕ) → s ≡ kind_size n.kind
      → Known l lines (i + 1) (set places (i + 1 + 1) (new s))
  known_next n e s g = record {
    within = omega arith;
    room = length-set places (i + 1 + 1) _ ∙ k.room;
    known = λ m b. go m b (eqb m (i + 1 + 1)) refl;
  }
    where
      of_line : s ≡ size (line_at list lines p i h).line
      of_line = g ∙ sized n (line_at list lines p i h).line (rw e (line_at list lines p i h).numbers)

      go : (m : ℕ) → m ≤ suc (i + 1) → (t : Bool) → eqb m (i + 1 + 1) ≡ t → get_or (set places (i + 1 + 1) (new s)) m 0 ≡ place l m
      go m b true t =
          rw (eqb-true m (i + 1 + 1) t)
          (get_or-set_same places (i + 1 + 1) (new s) 0 (omega (arith, k.room, p.few)) ∙ new_is s of_line)
      go m b false t =
          let other : m ≡ i + 1 + 1 → ⊥ = eqb-false m (i + 1 + 1) t in
          get_or-set_other places (i + 1 + 1) m (new s) 0 other ∙ k.known m (omega arith)

-- The line after the last is behind the word, whose length is low
module _ (list : List ℕ) (lines : ℕ) (p : Passed list lines) where
  after_last : place (lines_of list) (suc lines) ≡ suc (length (word (lines_of list)))
  after_last = ap (λ n. place (lines_of list) (suc n)) (sym (lines-length list lines p)) ∙ place_end (lines_of list)

  pub count_is : (places : List ℕ) → Placed (lines_of list) lines places → get_or places (lines + 1) 0 ≡ suc (length (word (lines_of list)))
  count_is places placed = placed (lines + 1) (omega arith) ∙ rw (add-one lines) after_last

  pub word_short : length (word (lines_of list)) ≤ most_entries
  word_short = omega (arith, after_last, (place_bounds (lines_of list) lines).1, p.few)
