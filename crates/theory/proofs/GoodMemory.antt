-- The layout of a machine's memory: what is laid down is read back, and what is read is laid down again. A run keeps a memory laid out.
use mathlib.Core.Path.{◌≡◌, refl, sym, ap, ap₂, ◌∙◌, subst}
use mathlib.Core.Logic.{◌≢◌}
use mathlib.Core.Bool.{Bool, true, false, ◌&&◌, false≢true}
use mathlib.Core.Option.{Option, none, some, none-ne-some, some-injective}
use mathlib.Core.List.{List, [], ◌∷◌, ◌++◌, map}
use Prim.Native.Nat.{ℕ, zero, suc, ◌+◌, ◌-◌, ◌≤◌, ◌<◌}
use native.Mathlib.Omega.{arith}
use lib.IntN.{ℤ, pos, negsuc}
use lib.ListN.{length, get_or, take, drop, replicate, length-append, length-map, length-replicate, length-take, length-drop}
use lib.ListN.{take-append-drop, get_or-eq_default}
use lib.Seq.{take_at, drop_at, take_all, take-append-le, drop-append-le, take-add, take-length, length-take-le, ext_get_or}
use lib.Dec.{eqb, ltb, leb}
use borrow.Author.Tests.{eqb-true, eqb-false, eq-eqb, leb-true, le-leb, ltb-true, ltb-false}
use Rattle.theory.specs.Basics.{cells, put, and_then, sum, all, all_below, EachOf}
use Rattle.theory.specs.Text.{Bytes}
use Rattle.theory.specs.Limits.{most_registers, most_capacity}
use Rattle.theory.specs.Runs.{Room, within_each}
use Rattle.theory.specs.Word as W
use Rattle.theory.specs.Word.{Symbol, one, hash, bytes_of, byte_of, symbol_of, is_symbol}
use Rattle.theory.specs.Word.{Instruction, append, forward, backward, cases, operand}
use Rattle.theory.specs.Machines.{Memory, count, Position, capacity_of, offset, laid, store_of, lengths_of, place_of, contents}
use Rattle.theory.specs.Machines.{refilled, is_laid, is_limited, is_memory, run_word, word_state}
use Rattle.theory.specs.Claims.{NamesAtMost, MemoryStaysGood, RefilledWithItsContents}
use Rattle.theory.proofs.Faults.{and_first, and_second, given_some}
use Rattle.theory.proofs.Cells.{put_ind, each_at}
use Rattle.theory.proofs.Offsets.{offset-next, offset-whole, places_apart, place_inside}
use Rattle.theory.proofs.Budgets.{run_keeps}
use Rattle.theory.proofs.Words.{symbols_of-bytes, byte_of_symbol}

-- Tests

pub both : (a b : Bool) → a ≡ true → b ≡ true → (a && b) ≡ true
both a b p q = rw (p, q)

-- four tests, and a fifth
AllFive : Bool → Bool → Bool → Bool → Bool → Type 0
AllFive a b c d e = (a ≡ true) × (b ≡ true) × (c ≡ true) × (d ≡ true) × (e ≡ true)

and_five : (a b c d e : Bool) → ((a && b && c && d) && e) ≡ true → AllFive a b c d e
unfolding AllFive
and_five true true true true e h = (refl, refl, refl, refl, h)
and_five true true true false e h = absurd (false≢true h)
and_five true true false d e h = absurd (false≢true h)
and_five true false c d e h = absurd (false≢true h)
and_five false b c d e h = absurd (false≢true h)

pub all_below-at : (n : ℕ) (f : ℕ → Bool) → all_below n f ≡ true → (i : ℕ) → i < n → f i ≡ true
all_below-at zero f h i l = absurd (omega arith)
all_below-at (suc n) f h i l = go (all_below-at n f (and_first (all_below n f) (f n) h) i) (eqb i n) refl
  where
    go : (i < n → f i ≡ true) → (t : Bool) → eqb i n ≡ t → f i ≡ true
    go before true e = rw (eqb-true i n e) (and_second (all_below n f) (f n) h)
    go before false e = let differ : i ≢ n = eqb-false i n e in before (omega arith)

pub all_below-from : (n : ℕ) (f : ℕ → Bool) → ((i : ℕ) → i < n → f i ≡ true) → all_below n f ≡ true
all_below-from zero f h = refl
all_below-from (suc n) f h = both (all_below n f) (f n) (all_below-from n f λ i l. h i (omega arith)) (h n (omega arith))

pub all_below_fails : (n : ℕ) (f : ℕ → Bool) (i : ℕ) → i < n → f i ≡ false → all_below n f ≡ false
all_below_fails n f i l e = go (all_below n f) refl
  where
    go : (t : Bool) → all_below n f ≡ t → t ≡ false
    go false h = refl
    go true h = absurd (false≢true (sym e ∙ all_below-at n f h i l))

-- Cells

pub length-cells : {A : Type 0} (n : ℕ) (f : ℕ → A) → length (cells n f) ≡ n
length-cells zero f = refl
length-cells (suc n) f = ap suc (length-cells n λ i. f (suc i))

pub get_or-cells : {A : Type 0} (n : ℕ) (f : ℕ → A) (d : A) (i : ℕ) → i < n → get_or (cells n f) i d ≡ f i
get_or-cells zero f d i l = absurd (omega arith)
get_or-cells (suc n) f d zero l = refl
get_or-cells (suc n) f d (suc i) l = get_or-cells n (λ j. f (suc j)) d i (omega arith)

-- Symbols as bytes

symbols_are : (xs : List Symbol) → all is_symbol (bytes_of xs) ≡ true
symbols_are [] = refl
symbols_are (one ∷ xs) = symbols_are xs
symbols_are (hash ∷ xs) = symbols_are xs

zeros_are : (n : ℕ) → all (eqb 0) (replicate n 0) ≡ true
zeros_are zero = refl
zeros_are (suc n) = zeros_are n

pub symbols-written : (l : Bytes) → all is_symbol l ≡ true → bytes_of (map symbol_of l) ≡ l
symbols-written [] h = refl
symbols-written (b ∷ l) h =
    let first = byte_of_symbol b (and_first (is_symbol b) (all is_symbol l) h) in
    ap₂ {C = Bytes} (λ c m. c ∷ m) first (symbols-written l (and_second (is_symbol b) (all is_symbol l) h))

zeros_written : (l : Bytes) → all (eqb 0) l ≡ true → replicate (length l) 0 ≡ l
zeros_written [] h = refl
zeros_written (b ∷ l) h =
    let first = eqb-true 0 b (and_first (eqb 0 b) (all (eqb 0) l) h) in
    ap₂ {C = Bytes} (λ c m. c ∷ m) first (zeros_written l (and_second (eqb 0 b) (all (eqb 0) l) h))

-- One place

module _ (capacity : ℕ) (xs : List Symbol) where
  pub length-laid : length xs ≤ capacity → length (laid capacity xs) ≡ capacity
  length-laid fits = simp (length-append, length-map, length-replicate) (omega arith)

  pub take-laid : take (length xs) (laid capacity xs) ≡ bytes_of xs
  take-laid = take_at (bytes_of xs) (replicate (capacity - length xs) 0) (length xs) (length-map xs byte_of)

  drop-laid : drop (length xs) (laid capacity xs) ≡ replicate (capacity - length xs) 0
  drop-laid = drop_at (bytes_of xs) (replicate (capacity - length xs) 0) (length xs) (length-map xs byte_of)

  pub laid-is_laid : length xs ≤ capacity → is_laid capacity (length xs) (laid capacity xs) ≡ true
  laid-is_laid fits = rw (take-laid, drop-laid, le-leb (length xs) capacity fits, symbols_are, zeros_are)

-- A place that is laid out with n symbols: they are n, and laid down again they are the place
module _ (capacity n : ℕ) (b : Bytes) (size : length b ≡ capacity) (h : is_laid capacity n b ≡ true) where
  starts : (leb n capacity && all is_symbol (take n b)) ≡ true
  starts = and_first (leb n capacity && all is_symbol (take n b)) (all (eqb 0) (drop n b)) h

  pub read-within : n ≤ capacity
  read-within = leb-true n capacity (and_first (leb n capacity) (all is_symbol (take n b)) starts)

  pub length-read : length (map symbol_of (take n b)) ≡ n
  length-read = let w : n ≤ capacity = read-within in length-map (take n b) symbol_of ∙ length-take-le n b (omega arith)

  pub read-laid : laid capacity (map symbol_of (take n b)) ≡ b
  read-laid =
      let symbols = symbols-written (take n b) (and_second (leb n capacity) (all is_symbol (take n b)) starts) in
      let rest : length (drop n b) ≡ capacity - n = simp (length-drop, size) in
      let zeros = zeros_written (drop n b) (and_second (leb n capacity && all is_symbol (take n b)) (all (eqb 0) (drop n b)) h) in
      rw (length-read, symbols, ← rest, zeros) (take-append-drop n b)

-- The whole store

-- The first n registers hold no more than their capacities
abbrev pub Fits : List ℕ → ℕ → (ℕ → List Symbol) → Type 0
Fits capacities n f = (i : ℕ) → i < n → length (f (suc i)) ≤ get_or capacities i 0

module _ (capacities : List ℕ) (f : ℕ → List Symbol) where
  pub length_store : (n : ℕ) → Fits capacities n f → length (store_of capacities n f) ≡ offset capacities (suc n)
  unfolding store_of
  length_store zero fits = refl
  length_store (suc n) fits =
      let before = length_store n (λ i l. fits i (omega arith)) in
      let last = length-laid (get_or capacities n 0) (f (suc n)) (fits n (omega arith)) in
      rw (length-append, before, last) (sym (offset-next capacities n))

  pub place_in_store : (n : ℕ) → Fits capacities n f → (i : ℕ) → i < n
      → take (get_or capacities i 0) (drop (offset capacities (suc i)) (store_of capacities n f)) ≡ laid (get_or capacities i 0) (f (suc i))
  unfolding store_of
  place_in_store zero fits i l = absurd (omega arith)
  place_in_store (suc n) fits i l = go (place_in_store n fits_before i) (eqb i n) refl
    where
      fits_before : Fits capacities n f
      fits_before i l = fits i (omega arith)

      before : Bytes
      before = store_of capacities n f

      size : length before ≡ offset capacities (suc n)
      size = length_store n fits_before

      last : Bytes
      last = laid (get_or capacities n 0) (f (suc n))

      from : ℕ
      from = offset capacities (suc i)

      go : (i < n → take (get_or capacities i 0) (drop from before) ≡ laid (get_or capacities i 0) (f (suc i))) → (t : Bool) → eqb i n ≡ t
          → take (get_or capacities i 0) (drop from (before ++ last)) ≡ laid (get_or capacities i 0) (f (suc i))
      go earlier true e =
          let whole : length last ≡ get_or capacities n 0 = length-laid (get_or capacities n 0) (f (suc n)) (fits n (omega arith)) in
          rw (eqb-true i n e, drop_at before last (offset capacities (suc n)) size) (take_all (get_or capacities n 0) last (omega arith))
      go earlier false e =
          let differ : i ≢ n = eqb-false i n e in
          let below : i < n = omega arith in
          let room : from + get_or capacities i 0 ≤ offset capacities (suc n) = places_apart capacities i n below in
          let inside : from ≤ length before = omega (arith, size) in
          let whole : get_or capacities i 0 ≤ length (drop from before) = simp (length-drop, size) (omega arith) in
          rw (drop-append-le from before last inside)
          (rw (take-append-le (get_or capacities i 0) (drop from before) last whole) (earlier below))

-- Memories

-- What rule 10 asks, a fact at a time
pub record Good (m : Memory) : Type 0 where
  pub registers : is_limited most_registers (count m) ≡ true
  pub capacities : all (is_limited most_capacity) m.capacities ≡ true
  pub store : length m.store ≡ sum m.capacities
  pub lengths : length m.lengths ≡ count m
  pub places : (i : ℕ) → i < count m → is_laid (get_or m.capacities i 0) (get_or m.lengths i 0) (place_of m (suc i)) ≡ true

module _ (m : Memory) where
  abbrev sized : Bool
  sized = eqb (length m.store) (offset m.capacities (suc (count m)))

  abbrev counted : Bool
  counted = eqb (length m.lengths) (count m)

  abbrev laid_out : ℕ → Bool
  laid_out i = is_laid (get_or m.capacities i 0) (get_or m.lengths i 0) (place_of m (suc i))

  pub good_is_memory : Good m → is_memory m ≡ true
  unfolding is_memory
  good_is_memory g =
      let whole = g.store ∙ sym (offset-whole m.capacities) in
      let size = eq-eqb (length m.store) (offset m.capacities (suc (count m))) whole in
      let counts = eq-eqb (length m.lengths) (count m) g.lengths in
      rw (g.registers, g.capacities, size, counts) (all_below-from (count m) laid_out g.places)

  pub memory-is_good : is_memory m ≡ true → Good m
  unfolding is_memory AllFive
  memory-is_good h =
      let limited = is_limited most_registers (count m) in
      let limited' = all (is_limited most_capacity) m.capacities in
      let parts = and_five limited limited' sized counted (all_below (count m) laid_out) h in
      let size = eqb-true (length m.store) (offset m.capacities (suc (count m))) parts.2 in
      record {
        registers = parts.0;
        capacities = parts.1;
        store = size ∙ offset-whole m.capacities;
        lengths = eqb-true (length m.lengths) (count m) parts.3;
        places = all_below-at (count m) laid_out parts.4;
      }

-- Registers that fit, laid down: they are read back, and the memory is good
module _ (m : Memory) (f : ℕ → List Symbol) (fits : Fits m.capacities (count m) f) where
  refilled-place : (i : ℕ) → i < count m → place_of (refilled m f) (suc i) ≡ laid (get_or m.capacities i 0) (f (suc i))
  refilled-place i l = place_in_store m.capacities f (count m) fits i l

  refilled-length : (i : ℕ) → i < count m → get_or (refilled m f).lengths i 0 ≡ length (f (suc i))
  refilled-length i l = get_or-cells (count m) (λ j. length (f (suc j))) 0 i l

  pub contents-refilled : (i : ℕ) → i < count m → contents (refilled m f) (suc i) ≡ f (suc i)
  contents-refilled i l =
      rw (refilled-length i l, refilled-place i l, take-laid (get_or m.capacities i 0) (f (suc i))) (symbols_of-bytes (f (suc i)))

  pub refilled_good : is_limited most_registers (count m) ≡ true → all (is_limited most_capacity) m.capacities ≡ true
      → Good (refilled m f)
  refilled_good r c = record {
    registers = r;
    capacities = c;
    store = length_store m.capacities f (count m) fits ∙ offset-whole m.capacities;
    lengths = length-cells (count m) λ i. length (f (suc i));
    places = λ i l. rw (refilled-length i l, refilled-place i l) (laid-is_laid (get_or m.capacities i 0) (f (suc i)) (fits i l));
  }

-- The registers of a good memory fit, and laid down they are the memory
module _ (m : Memory) (g : Good m) where
  pub length-place : (i : ℕ) → length (place_of m (suc i)) ≡ get_or m.capacities i 0
  length-place i =
      let inside : offset m.capacities (suc i) + get_or m.capacities i 0 ≤ length m.store
      = omega (arith, place_inside m.capacities i, g.store) in
      simp (length-take, length-drop) (omega arith)

  pub length-contents : (i : ℕ) → i < count m → length (contents m (suc i)) ≡ get_or m.lengths i 0
  length-contents i l =
      length-read (get_or m.capacities i 0) (get_or m.lengths i 0) (place_of m (suc i)) (length-place i) (g.places i l)

  pub contents_fit : Fits m.capacities (count m) (contents m)
  contents_fit i l =
      rw (length-contents i l)
      (read-within (get_or m.capacities i 0) (get_or m.lengths i 0) (place_of m (suc i)) (length-place i) (g.places i l))

  pub contents-laid : (i : ℕ) → i < count m → laid (get_or m.capacities i 0) (contents m (suc i)) ≡ place_of m (suc i)
  contents-laid i l =
      read-laid (get_or m.capacities i 0) (get_or m.lengths i 0) (place_of m (suc i)) (length-place i) (g.places i l)

  -- there is nothing in registers that the memory lacks
  pub contents_beyond : (i : ℕ) → count m ≤ i → contents m (suc i) ≡ []
  contents_beyond i l = rw (get_or-eq_default m.lengths 0 {n = i} (rw g.lengths l))

  stored_so_far : (n : ℕ) → n ≤ count m → store_of m.capacities n (contents m) ≡ take (offset m.capacities (suc n)) m.store
  unfolding store_of
  stored_so_far zero l = refl
  stored_so_far (suc n) l =
      let before = stored_so_far n (omega arith) in
      let from : ℕ = offset m.capacities (suc n) in
      ap₂ {C = Bytes} ◌++◌ before (contents-laid n l)
      ∙ rw (offset-next m.capacities n) (sym (take-add from (get_or m.capacities n 0) m.store))

  pub contents-stored : store_of m.capacities (count m) (contents m) ≡ m.store
  contents-stored =
      stored_so_far (count m) (omega arith) ∙ rw (offset-whole m.capacities, ← g.store) (take-length m.store)

  pub contents-counted : lengths_of (count m) (contents m) ≡ m.lengths
  contents-counted =
      let size : length (lengths_of (count m) (contents m)) ≡ count m
      = length-cells (count m) λ i. length (contents m (suc i)) in
      ext_get_or 0 (lengths_of (count m) (contents m)) m.lengths (size ∙ sym g.lengths) λ i l.
      get_or-cells (count m) (λ j. length (contents m (suc j))) 0 i (rw (← size) l) ∙ length-contents i (rw (← size) l)

pub refilled_with_its_contents : RefilledWithItsContents
refilled_with_its_contents m good =
    let g = memory-is_good m good in
    ap₂ {C = Memory} (λ s l. record { capacities = m.capacities; store = s; lengths = l }) (contents-stored m g) (contents-counted m g)

-- Runs of words

-- As many registers as capacities hold no more than these, and the others nothing
pub record Held (capacities : List ℕ) (f : ℕ → List Symbol) : Type 0 where
  pub fits : Fits capacities (length capacities) f
  pub beyond : (i : ℕ) → length capacities ≤ i → f (suc i) ≡ []

module _ (capacities : List ℕ) (f : ℕ → List Symbol) (h : Held capacities f) where
  held_put : (r : ℕ) (xs : List Symbol) → r ≤ length capacities → length xs ≤ capacity_of capacities r → Held capacities (put f r xs)
  held_put r xs named short = record {
    fits = λ i l. put_ind (λ ys. length ys ≤ get_or capacities i 0) f r xs (suc i) (λ e. rw (← e) at short) (λ e. h.fits i l);
    beyond = λ i l. put_ind (λ ys. ys ≡ []) f r xs (suc i) (λ e. absurd (omega arith)) (λ e. h.beyond i l);
  }

  within-named : (r : ℕ) → 1 ≤ r → r ≤ length capacities → length (f r) ≤ capacity_of capacities r
  within-named zero low high = absurd (omega arith)
  within-named (suc i) low high = h.fits i high

module _ (capacities : List ℕ) where
  abbrev room : Room
  room = within_each (capacity_of capacities)

  after_append : (s s' : W.State) (x : Symbol) (r : ℕ) → 1 ≤ r → r ≤ length capacities → W.perform room s (append x r) ≡ some s'
      → Held capacities s.registers → Held capacities s'.registers
  after_append s s' x r low high e h =
      let xs = s.registers r in
      let (fits, same) = given_some (leb (suc (length xs)) (capacity_of capacities r)) (W.appended r s x) s' e in
      let short : length (xs ++ (x ∷ [])) ≤ capacity_of capacities r
      = rw length-append (omega (arith, leb-true (suc (length xs)) (capacity_of capacities r) fits)) in
      subst (λ (t : W.State). Held capacities t.registers) same (held_put capacities s.registers h r (xs ++ (x ∷ [])) high short)

  after-branch : (s : W.State) (r : ℕ) (xs : List Symbol) → r ≤ length capacities → length xs ≤ capacity_of capacities r
      → Held capacities s.registers → Held capacities (W.branch r s xs).registers
  after-branch s r [] high short h = h
  after-branch s r (one ∷ xs) high short h = held_put capacities s.registers h r xs high (omega arith)
  after-branch s r (hash ∷ xs) high short h = held_put capacities s.registers h r xs high (omega arith)

  after_performed : (s s' : W.State) (i : Instruction) → 1 ≤ operand i → NamesAtMost (length capacities) i
      → W.perform room s i ≡ some s' → Held capacities s.registers → Held capacities s'.registers
  after_performed s s' (append one r) low names e h = after_append s s' one r low (names refl) e h
  after_performed s s' (append hash r) low names e h = after_append s s' hash r low (names refl) e h
  after_performed s s' (forward r) low names e h =
      subst (λ (t : W.State). Held capacities t.registers) (some-injective _ s' e) h
  after_performed s s' (backward r) low names e h =
      subst (λ (t : W.State). Held capacities t.registers) (some-injective _ s' e) h
  after_performed s s' (cases r) low names e h =
      let short = within-named capacities s.registers h r low (names refl) in
      let branched = after-branch s r (s.registers r) (names refl) short h in
      subst (λ (t : W.State). Held capacities t.registers) (some-injective _ s' e) branched

  after-step : (w : List Instruction) → EachOf (λ i. 1 ≤ operand i) w → EachOf (NamesAtMost (length capacities)) w → (s s' : W.State)
      → W.step room w s ≡ some s' → Held capacities s.registers → Held capacities s'.registers
  unfolding W.step
  after-step w lows names s s' = go s.place (W.fetch w s.place) refl
    where
      at_place : (q : ℤ) (i : Instruction) → W.fetch w q ≡ some i → (1 ≤ operand i) × NamesAtMost (length capacities) i
      at_place (pos zero) i f = absurd (none-ne-some i f)
      at_place (pos (suc q)) i f = (each_at (λ j. 1 ≤ operand j) w q i lows f, each_at (NamesAtMost (length capacities)) w q i names f)
      at_place (negsuc q) i f = absurd (none-ne-some i f)

      go : (q : ℤ) (i : Option Instruction) → W.fetch w q ≡ i → and_then i (W.perform room s) ≡ some s'
          → Held capacities s.registers → Held capacities s'.registers
      go q none f e h = absurd (none-ne-some s' e)
      go q (some i) f e h = after_performed s s' i (at_place q i f).0 (at_place q i f).1 e h

-- Registers that are held are laid down in a good memory, and read back from it, all of them
pub held_refilled : (m : Memory) → Good m → (f : ℕ → List Symbol) → Held m.capacities f
    → (is_memory (refilled m f) ≡ true) × ((r : ℕ) → 0 < r → contents (refilled m f) r ≡ f r)
held_refilled m g f h = (good_is_memory (refilled m f) good, all-registers)
  where
    good : Good (refilled m f)
    good = refilled_good m f h.fits g.registers g.capacities

    register : (i : ℕ) (t : Bool) → ltb i (count m) ≡ t → contents (refilled m f) (suc i) ≡ f (suc i)
    register i true e = contents-refilled m f h.fits i (ltb-true i (count m) e)
    register i false e =
        let past = ltb-false i (count m) e in
        contents_beyond (refilled m f) good i past ∙ sym (h.beyond i past)

    all-registers : (r : ℕ) → 0 < r → contents (refilled m f) r ≡ f r
    all-registers zero l = absurd (omega arith)
    all-registers (suc i) l = register i (ltb i (count m)) refl

pub run_holds : (w : List Instruction) (m : Memory) (p : Position) (b : ℕ) → Good m → EachOf (λ i. 1 ≤ operand i) w
    → EachOf (NamesAtMost (count m)) w → Held m.capacities (run_word w m p b).state.registers
unfolding run_word
run_holds w m p b g lows names =
    run_keeps (W.machine (within_each (capacity_of m.capacities)) w) (λ s. Held m.capacities s.registers)
    (λ s s' live e. after-step m.capacities w lows names s s' e)
    b p.steps (word_state m p)
    (record { fits = contents_fit m g; beyond = contents_beyond m g })

pub memory_stays_good : MemoryStaysGood
memory_stays_good w m p b good lows names =
    let g = memory-is_good m good in
    held_refilled m g (run_word w m p b).state.registers (run_holds w m p b g lows names)
