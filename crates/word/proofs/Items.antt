-- The entries of a word, one after another: the first of the symbols from a place on, and those behind it.
use mathlib.Core.Path.{◌≡◌, refl, sym, ap}
use mathlib.Core.Bool.{Bool, true, false}
use mathlib.Core.List.{List, [], ◌∷◌, map}
use Prim.Native.Nat.{ℕ, zero, suc, ◌+◌, ◌≤◌, ◌<◌}
use native.Mathlib.Omega.{arith}
use lib.ListN.{length, drop, length-drop}
use lib.Seq.{drop-drop}
use lib.Dec.{eqb}
use borrow.Author.Tests.{ne_eqb, eqb-true}
use Rattle.theory.specs.Word.{Symbol, one, hash, symbol_of, Entry, entries, one_before, hash_before}
use Rattle.theory.specs.TurnedDown.{word_entries}
use Rattle.theory.proofs.Words.{entry, entries-first}
use Rattle.text.specs.Runs.{is_byte, run}
use Rattle.text.proofs.Runs.{leading_pass, leading_fail, leading_nil, leading-within}
use Rattle.counting.proofs.Symbols.{Known, known_head, known_tail, known_drop}
use Rattle.word.specs.Scan.{ones_at, hashes_at}

-- Of symbols

ones : List Symbol → ℕ
ones [] = 0
ones (one ∷ s) = suc (ones s)
ones (hash ∷ s) = 0

hashes : List Symbol → ℕ
hashes [] = 0
hashes (one ∷ s) = 0
hashes (hash ∷ s) = suc (hashes s)

-- The first entry is the 1s at the front and the # behind them
first_entry : (x : Symbol) (s : List Symbol)
    → let r = drop (ones (x ∷ s)) (x ∷ s) in
    entries (x ∷ s) ≡ entry (ones (x ∷ s)) (hashes r) ∷ entries (drop (hashes r) r)
unfolding entries ones hashes
first_entry one [] = refl
first_entry one (x ∷ s) = ap {B = List Entry} one_before (first_entry x s)
first_entry hash [] = refl
first_entry hash (one ∷ s) = entries-first 0 1 (one ∷ s) (omega arith) tt
first_entry hash (hash ∷ s) = ap {B = List Entry} hash_before (first_entry hash s)

-- Of bytes

ones-run : (w : List ℕ) → ones (map symbol_of w) ≡ run 49 w
unfolding ones
ones-run [] = sym (leading_nil (is_byte 49))
ones-run (b ∷ w) = go (eqb b 49) refl (ones-run w)
  where
    go : (t : Bool) → eqb b 49 ≡ t → ones (map symbol_of w) ≡ run 49 w → ones (map symbol_of (b ∷ w)) ≡ run 49 (b ∷ w)
    go true e h = rw (e, leading_pass (is_byte 49) b w e) (ap suc h)
    go false e h = rw (e, leading_fail (is_byte 49) b w e)

hashes_run : (w : List ℕ) → Known w → hashes (map symbol_of w) ≡ run 35 w
unfolding hashes
hashes_run [] k = sym (leading_nil (is_byte 35))
hashes_run (b ∷ w) k = go (eqb b 49) refl (hashes_run w (known_tail b w k))
  where
    go : (t : Bool) → eqb b 49 ≡ t → hashes (map symbol_of w) ≡ run 35 w → hashes (map symbol_of (b ∷ w)) ≡ run 35 (b ∷ w)
    go true e h = rw (e, leading_fail (is_byte 35) b w (ne_eqb b 35 (λ q. omega (arith, eqb-true b 49 e))))
    go false e h = rw (e, leading_pass (is_byte 35) b w (rw e at (known_head b w k))) (ap suc h)

map-drop : {A B : Type 0} (f : A → B) (i : ℕ) (l : List A) → drop i (map f l) ≡ map f (drop i l)
map-drop f zero l = refl
map-drop f (suc i) [] = refl
map-drop f (suc i) (a ∷ l) = map-drop f i l

-- The first entry of bytes
front : (w : List ℕ) → Known w → 0 < length w
    → let r = drop (run 49 w) w in word_entries w ≡ entry (run 49 w) (run 35 r) ∷ word_entries (drop (run 35 r) r)
front [] k h = absurd (omega arith)
front (b ∷ w) k h =
    let n : ℕ = run 49 (b ∷ w) in
    let r : List ℕ = drop n (b ∷ w) in
    let on : ones (map symbol_of (b ∷ w)) ≡ n = ones-run (b ∷ w) in
    let past : drop (ones (map symbol_of (b ∷ w))) (map symbol_of (b ∷ w)) ≡ map symbol_of r = rw on (map-drop symbol_of n (b ∷ w)) in
    let hs : hashes (map symbol_of r) ≡ run 35 r = hashes_run r (known_drop n (b ∷ w) k) in
    let rest : drop (run 35 r) (map symbol_of r) ≡ map symbol_of (drop (run 35 r) r) = map-drop symbol_of (run 35 r) r in
    rw (past, on, hs, rest) at (first_entry (symbol_of b) (map symbol_of w))

front-size : (w : List ℕ) → Known w → 0 < length w → 0 < run 49 w + run 35 (drop (run 49 w) w)
front-size [] k h = absurd (omega arith)
front-size (b ∷ w) k h = go (eqb b 49) refl
  where
    go : (t : Bool) → eqb b 49 ≡ t → 0 < run 49 (b ∷ w) + run 35 (drop (run 49 (b ∷ w)) (b ∷ w))
    go true e = omega (arith, leading_pass (is_byte 49) b w e)
    go false e =
        let sharp : is_byte 35 b ≡ true = rw e at (known_head b w k) in
        rw (leading_fail (is_byte 49) b w e) (omega (arith, leading_pass (is_byte 35) b w sharp))

-- From a place on
module _ (w : List ℕ) (k : Known w) (at : ℕ) where
  abbrev next : ℕ
  next = at + ones_at w at + hashes_at w at

  behind : (n : ℕ) → drop n (drop at w) ≡ drop (at + n) w
  behind n = drop-drop n at w

  pub entries_at : at < length w → word_entries (drop at w) ≡ entry (ones_at w at) (hashes_at w at) ∷ word_entries (drop next w)
  entries_at h =
      let n : ℕ = ones_at w at in
      let rest : drop (hashes_at w at) (drop (at + n) w) ≡ drop next w = drop-drop (hashes_at w at) (at + n) w in
      rw (behind n, rest) at (front (drop at w) (known_drop at w k) (omega (arith, length-drop at w)))

  pub next_past : at < length w → at < next
  next_past h =
      let n : ℕ = ones_at w at in
      let some : 0 < n + hashes_at w at = rw (behind n) at (front-size (drop at w) (known_drop at w k) (omega (arith, length-drop at w)))
      in
      omega arith

-- The 1s from a place on, and the # behind them, stand in the word
module _ (w : List ℕ) (at : ℕ) (h : at ≤ length w) where
  pub ones-within : at + ones_at w at ≤ length w
  ones-within = leading-within (is_byte 49) w at h

  pub next-within : at + ones_at w at + hashes_at w at ≤ length w
  next-within = leading-within (is_byte 35) w (at + ones_at w at) ones-within
