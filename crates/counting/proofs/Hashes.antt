-- Six # that stand together, seen by the largest of six bytes.
use mathlib.Core.Path.{◌≡◌, refl}
use mathlib.Core.Bool.{Bool, true, false, ◌&&◌}
use mathlib.Core.Logic.{⊎_elim}
use mathlib.Core.List.{List, [], ◌∷◌}
use Prim.Native.Nat.{ℕ, zero, suc, ◌+◌, ◌≤◌, ◌<◌, max, zero-le}
use native.Mathlib.Numerals.{add-one}
use native.Mathlib.Omega.{arith}
use lib.ListN.{length, drop, get_or, length-drop}
use lib.Seq.{drop-cons, get_or-drop}
use lib.Dec.{eqb, leb}
use borrow.Author.Tests.{eqb-true, ne_eqb, le-leb, lt-leb, leb-true}
use Rattle.theory.proofs.Faults.{and_first, and_second}
use Rattle.text.specs.Runs.{is_byte, run}
use Rattle.text.proofs.Runs.{leading_pass, leading_fail, leading_nil, leading_length}
use Rattle.counting.specs.Counts.{is_sixless}
use Rattle.counting.proofs.Flags.{lt_or_le}
use Rattle.counting.proofs.Symbols.{Known, known_head, known_tail, known_drop}

-- The largest of the first six
unfoldable pub top : List ℕ → ℕ
top l = max (max (max (get_or l 0 0) (get_or l 1 0)) (max (get_or l 2 0) (get_or l 3 0))) (max (get_or l 4 0) (get_or l 5 0))

pub top_is : (w : List ℕ) (i a b c d r : ℕ) → a ≡ max (get_or w i 0) (get_or w (i + 1) 0) → b ≡ max (get_or w (i + 2) 0) (get_or w (i + 3) 0)
    → c ≡ max (get_or w (i + 4) 0) (get_or w (i + 5) 0) → d ≡ max a b → r ≡ max d c → r ≡ top (drop i w)
unfolding top
top_is w i a b c d r p q s t u =
    let here : i + 0 ≡ i = omega arith in
    rw (
      get_or-drop i w 0 0,
      get_or-drop i w 1 0,
      get_or-drop i w 2 0,
      get_or-drop i w 3 0,
      get_or-drop i w 4 0,
      get_or-drop i w 5 0,
      here,
      u,
      t,
      p,
      q,
      s,
    )

run_at : (l : List ℕ) (k : ℕ) → k < run 35 l → get_or l k 0 ≡ 35
run_at [] k h = absurd (omega (arith, leading_nil (is_byte 35)))
run_at (b ∷ l) k h = go (eqb b 35) refl k h (run_at l)
  where
    go : (t : Bool) → eqb b 35 ≡ t → (k : ℕ) → k < run 35 (b ∷ l) → ((k : ℕ) → k < run 35 l → get_or l k 0 ≡ 35) → get_or (b ∷ l) k 0 ≡ 35
    go true e zero h r = eqb-true b 35 e
    go true e (suc k) h r = r k (omega (arith, leading_pass (is_byte 35) b l e))
    go false e k h r = absurd (omega (arith, leading_fail (is_byte 35) b l e))

run_few : (l : List ℕ) → (5 < length l → 49 ≤ top l) → run 35 l ≤ 5
unfolding top
run_few l h = ⊎_elim (λ g. absurd (six g)) (λ g. g) (lt_or_le 5 (run 35 l))
  where
    six : 5 < run 35 l → ⊥
    six g = omega (
      arith,
      h (omega (arith, leading_length (is_byte 35) l)),
      run_at l 0 (omega arith),
      run_at l 1 (omega arith),
      run_at l 2 (omega arith),
      run_at l 3 (omega arith),
      run_at l 4 (omega arith),
      run_at l 5 (omega arith),
    )

-- Symbols that are all below a 1 are #
run_low : (k : ℕ) (l : List ℕ) → Known l → k ≤ length l → ((j : ℕ) → j < k → get_or l j 0 < 49) → k ≤ run 35 l
run_low zero l known h low = zero-le
run_low (suc k) [] known h low = absurd (omega arith)
run_low (suc k) (b ∷ l) known h low =
    let other : eqb b 49 ≡ false = ne_eqb b 49 (λ e. omega (arith, e, low 0 (omega arith))) in
    let sharp : is_byte 35 b ≡ true = rw other at (known_head b l known) in
    let rest : k ≤ run 35 l = run_low k l (known_tail b l known) (omega arith) (λ j g. low (suc j) (omega arith)) in
    omega (arith, leading_pass (is_byte 35) b l sharp)

run_many : (l : List ℕ) → Known l → 5 < length l → top l < 49 → 5 < run 35 l
unfolding top
run_many l known h g = run_low 6 l known (omega arith) low
  where
    low : (j : ℕ) → j < 6 → get_or l j 0 < 49
    low zero e = omega arith
    low (suc zero) e = omega arith
    low (suc (suc zero)) e = omega arith
    low (suc (suc (suc zero))) e = omega arith
    low (suc (suc (suc (suc zero)))) e = omega arith
    low (suc (suc (suc (suc (suc zero))))) e = omega arith
    low (suc (suc (suc (suc (suc (suc j)))))) e = absurd (omega arith)

-- From a place on
module _ (w : List ℕ) (i : ℕ) where
  pub sixless_at : i < length w → is_sixless (drop i w) ≡ (leb (run 35 (drop i w)) 5 && is_sixless (drop (i + 1) w))
  unfolding is_sixless
  sixless_at h = rw (drop-cons w i 0 h, add-one i)

  pub few_at : 49 ≤ top (drop i w) → leb (run 35 (drop i w)) 5 ≡ true
  few_at g = le-leb (run 35 (drop i w)) 5 (run_few (drop i w) (λ h. g))

  pub many_at : Known w → i + 5 < length w → top (drop i w) < 49 → leb (run 35 (drop i w)) 5 ≡ false
  many_at known h g = lt-leb (run 35 (drop i w)) 5 (run_many (drop i w) (known_drop i w known) (omega (arith, length-drop i w)) g)

pub sixless_short : (l : List ℕ) → length l ≤ 5 → is_sixless l ≡ true
unfolding is_sixless
sixless_short [] h = refl
sixless_short (b ∷ l) h = rw (le-leb (run 35 (b ∷ l)) 5 (omega (arith, leading_length (is_byte 35) (b ∷ l))), sixless_short l (omega arith))

-- A byte more in front
module _ (b : ℕ) (w : List ℕ) where
  pub sixless_here : is_sixless (b ∷ w) ≡ true → run 35 (b ∷ w) ≤ 5
  unfolding is_sixless
  sixless_here h = leb-true (run 35 (b ∷ w)) 5 (and_first _ (is_sixless w) h)

  pub sixless_behind : is_sixless (b ∷ w) ≡ true → is_sixless w ≡ true
  unfolding is_sixless
  sixless_behind h = and_second (leb (run 35 (b ∷ w)) 5) _ h

  pub sixless_more : run 35 (b ∷ w) ≤ 5 → is_sixless w ≡ true → is_sixless (b ∷ w) ≡ true
  unfolding is_sixless
  sixless_more h g = rw (le-leb (run 35 (b ∷ w)) 5 h, g)
