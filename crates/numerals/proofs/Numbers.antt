-- Laws of what stands at a place of a text: digits, numerals and names.
use mathlib.Core.Path.{◌≡◌, refl, sym, ap, ◌∙◌}
use mathlib.Core.Bool.{Bool, true, false}
use mathlib.Core.Option.{some}
use mathlib.Core.List.{[], ◌∷◌}
use Prim.Native.Nat.{ℕ, suc, ◌+◌, ◌-◌, ◌*◌, ◌<◌, ◌≤◌, min, max}
use native.Mathlib.Nat.{add-zero}
use native.Mathlib.Numerals.{add-one}
use native.Mathlib.Omega.{arith}
use borrow.Author.Tests.{leb-true, leb-false, lt-leb, le-leb, eq-eqb, ne_eqb}
use lib.Dec.{eqb, leb}
use lib.ListN.{length, get_or, drop, replicate, length-append, length-drop, length-replicate, drop_of_length-le, get_or-append}
use lib.Seq.{drop-cons, get_or-drop}
use Rattle.std.specs.Prelude as code
use Rattle.std.specs.Prelude.{None, Some}
use Rattle.theory.specs.Text.{Bytes, Found, is_digit, digits, value_after, proper, numeral, prime, primes, digit_first, index, name}
use Rattle.theory.proofs.Numerals.{value_grows, digits_split, primes-whole}
use Rattle.numerals.specs.declared.Number.{Number}
use Rattle.text.specs.Runs.{leading, run}
use Rattle.numerals.specs.Numbers.{found_in, DigitsTo}

-- Digits

limited-after : (most m : ℕ) (d : Bytes) → min (value_after (min m most) d) most ≡ min (value_after m d) most
limited-after most m d = go (leb m most) refl
  where
    go : (b : Bool) → leb m most ≡ b → min (value_after (min m most) d) most ≡ min (value_after m d) most
    go true e = let f : min m most ≡ m = omega (arith, leb-true m most e) in rw f
    go false e = omega (arith, leb-false m most e, value_grows m d, value_grows (min m most) d)

-- Before place `end`: with the digits that are left those from `at` on are whole, and the number so far is that of all
pub record DigitsFrom (s : Bytes) (at most end value : ℕ) : Type 0 where
  pub small : value ≤ most
  pub long : end + length (digits (drop end s)).value ≡ at + length (digits (drop at s)).value
  pub spells : min (value_after value (digits (drop end s)).value) most ≡ min (value_after 0 (digits (drop at s)).value) most

pub digits-start : (s : Bytes) (at most : ℕ) → DigitsFrom s at most at 0
digits-start s at most = record { small = omega arith; long = refl; spells = refl }

module _ {s : Bytes} {at most end value : ℕ} (h : DigitsFrom s at most end value) where
  pub digits_more : (b : ℕ) → end < length s → b ≡ get_or s end 0 → 48 ≤ b → b ≤ 57
      → DigitsFrom s at most (end + 1) (min (value * 10 + (b - 48)) most)
  unfolding digits value_after
  digits_more b l e low high =
      let here : (digits (drop end s)).value ≡ b ∷ (digits (drop (end + 1) s)).value =
      rw (drop-cons s end 0 l, ← e, le-leb 48 b low, le-leb b 57 high, add-one end) in
      record {
        small = omega arith;
        long = omega (arith, h.long, ap length here);
        spells = limited-after most (value * 10 + (b - 48)) (digits (drop (end + 1) s)).value
            ∙ ap (λ d. min (value_after value d) most) (sym here) ∙ h.spells;
      }

  stop : (digits (drop end s)).value ≡ [] → DigitsTo s at most (record { end = end; value = value })
  unfolding value_after
  stop e =
      let last : min value most ≡ min (value_after 0 (digits (drop at s)).value) most =
      ap (λ d. min (value_after value d) most) (sym e) ∙ h.spells in
      record { end = omega (arith, h.long, ap length e); value = omega (arith, last, h.small) }

  pub digits_low : end < length s → get_or s end 0 < 48 → DigitsTo s at most (record { end = end; value = value })
  unfolding digits
  digits_low l b = stop (rw (drop-cons s end 0 l, lt-leb 48 (get_or s end 0) b))

  pub digits_high : end < length s → 57 < get_or s end 0 → DigitsTo s at most (record { end = end; value = value })
  unfolding digits
  digits_high l b = stop (rw (drop-cons s end 0 l, lt-leb (get_or s end 0) 57 b, le-leb 48 (get_or s end 0) (omega arith)))

  -- Where none ended them before: at the text's end, or where they began past it
  pub digits_end : {last : ℕ} → last ≡ max (length s) at → (at ≤ length s → end ≤ length s) → length s ≤ end
      → DigitsTo s at most (record { end = last; value = value })
  unfolding digits
  digits_end {last} e inside l =
      let none : (digits (drop end s)).value ≡ [] = rw (drop_of_length-le s l) in
      let past : length s ≤ at → length (digits (drop at s)).value ≡ 0 = λ k. rw (drop_of_length-le s k) in
      let same : last ≡ end = grind (arith, e, inside, past, h.long, ap length none) in
      rw same (stop none)

-- Numerals

told : {a b m n : ℕ} → a ≡ b → m ≡ n
    → ◌≡◌ {A = code.Option Number} (Some (record { end = a; value = m })) (Some (record { end = b; value = n }))
told e f = rw (e, f)

proper_none : (d : Bytes) → length d ≡ 0 → proper d ≡ false
proper_none [] e = refl
proper_none (b ∷ d) e = absurd (omega arith)

proper_zero : (d : Bytes) → 1 < length d → get_or d 0 0 ≡ 48 → proper d ≡ false
proper_zero [] l e = absurd (omega arith)
proper_zero (b ∷ []) l e = absurd (omega arith)
proper_zero (b ∷ c ∷ d) l e = rw (eq-eqb b 48 e)

proper_one : (d : Bytes) → length d ≡ 1 → proper d ≡ true
proper_one [] e = absurd (omega arith)
proper_one (b ∷ []) e = refl
proper_one (b ∷ c ∷ d) e = absurd (omega arith)

proper_other : (d : Bytes) → 0 < length d → (get_or d 0 0 ≡ 48 → ⊥) → proper d ≡ true
proper_other [] l n = absurd (omega arith)
proper_other (b ∷ []) l n = refl
proper_other (b ∷ c ∷ d) l n = rw (ne_eqb b 48 n)

first_digit : (t : Bytes) → 0 < length (digits t).value → digit_first t ≡ true
unfolding digits
first_digit [] l = absurd (omega arith)
first_digit (b ∷ t) l = go (is_digit b) refl
  where
    go : (x : Bool) → is_digit b ≡ x → is_digit b ≡ true
    go true e = e
    go false e = let z : 0 < 0 = rw e at l in absurd (omega arith)

no_first_digit : (t : Bytes) → length (digits t).value ≡ 0 → digit_first t ≡ false
unfolding digits
no_first_digit [] l = refl
no_first_digit (b ∷ t) l = go (is_digit b) refl
  where
    go : (x : Bool) → is_digit b ≡ x → is_digit b ≡ false
    go true e = let z : suc (length (digits t).value) ≡ 0 = rw e at l in absurd (omega arith)
    go false e = e

module _ (s : Bytes) (at most : ℕ) where
  abbrev read : Found Bytes
  read = digits (drop at s)

  improper : proper read.value ≡ false → None ≡ found_in (length s) most (numeral (drop at s))
  unfolding numeral
  improper e = rw e

  long : length read.value + length read.rest ≡ length s - at
  long = sym (length-append read.value read.rest) ∙ ap length (digits_split (drop at s)).whole ∙ length-drop at s

  first : 0 < length read.value → get_or read.value 0 0 ≡ get_or s at 0
  first l =
      sym (get_or-append read.value read.rest 0 0 l)
      ∙ ap (λ u. get_or u 0 0) (digits_split (drop at s)).whole
      ∙ get_or-drop at s 0 0
      ∙ rw (add-zero at)

  module _ {r : Number} (d : DigitsTo s at most r) where
    pub digit_missing : r.end ≤ at → digit_first (drop at s) ≡ false
    digit_missing e = no_first_digit (drop at s) (omega (arith, d.end))

    pub no_digits : r.end ≤ at → None ≡ found_in (length s) most (numeral (drop at s))
    no_digits e = improper (proper_none read.value (omega (arith, d.end)))

    module _ (some : at < r.end) where
      pub digit_stands : digit_first (drop at s) ≡ true
      digit_stands = first_digit (drop at s) (omega (arith, d.end))

      pub digits-within : at < length s
      digits-within = omega (arith, d.end, long)

      properly : proper read.value ≡ true → Some r ≡ found_in (length s) most (numeral (drop at s))
      unfolding numeral
      properly e = rw e (told (omega (arith, long, d.end)) d.value)

      pub no_zero : get_or s at 0 ≡ 48 → at + 1 < r.end → None ≡ found_in (length s) most (numeral (drop at s))
      no_zero e l = improper (proper_zero read.value (omega (arith, d.end)) (first (omega (arith, d.end)) ∙ e))

      pub numeral_one : r.end ≤ at + 1 → Some r ≡ found_in (length s) most (numeral (drop at s))
      numeral_one l = properly (proper_one read.value (omega (arith, d.end)))

      pub numeral_other : (get_or s at 0 ≡ 48 → ⊥) → Some r ≡ found_in (length s) most (numeral (drop at s))
      numeral_other z =
          let l : 0 < length read.value = omega (arith, d.end) in
          properly (proper_other read.value l (λ e. z (sym (first l) ∙ e)))

-- Names

primes-run : (t : Bytes) → (primes t).value ≡ run prime t
unfolding primes leading
primes-run [] = refl
primes-run (b ∷ t) = go (eqb b prime) refl (primes-run t)
  where
    go : (x : Bool) → eqb b prime ≡ x → (primes t).value ≡ run prime t → (primes (b ∷ t)).value ≡ run prime (b ∷ t)
    go true e h = rw e (ap suc h)
    go false e h = rw e

primes-long : (t : Bytes) → (primes t).value + length (primes t).rest ≡ length t
primes-long t =
    ap (λ n. n + length (primes t).rest) (sym (length-replicate (primes t).value prime))
    ∙ sym (length-append (replicate (primes t).value prime) (primes t).rest)
    ∙ ap length (primes-whole t)

module _ (s : Bytes) (at most : ℕ) where
  pub primes_found : at ≤ length s → {value : ℕ} → value ≡ min (run prime (drop at s)) most
      → Some (record { end = at + run prime (drop at s); value = value }) ≡ found_in (length s) most (some (primes (drop at s)))
  primes_found h e =
      told (omega (arith, primes-run (drop at s), primes-long (drop at s), length-drop at s))
      (e ∙ ap (λ n. min n most) (sym (primes-run (drop at s))))

  pub no_name_end : length s ≤ at → None ≡ found_in (length s) most (name (drop at s))
  unfolding name
  no_name_end h = rw (drop_of_length-le s h)

  module _ (h : at < length s) where
    pub no_name_X : (get_or s at 0 ≡ 88 → ⊥) → None ≡ found_in (length s) most (name (drop at s))
    unfolding name
    no_name_X n = rw (drop-cons s at 0 h, ne_eqb (get_or s at 0) 88 n)

module _ (s : Bytes) (at : ℕ) (h : at < length s) (X : get_or s at 0 ≡ 88) where
  pub name-in_digits : digit_first (drop (at + 1) s) ≡ true → numeral (drop (at + 1) s) ≡ name (drop at s)
  unfolding name index
  name-in_digits d = rw (drop-cons s at 0 h, eq-eqb (get_or s at 0) 88 X, ← add-one at, d)

  pub name_in_primes : digit_first (drop (at + 1) s) ≡ false → some (primes (drop (at + 1) s)) ≡ name (drop at s)
  unfolding name index
  name_in_primes d = rw (drop-cons s at 0 h, eq-eqb (get_or s at 0) 88 X, ← add-one at, d)
