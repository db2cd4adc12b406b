-- Numerals and names: what is written in base 10 is read again, and only what is so written is read.
use mathlib.Core.Path.{◌≡◌, refl, sym, ap, ap₂, ◌∙◌, subst}
use mathlib.Core.Logic.{◌≢◌}
use mathlib.Core.Bool.{Bool, true, false, ◌||◌}
use mathlib.Core.Option.{some, some-injective, none-ne-some}
use mathlib.Core.List.{List, [], ◌∷◌, ◌++◌, append_assoc, append-nil}
use Prim.Native.Nat.{ℕ, zero, suc, ◌+◌, ◌-◌, ◌*◌, ◌/◌, ◌%◌, ◌≤◌, ◌<◌}
use native.Mathlib.Nat.{div-add-mod', div-lt_self, div-lt_iff_lt-mul, le-div_iff_mul-le, div-eq_of_lt, mul-add-div_right}
use native.Mathlib.Nat.{mod-lt, mod-eq_of_lt, mul-add-mod_self_right}
use native.Mathlib.Omega.{arith}
use lib.ListN.{length, replicate}
use lib.Dec.{eqb, leb, ltb}
use borrow.Author.Tests.{leb-true, le-leb, ltb-true, ltb-false, lt-ltb, le-ltb, eqb-true, eqb-false, ne_eqb, not-true}
use Rattle.theory.specs.Basics.{all}
use Rattle.theory.specs.Text.{Bytes, Found, is_digit, one_more, digits, value_after, proper, numeral, prime, primes, digit_first}
use Rattle.theory.specs.Text.{index, name, decimal_before, decimal, name_of, Notation, by_digits, by_primes, name_by}
use Rattle.theory.proofs.Faults.{and_first, and_second, or_first, or_second}

-- Digits

abbrev pub AllDigits : Bytes → Type 0
AllDigits d = all is_digit d ≡ true

-- The bytes are none, or begin with no digit: here a numeral ends
abbrev pub NoDigit : Bytes → Type 0
NoDigit [] = Unit {0}
NoDigit (b ∷ t) = is_digit b ≡ false

pub digit_least : (b : ℕ) → is_digit b ≡ true → 48 ≤ b
digit_least b h = leb-true 48 b (and_first (leb 48 b) _ h)

pub digit_most : (b : ℕ) → is_digit b ≡ true → b ≤ 57
digit_most b h = leb-true b 57 (and_second (leb 48 b) _ h)

pub digit_of : (n : ℕ) → n < 10 → is_digit (48 + n) ≡ true
digit_of n h = rw (le-leb 48 (48 + n) (omega arith), le-leb (48 + n) 57 (omega arith))

pub all_append : {A : Type 0} (f : A → Bool) (a b : List A) → all f a ≡ true → all f b ≡ true → all f (a ++ b) ≡ true
all_append f [] b g h = h
all_append f (x ∷ a) b g h = rw (and_first (f x) _ g) (all_append f a b (and_second (f x) _ g) h)

-- The digits at the front are those before the first byte that is none
pub digits_append : (d r : Bytes) → AllDigits d → NoDigit r → digits (d ++ r) ≡ record { value = d; rest = r }
unfolding digits
digits_append [] [] a n = refl
digits_append [] (b ∷ r) a n = rw n
digits_append (b ∷ d) r a n = rw (and_first (is_digit b) _ a) (ap (one_more b) (digits_append d r (and_second (is_digit b) _ a) n))

pub record Split (t : Bytes) (f : Found Bytes) : Type 0 where
  pub whole : f.value ++ f.rest ≡ t
  pub digit : AllDigits f.value
  pub ends : NoDigit f.rest

pub digits_split : (t : Bytes) → Split t (digits t)
unfolding digits
digits_split [] = record { whole = refl; digit = refl; ends = tt }
digits_split (b ∷ t) = go (is_digit b) refl (digits_split t)
  where
    go : (x : Bool) → is_digit b ≡ x → Split t (digits t) → Split (b ∷ t) (digits (b ∷ t))
    go true e s = rw e (record { whole = ap {B = Bytes} (λ l. b ∷ l) s.whole; digit = rw e s.digit; ends = s.ends })
    go false e s = rw e (record { whole = refl; digit = refl; ends = e })

-- The values that digits spell

pub value_append : (n : ℕ) (d e : Bytes) → value_after n (d ++ e) ≡ value_after (value_after n d) e
unfolding value_after
value_append n [] e = refl
value_append n (b ∷ d) e = value_append (n * 10 + (b - 48)) d e

-- More digits spell no less, so that a reader may stop at what is too large
pub value_grows : (n : ℕ) (d : Bytes) → n ≤ value_after n d
unfolding value_after
value_grows n [] = omega arith
value_grows n (b ∷ d) = omega (arith, value_grows (n * 10 + (b - 48)) d)

-- Writing, without the fuel

written-before : (f n : ℕ) (t u : Bytes) → decimal_before f n (t ++ u) ≡ decimal_before f n t ++ u
unfolding decimal_before
written-before zero n t u = refl
written-before (suc f) n t u = go (ltb n 10) refl (written-before f (n / 10) ((48 + n % 10) ∷ t) u)
  where
    go : (x : Bool) → ltb n 10 ≡ x
        → decimal_before f (n / 10) ((48 + n % 10) ∷ (t ++ u)) ≡ decimal_before f (n / 10) ((48 + n % 10) ∷ t) ++ u
        → decimal_before (suc f) n (t ++ u) ≡ decimal_before (suc f) n t ++ u
    go true e h = rw (e, decimal_before)
    go false e h = rw (e, decimal_before) h

before_small : (f n : ℕ) (t : Bytes) → n < 10 → decimal_before f n t ≡ (48 + n) ∷ t
unfolding decimal_before
before_small zero n t h = refl
before_small (suc f) n t h = rw (lt-ltb n 10 h, decimal_before)

before_large : (f n : ℕ) (t : Bytes) → 10 ≤ n → decimal_before (suc f) n t ≡ decimal_before f (n / 10) ((48 + n % 10) ∷ t)
unfolding decimal_before
before_large f n t h = rw (le-ltb n 10 h, decimal_before)

tenth_less : (n : ℕ) → 10 ≤ n → n / 10 < n
tenth_less n h = div-lt_self (omega arith) (omega arith)

enough_fuel : (f g n : ℕ) (t : Bytes) → n ≤ f → n ≤ g → decimal_before f n t ≡ decimal_before g n t
enough_fuel zero g n t a b = before_small 0 n t (omega arith) ∙ sym (before_small g n t (omega arith))
enough_fuel (suc f) zero n t a b = before_small (suc f) n t (omega arith) ∙ sym (before_small 0 n t (omega arith))
enough_fuel (suc f) (suc g) n t a b = go (ltb n 10) refl (enough_fuel f g (n / 10))
  where
    go : (x : Bool) → ltb n 10 ≡ x
        → ((u : Bytes) → n / 10 ≤ f → n / 10 ≤ g → decimal_before f (n / 10) u ≡ decimal_before g (n / 10) u)
        → decimal_before (suc f) n t ≡ decimal_before (suc g) n t
    go true e same =
        let h : n < 10 = ltb-true n 10 e in
        before_small (suc f) n t h ∙ sym (before_small (suc g) n t h)
    go false e same =
        let h : 10 ≤ n = ltb-false n 10 e in
        let less : n / 10 < n = tenth_less n h in
        before_large f n t h ∙ same ((48 + n % 10) ∷ t) (omega arith) (omega arith) ∙ sym (before_large g n t h)

-- A number below 10 is a digit; any other is its tenth and one digit more
pub decimal_small : (n : ℕ) → n < 10 → decimal n ≡ (48 + n) ∷ []
unfolding decimal
decimal_small n h = before_small n n [] h

pub decimal_large : (n : ℕ) → 10 ≤ n → decimal n ≡ decimal (n / 10) ++ ((48 + n % 10) ∷ [])
unfolding decimal
decimal_large zero h = absurd (omega arith)
decimal_large (suc m) h =
    let n : ℕ = suc m in
    let less : n / 10 < n = tenth_less n h in
    let last : Bytes = (48 + n % 10) ∷ [] in
    before_large m n [] h ∙ enough_fuel m (n / 10) (n / 10) last (omega arith) (omega arith) ∙ written-before (n / 10) (n / 10) [] last

-- The induction that goes with them
pub by_tenths : (P : ℕ → Type 0) → ((n : ℕ) → n < 10 → P n) → ((n : ℕ) → 10 ≤ n → P (n / 10) → P n) → (n : ℕ) → P n
by_tenths P small large n = go n n (omega arith)
  where
    choose : (n : ℕ) → (10 ≤ n → P (n / 10)) → (x : Bool) → ltb n 10 ≡ x → P n
    choose n p true e = small n (ltb-true n 10 e)
    choose n p false e = large n (ltb-false n 10 e) (p (ltb-false n 10 e))

    go : (f n : ℕ) → n ≤ f → P n
    go zero n h = small n (omega arith)
    go (suc f) n h = choose n (λ l. let less : n / 10 < n = tenth_less n l in go f (n / 10) (omega arith)) (ltb n 10) refl

pub decimal-digits : (n : ℕ) → AllDigits (decimal n)
decimal-digits = by_tenths (λ n. AllDigits (decimal n)) small large
  where
    digit : (n : ℕ) → n < 10 → AllDigits ((48 + n) ∷ [])
    digit n h = rw (digit_of n h)

    small : (n : ℕ) → n < 10 → AllDigits (decimal n)
    small n h = rw (decimal_small n h) (digit n h)

    large : (n : ℕ) → 10 ≤ n → AllDigits (decimal (n / 10)) → AllDigits (decimal n)
    large n h a = rw (decimal_large n h) (all_append is_digit (decimal (n / 10)) _ a (digit (n % 10) (mod-lt n (omega arith))))

pub decimal_value : (n : ℕ) → value_after 0 (decimal n) ≡ n
unfolding value_after
decimal_value = by_tenths (λ n. value_after 0 (decimal n) ≡ n) small large
  where
    small : (n : ℕ) → n < 10 → value_after 0 (decimal n) ≡ n
    small n h = rw (decimal_small n h) (omega arith)

    large : (n : ℕ) → 10 ≤ n → value_after 0 (decimal (n / 10)) ≡ n / 10 → value_after 0 (decimal n) ≡ n
    large n h v = rw (decimal_large n h, value_append 0 (decimal (n / 10)) ((48 + n % 10) ∷ []), v) (omega (arith, div-add-mod' n 10))

-- No 0 stands in front of a number that isn't 0
abbrev pub NoZero : Bytes → Type 0
NoZero [] = ⊥
NoZero (b ∷ t) = eqb b 48 ≡ false

no_zero_append : (d e : Bytes) → NoZero d → NoZero (d ++ e)
no_zero_append [] e h = absurd h
no_zero_append (b ∷ d) e h = h

pub decimal_no_zero : (n : ℕ) → 1 ≤ n → NoZero (decimal n)
decimal_no_zero = by_tenths (λ n. 1 ≤ n → NoZero (decimal n)) small large
  where
    small : (n : ℕ) → n < 10 → 1 ≤ n → NoZero (decimal n)
    small n h l = rw (decimal_small n h) (ne_eqb (48 + n) 48 (λ e. omega arith))

    large : (n : ℕ) → 10 ≤ n → (1 ≤ n / 10 → NoZero (decimal (n / 10))) → 1 ≤ n → NoZero (decimal n)
    large n h z l = rw (decimal_large n h) (no_zero_append (decimal (n / 10)) _ (z ((le-div_iff_mul-le (omega arith)).1 (omega arith))))

pub decimal-proper : (n : ℕ) → proper (decimal n) ≡ true
decimal-proper zero = rw (decimal_small 0 (omega arith))
decimal-proper (suc n) = go (decimal (suc n)) (decimal_no_zero (suc n) (omega arith))
  where
    go : (d : Bytes) → NoZero d → proper d ≡ true
    go [] h = absurd h
    go (b ∷ []) h = refl
    go (b ∷ c ∷ d) h = rw h

-- Digits that are read are those that are written

-- One digit more after a number that isn't 0
decimal-next : (n c : ℕ) → 1 ≤ n → c < 10 → decimal (n * 10 + c) ≡ decimal n ++ ((48 + c) ∷ [])
decimal-next n c l h =
    let tenth : (n * 10 + c) / 10 ≡ n = mul-add-div_right (omega arith) n c ∙ (ap (λ r. n + r) (div-eq_of_lt h) ∙ omega arith) in
    let last : (n * 10 + c) % 10 ≡ c = mul-add-mod_self_right n 10 c ∙ mod-eq_of_lt h in
    rw (decimal_large (n * 10 + c) (omega arith), tenth, last)

decimal-after : (n : ℕ) (d : Bytes) → 1 ≤ n → AllDigits d → decimal (value_after n d) ≡ decimal n ++ d
unfolding value_after
decimal-after n [] l a = sym (append-nil (decimal n))
decimal-after n (b ∷ d) l a =
    let digit : is_digit b ≡ true = and_first (is_digit b) _ a in
    let least : 48 ≤ b = digit_least b digit in
    let most : b ≤ 57 = digit_most b digit in
    let rest : _ = decimal-after (n * 10 + (b - 48)) d (omega arith) (and_second (is_digit b) _ a) in
    let b_again : 48 + (b - 48) ≡ b = omega arith in
    let next : decimal (n * 10 + (b - 48)) ≡ decimal n ++ (b ∷ []) = rw b_again at (decimal-next n (b - 48) l (omega arith)) in
    rest ∙ ap {B = Bytes} (λ l. l ++ d) next ∙ append_assoc (decimal n) (b ∷ []) d

decimal_digit : (b : ℕ) → is_digit b ≡ true → decimal (0 * 10 + (b - 48)) ≡ b ∷ []
decimal_digit b h =
    let least : 48 ≤ b = digit_least b h in
    let most : b ≤ 57 = digit_most b h in
    let again : 48 + (0 * 10 + (b - 48)) ≡ b = omega arith in
    rw again at (decimal_small (0 * 10 + (b - 48)) (omega arith))

pub decimal_of_value : (d : Bytes) → AllDigits d → proper d ≡ true → decimal (value_after 0 d) ≡ d
unfolding value_after
decimal_of_value [] a p = cc
decimal_of_value (b ∷ []) a p = decimal_digit b (and_first (is_digit b) _ a)
decimal_of_value (b ∷ c ∷ d) a p =
    let digit : is_digit b ≡ true = and_first (is_digit b) _ a in
    let least : 48 ≤ b = digit_least b digit in
    let nonzero : b ≢ 48 = eqb-false b 48 (not-true (eqb b 48) p) in
    decimal-after (0 * 10 + (b - 48)) (c ∷ d) (omega arith) (and_second (is_digit b) _ a)
    ∙ ap {B = Bytes} (λ l. l ++ (c ∷ d)) (decimal_digit b digit)

-- Numerals and names, with other bytes behind them

abbrev pub found : ℕ → Bytes → Found ℕ
found n r = record { value = n; rest = r }

-- The numeral of digits that end
pub numeral_of_digits : (d r : Bytes) → AllDigits d → proper d ≡ true → NoDigit r → numeral (d ++ r) ≡ some (found (value_after 0 d) r)
unfolding numeral
numeral_of_digits d r a p n = rw (digits_append d r a n, p)

pub numeral-decimal : (n : ℕ) (r : Bytes) → NoDigit r → numeral (decimal n ++ r) ≡ some (found n r)
numeral-decimal n r h = rw (numeral_of_digits (decimal n) r (decimal-digits n) (decimal-proper n) h, decimal_value n)

-- What stands before the rest is the number written
pub record Spelled (text : ℕ → Bytes) (t : Bytes) (f : Found ℕ) : Type 0 where
  pub whole : text f.value ++ f.rest ≡ t
  pub ends : NoDigit f.rest

pub numeral-spelled : (t : Bytes) (f : Found ℕ) → numeral t ≡ some f → Spelled decimal t f
unfolding numeral
numeral-spelled t f h = go (proper (digits t).value) refl
  where
    d : Bytes
    d = (digits t).value

    r : Bytes
    r = (digits t).rest

    s : Split t (digits t)
    s = digits_split t

    spelled : proper d ≡ true → Spelled decimal t (found (value_after 0 d) r)
    spelled p = record { whole = ap {B = Bytes} (λ l. l ++ r) (decimal_of_value d s.digit p) ∙ s.whole; ends = s.ends }

    go : (x : Bool) → proper d ≡ x → Spelled decimal t f
    go true e =
        let g : some (found (value_after 0 d) r) ≡ some f = rw e at h in
        subst (Spelled decimal t) (some-injective _ f g) (spelled e)
    go false e = absurd (none-ne-some f (rw e at h))

-- Names

-- The bytes are none, or begin with neither a digit nor a prime: here a name ends
abbrev pub NoIndex : Bytes → Type 0
NoIndex [] = Unit {0}
NoIndex (b ∷ t) = (is_digit b || eqb b prime) ≡ false

no_index_digit : (r : Bytes) → NoIndex r → NoDigit r
no_index_digit [] h = tt
no_index_digit (b ∷ r) h = or_first (is_digit b) _ h

pub decimal-first : (n : ℕ) (r : Bytes) → digit_first (decimal n ++ r) ≡ true
decimal-first n r = go (decimal n) (decimal-proper n) (decimal-digits n)
  where
    go : (d : Bytes) → proper d ≡ true → AllDigits d → digit_first (d ++ r) ≡ true
    go [] p a = cc
    go (b ∷ d) p a = and_first (is_digit b) _ a

primes-first : (n : ℕ) (r : Bytes) → NoIndex r → digit_first (replicate n prime ++ r) ≡ false
primes-first zero [] h = refl
primes-first zero (b ∷ r) h = or_first (is_digit b) _ h
primes-first (suc n) r h = refl

primes-append : (n : ℕ) (r : Bytes) → NoIndex r → primes (replicate n prime ++ r) ≡ found n r
unfolding primes
primes-append zero [] h = refl
primes-append zero (b ∷ r) h = rw (or_second (is_digit b) _ h)
primes-append (suc n) r h = ap (λ (f : Found ℕ). found (suc f.value) f.rest) (primes-append n r h)

-- A name is read from each way to write it
pub name-name_by : (v : Notation) (i : ℕ) (r : Bytes) → NoIndex r → name (name_by v i ++ r) ≡ some (found i r)
unfolding name name_of index
name-name_by by_digits i r h = rw (decimal-first i r) (numeral-decimal i r (no_index_digit r h))
name-name_by by_primes i r h = rw (primes-first i r h, primes-append i r h)

pub primes-whole : (t : Bytes) → replicate (primes t).value prime ++ (primes t).rest ≡ t
unfolding primes
primes-whole [] = refl
primes-whole (b ∷ t) = go (eqb b prime) refl (primes-whole t)
  where
    go : (x : Bool) → eqb b prime ≡ x → replicate (primes t).value prime ++ (primes t).rest ≡ t
        → replicate (primes (b ∷ t)).value prime ++ (primes (b ∷ t)).rest ≡ b ∷ t
    go true e h = rw e (ap₂ {C = Bytes} ◌∷◌ (sym (eqb-true b prime e)) h)
    go false e h = rw e

-- and from nothing else
pub name-written : (t : Bytes) (f : Found ℕ) → name t ≡ some f → (v : Notation) × (name_by v f.value ++ f.rest ≡ t)
unfolding name name_of index
name-written [] f h = absurd (none-ne-some f h)
name-written (b ∷ t) f h = go (eqb b 88) (digit_first t) refl refl
  where
    go : (x y : Bool) → eqb b 88 ≡ x → digit_first t ≡ y → (v : Notation) × (name_by v f.value ++ f.rest ≡ b ∷ t)
    go true true e d = (by_digits, ap₂ {C = Bytes} ◌∷◌ (sym (eqb-true b 88 e)) (numeral-spelled t f (rw (e, d) at h)).whole)
    go true false e d =
        let g : primes t ≡ f = some-injective _ f (rw (e, d) at h) in
        (by_primes, ap₂ {C = Bytes} ◌∷◌ (sym (eqb-true b 88 e)) (rw (← g) (primes-whole t)))
    go false y e d = absurd (none-ne-some f (rw e at h))

-- Two digits at most below 100
pub decimal_short : (n : ℕ) → n < 100 → length (decimal n) ≤ 2
decimal_short n h = go (ltb n 10) refl
  where
    go : (x : Bool) → ltb n 10 ≡ x → length (decimal n) ≤ 2
    go true e = rw (decimal_small n (ltb-true n 10 e)) (omega arith)
    go false e =
        let tenth : n / 10 < 10 = (div-lt_iff_lt-mul {k = 10} {x = n} {y = 10} (omega arith)).1 (omega arith) in
        rw (decimal_large n (ltb-false n 10 e), decimal_small (n / 10) tenth) (omega arith)
