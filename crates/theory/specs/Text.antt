-- Bytes, numerals and names, in primes too (document 02, request 3). "Base 10 throughout, and all text is ASCII. LF is byte 10."
use Rattle.std.specs.Prelude.{Bool, true, false, cond, not, ◌&&◌, ◌||◌, List, [], ◌∷◌, ◌++◌, ℕ, zero, suc, ◌+◌, ◌-◌, ◌*◌, ◌/◌, ◌%◌, replicate, eqb, leb, ltb}
use Rattle.std.proofs.Math.Option.{Option, none, some}
use Prim.Native.Char.{code}
use Prim.Native.String.{String}
use Prim.Native.String as Str

abbrev pub Bytes : Type 0
Bytes = List ℕ

-- The bytes of a quoted text
abbrev pub bytes : String → Bytes
bytes Str.[] = []
bytes (Str.◌∷◌ c s) = code c ∷ bytes s

abbrev pub LF : ℕ
LF = 10

abbrev pub blank : ℕ
blank = 32

-- What stands at the front of some bytes, and what follows it
pub record Found (A : Type 0) : Type 0 where
  pub value : A
  pub rest : Bytes

-- What follows a given text, where the bytes begin with it
unfoldable pub following : Bytes → Bytes → Option Bytes
following [] t = some t
following (b ∷ w) [] = none
following (b ∷ w) (c ∷ t) = cond (eqb b c) (following w t) none

unfoldable pub same : Bytes → Bytes → Bool
same [] [] = true
same [] (c ∷ t) = false
same (b ∷ w) [] = false
same (b ∷ w) (c ∷ t) = eqb b c && same w t

abbrev pub is_digit : ℕ → Bool
is_digit b = leb 48 b && leb b 57

abbrev pub one_more : ℕ → Found Bytes → Found Bytes
one_more b f = record { value = b ∷ f.value; rest = f.rest }

-- The digits at the front
unfoldable pub digits : Bytes → Found Bytes
digits [] = record { value = []; rest = [] }
digits (b ∷ t) = cond (is_digit b) (one_more b (digits t)) (record { value = []; rest = b ∷ t })

-- The number that digits spell, after those of n
unfoldable pub value_after : ℕ → Bytes → ℕ
value_after n [] = n
value_after n (b ∷ t) = value_after (n * 10 + (b - 48)) t

-- One digit or more, with no leading zero
abbrev pub proper : Bytes → Bool
proper [] = false
proper (b ∷ []) = true
proper (b ∷ c ∷ t) = not (eqb b 48)

-- A numeral of any number of digits, and what follows it
unfoldable pub numeral : Bytes → Option (Found ℕ)
numeral t = let f = digits t in cond (proper f.value) (some (record { value = value_after 0 f.value; rest = f.rest })) none

-- A prime is an apostrophe
abbrev pub prime : ℕ
prime = 39

-- The primes at the front, counted
unfoldable pub primes : Bytes → Found ℕ
primes [] = record { value = 0; rest = [] }
primes (b ∷ t) =
    let f = primes t in
    cond (eqb b prime) (record { value = suc f.value; rest = f.rest }) (record { value = 0; rest = b ∷ t })

-- Whether a digit comes first
abbrev pub digit_first : Bytes → Bool
digit_first [] = false
digit_first (b ∷ t) = is_digit b

-- An index: a numeral, or "its index in primes", and no prime is 0. What follows it has to fit by itself: in `X3'` a prime follows the 3
unfoldable pub index : Bytes → Option (Found ℕ)
index t = cond (digit_first t) (numeral t) (some (primes t))

-- A variable's name: X and an index, and "a bare X is index 0". Program lines and sheets read names by this one function
unfoldable pub name : Bytes → Option (Found ℕ)
name [] = none
name (b ∷ t) = cond (eqb b 88) (index t) none

-- "texts in digits": a digit follows every X
unfoldable pub in_digits : Bytes → Bool
in_digits [] = true
in_digits (b ∷ t) = (not (eqb b 88) || digit_first t) && in_digits t

-- The digits of n before t, with fuel for as many divisions
unfoldable pub decimal_before : ℕ → ℕ → Bytes → Bytes
decimal_before zero n t = (48 + n) ∷ t
decimal_before (suc f) n t = elim (ltb n 10) [ true ↦ (48 + n) ∷ t | false ↦ decimal_before f (n / 10) ((48 + n % 10) ∷ t) ]

-- A number in base 10, with no leading zero
unfoldable pub decimal : ℕ → Bytes
decimal n = decimal_before n n []

-- A variable's name as the writer writes it: "The writer always uses digits"
unfoldable pub name_of : ℕ → Bytes
name_of i = 88 ∷ decimal i

-- The two ways to write an index, and a name by either
pub data Notation : Type 0 where
  by_digits by_primes : Notation

abbrev pub name_by : Notation → ℕ → Bytes
name_by by_digits i = name_of i
name_by by_primes i = 88 ∷ replicate i prime

-- "Each line … ends in LF": the lines of a text. Bytes after the last LF are a last line too, one that has no LF (rule 2)
abbrev pub onto_first : ℕ → List Bytes → List Bytes
onto_first b [] = (b ∷ []) ∷ []
onto_first b (l ∷ ls) = (b ∷ l) ∷ ls

unfoldable pub split_lines : Bytes → List Bytes
split_lines [] = []
split_lines (b ∷ t) = cond (eqb b LF) ([] ∷ split_lines t) (onto_first b (split_lines t))

-- Whether the last byte is LF
unfoldable pub ends_in_LF : Bytes → Bool
ends_in_LF [] = false
ends_in_LF (b ∷ []) = eqb b LF
ends_in_LF (b ∷ c ∷ t) = ends_in_LF (c ∷ t)

-- Fields with single blanks between them; the empty line has none. Two blanks have an empty field between them, which nothing reads
unfoldable pub split_blanks : Bytes → List Bytes
split_blanks [] = [] ∷ []
split_blanks (b ∷ t) = cond (eqb b blank) ([] ∷ split_blanks t) (onto_first b (split_blanks t))

abbrev pub fields : Bytes → List Bytes
fields [] = []
fields (b ∷ t) = split_blanks (b ∷ t)

-- A line of fields, as it is written: single blanks between them, LF after the last
abbrev pub blanked : Bytes → List Bytes → Bytes
blanked f [] = f
blanked f (g ∷ fs) = f ++ (blank ∷ blanked g fs)

abbrev pub line_of : List Bytes → Bytes
line_of [] = LF ∷ []
line_of (f ∷ fs) = blanked f fs ++ (LF ∷ [])
