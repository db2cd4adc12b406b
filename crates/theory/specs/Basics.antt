-- What several of the other files use: what stands at a place of a list, cells, what there may be or not, sums, tests and facts over lists.
use Rattle.std.specs.Prelude.{Bool, true, false, cond, ◌&&◌, List, [], ◌∷◌, ℕ, zero, suc, ◌+◌, eqb}
use Rattle.std.proofs.Math.Option.{Option, none, some}
use Rattle.std.proofs.Math.ListN.{get_elem?}

-- What stands at a place of a list. Lines and instructions count from 1.
abbrev pub at : {A : Type 0} → List A → ℕ → Option A
at l zero = none
at l (suc n) = get_elem? l n

-- The cells f, with x at i
unfoldable pub put : {A : Type 0} → (ℕ → A) → ℕ → A → ℕ → A
put f i x j = cond (eqb j i) x (f j)

-- The first n cells, as a list
abbrev pub cells : {A : Type 0} → ℕ → (ℕ → A) → List A
cells zero f = []
cells (suc n) f = f 0 ∷ cells n (λ i. f (suc i))

-- x, where the test passes
abbrev pub given : {A : Type 0} → Bool → A → Option A
given true x = some x
given false x = none

-- The first, and where there is none the second
abbrev pub or_else : {A : Type 0} → Option A → Option A → Option A
or_else none y = y
or_else (some x) y = some x

-- The second, of what the first found
abbrev pub and_then : {A B : Type 0} → Option A → (A → Option B) → Option B
and_then none f = none
and_then (some x) f = f x

-- What there is, or else a given thing
abbrev pub default : {A : Type 0} → A → Option A → A
default x none = x
default x (some y) = y

-- What there is of a list of things that may be missing
abbrev pub present : {A : Type 0} → List (Option A) → List A
present [] = []
present (none ∷ l) = present l
present (some x ∷ l) = x ∷ present l

-- All of them, or none where one is missing
abbrev pub with_all : {A : Type 0} → Option A → Option (List A) → Option (List A)
with_all none r = none
with_all (some x) none = none
with_all (some x) (some l) = some (x ∷ l)

abbrev pub every : {A : Type 0} → List (Option A) → Option (List A)
every [] = some []
every (o ∷ l) = with_all o (every l)

abbrev pub sum : List ℕ → ℕ
sum [] = 0
sum (n ∷ l) = n + sum l

-- The test passes at each element; at each number below n
abbrev pub all : {A : Type 0} → (A → Bool) → List A → Bool
all f [] = true
all f (x ∷ l) = f x && all f l

abbrev pub all_below : ℕ → (ℕ → Bool) → Bool
all_below zero f = true
all_below (suc n) f = all_below n f && f n

-- The fact holds of each element
abbrev pub EachOf : {A : Type 0} → (A → Type 0) → List A → Type 0
EachOf P [] = Unit {0}
EachOf P (x ∷ l) = P x × EachOf P l
