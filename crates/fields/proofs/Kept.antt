-- The numbers of a line as they are kept: a list that grows in 32 cells, each number under a bound.
use mathlib.Core.Path.{◌≡◌, refl, sym, ap, ◌∙◌}
use mathlib.Core.Bool.{Bool, true, false, cond, ◌&&◌}
use mathlib.Core.List.{List, [], ◌∷◌, ◌++◌, map}
use Prim.Native.Nat.{ℕ, zero, suc, ◌+◌, ◌≤◌, min}
use native.Mathlib.Omega.{arith}
use lib.ListN.{length, get_or, set, length-append}
use lib.Dec.{ltb}
use borrow.Author.Tests.{ltb-true, ltb-false, lt-ltb, le-ltb}
use Rattle.theory.specs.Basics.{all}
use Rattle.theory.proofs.Faults.{and_first, and_second}
use Rattle.columns.specs.Columns.{padded}
use Rattle.columns.proofs.Padded.{cells_same, cells-set}
use Rattle.fields.specs.declared.Line.{Line}
use Rattle.fields.specs.Fields.{most, under, put_in, kept, with_number}

-- A list in 32 cells

get_or_last : (l : List ℕ) (x : ℕ) → get_or (l ++ (x ∷ [])) (length l) 0 ≡ x
get_or_last [] x = refl
get_or_last (y ∷ l) x = get_or_last l x

get_or-before : (l : List ℕ) (x j : ℕ) → (j ≡ length l → ⊥) → get_or (l ++ (x ∷ [])) j 0 ≡ get_or l j 0
get_or-before [] x zero h = absurd (h refl)
get_or-before [] x (suc j) h = refl
get_or-before (y ∷ l) x zero h = refl
get_or-before (y ∷ l) x (suc j) h = get_or-before l x j (λ e. h (ap suc e))

padded_push : (l : List ℕ) (x : ℕ) → put_in (padded l) (length l) x ≡ padded (l ++ (x ∷ []))
unfolding padded
padded_push l x = go (ltb (length l) 32) refl
  where
    go : (b : Bool) → ltb (length l) 32 ≡ b → cond b (set (padded l) (length l) x) (padded l) ≡ padded (l ++ (x ∷ []))
    go true e = cells-set 32 (λ i. get_or l i 0) (λ i. get_or (l ++ (x ∷ [])) i 0) (length l) x (λ h. get_or_last l x) (get_or-before l x)
    go false e =
        cells_same 32 (λ i. get_or l i 0) (λ i. get_or (l ++ (x ∷ [])) i 0)
        (λ i h. sym (get_or-before l x i (λ q. omega (arith, ltb-false (length l) 32 e))))

-- The numbers of a line

-- A number kept at most at 2^32 is below the same bounds
kept_below : (n bound : ℕ) → bound ≤ most → ltb (min n most) bound ≡ ltb n bound
kept_below n bound h = go (ltb n bound) refl
  where
    go : (b : Bool) → ltb n bound ≡ b → ltb (min n most) bound ≡ b
    go true e = lt-ltb (min n most) bound (omega (arith, ltb-true n bound e))
    go false e = le-ltb (min n most) bound (omega (arith, ltb-false n bound e))

kept_under : (n bound : ℕ) → bound ≤ most → under bound (min n most) ≡ under bound n
kept_under n bound h = go (ltb n bound) refl
  where
    go : (b : Bool) → ltb n bound ≡ b → under bound (min n most) ≡ under bound n
    go true e = rw (kept_below n bound h, e) (omega (arith, ltb-true n bound e))
    go false e = rw (kept_below n bound h, e)

all_more : (f : ℕ → Bool) (l : List ℕ) (x : ℕ) → (all f l && f x) ≡ all f (l ++ (x ∷ []))
all_more f [] x = go (f x)
  where
    go : (b : Bool) → b ≡ (b && true)
    go true = refl
    go false = refl
all_more f (y ∷ l) x = step (f y) (all_more f l x)
  where
    step : (a : Bool) → (all f l && f x) ≡ all f (l ++ (x ∷ [])) → ((a && all f l) && f x) ≡ (a && all f (l ++ (x ∷ [])))
    step true h = h
    step false h = refl

map_more : (f : ℕ → ℕ) (l : List ℕ) (x : ℕ) → map f (l ++ (x ∷ [])) ≡ map f l ++ (f x ∷ [])
map_more f [] x = refl
map_more f (y ∷ l) x = ap {B = List ℕ} (λ m. f y ∷ m) (map_more f l x)

length-mapped : (f : ℕ → ℕ) (l : List ℕ) → length (map f l) ≡ length l
length-mapped f [] = refl
length-mapped f (y ∷ l) = ap suc (length-mapped f l)

length_more : (l : List ℕ) (x : ℕ) → length l + 1 ≡ length (l ++ (x ∷ []))
length_more l x = sym (length-append l (x ∷ []))

line_same : {a b : List ℕ} {m n : ℕ} {c d : Bool} → a ≡ b → m ≡ n → c ≡ d
    → ◌≡◌ {A = Line} (record { numbers = a; count = m; below = c }) (record { numbers = b; count = n; below = d })
line_same e f g = rw (e, f, g)

pub line-more : (bound : ℕ) (ns : List ℕ) (n : ℕ) → bound ≤ most
    → with_number bound (min n most) (kept bound ns) ≡ kept bound (ns ++ (n ∷ []))
unfolding with_number
line-more bound ns n h = line_same numbers (length_more ns n) below
  where
    ms : List ℕ
    ms = map (under bound) ns

    pushed : put_in (padded ms) (length ns) (under bound n) ≡ padded (map (under bound) (ns ++ (n ∷ [])))
    pushed = rw (map_more (under bound) ns n, ← length-mapped (under bound) ns) (padded_push ms (under bound n))

    numbers : put_in (padded ms) (length ns) (under bound (min n most)) ≡ padded (map (under bound) (ns ++ (n ∷ [])))
    numbers = ap {B = List ℕ} (put_in (padded ms) (length ns)) (kept_under n bound h) ∙ pushed

    below : (all (λ m. ltb m bound) ns && ltb (min n most) bound) ≡ all (λ m. ltb m bound) (ns ++ (n ∷ []))
    below = rw (kept_below n bound h) (all_more (λ m. ltb m bound) ns n)

-- Numbers that are all below the bound are kept as they are
pub kept_all : (bound : ℕ) (ns : List ℕ) → all (λ n. ltb n bound) ns ≡ true → map (under bound) ns ≡ ns
kept_all bound [] h = refl
kept_all bound (n ∷ ns) h =
    let first : ltb n bound ≡ true = and_first (ltb n bound) _ h in
    rw (first, kept_all bound ns (and_second (ltb n bound) _ h))
