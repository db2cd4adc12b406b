-- The number that a field spells: a name or a numeral that is the whole of it; and the numbers of several fields.
use mathlib.Core.Path.{◌≡◌, refl}
use mathlib.Core.Bool.{true, false}
use mathlib.Core.Option.{Option, none, some}
use mathlib.Core.List.{List, [], ◌∷◌, ◌++◌, map}
use Prim.Native.Nat.{ℕ, ◌-◌, ◌<◌}
use native.Mathlib.Omega.{arith}
use lib.ListN.{length}
use borrow.Author.Tests.{lt-ltb, le-ltb}
use Rattle.theory.specs.Basics.{with_all, every}
use Rattle.theory.specs.Text.{Bytes, Found, digits, numeral, name}
use Rattle.theory.specs.RunSheet.{whole}
use Rattle.numerals.specs.Numbers.{found_in}
use Rattle.fields.specs.Fields.{most, spelled, all_of, field_of}

-- What is found at the front of a text is a whole field where it ends with the text
all_found : (size : ℕ) (o : Option (Found ℕ)) → 0 < size → all_of size (found_in size most o) ≡ spelled (whole o)
all_found size none h = refl
all_found size (some f) h = go f.rest refl
  where
    go : (r : Bytes) → f.rest ≡ r → all_of size (found_in size most (some f)) ≡ spelled (whole (some f))
    go [] e = rw (e, le-ltb (size - 0) size (omega arith))
    go (b ∷ r) e = rw (e, lt-ltb (size - length (b ∷ r)) size (omega arith))

pub name-whole : (t : Bytes) → all_of (length t) (found_in (length t) most (name t)) ≡ spelled (field_of true t)
unfolding name
name-whole [] = refl
name-whole (b ∷ t) = all_found (length (b ∷ t)) (name (b ∷ t)) (omega arith)

pub numeral-whole : (t : Bytes) → all_of (length t) (found_in (length t) most (numeral t)) ≡ spelled (field_of false t)
unfolding numeral digits
numeral-whole [] = refl
numeral-whole (b ∷ t) = all_found (length (b ∷ t)) (numeral (b ∷ t)) (omega arith)

-- The numbers of several fields

with_more : (o : Option ℕ) (x : ℕ) (r q : Option (List ℕ)) (l : List ℕ) → with_all o r ≡ some l
    → ((m : List ℕ) → r ≡ some m → q ≡ some (m ++ (x ∷ []))) → with_all o q ≡ some (l ++ (x ∷ []))
with_more none x r q l h f = cc
with_more (some y) x none q l h f = cc
with_more (some y) x (some m) q l h f =
    let whole : y ∷ m ≡ l = cc in
    rw (f m refl, ← whole)

module _ (read : Bytes → Option ℕ) where
  -- A field more that is a number
  pub every_more : (fs : List Bytes) (f : Bytes) (ns : List ℕ) (n : ℕ) → every (map read fs) ≡ some ns → read f ≡ some n
      → every (map read (fs ++ (f ∷ []))) ≡ some (ns ++ (n ∷ []))
  every_more [] f ns n h e =
      let nothing : [] ≡ ns = cc in
      rw (e, ← nothing)
  every_more (g ∷ fs) f ns n h e = with_more (read g) n (every (map read fs)) _ ns h (λ m q. every_more fs f m n q e)

  -- or that isn't
  pub every_fails : (fs gs : List Bytes) (f : Bytes) → read f ≡ none → every (map read (fs ++ (f ∷ gs))) ≡ none
  every_fails [] gs f e = rw e
  every_fails (g ∷ fs) gs f e = rw (every_fails fs gs f e) (nothing (read g))
    where
      nothing : (o : Option ℕ) → with_all o none ≡ none
      nothing none = refl
      nothing (some y) = refl
