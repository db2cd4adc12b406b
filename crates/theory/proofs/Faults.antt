-- What it says that a rule turns nothing down: laws of the answers and tests that the rules are written with.
use mathlib.Core.Path.{◌≡◌, refl}
use mathlib.Core.Bool.{Bool, true, false, not, ◌&&◌, ◌||◌}
use mathlib.Core.Option.{Option, none, some, none-ne-some}
use Prim.Native.Nat.{ℕ}
use Rattle.theory.specs.Basics.{given, or_else, and_then}
use Rattle.theory.specs.TurnedDown.{unless, refuse, done, answer}
use Rattle.theory.specs.declared.Refusal.{Refusal}

module _ {A : Type 0} where
  pub none_first : (x y : Option A) → or_else x y ≡ none → x ≡ none
  none_first none y h = refl
  none_first (some a) y h = h

  pub none_second : (x y : Option A) → or_else x y ≡ none → y ≡ none
  none_second none y h = h
  none_second (some a) y h = cc

  pub neither : (x y : Option A) → x ≡ none → y ≡ none → or_else x y ≡ none
  neither x y g h = rw (g, h)

  pub and_then_some : {B : Type 0} (x : Option A) (f : A → Option B) (b : B)
      → and_then x f ≡ some b → (a : A) × (x ≡ some a) × (f a ≡ some b)
  and_then_some none f b h = absurd (none-ne-some b h)
  and_then_some (some a) f b h = (a, refl, h)

  pub given_none : (t : Bool) (a : A) → given t a ≡ none → t ≡ false
  given_none true a h = cc
  given_none false a h = refl

  pub given_some : (t : Bool) (a b : A) → given t a ≡ some b → (t ≡ true) × (a ≡ b)
  given_some true a b h = (refl, cc)
  given_some false a b h = (cc, cc)

  -- What a call hands back as its result, no rule turned down
  pub answer_done : (r : Option Refusal) (a b : A) → answer r a ≡ done b → (r ≡ none) × (a ≡ b)
  answer_done none a b h = (refl, cc)
  answer_done (some r) a b h = (cc, cc)

pub unless_none : (t : Bool) (number place : ℕ) → unless t number place ≡ none → t ≡ true
unless_none true number place h = refl
unless_none false number place h = cc

-- A rule that asks for the first of some places turns nothing down where there is none
pub none_refused : (x : Option ℕ) (number : ℕ) → and_then x (refuse number) ≡ none → x ≡ none
none_refused none number h = refl
none_refused (some place) number h = cc

pub and_first : (a b : Bool) → (a && b) ≡ true → a ≡ true
and_first true b h = refl
and_first false b h = h

pub and_second : (a b : Bool) → (a && b) ≡ true → b ≡ true
and_second true b h = h
and_second false b h = cc

pub or_given : (a b : Bool) → (not a || b) ≡ true → a ≡ true → b ≡ true
or_given true b h g = h
or_given false b h g = cc

pub or_true : (a b : Bool) → b ≡ true → (a || b) ≡ true
or_true true b h = refl
or_true false b h = h

pub or_first : (a b : Bool) → (a || b) ≡ false → a ≡ false
or_first true b h = h
or_first false b h = refl

pub or_second : (a b : Bool) → (a || b) ≡ false → b ≡ false
or_second true b h = cc
or_second false b h = h
