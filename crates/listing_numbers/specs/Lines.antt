-- What the code reads of a line, and its parts in between.
use Rattle.std.specs.Prelude as code
use Rattle.std.specs.Prelude.{None, Some, ◌≡◌, List, [], ◌∷◌, ℕ, option_map}
use Rattle.std.proofs.Math.Option.{Option, none, some}
use Rattle.theory.specs.Basics.{given, and_then}
use Rattle.theory.specs.Text.{Bytes, Found, bytes, following, same, numeral}
use Rattle.theory.specs.Word.{Symbol}
use Rattle.listing.specs.Listing.{Line, print, scan, print_name, prints}
use Rattle.listing_numbers.specs.Numbers.{numbers}
use Rattle.listing_numbers.specs.declared.Numbers.{Numbers}

-- The numbers of a line in their order
abbrev pub in_order : Numbers → List ℕ
in_order n = n.kind ∷ n.register ∷ n.one ∷ n.hash ∷ []

-- The numbers of what a text spells, where that is a line
abbrev pub numbers_if : Option Line → code.Option (List ℕ)
numbers_if none = None
numbers_if (some l) = Some (numbers (some l))

-- The numeral that follows a word
abbrev pub after : Bytes → Bytes → Option (Found ℕ)
after w t = and_then (following w t) numeral

-- A P line's symbol is that of its name, and the kind is the symbol's
pub record IsPrint (kind : ℕ) (name : Bytes) (x : Symbol) : Type 0 where
  pub named : name ≡ print_name x
  pub numbered : (n : ℕ) → numbers (some (print x n)) ≡ kind ∷ n ∷ 0 ∷ 0 ∷ []

abbrev pub Prints : ℕ → Bytes → Bytes → code.Option Numbers → Type 0
Prints kind name s r = (x : Symbol) → IsPrint kind name x → option_map in_order r ≡ numbers_if (prints x s)

-- What follows the register of an `Scd`: two targets
unfoldable pub with_targets : ℕ → Bytes → Option Line
with_targets n t =
    and_then (after (bytes " ") t) λ e.
    and_then (after (bytes " ") e.rest) λ f.
    given (same (bytes "") f.rest) (scan n e.value f.value)
