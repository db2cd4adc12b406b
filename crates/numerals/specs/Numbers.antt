-- A numeral or a name at a place of a text: where it ends, and its number, which is kept at a limit where it is above that.
use Rattle.std.specs.Prelude.{◌≡◌, ℕ, ◌+◌, ◌-◌, ◌<◌, min, length, drop, None, Some}
use Rattle.std.specs.Prelude as code
use Rattle.std.proofs.Math.Option.{Option, none, some}
use Rattle.theory.specs.Text.{Bytes, Found, digits, value_after, numeral}
use Rattle.numerals.specs.declared.Number.{Number}

-- What was found in a text of n bytes
abbrev pub found_in : ℕ → ℕ → Option (Found ℕ) → code.Option Number
found_in n most none = None
found_in n most (some f) = Some (record { end = n - length f.rest; value = min f.value most })

-- The digits from a place on
pub record DigitsTo (t : Bytes) (at most : ℕ) (r : Number) : Type 0 where
  pub end : r.end ≡ at + length (digits (drop at t)).value
  pub value : r.value ≡ min (value_after 0 (digits (drop at t)).value) most

-- What they are as a numeral, where there are some
abbrev pub AsNumeral : Bytes → ℕ → Number → code.Option Number → Type 0
AsNumeral t at d r = (most : ℕ) → DigitsTo t at most d → at < d.end → r ≡ found_in (length t) most (numeral (drop at t))
