-- The number that a field of a line spells, and the numbers of a line as this crate hands them back.
use Rattle.std.specs.Prelude.{Bool, true, false, cond, ◌&&◌, List, map, ℕ, ◌+◌, min, length, set, ltb, None, Some}
use Rattle.std.specs.Prelude as code
use Rattle.std.proofs.Math.Option.{Option, none, some}
use Rattle.theory.specs.Limits
use Rattle.theory.specs.Basics.{every, all}
use Rattle.theory.specs.Text.{Bytes, numeral, name, fields}
use Rattle.theory.specs.RunSheet.{whole}
use Rattle.numerals.specs.declared.Number.{Number}
use Rattle.columns.specs.Columns.{padded}
use Rattle.fields.specs.declared.Line.{Line}

-- Fields

-- Numbers from here on are above any capacity, and need not be told from each other
abbrev pub most : ℕ
most = 4294967296

abbrev pub spelled : Option ℕ → code.Option ℕ
spelled none = None
spelled (some n) = Some (min n most)

-- What was found at the front of a text of so many bytes, where that is all of it
abbrev pub all_of : ℕ → code.Option Number → code.Option ℕ
all_of size None = None
all_of size (Some n) = cond (ltb n.end size) None (Some n.value)

-- A field is a name, in the line of names, or a numeral
abbrev pub field_of : Bool → Bytes → Option ℕ
field_of true f = whole (name f)
field_of false f = whole (numeral f)

-- Lines

unfoldable pub numbers_of : Bool → Bytes → Option (List ℕ)
numbers_of named l = every (map (field_of named) (fields l))

-- The number, where it is below the bound; else 0
abbrev pub under : ℕ → ℕ → ℕ
under bound n = cond (ltb n bound) n 0

abbrev pub put_in : List ℕ → ℕ → ℕ → List ℕ
put_in l i n = cond (ltb i Limits.state_values) (set l i n) l

-- The numbers of a line as the code keeps them
abbrev pub kept : ℕ → List ℕ → Line
kept bound ns = record { numbers = padded (map (under bound) ns); count = length ns; below = all (λ n. ltb n bound) ns }

unfoldable pub line_of : ℕ → Option (List ℕ) → code.Option Line
line_of bound none = None
line_of bound (some ns) = Some (kept bound ns)

-- One number more
unfoldable pub with_number : ℕ → ℕ → Line → Line
with_number bound n l =
    record {
      numbers = put_in l.numbers l.count (under bound n);
      count = l.count + 1;
      below = l.below && ltb n bound;
    }
