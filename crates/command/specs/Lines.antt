-- What the code reads of a line: three numbers, indices limited to 32, which stands for all above 31.
use Rattle.std.specs.Prelude as code
use Rattle.std.specs.Prelude.{None, Some, Bool, cond, ◌≡◌, ℕ, ◌+◌, min, eqb, ltb, take, drop}
use Rattle.std.proofs.Math.Option.{Option, none, some, map}
use Rattle.theory.specs.Basics.{given, or_else, and_then}
use Rattle.theory.specs.Text.{Bytes, bytes, same, name}
use Rattle.theory.specs.ProgramText.{clear, increment, copy, loop, while, Command, plain, opens, closes, around, assigns}
use Rattle.command.specs.declared.Numbers.{Numbers}

abbrev pub limited : ℕ → ℕ
limited n = min n 32

-- Kind 0, which no command has
abbrev pub no_numbers : Numbers
no_numbers = record { kind = 0; index = 0; source = 0 }

abbrev pub numbers_as : ℕ → ℕ → ℕ → Numbers
numbers_as k i j = record { kind = k; index = limited i; source = limited j }

abbrev pub of_kind : ℕ → Option ℕ → code.Option Numbers
of_kind k none = None
of_kind k (some i) = Some (numbers_as k i 0)

abbrev pub numbered : Option Command → Numbers
numbered none = no_numbers
numbered (some (plain (clear i))) = numbers_as 1 i 0
numbered (some (plain (increment i))) = numbers_as 2 i 0
numbered (some (plain (copy i j))) = numbers_as 3 i j
numbered (some (opens loop i)) = numbers_as 4 i 0
numbered (some (closes loop i)) = numbers_as 5 i 0
numbered (some (opens while i)) = numbers_as 6 i 0
numbered (some (closes while i)) = numbers_as 7 i 0

-- The same where there is a command
abbrev pub numbered_if : Option Command → code.Option Numbers
numbered_if none = None
numbered_if (some c) = Some (numbered (some c))

-- What an assignment to variable i is, by what stands after its arrow: an increment or a copy
unfoldable pub from_name : ℕ → Bytes → Option Command
from_name i u =
    let pair : Bytes → Option (ℕ × ℕ) = λ back. and_then (name u) λ g. given (same back g.rest) (i, g.value) in
    or_else (and_then (pair (bytes " + 1")) λ ij. given (eqb ij.0 ij.1) (plain (increment ij.0)))
    (map (λ ij. plain (copy ij.0 ij.1)) (pair (bytes "")))

-- The largest number of a name that is told from others
abbrev pub most : ℕ
most = 18446744073709551615

-- The test whether the name that begins the line s and ends at `end`, of number `value`, is that of the variable whose name stands from
-- `at` to `last`, of number `source`: both numbers are kept at the largest
abbrev pub alike : Bytes → ℕ → ℕ → ℕ → ℕ → ℕ → Bool
alike s end value at last source = cond (ltb value most) (eqb value source) (same (take end s) (drop at (take last s)))

-- What the numbers r, if any, say of a line s that begins with a name, which ends at `end`, and has an arrow after it
abbrev pub Assigned : Bytes → ℕ → ℕ → code.Option Numbers → Type 0
Assigned s end value r =
    (i : ℕ) → name s ≡ some (record { value = i; rest = drop end s }) → value ≡ min i most
    → r ≡ numbered_if (from_name i (drop (end + 4) s))

-- The first three spellings
abbrev pub clears : Bytes → Option Command
clears t = map (λ i. plain (clear i)) (around (bytes "") (bytes " <- 0") t)

abbrev pub increments : Bytes → Option Command
increments t = and_then (assigns (bytes " + 1") t) λ ij. given (eqb ij.0 ij.1) (plain (increment ij.0))

abbrev pub copies : Bytes → Option Command
copies t = map (λ ij. plain (copy ij.0 ij.1)) (assigns (bytes "") t)

unfoldable pub assignment : Bytes → Option Command
assignment t = or_else (clears t) (or_else (increments t) (copies t))

-- The other four
abbrev pub loops : Bytes → Option Command
loops t = map (opens loop) (around (bytes "loop ") (bytes "") t)

abbrev pub endloops : Bytes → Option Command
endloops t = map (closes loop) (around (bytes "endloop ") (bytes "") t)

abbrev pub whiles : Bytes → Option Command
whiles t = map (opens while) (around (bytes "while ") (bytes " != 0") t)

abbrev pub endwhiles : Bytes → Option Command
endwhiles t = map (closes while) (around (bytes "endwhile ") (bytes " != 0") t)

unfoldable pub pair : Bytes → Option Command
pair t = or_else (loops t) (or_else (endloops t) (or_else (whiles t) (endwhiles t)))
