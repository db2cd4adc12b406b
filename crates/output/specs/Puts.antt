-- Bytes put into a lent output from a place on, or written into the part of it that begins there. A byte that has no place in the output is
-- not written, but counted.
use Rattle.std.specs.Prelude.{◌≡◌, ◌++◌, ℕ, ◌+◌, ◌≤◌, min, length, take, drop}
use Rattle.std.proofs.lemmas.List.Edits.{sets}
use Rattle.theory.specs.Text.{Bytes}

-- No place is past this one, which no output has
abbrev pub most : ℕ
most = 18446744073709551615

abbrev pub place : ℕ → ℕ
place n = min n most

-- The bytes u were put at i, over l, which is then m; the place after them is j. All else of l is as it was
pub record Put (u : Bytes) (i : ℕ) (l m : Bytes) (j : ℕ) : Type 0 where
  pub next : j ≡ place (i + length u)
  pub wrote : m ≡ sets l i u
  pub sized : length l ≤ most

-- The part of an output that begins at a place, once the bytes u were written into it: it starts with them, all that it has room for, and
-- is otherwise as it was
unfoldable pub starting : Bytes → Bytes → Bytes
starting u part = take (length part) (u ++ drop (length u) part)
