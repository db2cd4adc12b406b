-- Registers put in order: each one's place in a store is a ring of bytes, and is read from its start on.
use Rattle.std.specs.Prelude.{cond, List, [], ◌∷◌, ◌++◌, ℕ, leb, length, take, drop}
use Rattle.theory.specs.Text.{Bytes}
use Rattle.theory.specs.Limits.{most_capacity}

-- A ring from its start on. One whose start is not in it stays as it is
abbrev pub from_start : ℕ → Bytes → Bytes
from_start start ring = drop start ring ++ take start ring

-- A ring of more bytes than any machine's place stays as it is
unfoldable pub turned : ℕ → Bytes → Bytes
turned start ring = cond (leb (length ring) most_capacity) (from_start start ring) ring

-- The places of a store, each of as many bytes as its capacity, as many as there are both capacities and starts. What stands past them
-- stays as it is
unfoldable pub in_order : List ℕ → List ℕ → Bytes → Bytes
in_order [] starts store = store
in_order (c ∷ capacities) [] store = store
in_order (c ∷ capacities) (s ∷ starts) store = turned s (take c store) ++ in_order capacities starts (drop c store)
