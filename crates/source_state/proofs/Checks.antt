-- Rule 9 as the code checks it, of a value and of an entry of the passes-left.
use mathlib.Core.Path.{◌≡◌}
use mathlib.Core.Bool.{false}
use Prim.Native.Nat.{ℕ, ◌≤◌, ◌<◌}
use borrow.Author.Tests.{lt-ltb, le-ltb, le-leb, lt-leb}
use lib.Dec.{leb, eqb}
use Rattle.source_state.specs.Numbers.{is_value_within, is_passes_within}

pub named_value : (capacity K i v : ℕ) → i < K → leb v capacity ≡ is_value_within capacity K i v
named_value capacity K i v h = rw (lt-ltb i K h)

pub unnamed_value : (capacity K i v : ℕ) → K ≤ i → eqb v 0 ≡ is_value_within capacity K i v
unnamed_value capacity K i v h = rw (le-ltb i K h)

pub other_passes : (capacity D d k : ℕ) → D ≤ d → eqb k 0 ≡ is_passes_within capacity D d k
other_passes capacity D d k h = rw (le-ltb d D h)

pub no_passes : (capacity D d k : ℕ) → d < D → k < 1 → false ≡ is_passes_within capacity D d k
no_passes capacity D d k h z = rw (lt-ltb d D h, lt-leb 1 k z)

pub some_passes : (capacity D d k : ℕ) → d < D → 1 ≤ k → leb k capacity ≡ is_passes_within capacity D d k
some_passes capacity D d k h z = rw (lt-ltb d D h, le-leb 1 k z)
