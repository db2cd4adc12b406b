-- Writes into a list, one after the other.
use mathlib.Core.Path.{◌≡◌}
use mathlib.Core.List.{List, [], ◌∷◌, ◌++◌}
use Prim.Native.Nat.{ℕ, suc, ◌+◌}
use native.Mathlib.Nat.{add-suc, suc-add, add-zero}
use lib.ListN.{length, set, replicate, length-replicate, replicate-append-replicate}
use lib.Seq.{sets}

module _ {A : Type 0} where
  pub sets-append : (u v l : List A) (i : ℕ) → sets l i (u ++ v) ≡ sets (sets l i u) (i + length u) v
  sets-append [] v l i = rw (add-zero i)
  sets-append (a ∷ u) v l i = rw (add-suc i (length u), ← suc-add i (length u)) (sets-append u v (set l i a) (suc i))

  -- One more of a run
  pub run_more : (l m : List A) (i n : ℕ) (a : A) → m ≡ sets l i (replicate n a) → set m (i + n) a ≡ sets l i (replicate (n + 1) a)
  run_more l m i n a e = rw (e, ← replicate-append-replicate n 1 a, sets-append (replicate n a) (a ∷ []) l i, length-replicate n a)
