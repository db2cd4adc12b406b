-- Values that go to their variables, from the last column to the first.
use mathlib.Core.Path.{◌≡◌, refl}
use mathlib.Core.List.{List, [], ◌∷◌}
use Prim.Native.Nat.{ℕ, ◌-◌, ◌≤◌, ◌<◌}
use native.Mathlib.Omega.{arith}
use lib.ListN.{length, take, drop, get_or, set}
use borrow.Author.Tests.{eq-eqb, ne_eqb}
use Rattle.theory.specs.RunSheet.{start}
use Rattle.columns.specs.Columns.{padded, starts}
use Rattle.columns.proofs.Places.{drop_back_take, drop_taken}
use Rattle.columns.proofs.Padded.{cells_same, cells-set}

module _ (ns vs : List ℕ) (n v : ℕ) where
  starts-put : set (starts ns vs) n v ≡ starts (n ∷ ns) (v ∷ vs)
  unfolding starts start
  starts-put = cells-set 32 (start ns vs) (start (n ∷ ns) (v ∷ vs)) n v (λ h. rw (eq-eqb n n refl)) (λ j o. rw (ne_eqb j n o))

  starts_past : 32 ≤ n → starts ns vs ≡ starts (n ∷ ns) (v ∷ vs)
  unfolding starts start
  starts_past h = cells_same 32 (start ns vs) (start (n ∷ ns) (v ∷ vs)) (λ i l. rw (ne_eqb i n (λ e. omega arith)))

-- The columns from place k on of the first n, with their values
abbrev pub starts_from : ℕ → List ℕ → List ℕ → ℕ → List ℕ
starts_from n columns numbers k = starts (drop k (take n columns)) (drop k (take n numbers))

pub starts_end : (n : ℕ) (columns numbers : List ℕ) → padded [] ≡ starts_from n columns numbers n
unfolding padded starts start
starts_end n columns numbers = rw (drop_taken n columns)

module _ (n : ℕ) (columns numbers : List ℕ) (f : n ≤ length columns) (g : n ≤ length numbers) (k : ℕ) (h : 0 < k) (l : k ≤ n) where
  abbrev column : ℕ
  column = get_or columns (k - 1) 0

  pub starts-next : set (starts_from n columns numbers k) column (get_or numbers (k - 1) 0) ≡ starts_from n columns numbers (k - 1)
  starts-next = rw (drop_back_take n columns k f h l, drop_back_take n numbers k g h l) (starts-put _ _ _ _)

  pub starts_pass : 32 ≤ column → starts_from n columns numbers k ≡ starts_from n columns numbers (k - 1)
  starts_pass p = rw (drop_back_take n columns k f h l, drop_back_take n numbers k g h l) (starts_past _ _ _ _ p)
