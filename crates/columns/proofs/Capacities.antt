-- Values against the capacities of their columns' variables, from the last column to the first.
use mathlib.Core.Path.{◌≡◌, refl, sym, ◌∙◌}
use mathlib.Core.Bool.{Bool, true, false, ◌&&◌}
use mathlib.Core.List.{List, [], ◌∷◌}
use Prim.Native.Nat.{ℕ, zero, suc, ◌-◌, ◌≤◌, ◌<◌}
use native.Mathlib.Numerals.{add-one}
use lib.ListN.{length, take, drop, get_or, get_or-eq_default}
use lib.Dec.{leb}
use borrow.Author.Tests.{le-leb, lt-leb}
use Rattle.theory.specs.Runs.{register}
use Rattle.theory.specs.Machines.{capacity_of}
use Rattle.theory.specs.TurnedDown.{within_columns}
use Rattle.columns.proofs.Places.{drop_back_take, drop_taken}
use Rattle.columns.proofs.Seen.{nothing_more}

module _ (capacities : List ℕ) where
  -- A variable's capacity stands at its index
  pub capacity_at : (i : ℕ) → get_or capacities i 0 ≡ capacity_of capacities (register i)
  capacity_at i = rw (add-one i)

  pub capacity_past : (i : ℕ) → length capacities ≤ i → 0 ≡ capacity_of capacities (register i)
  capacity_past i h = rw (add-one i) (sym (get_or-eq_default capacities 0 {n = i} h))

  -- No values, or some that fail behind others
  within_none : (ns : List ℕ) → within_columns capacities ns [] ≡ true
  unfolding within_columns
  within_none [] = refl
  within_none (n ∷ ns) = refl

  within-drop : (k : ℕ) (ns vs : List ℕ) → within_columns capacities (drop k ns) (drop k vs) ≡ false
      → within_columns capacities ns vs ≡ false
  unfolding within_columns
  within-drop zero ns vs h = h
  within-drop (suc k) [] vs h = h
  within-drop (suc k) (n ∷ ns) [] h = sym (within_none (drop k ns)) ∙ h
  within-drop (suc k) (n ∷ ns) (v ∷ vs) h = rw (within-drop k ns vs h) (nothing_more (leb v (capacity_of capacities (register n))))

  module _ (n : ℕ) (columns numbers : List ℕ) where
    -- The columns from place k on of the first n, with their values
    abbrev pub within-from : ℕ → Bool
    within-from k = within_columns capacities (drop k (take n columns)) (drop k (take n numbers))

    pub within_end : within-from n ≡ true
    unfolding within_columns
    within_end = rw (drop_taken n columns)

    module _ (f : n ≤ length columns) (g : n ≤ length numbers) (k : ℕ) (h : 0 < k) (l : k ≤ n) where
      abbrev capacity : ℕ
      capacity = capacity_of capacities (register (get_or columns (k - 1) 0))

      abbrev number : ℕ
      number = get_or numbers (k - 1) 0

      here : within-from (k - 1) ≡ (leb number capacity && within-from k)
      unfolding within_columns
      here = rw (drop_back_take n columns k f h l, drop_back_take n numbers k g h l)

      pub within-next : number ≤ capacity → within-from k ≡ true → within-from (k - 1) ≡ true
      within-next low e = here ∙ rw (le-leb number capacity low) e

      pub within_fails : capacity < number → within_columns capacities (take n columns) (take n numbers) ≡ false
      within_fails high = within-drop (k - 1) (take n columns) (take n numbers) (here ∙ rw (lt-leb number capacity high))
