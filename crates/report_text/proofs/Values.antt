-- The values that an accepted line of a sheet starts its run at.
use mathlib.Core.Path.{◌≡◌, refl, sym, subst, ◌∙◌, fun_ext}
use mathlib.Core.Bool.{Bool, true, false}
use mathlib.Core.Option.{Option, none, some, none-ne-some}
use mathlib.Core.List.{List, [], ◌∷◌}
use Prim.Native.Nat.{ℕ, ◌≤◌}
use native.Mathlib.Numerals.{add-one}
use native.Mathlib.Omega.{arith}
use lib.Dec.{eqb, ltb, leb}
use lib.ListN.{length, get_or, take, get_or-eq_default}
use lib.Seq.{length-take-le, get_or-take}
use borrow.Author.Tests.{ltb-true, ltb-false, leb-true, eqb-true, ne_eqb}
use Rattle.theory.specs.Basics.{cells, default}
use Rattle.theory.specs.ProgramText.{above}
use Rattle.theory.specs.RunSheet.{start}
use Rattle.theory.specs.TurnedDown.{within_columns, values_fault, unless}
use Rattle.theory.proofs.Faults.{none_second, unless_none, and_first, and_second}
use Rattle.theory.proofs.GoodMemory.{length-cells, get_or-cells}
use Rattle.capacities.specs.Room.{of_variables}
use Rattle.capacities.proofs.Cells.{variables-at}
use Rattle.report_text.specs.Fresh.{values_of, Starts}

-- within their columns' capacities, so within their variables'
start-within : (limits ns vs : List ℕ) (i : ℕ) → within_columns limits ns vs ≡ true → start ns vs i ≤ get_or limits i 0
unfolding start within_columns
start-within limits [] vs i h = omega arith
start-within limits (n ∷ ns) [] i h = omega arith
start-within limits (n ∷ ns) (v ∷ vs) i h = go (eqb i n) refl (start-within limits ns vs i (and_second (leb v _) _ h))
  where
    go : (t : Bool) → eqb i n ≡ t → start ns vs i ≤ get_or limits i 0 → start (n ∷ ns) (v ∷ vs) i ≤ get_or limits i 0
    go true e rest = rw (e, eqb-true i n e) (leb-true v (get_or limits n 0) (and_first (leb v _) _ (rw (add-one n) at h)))
    go false e rest = rw e rest

start_beyond : (ns vs : List ℕ) (i : ℕ) → above ns ≤ i → start ns vs i ≡ 0
unfolding start
start_beyond [] vs i h = refl
start_beyond (n ∷ ns) [] i h = refl
start_beyond (n ∷ ns) (v ∷ vs) i h =
    let other : eqb i n ≡ false = ne_eqb i n (λ e. omega arith) in
    rw other (start_beyond ns vs i (omega arith))

-- An accepted line's values are within their columns' capacities
pub values_within : (limits ns : List ℕ) (n : ℕ) (o : Option (List ℕ)) → values_fault limits ns n o ≡ none
    → within_columns limits ns (default [] o) ≡ true
values_within limits ns n none h = absurd (none-ne-some _ (sym h))
values_within limits ns n (some vs) h = unless_none _ 18 n (none_second (unless (eqb (length vs) (length ns)) 16 n) _ h)

module _ (capacities : List ℕ) (K : ℕ) (ns vs : List ℕ) (few : K ≤ 32) (named : above ns ≤ K)
    (within : within_columns (of_variables capacities) ns vs ≡ true) where
  -- 32 cells have all of them
  cell_value : (i : ℕ) → values_of (cells 32 (start ns vs)) i ≡ start ns vs i
  cell_value i = go (ltb i 32) refl
    where
      go : (t : Bool) → ltb i 32 ≡ t → values_of (cells 32 (start ns vs)) i ≡ start ns vs i
      go true e = get_or-cells 32 (start ns vs) 0 i (ltb-true i 32 e)
      go false e =
          let high : 32 ≤ i = ltb-false i 32 e in
          let size : length (cells 32 (start ns vs)) ≤ i = omega (arith, length-cells 32 (start ns vs)) in
          get_or-eq_default (cells 32 (start ns vs)) 0 {n = i} size ∙ sym (start_beyond ns vs i (omega arith))

  pub cells-values : values_of (cells 32 (start ns vs)) ≡ start ns vs
  cells-values = fun_ext cell_value

  limited : (i : ℕ) → start ns vs i ≤ get_or capacities i 0
  limited i = go (ltb i 32) refl
    where
      go : (t : Bool) → ltb i 32 ≡ t → start ns vs i ≤ get_or capacities i 0
      go true e = rw (← (variables-at capacities i (ltb-true i 32 e))) (start-within (of_variables capacities) ns vs i within)
      go false e = omega (arith, start_beyond ns vs i (omega (arith, ltb-false i 32 e)))

  pub cells-start : Starts K capacities (cells 32 (start ns vs))
  cells-start = record {
    few = few;
    within = λ i. subst (λ v. v ≤ get_or capacities i 0) (sym (cell_value i)) (limited i);
    beyond = λ i l. cell_value i ∙ start_beyond ns vs i (omega arith);
  }

-- The values of the program's variables, and of no others
module _ (capacities : List ℕ) (K : ℕ) (values : List ℕ) (size : length values ≡ 32) (h : Starts K capacities values) where
  pub cut_length : length (take K values) ≡ K
  cut_length = length-take-le K values (omega (arith, h.few))

  cut_value : (i : ℕ) → values_of (take K values) i ≡ values_of values i
  cut_value i = go (ltb i K) refl
    where
      go : (t : Bool) → ltb i K ≡ t → values_of (take K values) i ≡ values_of values i
      go true e = get_or-take K values i 0 (ltb-true i K e)
      go false e =
          let high : K ≤ i = ltb-false i K e in
          get_or-eq_default (take K values) 0 {n = i} (omega (arith, cut_length)) ∙ sym (h.beyond i high)

  pub cut_values : values_of (take K values) ≡ values_of values
  cut_values = fun_ext cut_value

  pub cut_starts : Starts (length (take K values)) capacities (take K values)
  cut_starts = rw cut_length (record {
    few = h.few;
    within = λ i. subst (λ v. v ≤ get_or capacities i 0) (sym (cut_value i)) (h.within i);
    beyond = λ i l. cut_value i ∙ h.beyond i l;
  })
