-- Numbers seen from the last: those that are marked, those that are kept as columns, and whether they fit together.
use mathlib.Core.Path.{◌≡◌, refl, sym, ap₂, ◌∙◌}
use mathlib.Core.Bool.{Bool, true, false, cond, not, ◌&&◌}
use Rattle.std.specs.Prelude.{None, Some}
use mathlib.Core.List.{List, [], ◌∷◌}
use Prim.Native.Nat.{ℕ, zero, suc, ◌-◌, ◌≤◌, ◌<◌}
use native.Mathlib.Omega.{arith}
use lib.ListN.{length, take, drop, get_or, set, replicate, length-set, get_or-replicate, drop_of_length-le, get_or-eq_default}
use lib.Seq.{get_or-set_same, get_or-set_other}
use lib.Dec.{eqb, leb}
use borrow.Author.Tests.{le-leb, lt-leb, lt-ltb, le-ltb, leb-true, leb-false, eqb-true, eqb-false}
use Rattle.theory.specs.Basics.{cells, all}
use Rattle.theory.specs.RunSheet.{occurs, distinct}
use Rattle.columns.specs.Columns.{padded, is_variable, fit_together, columns_as}
use Rattle.columns.proofs.Places.{drop-back}
use Rattle.columns.proofs.Padded.{cells_same, cells-set}

-- The numbers of a list from place k on, each in its own cell
abbrev pub kept_from : ℕ → List ℕ → ℕ → ℕ
kept_from k l i = cond (leb k i) (get_or l i 0) 0

-- The numbers from place k on fit together; they are those that are marked, and they are kept
pub record Seen (l : List ℕ) (k : ℕ) (seen : List Bool) (variables : List ℕ) : Type 0 where
  pub reached : k ≤ length l
  pub size : length seen ≡ 32
  pub marked : (i : ℕ) → i < 32 → get_or seen i false ≡ occurs i (drop k l)
  pub low : all is_variable (drop k l) ≡ true
  pub differ : distinct (drop k l) ≡ true
  pub kept : variables ≡ cells 32 (kept_from k l)

pub nothing_more : (b : Bool) → (b && false) ≡ false
nothing_more true = refl
nothing_more false = refl

distinct-drop : (k : ℕ) (l : List ℕ) → distinct (drop k l) ≡ false → distinct l ≡ false
distinct-drop zero l h = h
distinct-drop (suc k) [] h = h
distinct-drop (suc k) (x ∷ l) h = rw (distinct-drop k l h) (nothing_more (not (occurs x l)))

low_drop : (k : ℕ) (l : List ℕ) → all is_variable (drop k l) ≡ false → all is_variable l ≡ false
low_drop zero l h = h
low_drop (suc k) [] h = h
low_drop (suc k) (x ∷ l) h = rw (low_drop k l h) (nothing_more (is_variable x))

-- `replicate` gives what arrays of 32 start with
pub seen_start : (l : List ℕ) (k : ℕ) → length l ≡ k → Seen l k (replicate 32 false) (replicate 32 0)
seen_start l k e =
    let nothing : drop k l ≡ [] = drop_of_length-le l {i = k} (omega arith) in
    record {
      reached = omega arith;
      size = refl;
      marked = λ i h. rw nothing (get_or-replicate 32 i false false h);
      low = rw nothing;
      differ = rw nothing;
      kept = cells_same 32 (λ i. 0) (kept_from k l) (λ i h. empty i (leb k i) refl);
    }
  where
    empty : (i : ℕ) → (b : Bool) → leb k i ≡ b → 0 ≡ cond b (get_or l i 0) 0
    empty i true h = sym (get_or-eq_default l 0 {n = i} (omega (arith, leb-true k i h)))
    empty i false h = refl

-- One place nearer to the front, where x stands
module _
    (l : List ℕ) (k : ℕ) (seen : List Bool) (variables : List ℕ) (s : Seen l k seen variables) (h : 0 < k)
    (x : ℕ) (stands : get_or l (k - 1) 0 ≡ x)
  where
    here : drop (k - 1) l ≡ x ∷ drop k l
    here = rw stands at (drop-back l k h s.reached)

    pub seen_high : 32 ≤ x → fit_together l ≡ false
    seen_high g =
        let high : all is_variable l ≡ false = low_drop (k - 1) l (rw (here, le-ltb x 32 g)) in
        rw high

    module _ (low : x < 32) where
      pub seen_again : get_or seen x false ≡ true → fit_together l ≡ false
      seen_again g =
          let twice : occurs x (drop k l) ≡ true = sym (s.marked x low) ∙ g in
          let same : distinct l ≡ false = distinct-drop (k - 1) l (rw (here, twice)) in
          rw same (nothing_more (all is_variable l))

      pub seen_next : get_or seen x false ≡ false → Seen l (k - 1) (set seen x true) (set variables (k - 1) x)
      seen_next g =
          let once : occurs x (drop k l) ≡ false = sym (s.marked x low) ∙ g in
          record {
            reached = omega (arith, s.reached);
            size = length-set seen x true ∙ s.size;
            marked = λ i b. mark i b (eqb i x) refl;
            low = rw (here, lt-ltb x 32 low) s.low;
            differ = rw (here, once) s.differ;
            kept = rw s.kept (cells-set 32 (kept_from k l) (kept_from (k - 1) l) (k - 1) x (λ b. last) others);
          }
        where
          mark : (i : ℕ) → i < 32 → (b : Bool) → eqb i x ≡ b → get_or (set seen x true) i false ≡ occurs i (drop (k - 1) l)
          mark i b true e =
              let same : i ≡ x = eqb-true i x e in
              rw (here, e, same) (get_or-set_same seen x true false (omega (arith, s.size)))
          mark i b false e = rw (here, e) (get_or-set_other seen x i true false (eqb-false i x e) ∙ s.marked i b)

          last : kept_from (k - 1) l (k - 1) ≡ x
          last = rw (le-leb (k - 1) (k - 1) (omega arith)) stands

          others : (j : ℕ) → (j ≡ k - 1 → ⊥) → kept_from (k - 1) l j ≡ kept_from k l j
          others j o = go (leb k j) refl
            where
              go : (b : Bool) → leb k j ≡ b → kept_from (k - 1) l j ≡ cond b (get_or l j 0) 0
              go true e = rw (le-leb (k - 1) j (omega (arith, leb-true k j e)))
              go false e = rw (lt-leb (k - 1) j (omega (arith, leb-false k j e)))

-- What is handed back

module _ (count : ℕ) (numbers : List ℕ) where
  pub columns_many : 32 < count → None ≡ columns_as count numbers
  unfolding columns_as
  columns_many h = rw (lt-leb count 32 h)

  module _ (few : count ≤ 32) where
    pub columns_none : fit_together (take count numbers) ≡ false → None ≡ columns_as count numbers
    unfolding columns_as
    columns_none h = rw (le-leb count 32 few, h)

    pub columns_done : (seen : List Bool) (variables : List ℕ) → Seen (take count numbers) 0 seen variables
        → Some variables ≡ columns_as count numbers
    unfolding columns_as padded
    columns_done seen variables s =
        let fit : fit_together (take count numbers) ≡ true = ap₂ ◌&&◌ s.low s.differ in
        let cells : variables ≡ padded (take count numbers) = s.kept ∙ all_kept in
        rw (le-leb count 32 few, fit, cells)
      where
        all_kept : cells 32 (kept_from 0 (take count numbers)) ≡ padded (take count numbers)
        all_kept =
            cells_same 32 (kept_from 0 (take count numbers)) (λ i. get_or (take count numbers) i 0)
            (λ i h. rw (le-leb 0 i (omega arith)))
