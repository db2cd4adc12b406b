-- Rules 16 to 18: what the code's tests on a line say of the definitions' verdict, row after row, and of the whole sheet.
use Rattle.std.specs.Prelude.{Option as Found, None, Some, Ok}
use Rattle.std.specs.Option.{is_some}
use mathlib.Core.Path.{◌≡◌, refl, sym, ap, ◌∙◌}
use mathlib.Core.Bool.{Bool, true, false, cond, ◌&&◌}
use mathlib.Core.Option.{Option, none, some}
use mathlib.Core.List.{List, [], ◌∷◌, map}
use Prim.Native.Nat.{ℕ, suc, ◌-◌, ◌≤◌, ◌<◌, max}
use native.Mathlib.Numerals.{add-one}
use native.Mathlib.Omega.{arith}
use lib.ListN.{length, take, get_or}
use lib.Dec.{eqb, leb, ltb}
use borrow.Author.Tests.{eqb-true, leb-true, leb-false, le-leb, lt-leb, ltb-true, ltb-false, lt-ltb}
use Rattle.theory.specs.Basics.{all, default}
use Rattle.theory.specs.Text.{Bytes, LF, ends_in_LF}
use Rattle.theory.specs.ProgramText.{above}
use Rattle.theory.specs.RunSheet.{names, values, distinct}
use Rattle.theory.specs.TurnedDown.{unless, names_fault, within_columns, values_fault}
use Rattle.theory.proofs.Faults.{and_first, and_second}
use Rattle.columns.specs.Columns.{padded, is_variable, columns_as}
use Rattle.columns.proofs.Distinct.{AllBelow, different_below, below_more}
use Rattle.columns.proofs.Padded.{padded-take}
use Rattle.columns.proofs.Fitting.{fit_many, fit_padded, columns-padded}
use Rattle.fields.specs.declared.Line.{Line}
use Rattle.fields.specs.Fields.{most, line_of, numbers_of, under}
use Rattle.fields.proofs.Kept.{kept_all}
use Rattle.sheet.specs.declared.answers.Names.{Names}
use Rattle.sheet.specs.Answers.{unless_refused, names_record}
use Rattle.sheet.specs.Lines.{down, columns_told, names_told, values_told, is_sheet_size}

-- The two ways to read a line
pub numbers-names : (l : Bytes) → numbers_of true l ≡ names l
unfolding numbers_of names
numbers-names l = refl

pub numbers-values : (l : Bytes) → numbers_of false l ≡ values l
unfolding numbers_of values
numbers-values l = refl

-- A line of values

-- Values within their capacities are below what is above any of these
pub within_below : (capacities : List ℕ) (bound : ℕ) → ((i : ℕ) → get_or capacities i 0 < bound) → (ns vs : List ℕ) → length vs ≡ length ns
    → within_columns capacities ns vs ≡ true → AllBelow bound vs
unfolding within_columns
within_below capacities bound h [] [] e low = refl
within_below capacities bound h [] (v ∷ vs) e low = absurd (omega arith)
within_below capacities bound h (n ∷ ns) [] e low = refl
within_below capacities bound h (n ∷ ns) (v ∷ vs) e low =
    let least : v ≤ get_or capacities n 0 = leb-true v _ (and_first (leb v _) _ (rw (add-one n) at low)) in
    let later : AllBelow bound vs = within_below capacities bound h ns vs (omega arith) (and_second (leb v _) _ low) in
    rw (lt-ltb v bound (omega (arith, h n))) later

module _ (capacities : List ℕ) (bounded : (i : ℕ) → get_or capacities i 0 < most) (names : Names)
    (size : length (take names.count names.columns) ≡ names.count) (few : names.count ≤ 32)
  where
    abbrev listed : List ℕ
    listed = take names.count names.columns

    values-judged : (n : ℕ) (o : Option (List ℕ))
        → values_told capacities names n (line_of most o) ≡ unless_refused (values_fault capacities listed n o) (padded (default [] o))
    unfolding line_of
    values-judged n none = refl
    values-judged n (some vs) = go (eqb (length vs) names.count) refl (all (λ v. ltb v most) vs) refl
      where
        told : (b : Bool) → cond b (Ok (padded vs)) (down 18 n) ≡ unless_refused (unless b 18 n) (padded vs)
        told true = refl
        told false = refl

        outside : all (λ v. ltb v most) vs ≡ false → length vs ≡ length listed → (b : Bool) → within_columns capacities listed vs ≡ b
            → within_columns capacities listed vs ≡ false
        outside f e true h = h ∙ sym (within_below capacities most bounded listed vs e h) ∙ f
        outside f e false h = h

        go : (same : Bool) → eqb (length vs) names.count ≡ same → (below : Bool) → all (λ v. ltb v most) vs ≡ below
            → values_told capacities names n (line_of most (some vs)) ≡ unless_refused (values_fault capacities listed n (some vs)) (padded vs)
        go false e below f = rw (size, e)
        go true e false f =
            let counted : length vs ≡ names.count = eqb-true (length vs) names.count e in
            rw (size, e, f, outside f (counted ∙ sym size) (within_columns capacities listed vs) refl)
        go true e true f =
            let counted : length vs ≡ names.count = eqb-true (length vs) names.count e in
            let taken : take names.count (padded vs) ≡ vs = rw (← counted) (padded-take vs (omega arith)) in
            rw (size, e, f, kept_all most vs f, taken) (told (within_columns capacities listed vs))

    -- and of the line that the code has read
    pub line-judged : (n : ℕ) (o : Option (List ℕ)) (l : Found Line) → l ≡ line_of most o
        → values_told capacities names n l ≡ unless_refused (values_fault capacities listed n o) (padded (default [] o))
    line-judged n o l read = rw read (values-judged n o)

-- The line of names

max_below : (n a K : ℕ) → leb (max (suc n) a) K ≡ (ltb n K && leb a K)
max_below n a K = go (ltb n K) (leb a K) refl refl
  where
    go : (x y : Bool) → ltb n K ≡ x → leb a K ≡ y → leb (max (suc n) a) K ≡ (x && y)
    go true true e f = le-leb (max (suc n) a) K (omega (arith, ltb-true n K e, leb-true a K f))
    go true false e f = lt-leb (max (suc n) a) K (omega (arith, leb-false a K f))
    go false y e f = lt-leb (max (suc n) a) K (omega (arith, ltb-false n K e))

pub above_below : (K : ℕ) (ns : List ℕ) → leb (above ns) K ≡ all (λ n. ltb n K) ns
above_below K [] = le-leb 0 K (omega arith)
above_below K (n ∷ ns) = max_below n (above ns) K ∙ ap (λ b. ltb n K && b) (above_below K ns)

too_many : (K : ℕ) (ns : List ℕ) → K ≤ 32 → AllBelow K ns → 32 < length ns → distinct ns ≡ false
too_many K ns h below many = go (distinct ns) refl
  where
    go : (b : Bool) → distinct ns ≡ b → distinct ns ≡ false
    go true e = absurd (omega (arith, different_below K ns below e))
    go false e = e

none_of : {A : Type 0} (o : Found A) → is_some o ≡ false → o ≡ None
none_of None h = refl
none_of (Some a) h = cc

pub names-judged : (K : ℕ) (o : Option (List ℕ)) → K ≤ 32
    → names_told (line_of K o) ≡ unless_refused (names_fault K o) (names_record (default [] o))
unfolding line_of
names-judged K none h = refl
names-judged K (some ns) h = rw (above_below K ns) (go (all (λ n. ltb n K) ns) refl)
  where
    told : (b : Bool) → columns_told (length ns) (cond b (Some (padded ns)) None) ≡ unless_refused (unless b 17 1) (names_record ns)
    told true = refl
    told false = refl

    fitting : (few differ : Bool) → AllBelow K ns → leb (length ns) 32 ≡ few → distinct ns ≡ differ
        → columns_as (length ns) (padded ns) ≡ cond (distinct ns) (Some (padded ns)) None
    fitting true true e f d =
        let low : all is_variable ns ≡ true = below_more K 32 ns h e in
        rw d (columns-padded ns (leb-true (length ns) 32 f) (rw (low, d)))
    fitting true false e f d =
        let low : all is_variable ns ≡ true = below_more K 32 ns h e in
        rw d (none_of (columns_as (length ns) (padded ns)) (fit_padded ns (leb-true (length ns) 32 f) ∙ rw (low, d)))
    fitting false differ e f d =
        let many : 32 < length ns = leb-false (length ns) 32 f in
        rw (too_many K ns h e many) (none_of (columns_as (length ns) (padded ns)) (fit_many ns (padded ns) many))

    go : (below : Bool) → all (λ n. ltb n K) ns ≡ below
        → cond below (columns_told (length ns) (columns_as (length ns) (padded (map (under K) ns)))) (down 17 1)
        ≡ unless_refused (unless (below && distinct ns) 17 1) (names_record ns)
    go false e = refl
    go true e = rw (kept_all K ns e, fitting (leb (length ns) 32) (distinct ns) e refl refl) (told (distinct ns))

-- The size rules of 16

pub sized-empty : (t : Bytes) → length t ≡ 0 → false ≡ is_sheet_size t
unfolding is_sheet_size ends_in_LF
sized-empty [] h = refl
sized-empty (b ∷ t) h = absurd (omega arith)

pub sized-long : (t : Bytes) → 4096 < length t → false ≡ is_sheet_size t
unfolding is_sheet_size
sized-long t h = rw (lt-leb (length t) 4096 h)

last_byte : (b : ℕ) (t : Bytes) → eqb (get_or (b ∷ t) (length t) 0) LF ≡ ends_in_LF (b ∷ t)
unfolding ends_in_LF
last_byte b [] = refl
last_byte b (c ∷ t) = last_byte c t

pub sized_last : (t : Bytes) → (length t ≡ 0 → ⊥) → length t ≤ 4096 → eqb (get_or t (length t - 1) 0) LF ≡ is_sheet_size t
unfolding is_sheet_size
sized_last [] h l = absurd (h refl)
sized_last (b ∷ t) h l =
    let last : length (b ∷ t) - 1 ≡ length t = omega arith in
    rw (le-leb (length (b ∷ t)) 4096 l, last) (last_byte b t)
