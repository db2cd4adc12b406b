-- What the entries hand back, by what the functions below them found.
use Rattle.std.specs.Prelude.{None, Some, Result, Ok, Err}
use mathlib.Core.Path.{◌≡◌, refl, sym, ap, ap₂, ◌∙◌}
use mathlib.Core.Bool.{Bool, true, false}
use mathlib.Core.Option.{Option, none, some}
use mathlib.Core.List.{List, [], ◌∷◌}
use Prim.Native.Nat.{ℕ, ◌-◌, ◌≤◌, ◌<◌, min}
use native.Mathlib.Omega.{arith}
use lib.ListN.{length, take, drop, length-take}
use lib.Dec.{eqb, leb, ltb}
use borrow.Author.Tests.{eqb-true}
use Rattle.theory.specs.Basics.{all, default}
use Rattle.theory.specs.Text.{Bytes, split_lines, ends_in_LF}
use Rattle.theory.specs.ProgramText.{above}
use Rattle.theory.specs.RunSheet.{names, values, distinct}
use Rattle.theory.specs.TurnedDown.{unless, names_fault, values_fault, rows_fault, names_of}
use Rattle.theory.specs.TurnedDown.{sheet_size_fault, sheet_fault_for}
use Rattle.theory.specs.declared.Refusal.{Refusal}
use Rattle.theory.proofs.Faults.{none_first, unless_none, and_first, and_second}
use Rattle.sheet.specs.declared.answers.Names.{Names}
use Rattle.sheet.specs.declared.answers.Row.{Row}
use Rattle.sheet.specs.declared.answers.Sheet.{Sheet}
use Rattle.sheet.specs.declared.Heading.{Heading}
use Rattle.columns.specs.Columns.{padded, starts}
use Rattle.columns.proofs.Padded.{padded-take}
use Rattle.columns.proofs.Distinct.{different_below}
use Rattle.sheet.specs.Answers.{unless_refused, sheet_answer, line_at, after_line, columns_of, starts_as, row_answer}
use Rattle.sheet.specs.Lines.{head_record, heading, rows_as, is_sheet_size}
use Rattle.sheet.proofs.Splits.{lines_next}
use Rattle.sheet.proofs.Along.{passes, refuses}
use Rattle.sheet.proofs.Judged.{above_below}

-- A row

-- The values of a line that passes are kept as they are
row-values : (capacities ns : List ℕ) (n : ℕ) (o : Option (List ℕ)) → length ns ≤ 32 → values_fault capacities ns n o ≡ none
    → starts ns (take (length ns) (padded (default [] o))) ≡ starts_as none ns o
row-values capacities ns n none few e = cc
row-values capacities ns n (some vs) few e =
    let same : Bool = eqb (length vs) (length ns) in
    let size : length vs ≡ length ns = eqb-true (length vs) (length ns) (unless_none same 16 n (none_first (unless same 16 n) _ e)) in
    rw (← size) (ap (starts ns) (padded-take vs (omega arith)))

row_same : {vs ws : List ℕ} {m n : ℕ} → vs ≡ ws → m ≡ n
    → ◌≡◌ {A = Row} (record { values = vs; next = m; fault = None }) (record { values = ws; next = n; fault = None })
row_same e f = rw (e, f)

module _ (s : Bytes) (names : Names) (capacities : List ℕ) (n at count : ℕ) (e : count ≡ min names.count 32)
    (size : length names.columns ≡ 32)
  where
    abbrev ns : List ℕ
    ns = take count names.columns

    abbrev read : Option (List ℕ)
    read = values (line_at s at)

    counted : length ns ≡ count
    counted = rw length-take (omega arith)

    named : ns ≡ columns_of names
    named = ap {B = List ℕ} (λ i. take i names.columns) e

    pub row_done : (vs numbers : List ℕ) (next : ℕ) → Ok numbers ≡ unless_refused (values_fault capacities ns n read) (padded (default [] read))
        → vs ≡ starts ns (take count numbers) → next ≡ after_line s at
        → record { values = vs; next = next; fault = None } ≡ row_answer s names capacities n at
    unfolding row_answer
    row_done vs numbers next f v x =
        let told : _ = passes (values_fault capacities ns n read) (padded (default [] read)) f in
        let fault : values_fault capacities (columns_of names) n read ≡ none = rw (← named) told.0 in
        let kept : vs ≡ starts ns (take (length ns) (padded (default [] read))) = rw (counted, ← told.1) v in
        rw (fault, ← named) (row_same (kept ∙ row-values capacities ns n read (omega (arith, counted)) told.0) x)

    pub row_refused : (r : Refusal) → Err r ≡ unless_refused (values_fault capacities ns n read) (padded (default [] read))
        → (next : ℕ) → next ≡ after_line s at → record { values = padded []; next = next; fault = Some r } ≡ row_answer s names capacities n at
    unfolding row_answer
    row_refused r f next x =
        let fault : values_fault capacities (columns_of names) n read ≡ some r = rw (← named) (refuses _ (padded (default [] read)) f) in
        rw (fault, x)

-- A sheet

sheet_same : {cs ds : List ℕ} {m n j k : ℕ} → cs ≡ ds → m ≡ n → j ≡ k
    → ◌≡◌ {A = Sheet} (record { names = record { columns = cs; count = m }; rows = j })
    (record { names = record { columns = ds; count = n }; rows = k })
sheet_same e f g = rw (e, f, g)

pub sheet_unsized : (s : Bytes) (K : ℕ) (capacities : List ℕ) → is_sheet_size s ≡ false
    → Err (record { number = 16; place = 0 }) ≡ sheet_answer K capacities s
unfolding is_sheet_size sheet_answer sheet_fault_for sheet_size_fault
sheet_unsized s K capacities h = rw h

-- The names of a sheet whose first line has names
pub names_some : (l : Bytes) (ls : List Bytes) (ns : List ℕ) → names l ≡ some ns → names_of (l ∷ ls) ≡ ns
names_some l ls ns e = rw (e, names_of)

sized_some : (s : Bytes) → is_sheet_size s ≡ true → 0 < length s
unfolding is_sheet_size ends_in_LF
sized_some [] h = let never : ◌≡◌ {A = ℕ} 0 1 = cc in absurd (omega arith)
sized_some (b ∷ s) h = omega arith

module _ (s : Bytes) (K : ℕ) (capacities : List ℕ) (sized : is_sheet_size s ≡ true) where
  rest : List Bytes
  rest = split_lines (drop (after_line s 0) s)

  lines : split_lines s ≡ line_at s 0 ∷ rest
  unfolding rest
  lines = lines_next s 0 (sized_some s sized)

  pub sheet_names_refused : (r : Refusal) → Err r ≡ heading K s → Err r ≡ sheet_answer K capacities s
  unfolding is_sheet_size sheet_answer sheet_fault_for sheet_size_fault heading
  sheet_names_refused r e =
      let faulty : names_fault K (names (line_at s 0)) ≡ some r = refuses _ (head_record (default [] (names (line_at s 0))) (after_line s 0)) e in
      rw (sized, lines, faulty)

  -- Names that are not turned down
  named_some : (o : Option (List ℕ)) → names_fault K o ≡ none
      → (ns : List ℕ) × (o ≡ some ns) × (all (λ n. ltb n K) ns ≡ true) × (distinct ns ≡ true)
  named_some none e = let never : ◌≡◌ {A = ℕ} 0 1 = cc in absurd (omega arith)
  named_some (some ns) e =
      let fine : _ = unless_none _ 17 1 e in
      (ns, refl, sym (above_below K ns) ∙ and_first (leb (above ns) K) _ fine, and_second (leb (above ns) K) _ fine)

  -- The names that were read, in 32 columns at most
  module _ (low : K ≤ 32) (head : Heading) (e : Ok head ≡ heading K s) where
    told : (names_fault K (names (line_at s 0)) ≡ none) × (head ≡ head_record (default [] (names (line_at s 0))) (after_line s 0))
    unfolding heading
    told = passes _ _ e

    found : (ns : List ℕ) × (names (line_at s 0) ≡ some ns) × (all (λ n. ltb n K) ns ≡ true) × (distinct ns ≡ true)
    found = named_some (names (line_at s 0)) told.0

    abbrev listed : List ℕ
    listed = found.0

    kept : head ≡ head_record listed (after_line s 0)
    kept = rw found.1 at told.1

    size : head.names.count ≡ length listed
    size = ap (λ (h : Heading). h.names.count) kept

    pub few_columns : head.names.count ≤ 32
    few_columns = omega (arith, size, different_below K listed found.2 found.3)

    pub next_line : head.next ≡ after_line s 0
    next_line = ap (λ (h : Heading). h.next) kept

    cells : head.names.columns ≡ padded listed
    cells = ap {B = List ℕ} (λ (h : Heading). h.names.columns) kept

    taken : take head.names.count head.names.columns ≡ listed
    taken = ap₂ {C = List ℕ} take size cells ∙ padded-take listed (omega (arith, size, few_columns))

    module _ (rows : Result ℕ Refusal)
        (f : rows ≡ rows_as capacities (take head.names.count head.names.columns) (split_lines (drop head.next s)))
      where
        judged : rows ≡ unless_refused (rows_fault capacities listed 2 rest) (length rest)
        unfolding rows_as rest
        judged = rw (next_line, taken) at f

        pub sheet_rows_refused : (r : Refusal) → rows ≡ Err r → Err r ≡ sheet_answer K capacities s
        unfolding is_sheet_size sheet_answer sheet_fault_for sheet_size_fault found
        sheet_rows_refused r d =
            let faulty : rows_fault capacities listed 2 rest ≡ some r = refuses _ (length rest) (sym d ∙ judged) in
            rw (sized, lines, told.0, names_some (line_at s 0) rest listed found.1, faulty)

        pub sheet_done : (n : ℕ) → rows ≡ Ok n → Ok (record { names = head.names; rows = n }) ≡ sheet_answer K capacities s
        unfolding is_sheet_size sheet_answer sheet_fault_for sheet_size_fault found
        sheet_done n d =
            let fine : _ = passes (rows_fault capacities listed 2 rest) (length rest) (sym d ∙ judged) in
            let counted : n ≡ length (line_at s 0 ∷ rest) - 1 = omega (arith, fine.1) in
            rw (sized, lines, told.0, names_some (line_at s 0) rest listed found.1, fine.0) (ap Ok (sheet_same cells size counted))
