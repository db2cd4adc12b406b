-- What it says that a sheet is accepted: its size, its names, and that no line of values is turned down.
use mathlib.Core.Path.{◌≡◌, refl, sym, ap, subst, ◌∙◌}
use mathlib.Core.Bool.{true, false, ◌&&◌}
use mathlib.Core.Option.{Option, none, some, none-ne-some}
use mathlib.Core.List.{List, [], ◌∷◌}
use Prim.Native.Nat.{ℕ, ◌≤◌}
use native.Mathlib.Omega.{arith}
use lib.Dec.{leb}
use lib.ListN.{length}
use borrow.Author.Tests.{leb-true}
use Rattle.theory.specs.Text.{Bytes, split_lines, ends_in_LF}
use Rattle.theory.specs.ProgramText.{above}
use Rattle.theory.specs.RunSheet.{names, distinct}
use Rattle.theory.specs.TurnedDown.{sheet_size_fault, names_fault, rows_fault, names_of, sheet_lines_fault, sheet_fault_for}
use Rattle.theory.proofs.Texts.{joined, joined-lines}
use Rattle.theory.proofs.Faults.{none_first, none_second, unless_none, and_first, and_second}
use Rattle.sheet.proofs.Answered.{names_some}

pub record Sheet (limits : List ℕ) (K : ℕ) (s : Bytes) : Type 0 where
  pub size : length s ≤ 4096
  pub ended : ends_in_LF s ≡ true
  pub first : Bytes
  pub rest : List Bytes
  pub lines : split_lines s ≡ first ∷ rest
  pub low : above (names_of (split_lines s)) ≤ K
  pub apart : distinct (names_of (split_lines s)) ≡ true
  pub rows : rows_fault limits (names_of (split_lines s)) 2 rest ≡ none

-- The names line
abbrev Good : ℕ → List ℕ → Type 0
Good K ns = (leb (above ns) K && distinct ns) ≡ true

names_accepted : (K : ℕ) (l : Bytes) (ls : List Bytes) → names_fault K (names l) ≡ none → Good K (names_of (l ∷ ls))
names_accepted K l ls = go (names l) refl
  where
    go : (o : Option (List ℕ)) → names l ≡ o → names_fault K o ≡ none → Good K (names_of (l ∷ ls))
    go none e h = absurd (none-ne-some _ (sym h))
    go (some ns) e h = subst (Good K) (sym (names_some l ls ns e)) (unless_none (leb (above ns) K && distinct ns) 17 1 h)

-- The lines, the first of which has the names
ended_some : (s : Bytes) → ends_in_LF s ≡ true → split_lines s ≡ [] → ⊥
unfolding ends_in_LF
ended_some s h e =
    let empty : [] ≡ s = ap {B = Bytes} joined (sym e) ∙ joined-lines s h in
    let differ : false ≡ true = ap ends_in_LF empty ∙ h in
    let z : ◌≡◌ {A = ℕ} 0 1 = cc in
    omega arith

lines_accepted : (limits : List ℕ) (K : ℕ) (s : Bytes) (ls : List Bytes) → split_lines s ≡ ls → length s ≤ 4096 → ends_in_LF s ≡ true
    → sheet_lines_fault K limits ls ≡ none → Sheet limits K s
lines_accepted limits K s [] e size ended h = absurd (ended_some s ended e)
lines_accepted limits K s (l ∷ ls) e size ended h =
    let fault = rows_fault limits (names_of (l ∷ ls)) 2 ls in
    let named = names_accepted K l ls (none_first (names_fault K (names l)) fault h) in
    let good : Good K (names_of (split_lines s)) = subst (λ m. Good K (names_of m)) (sym e) named in
    let ns = names_of (split_lines s) in
    record {
      size = size;
      ended = ended;
      first = l;
      rest = ls;
      lines = e;
      low = leb-true (above ns) K (and_first (leb (above ns) K) (distinct ns) good);
      apart = and_second (leb (above ns) K) (distinct ns) good;
      rows = subst (λ m. rows_fault limits (names_of m) 2 ls ≡ none) (sym e) (none_second (names_fault K (names l)) fault h);
    }

module _ (limits : List ℕ) (K : ℕ) (s : Bytes) (h : sheet_fault_for K limits s ≡ none) where
  sized : (leb (length s) 4096 && ends_in_LF s) ≡ true
  unfolding sheet_fault_for sheet_size_fault
  sized =
      let first = none_first (sheet_size_fault s) (sheet_lines_fault K limits (split_lines s)) h in
      unless_none (leb (length s) 4096 && ends_in_LF s) 16 0 first

  lined : sheet_lines_fault K limits (split_lines s) ≡ none
  unfolding sheet_fault_for
  lined = none_second (sheet_size_fault s) (sheet_lines_fault K limits (split_lines s)) h

  pub sheet_accepted : Sheet limits K s
  sheet_accepted =
      let size : length s ≤ 4096 = leb-true (length s) 4096 (and_first (leb (length s) 4096) (ends_in_LF s) sized) in
      lines_accepted limits K s (split_lines s) refl size (and_second (leb (length s) 4096) (ends_in_LF s) sized) lined
