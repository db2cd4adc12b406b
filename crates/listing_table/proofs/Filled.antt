-- What making a table hands back: from the check of the list, and from the table of its word where it passes.
use Rattle.std.specs.Prelude.{Result, Ok, Err}
use mathlib.Core.Path.{◌≡◌, refl, ◌∙◌}
use mathlib.Core.Bool.{true}
use mathlib.Core.Option.{Option, none, some}
use mathlib.Core.List.{List}
use Prim.Native.Nat.{ℕ, ◌/◌, ◌≤◌}
use native.Mathlib.Omega.{arith}
use borrow.Author.Tests.{leb-true}
use lib.Dec.{leb}
use lib.ListN.{length}
use Rattle.theory.specs.Word.{table_of}
use Rattle.theory.specs.TurnedDown.{done}
use Rattle.theory.specs.declared.Refusal.{Refusal}
use Rattle.theory.proofs.Faults.{none_first, none_second, unless_none, answer_done}
use Rattle.listing.specs.Listing.{Line, word}
use Rattle.listing.specs.Refused.{most_lines, rule_3, lines_fault, listing_fault}
use Rattle.listing_check.specs.Lined.{lined, lines_of, judged, read, Whole}
use Rattle.listing_check.proofs.Lines.{lined-length}
use Rattle.listing_table.specs.Tables.{most_entries, Passed, Tabled, Fills}
use Rattle.listing_table.proofs.Placing.{word_short}

fault_of : (o : Option Refusal) {v : Result (Unit {0}) Refusal} {r : Refusal} → v ≡ judged o → v ≡ Err r → o ≡ some r
fault_of none e f = cc
fault_of (some q) e f = cc

no_fault : (o : Option Refusal) {v : Result (Unit {0}) Refusal} → v ≡ judged o → v ≡ Ok tt → o ≡ none
no_fault none e f = refl
no_fault (some q) e f = cc

-- A list that no rule turns down
passed : (list : List ℕ) (lines : ℕ) → Whole list lines → listing_fault (lined list) ≡ none → Passed list lines
unfolding listing_fault rule_3
passed list lines w fine =
    let l : List (Option Line) = lined list in
    let size : length l ≡ lines = lined-length list lines w in
    let short : leb (length l) most_lines ≡ true = unless_none (leb (length l) most_lines) 3 257 (none_first (rule_3 l) _ fine) in
    let low : length l ≤ most_lines = leb-true (length l) most_lines short in
    record { whole = w; few = omega arith; passes = rw size at (none_second (rule_3 l) (lines_fault (length l) 1 l) fine) }

-- Its word has a place in a table of the most instructions
pub word_fits : (list : List ℕ) (l : List Line) → read list ≡ done l → length (word l) ≤ most_entries
word_fits list l e =
    let fine : _ = answer_done (listing_fault (lined list)) (lines_of list) l e in
    let whole : Whole list (length list / 4) = record { from = omega arith; upto = omega arith } in
    rw fine.1 at (word_short list (length list / 4) (passed list (length list / 4) whole fine.0))

module _ (list : List ℕ) {v : Result (Unit {0}) Refusal} (e : v ≡ judged (listing_fault (lined list))) where
  pub fill_refused : {r : Refusal} → v ≡ Err r → (k o : List ℕ) → Fills list k o (Err r) k o
  fill_refused f k o = let fault = fault_of (listing_fault (lined list)) e f in (rw fault, rw fault, rw fault)

  module _ (f : v ≡ Ok tt) where
    pub fill_passes : (lines : ℕ) → Whole list lines → Passed list lines
    fill_passes lines w = passed list lines w (no_fault (listing_fault (lined list)) e f)

    pub fill_done : {n : ℕ} {k o k' o' : List ℕ} → n ≡ length (word (lines_of list))
        → Tabled (table_of (word (lines_of list))) 0 k o k' o' → Fills list k o (Ok n) k' o'
    fill_done g t =
        let passes = no_fault (listing_fault (lined list)) e f in
        (rw (passes, g), t.kinds_put ∙ rw passes, t.operands_put ∙ rw passes)
