-- The lines of a listing, from their numbers, and what a check of them hands back.
use Rattle.std.specs.Prelude.{cond, List, [], ◌∷◌, ℕ, zero, suc, ◌+◌, ◌*◌, ◌≤◌, ◌<◌, eqb, length, Result, Err, Ok}
use Rattle.std.proofs.Math.Option.{Option, none, some}
use Rattle.theory.specs.Basics.{given, present}
use Rattle.theory.specs.Word.{one, hash}
use Rattle.theory.specs.TurnedDown.{Answer, answer}
use Rattle.theory.specs.declared.Refusal.{Refusal}
use Rattle.listing.specs.Listing.{Line, print, scan}
use Rattle.listing.specs.Refused.{listing_fault}
use Rattle.listing_numbers.specs.declared.Numbers.{Numbers}

-- The line of four numbers
unfoldable pub line_of : Numbers → Option Line
line_of n =
    cond (eqb n.kind 1) (some (print one n.register))
    (cond (eqb n.kind 2) (some (print hash n.register))
    (given (eqb n.kind 5) (scan n.register n.one n.hash)))

-- Those of line i of a list, from 0; and its lines. A last line cut short is none
abbrev pub no_numbers : Numbers
no_numbers = record { kind = 0; register = 0; one = 0; hash = 0 }

unfoldable pub numbers_at : List ℕ → ℕ → Numbers
numbers_at [] i = no_numbers
numbers_at (k ∷ []) i = no_numbers
numbers_at (k ∷ n ∷ []) i = no_numbers
numbers_at (k ∷ n ∷ e ∷ []) i = no_numbers
numbers_at (k ∷ n ∷ e ∷ f ∷ l) zero = record { kind = k; register = n; one = e; hash = f }
numbers_at (k ∷ n ∷ e ∷ f ∷ l) (suc i) = numbers_at l i

unfoldable pub lined : List ℕ → List (Option Line)
lined [] = []
lined (k ∷ []) = []
lined (k ∷ n ∷ []) = []
lined (k ∷ n ∷ e ∷ []) = []
lined (k ∷ n ∷ e ∷ f ∷ l) = line_of (record { kind = k; register = n; one = e; hash = f }) ∷ lined l

abbrev pub lines_of : List ℕ → List Line
lines_of l = present (lined l)

abbrev pub judged : Option Refusal → Result (Unit {0}) Refusal
judged none = Ok tt
judged (some r) = Err r

-- A list read: 3, then 4 and 22
abbrev pub read : List ℕ → Answer (List Line)
read l = answer (listing_fault (lined l)) (lines_of l)

-- A list of so many lines
pub record Whole (l : List ℕ) (lines : ℕ) : Type 0 where
  pub from : 4 * lines ≤ length l
  pub upto : length l < 4 * lines + 4
