-- Rule 3 of a list, and rules 4 and 22 along its lines: what is known before each line, and the answer.
use Rattle.std.specs.Prelude.{Result, Err, Ok}
use mathlib.Core.Path.{◌≡◌, refl, sym, ◌∙◌}
use mathlib.Core.Bool.{Bool, true, false, ◌&&◌}
use mathlib.Core.Option.{Option, none, some}
use mathlib.Core.List.{List}
use Prim.Native.Nat.{ℕ, suc, ◌+◌, ◌-◌, ◌≤◌, ◌<◌}
use native.Mathlib.Numerals.{add-one}
use native.Mathlib.Omega.{arith}
use borrow.Author.Tests.{leb-true, leb-false, eq-eqb, ne_eqb, le-leb, lt-leb}
use lib.Dec.{leb}
use lib.ListN.{length, drop, drop_of_length-le}
use lib.Seq.{drop-cons}
use Rattle.theory.specs.Basics.{or_else}
use Rattle.theory.specs.Machines.{is_limited}
use Rattle.theory.specs.TurnedDown.{unless}
use Rattle.theory.specs.declared.Refusal.{Refusal}
use Rattle.listing.specs.Refused.{most_lines, line_fault, rule_3, lines_fault, listing_fault}
use Rattle.listing_numbers.specs.declared.Numbers.{Numbers}
use Rattle.listing_check.specs.Lined.{line_of, numbers_at, lined, judged, Whole}
use Rattle.listing_check.proofs.Lines.{lined-length, lined-at}

-- A target

pub target_0 : (lines t : ℕ) → t ≡ 0 → false ≡ is_limited (suc lines) t
target_0 lines t e = rw e

pub target_more : (lines t : ℕ) → (t ≡ 0 → ⊥) → leb (t - 1) lines ≡ is_limited (suc lines) t
target_more lines t h = rw (le-leb 1 t (omega arith)) (go (leb (t - 1) lines) refl)
  where
    go : (b : Bool) → leb (t - 1) lines ≡ b → b ≡ leb t (suc lines)
    go true e = sym (le-leb t (suc lines) (omega (arith, leb-true (t - 1) lines e)))
    go false e = sym (lt-leb t (suc lines) (omega (arith, leb-false (t - 1) lines e)))

-- A line, by its kind

module _ (n : Numbers) (lines line : ℕ) where
  pub print_passes_1 : n.kind ≡ 1 → Ok tt ≡ judged (line_fault lines line (line_of n))
  unfolding line_of
  print_passes_1 k = rw (eq-eqb n.kind 1 k)

  module _ (k1 : n.kind ≡ 1 → ⊥) where
    pub print_passes_2 : n.kind ≡ 2 → Ok tt ≡ judged (line_fault lines line (line_of n))
    unfolding line_of
    print_passes_2 k = rw (ne_eqb n.kind 1 k1, eq-eqb n.kind 2 k)

    module _ (k2 : n.kind ≡ 2 → ⊥) where
      pub no_line : (n.kind ≡ 5 → ⊥) → Err (record { number = 4; place = line }) ≡ judged (line_fault lines line (line_of n))
      unfolding line_of
      no_line k5 = rw (ne_eqb n.kind 1 k1, ne_eqb n.kind 2 k2, ne_eqb n.kind 5 k5)

      pub scan_judged : n.kind ≡ 5 → (a b : Bool) → is_limited (suc lines) n.one ≡ a → is_limited (suc lines) n.hash ≡ b
          → judged (unless (a && b) 22 line) ≡ judged (line_fault lines line (line_of n))
      unfolding line_of
      scan_judged k5 a b e f = rw (ne_eqb n.kind 1 k1, ne_eqb n.kind 2 k2, eq-eqb n.kind 5 k5, e, f)

-- All lines: before line i + 1, the faults that are left are those of all

module _ (list : List ℕ) (lines i : ℕ) (w : Whole list lines)
    (so_far : lines_fault lines (suc i) (drop i (lined list)) ≡ lines_fault lines 1 (lined list)) where
  abbrev here : Option Refusal
  here = line_fault lines (i + 1) (line_of (numbers_at list i))

  module _ (h : i < lines) where
    verdict : lines_fault lines 1 (lined list) ≡ or_else here (lines_fault lines (suc (i + 1)) (drop (i + 1) (lined list)))
    unfolding lines_fault
    verdict =
        let within : i < length (lined list) = omega (arith, lined-length list lines w) in
        sym so_far ∙ rw (drop-cons (lined list) i none within, lined-at list i none within, add-one i)

    module _ {v : Result (Unit {0}) Refusal} (e : v ≡ judged here) where
      pub faulty : {r : Refusal} → v ≡ Err r → Err r ≡ judged (lines_fault lines 1 (lined list))
      faulty {r} f = rw verdict (go here e)
        where
          go : (o : Option Refusal) → v ≡ judged o
              → Err r ≡ judged (or_else o (lines_fault lines (suc (i + 1)) (drop (i + 1) (lined list))))
          go none g = cc
          go (some q) g = sym f ∙ g

      pub onward : v ≡ Ok tt → lines_fault lines (suc (i + 1)) (drop (i + 1) (lined list)) ≡ lines_fault lines 1 (lined list)
      onward f = rw verdict (go here e)
        where
          go : (o : Option Refusal) → v ≡ judged o
              → lines_fault lines (suc (i + 1)) (drop (i + 1) (lined list))
              ≡ or_else o (lines_fault lines (suc (i + 1)) (drop (i + 1) (lined list)))
          go none g = refl
          go (some q) g = cc

  pub all_pass : lines ≤ i → Ok tt ≡ judged (lines_fault lines 1 (lined list))
  unfolding lines_fault
  all_pass h =
      rw (← so_far, drop_of_length-le (lined list) {i = i} (omega (arith, lined-length list lines w)))

-- Rule 3

module _ (list : List ℕ) (lines : ℕ) (w : Whole list lines) where
  pub too_many : most_lines < lines → Err (record { number = 3; place = 257 }) ≡ judged (listing_fault (lined list))
  unfolding listing_fault rule_3
  too_many h = rw (lined-length list lines w, lt-leb lines most_lines h)

  pub few : lines ≤ most_lines → listing_fault (lined list) ≡ lines_fault lines 1 (lined list)
  unfolding listing_fault rule_3
  few h = rw (lined-length list lines w, le-leb lines most_lines h)
