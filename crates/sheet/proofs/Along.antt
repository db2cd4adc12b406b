-- The walk along the rows of a sheet: what is judged, and what is left.
use Rattle.std.specs.Prelude.{Ok, Err}
use mathlib.Core.Path.{◌≡◌, refl, ap, ◌∙◌}
use mathlib.Core.Option.{Option, none, some}
use mathlib.Core.List.{List, []}
use Prim.Native.Nat.{ℕ, ◌+◌, ◌-◌, ◌≤◌, ◌<◌}
use native.Mathlib.Numerals.{add-one}
use native.Mathlib.Omega.{arith}
use lib.ListN.{length, drop, drop_of_length-le}
use Rattle.theory.specs.Text.{Bytes, split_lines}
use Rattle.theory.specs.RunSheet.{values}
use Rattle.theory.specs.TurnedDown.{values_fault, rows_fault}
use Rattle.theory.specs.declared.Refusal.{Refusal}
use Rattle.sheet.specs.Answers.{unless_refused, line_at, after_line}
use Rattle.sheet.specs.Lines.{rows_as}
use Rattle.sheet.proofs.Splits.{lines_next}

-- What was handed back, as a fault of the definitions

pub passes : {A : Type 0} {x : A} (o : Option Refusal) (a : A) → Ok x ≡ unless_refused o a → (o ≡ none) × (x ≡ a)
passes none a e = (refl, cc)
passes (some r) a e = (cc, cc)

pub refuses : {A : Type 0} {r : Refusal} (o : Option Refusal) (a : A) → Err r ≡ unless_refused o a → o ≡ some r
refuses none a e = cc
refuses (some q) a e = cc

-- The lines from `from` to `at` are passed, the next is line n
pub record Along (s : Bytes) (capacities ns : List ℕ) (from at n : ℕ) : Type 0 where
  pub reached : at ≤ length s
  pub clean : rows_fault capacities ns 2 (split_lines (drop from s)) ≡ rows_fault capacities ns n (split_lines (drop at s))
  pub counted : length (split_lines (drop from s)) + 2 ≡ n + length (split_lines (drop at s))
  pub fewer : n ≤ at + 2
  pub second : 2 ≤ n

module _ (s : Bytes) (capacities ns : List ℕ) (from : ℕ) where
  pub along-start : from ≤ length s → Along s capacities ns from from 2
  along-start h = record { reached = h; clean = refl; counted = omega arith; fewer = omega arith; second = omega arith }

  module _ (at n : ℕ) (a : Along s capacities ns from at n) where
    module _ (h : at < length s) where
      pub along_further : at < after_line s at
      along_further = omega arith

      pub along-next : values_fault capacities ns n (values (line_at s at)) ≡ none → Along s capacities ns from (after_line s at) (n + 1)
      unfolding rows_fault
      along-next e =
          let next : split_lines (drop at s) ≡ _ = lines_next s at h in
          record {
            reached = omega arith;
            clean = a.clean ∙ rw (next, e, add-one n);
            counted = omega (arith, a.counted, ap length next);
            fewer = omega (arith, a.fewer);
            second = omega (arith, a.second);
          }

      pub along_fault : (r : Refusal) → values_fault capacities ns n (values (line_at s at)) ≡ some r
          → Err r ≡ rows_as capacities ns (split_lines (drop from s))
      unfolding rows_fault rows_as
      along_fault r e =
          let next : split_lines (drop at s) ≡ _ = lines_next s at h in
          let faulty : rows_fault capacities ns n (split_lines (drop at s)) ≡ some r = rw (next, e) in
          rw (a.clean, faulty)

    pub along_end : length s ≤ at → Ok (n - 2) ≡ rows_as capacities ns (split_lines (drop from s))
    unfolding rows_fault rows_as split_lines
    along_end h =
        let nothing : drop at s ≡ [] = drop_of_length-le s {i = at} h in
        let passed : rows_fault capacities ns n (split_lines (drop at s)) ≡ none = rw nothing in
        let left : length (split_lines (drop at s)) ≡ 0 = rw nothing in
        let all-rows : n - 2 ≡ length (split_lines (drop from s)) = omega (arith, a.counted) in
        rw (a.clean, passed) (ap Ok all-rows)
