-- The targets of an accepted listing are its lines and the line after the last: rule 22 turns down every other.
use mathlib.Core.Path.{◌≡◌}
use mathlib.Core.Option.{none, some}
use mathlib.Core.List.{List, [], ◌∷◌, map}
use Prim.Native.Nat.{ℕ, suc}
use native.Mathlib.Omega.{arith}
use lib.ListN.{length, length-map}
use Rattle.theory.specs.Basics.{EachOf}
use Rattle.theory.specs.Machines.{is_limited}
use Rattle.theory.proofs.Faults.{none_first, none_second, unless_none, and_first, and_second}
use Rattle.theory.proofs.GoodSource.{limited}
use Rattle.listing.specs.Listing.{Line, print, scan}
use Rattle.listing.specs.Refused.{rule_3, rule_22, lines_fault, listing_fault}
use Rattle.listing.specs.Claims.{Accepted, Targets}

pub line-targets : (count n : ℕ) (c : Line) → rule_22 count n c ≡ none → Targets count c
line-targets count n (print x r) h = tt
line-targets count n (scan r e f) h =
    let both : _ = unless_none _ 22 n h in
    let of_1 : _ = limited (suc count) e (and_first (is_limited (suc count) e) _ both) in
    let of-# : _ = limited (suc count) f (and_second (is_limited (suc count) e) _ both) in
    (omega (arith, of_1.0), omega (arith, of_1.1), omega (arith, of-#.0), omega (arith, of-#.1))

pub lines-targets : (count n : ℕ) (l : List Line) → lines_fault count n (map some l) ≡ none → EachOf (Targets count) l
unfolding lines_fault
lines-targets count n [] h = tt
lines-targets count n (c ∷ l) h = (
  line-targets count n c (none_first (rule_22 count n c) _ h),
  lines-targets count (suc n) l (none_second (rule_22 count n c) _ h),
)

pub accepted_targets : (l : List Line) → Accepted l → EachOf (Targets (length l)) l
unfolding listing_fault
accepted_targets l a = lines-targets (length l) 1 l (rw length-map at (none_second (rule_3 (map some l)) _ a.passes))
