-- The capacities by which the passes-left are judged, filled line by line: at each number of loops that of the variable of the loop there.
use mathlib.Core.Path.{◌≡◌, sym, ap, ◌∙◌}
use mathlib.Core.List.{List, [], ◌∷◌}
use Prim.Native.Nat.{ℕ, suc, ◌+◌, ◌≤◌, ◌<◌}
use native.Mathlib.Decide.{ℕ_discrete}
use native.Mathlib.Numerals.{add-one}
use native.Mathlib.Omega.{arith}
use lib.ListN.{length, get_or, set}
use lib.Seq.{get_or-set_same, get_or-set_other}
use Rattle.theory.specs.Limits.{state_passes}
use Rattle.theory.specs.ProgramText.{Kind, loop, while, Command, opens, closes, Opening, open_next, commands}
use Rattle.theory.specs.Source.{open_at, deeper, loops, loop_variable, depth}
use Rattle.theory.proofs.Partners.{depth-start}
use Rattle.theory.proofs.GoodSource.{outer_variable, inner_variable}
use Rattle.source.specs.Lines.{Holds, command_at, Entered, BoundsOf, Bounded}
use Rattle.source.proofs.Program.{open_more}
use Rattle.source.proofs.Stepping.{kind_at, first-at, of_kind, opening-entry}
use Rattle.source.proofs.Entries.{off_loops}

not_fewer : (k : Kind) (n : ℕ) → n ≤ deeper k n
not_fewer loop n = omega arith
not_fewer while n = omega arith

module _ (cs bs : List ℕ) where
  -- a pair more, which is no loop
  while_bounds : (n i : ℕ) (os : List Opening) → BoundsOf cs os bs → BoundsOf cs (open_next n os (opens while i)) bs
  while_bounds n i os b d l =
      b d l ∙ ap (λ v. get_or cs v 0) (sym (outer_variable (record { line = n; kind = while; index = i }) os d l))

  -- a pair fewer
  closed_bounds : (n : ℕ) (k : Kind) (i : ℕ) (os : List Opening) → BoundsOf cs os bs → BoundsOf cs (open_next n os (closes k i)) bs
  closed_bounds n k i [] b d l = absurd (omega arith)
  closed_bounds n k i (o ∷ os) b d l =
      b d (omega (arith, not_fewer o.kind (loops os))) ∙ ap (λ v. get_or cs v 0) (outer_variable o os d l)

  abbrev looped : ℕ → ℕ → Opening
  looped n i = record { line = n; kind = loop; index = i }

  -- a loop more, whose capacity is set
  loop_bounds : (n i : ℕ) (os : List Opening) → loops os < length bs → BoundsOf cs os bs
      → BoundsOf cs (open_next n os (opens loop i)) (set bs (loops os) (get_or cs i 0))
  loop_bounds n i os room b d l = go (ℕ_discrete d (loops os))
    where
      go : Dec (d ≡ loops os) → get_or (set bs (loops os) (get_or cs i 0)) d 0 ≡ get_or cs (loop_variable (looped n i ∷ os) d) 0
      go (yes e) = rw (e, get_or-set_same bs (loops os) (get_or cs i 0) 0 room, inner_variable (looped n i) os)
      go (no ne) =
          get_or-set_other bs (loops os) d (get_or cs i 0) 0 ne
          ∙ (b d (omega arith) ∙ ap (λ v. get_or cs v 0) (sym (outer_variable (looped n i) os d (omega arith))))

-- No loop is around the first line
pub bounds_start : (l cs bs : List ℕ) → Bounded l 1 cs bs
unfolding depth
bounds_start l cs bs d h = absurd (omega (arith, depth-start (commands l)))

-- Line m, counted from 0, is passed
module _ (l : List ℕ) (h : Holds l) (m : ℕ) (inside : m < length (commands l)) (cs bs : List ℕ) (before : Bounded l (suc m) cs bs) where
  abbrev os : List Opening
  os = open_at (commands l) (suc m)

  abbrev Next : Command → Type 0
  Next c = BoundsOf cs (open_next (suc m) os c) bs

  pub bounds_other : (kind_at l m ≡ 4 → ⊥) → Bounded l (suc (m + 1)) cs bs
  bounds_other four = rw (add-one m, open_more l h m inside) (go (ℕ_discrete (kind_at l m) 5))
    where
      go : Dec (kind_at l m ≡ 5) → Next (command_at l m)
      go (yes e) = rw (of_kind l m 5 e) (closed_bounds cs bs (suc m) loop (first-at l m) os before)
      go (no five) = off_loops Next l m (λ c. before) (λ i. while_bounds cs bs (suc m) i os before)
          (λ i. closed_bounds cs bs (suc m) while i os before) four five

  module _ (es : List ℕ) (enters : Entered l es) (e : kind_at l m ≡ 4) where
    entry_is : (get_or es m 0 ≡ loops os) × (get_or es m 0 < state_passes)
    unfolding depth
    entry_is = opening-entry l h m inside es (enters m inside) e

    pub entry_low : get_or es m 0 < state_passes
    entry_low = entry_is.1

    pub bounds_loop : length bs ≡ state_passes
        → Bounded l (suc (m + 1)) cs (set bs (get_or es m 0) (get_or cs (first-at l m) 0))
    bounds_loop size =
        let d : get_or es m 0 ≡ loops os = entry_is.0 in
        let room : loops os < length bs = omega (arith, entry_is.1) in
        rw (add-one m, open_more l h m inside, of_kind l m 4 e, d) (loop_bounds cs bs (suc m) (first-at l m) os room before)
