-- Rule 9 as the code checks it: all values and entries of the passes-left, and the number of loops around the state's line.
use mathlib.Core.Path.{◌≡◌, refl, sym, ap, ◌∙◌, fun_ext}
use mathlib.Core.Bool.{Bool, true, false, cond, ◌&&◌}
use mathlib.Core.List.{List}
use Prim.Native.Nat.{ℕ, suc, pred, ◌+◌, ◌-◌, ◌≤◌, ◌<◌}
use native.Mathlib.Numerals.{add-one}
use native.Mathlib.Omega.{arith}
use borrow.Author.Tests.{ltb-true}
use lib.ListN.{length, get_or}
use lib.Dec.{ltb, eqb}
use Rattle.theory.specs.Limits.{most_capacity, state_values, state_passes}
use Rattle.theory.specs.Basics.{all_below}
use Rattle.theory.specs.ProgramText.{Command, Opening, variables, commands}
use Rattle.theory.specs.Source.{open_at, loops, loop_variable, depth}
use Rattle.theory.specs.Machines.{capacity_of, is_limited}
use Rattle.theory.specs.Runs.{register}
use Rattle.theory.specs.TurnedDown.{are_capacities, is_value, is_passes, is_source}
use Rattle.theory.proofs.Faults.{and_first, and_second}
use Rattle.theory.proofs.GoodSource.{capacity_at, limited}
use Rattle.source_state.specs.Answers.{source_state}
use Rattle.source_state.specs.declared.State.{State}
use Rattle.source_state.specs.Numbers.{is_value_within, is_passes_within}
use Rattle.source.specs.Lines.{Deep, entry_at, all_capacities, all_values, all_passes}
use Rattle.source.specs.Lines.{BoundsOf, Bounded, all_left}
use Rattle.source.proofs.Program.{depth_last}
use Rattle.source.proofs.Stepping.{kind_at, of_kind}
use Rattle.source.proofs.Entries.{closed_depth, off_endloop}

-- A test of every number below n, from the first on
pub all-one_more : (f : ℕ → Bool) (i : ℕ) → all_below i f ≡ true → f i ≡ true → all_below (i + 1) f ≡ true
all-one_more f i h e = rw (add-one i, h) e

-- The loops around a line, by its entry
module _ (l es : List ℕ) (lines line : ℕ) (d : Deep l es lines line) where
  pub depth_past : lines < line → 0 ≡ depth (commands l) line
  depth_past h =
      let last : suc (length (commands l)) ≡ line = omega (arith, d.lines_are, d.high) in
      sym (rw last at (depth_last l d.holds))

  module _ (here : line ≤ lines) where
    abbrev m : ℕ
    m = line - 1

    inside : m < length (commands l)
    inside = omega (arith, d.lines_are, d.low)

    from : line ≡ suc m
    from = omega (arith, d.low)

    pub depth_endloop : kind_at l m ≡ 5 → get_or es m 0 + 1 ≡ depth (commands l) line
    unfolding entry_at
    depth_endloop e =
        let entry : get_or es m 0 ≡ pred (depth (commands l) (suc m)) = rw (of_kind l m 5 e) at (d.enters m inside) in
        let closed : depth (commands l) (suc m) ≡ suc (depth (commands l) (suc (suc m))) = closed_depth l d.holds m inside e in
        let all : get_or es m 0 + 1 ≡ depth (commands l) (suc m) = omega arith in
        all ∙ ap (depth (commands l)) (sym from)

    pub depth_other : (kind_at l m ≡ 5 → ⊥) → get_or es m 0 ≡ depth (commands l) line
    unfolding entry_at
    depth_other ne = d.enters m inside ∙ (off_endloop l m ne (depth (commands l) (suc m)) ∙ ap (depth (commands l)) (sym from))

-- The tests over lists, as the code makes them, are the definitions'
module _ (cs : List ℕ) where
  pub same_capacities : (K : ℕ) → all_capacities cs K ≡ are_capacities K cs
  unfolding all_capacities
  same_capacities K = ap (all_below K) (fun_ext λ i. ap (is_limited most_capacity) (sym (capacity_at cs i)))

  same-values : (K : ℕ) (vs : List ℕ) → all_values cs K vs ≡ all_below state_values (λ i. is_value cs K i (get_or vs i 0))
  unfolding all_values
  same-values K vs =
      ap (all_below state_values) (fun_ext λ i. ap (λ c. is_value_within c K i (get_or vs i 0)) (sym (capacity_at cs i)))

  module _ (os : List Opening) (bs : List ℕ) (h : BoundsOf cs os bs) (ps : List ℕ) where
    same-entry : (d k : ℕ) → is_passes_within (get_or bs d 0) (loops os) d k ≡ is_passes cs os d k
    same-entry d k = go (ltb d (loops os)) refl
      where
        go : (t : Bool) → ltb d (loops os) ≡ t
            → cond t (is_limited (get_or bs d 0) k) (eqb k 0)
            ≡ cond t (is_limited (capacity_of cs (register (loop_variable os d))) k) (eqb k 0)
        go true e = ap (λ c. is_limited c k) (h d (ltb-true d (loops os) e) ∙ sym (capacity_at cs (loop_variable os d)))
        go false e = refl

    same-passes : all_passes bs (loops os) ps ≡ all_below state_passes (λ d. is_passes cs os d (get_or ps d 0))
    unfolding all_passes
    same-passes = ap (all_below state_passes) (fun_ext λ d. same-entry d (get_or ps d 0))

-- The passes-left at a line, by bounds that are filled
pub left_as : (l : List ℕ) (line : ℕ) (cs bs ps : List ℕ) → Bounded l line cs bs
    → all_passes bs (depth (commands l) line) ps ≡ all_left (commands l) line cs ps
unfolding depth all_left
left_as l line cs bs ps b = same-passes cs (open_at (commands l) line) bs b ps

-- Rule 9, a test after the other. A test that fails is the answer
abbrev pub limits : List Command → State → Bool
limits p s = all_capacities s.capacities (variables p) && is_limited (suc (length p)) s.line

-- What the first says of the line, whatever stands before
line-within : (most line : ℕ) (t : Bool) → (t && is_limited most line) ≡ true → (0 < line) × (line ≤ most)
line-within most line t h = limited most line (and_second t (is_limited most line) h)

pub limited-line : (p : List Command) (s : State) → limits p s ≡ true → (0 < s.line) × (s.line ≤ suc (length p))
limited-line p s = line-within (suc (length p)) s.line (all_capacities s.capacities (variables p))

module _ (l : List ℕ) (s : State) where
  abbrev p : List Command
  p = commands l

  pub bad_limits : limits p s ≡ false → false ≡ is_source p (source_state s)
  unfolding is_source
  bad_limits e =
      let bad : (are_capacities (variables p) s.capacities && is_limited (suc (length p)) s.line) ≡ false
      = rw (same_capacities s.capacities (variables p)) at e in
      rw bad

  module _ (good : limits p s ≡ true) where
    -- The values, and then the passes left
    lists_left : (all_values s.capacities (variables p) s.values && all_left p s.line s.capacities s.passes)
        ≡ is_source p (source_state s)
    unfolding is_source all_left
    lists_left =
        let fine : (are_capacities (variables p) s.capacities && is_limited (suc (length p)) s.line) ≡ true
        = rw (same_capacities s.capacities (variables p)) at good in
        rw (fine, same-values s.capacities (variables p) s.values)

    pub bad_values : all_values s.capacities (variables p) s.values ≡ false → false ≡ is_source p (source_state s)
    bad_values e = (rw e refl) ∙ lists_left

    pub good_values : all_values s.capacities (variables p) s.values ≡ true
        → all_left p s.line s.capacities s.passes ≡ is_source p (source_state s)
    good_values e = (rw e refl) ∙ lists_left

-- What rule 9 says of the line
pub good_line : (p : List Command) (s : State) → is_source p (source_state s) ≡ true → (0 < s.line) × (s.line ≤ suc (length p))
unfolding is_source
good_line p s h =
    let sized = are_capacities (variables p) s.capacities in
    let valued = all_below state_values (λ i. is_value s.capacities (variables p) i (get_or s.values i 0)) in
    let start = sized && is_limited (suc (length p)) s.line in
    line-within (suc (length p)) s.line sized (and_first start valued (and_first (start && valued) _ h))
