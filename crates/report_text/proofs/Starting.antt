-- What a row's source starts from is turned down by no rule, and its run is the definition's. Both runs are within the tool's budgets.
use mathlib.Core.Path.{◌≡◌, refl, sym, ap, ◌∙◌, fun_ext}
use mathlib.Core.Bool.{Bool, true, false}
use mathlib.Core.Option.{none}
use mathlib.Core.List.{List}
use Prim.Native.Nat.{ℕ, ◌≤◌, ◌<◌}
use native.Mathlib.Numerals.{add-one}
use native.Mathlib.Omega.{arith}
use lib.Dec.{ltb, leb}
use lib.ListN.{get_or, replicate}
use borrow.Author.Tests.{ltb-true, ltb-false}
use Rattle.theory.specs.ProgramText.{Command, variables}
use Rattle.theory.specs.Runs.{register, run, within_each}
use Rattle.theory.specs.Source as S
use Rattle.theory.specs.Word as W
use Rattle.theory.specs.Translation.{word_of}
use Rattle.theory.specs.Machines.{capacity_of, SourceState, run_source}
use Rattle.theory.specs.RunTool.{source_on, word_on}
use Rattle.theory.specs.TurnedDown.{rule_9}
use Rattle.theory.specs.Claims.{Accepted}
use Rattle.theory.proofs.Budgets.{steps_within}
use Rattle.theory.proofs.GoodSource.{Stood, stood_is_source, run-stands}
use Rattle.theory.proofs.Rooms.{same-machine}
use Rattle.capacities.specs.Room.{of_variables}
use Rattle.registers.proofs.Filling.{zeros_at}
use Rattle.report_text.specs.Fresh.{values_of, IsSet, Starts}
use Rattle.report_text.proofs.Sets.{capacity_low, variable_capacity, variables-limited}

-- The source

abbrev pub source_start : List ℕ → List ℕ → SourceState
source_start capacities values = record {
  capacities = of_variables capacities;
  steps = 0;
  state = record { line = 1; values = values_of values; passes = λ d. get_or (replicate 16 0) d 0 };
}

no_passes : ◌≡◌ {A = ℕ → ℕ} (λ d. get_or (replicate 16 0) d 0) (λ d. 0)
no_passes = fun_ext (λ d. sym (zeros_at 16 d))

module _ (capacities : List ℕ) (set : IsSet capacities) (p : List Command) (values : List ℕ) (h : Starts (variables p) capacities values)
  where
    abbrev limits : List ℕ
    limits = of_variables capacities

    within-limits : (i : ℕ) → i < 32 → values_of values i ≤ capacity_of limits (register i)
    within-limits i l = rw (variable_capacity capacities i l, add-one i) (h.within i)

    stood : Stood p (capacity_of limits) (source_start capacities values).state
    unfolding S.open_at
    stood = record {
      line = (omega arith, omega arith);
      values = λ i l. (λ below. within-limits i l, h.beyond i);
      passes = λ d l. (λ below. absurd (omega arith), λ high. sym (zeros_at 16 d));
    }

    pub source_passes : rule_9 p (source_start capacities values) ≡ none
    unfolding rule_9
    source_passes = rw (stood_is_source p (source_start capacities values) (variables-limited capacities set (variables p) h.few) stood)

    same_room : (i : ℕ) → i < variables p → within_each (capacity_of limits) (register i)
        ≡ within_each (capacity_of capacities) (register i)
    same_room i l = ap {B = ℕ → Bool} (λ c n. leb n c) (variable_capacity capacities i (omega (arith, h.few)))

    pub source_runs : run_source p (source_start capacities values) 100000 ≡ source_on capacities p (values_of values)
    unfolding run_source source_on
    source_runs =
        let from : (ℕ → ℕ) → S.State = λ passes. record { line = 1; values = values_of values; passes = passes } in
        let rooms : S.machine (within_each (capacity_of limits)) p ≡ S.machine (within_each (capacity_of capacities)) p
        = same-machine (within_each (capacity_of limits)) (within_each (capacity_of capacities)) p same_room in
        ap (λ passes. run (S.machine (within_each (capacity_of limits)) p) 100000 0 (from passes)) no_passes
        ∙ ap (λ M. run M 100000 0 (from (λ d. 0))) rooms

    pub source_within : (source_on capacities p (values_of values)).steps ≤ 100000
    unfolding source_on
    source_within = steps_within (S.machine (within_each (capacity_of capacities)) p) 100000 0 _

    pub first-within : Accepted p → (source_on capacities p (values_of values)).state.values 0 ≤ 1024
    first-within accepted = rw (← source_runs) (low (ltb 0 (variables p)) refl)
      where
        last : Stood p (capacity_of limits) (run_source p (source_start capacities values) 100000).state
        last = run-stands p accepted (source_start capacities values) 100000 stood

        low : (t : Bool) → ltb 0 (variables p) ≡ t → (run_source p (source_start capacities values) 100000).state.values 0 ≤ 1024
        low true e =
            let first : capacity_of limits (register 0) ≡ capacity_of capacities (register 0)
            = variable_capacity capacities 0 (omega arith) in
            omega (arith, first, capacity_low capacities set 0 (omega arith), (last.values 0 (omega arith)).0 (ltb-true 0 (variables p) e))
        low false e = omega (arith, (last.values 0 (omega arith)).1 (ltb-false 0 (variables p) e))

-- The word

module _ (capacities : List ℕ) (p : List Command) (v : ℕ → ℕ) where
  pub word-within : (word_on capacities p v).steps ≤ 1000000
  unfolding word_on
  word-within = steps_within (W.machine (within_each (capacity_of capacities)) (word_of p)) 1000000 0 _
