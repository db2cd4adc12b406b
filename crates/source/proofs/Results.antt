-- What a run hands back: on a refusal the state as it was, else the state where the steps led.
use mathlib.Core.Path.{◌≡◌, refl, ap, ◌∙◌}
use mathlib.Core.Bool.{true, false}
use mathlib.Core.List.{List, [], ◌∷◌}
use Prim.Native.Nat.{ℕ, zero, suc, ◌+◌, ◌≤◌}
use native.Mathlib.Omega.{arith}
use lib.ListN.{length, get_or}
use Rattle.theory.specs.Limits.{last_count, state_values, state_passes}
use Rattle.theory.specs.Basics.{cells}
use Rattle.theory.specs.ProgramText.{Command, commands}
use Rattle.theory.specs.Runs.{run}
use Rattle.theory.specs.Source as S
use Rattle.theory.specs.Machines.{run_source}
use Rattle.theory.specs.TurnedDown.{refused, is_source, rule_9, run_from}
use Rattle.theory.specs.declared.Refusal.{Refusal}
use Rattle.theory.proofs.Budgets.{steps_within}
use Rattle.source_state.specs.Answers.{stands, source_state, ended_by, state_by, moved_by, HandsBack}
use Rattle.source.specs.Lines.{machine_of, run_at, outcome_of}
use Rattle.source_state.specs.declared.State.{State}
use Rattle.source.specs.declared.steps.Stop.{Stop}
use Rattle.std.specs.Prelude.{Ok, Err}
use Rattle.theory.proofs.Counts.{allows, same_allowed}

cells_of : (n : ℕ) (l : List ℕ) → length l ≡ n → cells n (λ i. get_or l i 0) ≡ l
cells_of zero [] e = refl
cells_of zero (x ∷ l) e = absurd (omega arith)
cells_of (suc n) [] e = absurd (omega arith)
cells_of (suc n) (x ∷ l) e = ap {B = List ℕ} (λ t. x ∷ t) (cells_of n l (omega arith))

pub refused_back : (s : State) (x : Refusal) → HandsBack s (refused x) (record { state = s; ended = Err x })
unfolding ended_by state_by moved_by
refused_back s x = record { ended = refl; state = refl; stands = refl }

pub rule_9-back : (s : State) (budget : ℕ) (p : List Command) → is_source p (source_state s) ≡ false
    → HandsBack s (run_from (source_state s) budget p) (record { state = s; ended = Err (record { number = 9; place = 0 }) })
unfolding run_from rule_9
rule_9-back s budget p e = rw e (refused_back s (record { number = 9; place = 0 }))

-- The state where a run stopped
abbrev pub stopped : State → Stop → List ℕ → List ℕ → State
stopped s r vs ps =
    record { capacities = s.capacities; line = r.line; steps = s.steps + r.taken; values = vs; passes = ps }

module _ (l : List ℕ) (s : State) (budget : ℕ) (r : Stop) (vs ps : List ℕ)
    (ran : run_at l s.capacities s.line s.values s.passes (allows budget s.steps) ≡ outcome_of r vs ps) where
  pub taken_few : r.taken ≤ allows budget s.steps
  unfolding run_at
  taken_few =
      let few : _ = steps_within (machine_of l s.capacities) (allows budget s.steps) 0 (stands s.line s.values s.passes) in
      rw ran at few

  pub run-back : s.steps ≤ last_count → is_source (commands l) (source_state s) ≡ true
      → length vs ≡ state_values → length ps ≡ state_passes
      → HandsBack s (run_from (source_state s) budget (commands l)) (record {
        state = stopped s r vs ps;
        ended = Ok (record { end = r.end; steps = r.taken });
      })
  unfolding run_from rule_9 run_source run_at ended_by state_by moved_by
  run-back counted good v p =
      let from : S.State = stands s.line s.values s.passes in
      let a : ℕ = allows budget s.steps in
      let same : run (machine_of l s.capacities) budget s.steps from ≡ outcome_of r vs ps =
      same_allowed (machine_of l s.capacities) a budget a s.steps 0 from refl (omega arith) ∙ ran in
      rw (good, same) (record { ended = refl; state = rw (cells_of 32 vs v, cells_of 16 ps p) refl; stands = refl })
