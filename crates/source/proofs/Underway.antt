-- A run underway: what the loop of steps keeps, by the laws of a run of any machine.
use mathlib.Core.Path.{◌≡◌, ◌∙◌}
use mathlib.Core.Bool.{true}
use mathlib.Core.Option.{none, some}
use mathlib.Core.List.{List}
use Prim.Native.Nat.{ℕ, suc, ◌+◌, ◌-◌, ◌^◌, ◌≤◌, ◌<◌}
use native.Mathlib.Numerals.{add-one}
use native.Mathlib.Omega.{arith}
use borrow.Author.Tests.{lt-ltb, eq-eqb, ne_eqb}
use lib.ListN.{length}
use lib.Dec.{ltb}
use Rattle.std.specs.Prelude.{Some, None}
use Rattle.theory.specs.Limits.{last_count, state_values, state_passes}
use Rattle.theory.specs.Runs.{Machine, Outcome}
use Rattle.theory.specs.Source as S
use Rattle.theory.specs.declared.End.{End}
use Rattle.theory.specs.declared.End.TheVariants.{Halted, Spent, Full}
use Rattle.theory.proofs.Budgets.{Underway, underway_start, underway_ended, underway_spent, underway_full, underway_step}
use Rattle.theory.specs.ProgramText.{commands}
use Rattle.source_state.specs.Answers.{stands}
use Rattle.source.specs.Lines.{Stepped, machine_of, run_at}

-- Of the run that ends as o, so many steps are taken, and it stands so
pub record Going (l capacities : List ℕ) (o : Outcome S.State) (allowed taken line : ℕ) (vs ps : List ℕ) : Type 0 where
  pub low : 0 < line
  pub high : line ≤ suc (length (commands l))
  pub values_are : length vs ≡ state_values
  pub passes_are : length ps ≡ state_passes
  pub enough : taken ≤ allowed
  pub left : Underway (machine_of l capacities) o taken (allowed - taken) taken (stands line vs ps)

module _ (l capacities : List ℕ) (line : ℕ) (vs ps : List ℕ) where
  halted_at : line ≡ suc (length (commands l)) → (machine_of l capacities).ended (stands line vs ps) ≡ some Halted
  halted_at e = rw (eq-eqb line (suc (length (commands l))) e)

  goes_at : line ≤ length (commands l) → (machine_of l capacities).ended (stands line vs ps) ≡ none
  goes_at h = rw (ne_eqb line (suc (length (commands l))) (λ e. omega arith))

pub going_start : (l capacities : List ℕ) (line : ℕ) (vs ps : List ℕ) (allowed : ℕ) → 0 < line → line ≤ suc (length (commands l))
    → length vs ≡ state_values → length ps ≡ state_passes
    → Going l capacities (run_at l capacities line vs ps allowed) allowed 0 line vs ps
unfolding run_at
going_start l capacities line vs ps allowed low high v p =
    let all : allowed - 0 ≡ allowed = omega arith in
    record {
      low = low;
      high = high;
      values_are = v;
      passes_are = p;
      enough = omega arith;
      left = rw all (underway_start (machine_of l capacities) allowed 0 (stands line vs ps));
    }

module _ (l capacities : List ℕ) (o : Outcome S.State) (allowed taken line : ℕ) (vs ps : List ℕ)
    (g : Going l capacities o allowed taken line vs ps) where
  abbrev M : Machine S.State
  M = machine_of l capacities

  abbrev ends : End → Outcome S.State
  ends e = record { end = e; steps = taken; state = stands line vs ps }

  pub going_halted : length (commands l) < line → o ≡ ends Halted
  going_halted past =
      let at_end : line ≡ suc (length (commands l)) = omega (arith, g.high) in
      underway_ended M o taken (allowed - taken) taken (stands line vs ps) g.left Halted (halted_at l capacities line vs ps at_end)

  abbrev at : S.State
  at = stands line vs ps

  module _ (here : line ≤ length (commands l)) where
    goes : M.ended at ≡ none
    goes = goes_at l capacities line vs ps here

    pub going_spent : taken ≡ allowed → o ≡ ends Spent
    going_spent all = underway_spent M o taken (allowed - taken) taken at g.left goes (omega arith)

    module _ (some_left : (taken ≡ allowed) → ⊥) (counts : allowed < 2 ^ 32) where
      b : ℕ
      b = allowed - (taken + 1)

      one_less : allowed - taken ≡ suc b
      unfolding b
      one_less = omega (arith, g.enough)

      counted : ltb taken last_count ≡ true
      counted = lt-ltb taken last_count (omega (arith, g.enough))

      pub going_full : (vs' ps' : List ℕ) → Stepped (commands l) capacities line vs ps None vs' ps'
          → o ≡ record { end = Full; steps = taken; state = stands line vs' ps' }
      going_full vs' ps' step =
          rw (step.kept.0, step.kept.1)
          (underway_full M o taken (allowed - taken) taken at g.left b one_less goes counted step.next)

      pub going_on : (next : ℕ) (vs' ps' : List ℕ) → Stepped (commands l) capacities line vs ps (Some next) vs' ps'
          → length vs' ≡ length vs → length ps' ≡ length ps → Going l capacities o allowed (taken + 1) next vs' ps'
      unfolding b
      going_on next vs' ps' step v p = record {
        low = step.inside.0;
        high = step.inside.1;
        values_are = v ∙ g.values_are;
        passes_are = p ∙ g.passes_are;
        enough = omega (arith, g.enough);
        left =
            underway_step M o taken (allowed - taken) taken at g.left (taken + 1) b (taken + 1) (stands next vs' ps')
            (add-one taken) one_less (add-one taken) goes counted step.next;
      }
