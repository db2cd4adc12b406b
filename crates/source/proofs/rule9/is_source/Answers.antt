-- `is_source` is rule 9, test by test. Assumes nothing.
use mathlib.Core.Path.{◌≡◌, sym, ◌∙◌}
use mathlib.Core.Bool.{true, ◌&&◌}
use mathlib.Core.List.{List}
use Prim.Native.Nat.{ℕ, suc}
use native.Mathlib.Omega.{arith}
use borrow.Author.Rules.{rules}
use Rattle.theory.specs.Machines.{is_limited}
use Rattle.theory.proofs.Nesting.{few_variables}
use Rattle.source_state.specs.declared.State.{State}
use Rattle.source.specs.Lines.{Given, all_capacities}
use Rattle.source.proofs.Program.{few_lines}
use Rattle.source.proofs.Checks.{limits, limited-line, bad_limits, bad_values, good_values}
use Rattle.source.proofs.rule9.is_source.Goals as goal
use Rattle.theory.specs.ProgramText.{commands}

-- What the test of the limits answers, by the lines and variables of the program
limits_are : (l : List ℕ) (lines K : ℕ) (s : State) → Given l lines K
    → (all_capacities s.capacities K && is_limited (suc lines) s.line) ≡ limits (commands l) s
limits_are l lines K s g = rw (g.variables_are, g.lines_are)

pub are_limited-requires : goal.are_limited-requires
are_limited-requires c = (
  search rules,
  omega (arith, few_variables (commands c.args.list.now) c.requires.0.holds.accepted, c.requires.0.variables_are),
  omega (arith, few_lines c.args.list.now c.requires.0.holds, c.requires.0.lines_are),
)

pub returns-then-not-are_limited : goal.returns-then-not-are_limited
returns-then-not-are_limited c =
    bad_limits c.args.list.now c.args.state
    (sym (limits_are _ _ _ c.args.state c.requires.0) ∙ (sym c.are_limited.ensures ∙ c.if-not-are_limited.true))

pub returns-then-not-are_values : goal.returns-then-not-are_values
returns-then-not-are_values c =
    let limited : limits (commands c.args.list.now) c.args.state ≡ true =
    sym (limits_are _ _ _ c.args.state c.requires.0) ∙ (sym c.are_limited.ensures ∙ c.if-not-are_limited.false) in
    bad_values c.args.list.now c.args.state limited
    (sym (rw c.requires.0.variables_are at c.are_values.ensures) ∙ c.if-not-are_values.true)

pub are_left-requires : goal.are_left-requires
are_left-requires c =
    let limited : limits (commands c.args.list.now) c.args.state ≡ true =
    sym (limits_are _ _ _ c.args.state c.requires.0) ∙ (sym c.are_limited.ensures ∙ c.if-not-are_limited.false) in
    let line : _ = limited-line (commands c.args.list.now) c.args.state limited in (
      record {
        holds = c.requires.0.holds;
        enters = c.requires.1;
        room = omega (arith, c.requires.0.lines_are, c.requires.2);
        lines_are = c.requires.0.lines_are;
        low = line.0;
        high = line.1;
      },
      search rules,
      search rules,
    )

pub returns : goal.returns
returns c =
    let limited : limits (commands c.args.list.now) c.args.state ≡ true =
    sym (limits_are _ _ _ c.args.state c.requires.0) ∙ (sym c.are_limited.ensures ∙ c.if-not-are_limited.false) in
    let good : _ = sym (rw c.requires.0.variables_are at c.are_values.ensures) ∙ c.if-not-are_values.false in
    c.are_left.ensures ∙ good_values c.args.list.now c.args.state limited good
