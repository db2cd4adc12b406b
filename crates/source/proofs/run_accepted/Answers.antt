-- `run_accepted` hands back what the definitions give: the tables are filled, rule 9 is judged, and the steps that budget and count allow
-- are taken. Assumes nothing.
use mathlib.Core.Path.{◌≡◌, sym, ◌∙◌}
use Prim.Native.Nat.{◌≤◌}
use native.Mathlib.Omega.{arith}
use borrow.Author.Rules.{rules}
use lib.ListN.{length}
use Rattle.source.proofs.Program.{few_lines}
use Rattle.source.proofs.Checks.{good_line}
use Rattle.source.proofs.Results.{rule_9-back, run-back, taken_few}
use Rattle.source.proofs.run_accepted.Goals as goal

pub fill_targets-requires : goal.fill_targets-requires
fill_targets-requires c =
    let few : c.args.lines ≤ 512 = omega (arith, few_lines c.args.list.now c.requires.holds, c.requires.lines_are) in
    record { holds = c.requires.holds; lines_are = c.requires.lines_are; room = few }

pub fill_entries-requires : goal.fill_entries-requires
fill_entries-requires c =
    let few : c.args.lines ≤ 512 = omega (arith, few_lines c.args.list.now c.requires.holds, c.requires.lines_are) in
    record { holds = c.requires.holds; lines_are = c.requires.lines_are; room = few }

pub is_source-requires : goal.is_source-requires
is_source-requires c =
    let few : c.args.lines ≤ 512 = omega (arith, few_lines c.args.list.now c.requires.holds, c.requires.lines_are) in
    let room : length c.fill_entries.new.entries ≡ 512 = search rules in
    (c.requires, c.fill_entries.ensures, omega arith)

pub returns-then-not-is_source : goal.returns-then-not-is_source
returns-then-not-is_source c =
    rw c.refused.ensures (rule_9-back _ _ _ (sym c.is_source.ensures ∙ c.if-not-is_source.true))

pub walk-stop-requires : goal.walk-stop-requires
walk-stop-requires c =
    let few : c.args.lines ≤ 512 = omega (arith, few_lines c.args.list.now c.requires.holds, c.requires.lines_are) in
    let targets_room : length c.fill_targets.new.targets ≡ 512 = search rules in
    let entries_room : length c.fill_entries.new.entries ≡ 512 = search rules in
    let good : _ = good_line _ c.args.state (sym c.is_source.ensures ∙ c.if-not-is_source.false) in
    record {
      filled =
          record {
            holds = c.requires.holds;
            jumps = c.fill_targets.ensures;
            enters = c.fill_entries.ensures;
            targets_room = omega (arith, c.requires.lines_are);
            entries_room = omega (arith, c.requires.lines_are);
          };
      lines_are = c.requires.lines_are;
      low = good.0;
      high = good.1;
      capacities_are = search rules;
      values_are = search rules;
      passes_are = search rules;
    }

pub overflow_add-steps : goal.overflow_add-steps
overflow_add-steps c =
    let s = c.args.state in
    let counted : s.steps ≤ 4294967295 = search rules in
    let ran = rw c.min-allowed.ensures at c.walk-stop.ensures in
    omega (arith, taken_few c.args.list.now s c.args.budget c.walk-stop.result c.walk-stop.new.values c.walk-stop.new.passes ran)

pub returns : goal.returns
returns c =
    let s = c.args.state in
    let counted : s.steps ≤ 4294967295 = search rules in
    let ran = rw c.min-allowed.ensures at c.walk-stop.ensures in
    run-back c.args.list.now s c.args.budget c.walk-stop.result c.walk-stop.new.values c.walk-stop.new.passes ran counted
    (sym c.is_source.ensures ∙ c.if-not-is_source.false) (search rules) (search rules)
