-- `mudzkvopi_run_table` meets its contract, since `engine::run_numbers` meets its own. A place goes through its 32 bits and is as it was.
use mathlib.Core.Path.{◌≡◌, ap, ◌∙◌}
use mathlib.Core.List.{List}
use lib.IntN.{ℤ}
use mir.Syntax.{w32}
use mir.Val.{to_z, of_z}
use Rattle.theory.specs.Word.{Entry}
use Rattle.theory.specs.Machines.{Memory, count}
use Rattle.theory.specs.TurnedDown.{read_table_for}
use Rattle.word.specs.Answers.{zipped}
use Rattle.memory.specs.Calls.{memory, handed, table_called}
use Rattle.memory.specs.declared.answers.Position.{Position}
use Rattle.memory.specs.declared.answers.Run.{Run}
use Rattle.host.specs.Entries.{stands_at}
use Rattle.host.proofs.WordRuns.{runs_on, table_is}
use borrow.Author.Rules.{rules}
use Rattle.host.proofs.mudzkvopi_run_table.Goals as goal

pub returns : goal.returns
returns c =
    let args = c.args in
    let m : Memory = memory args.capacities.now args.store.now args.lengths.now in
    let at : Position = stands_at args.place.now args.steps.now in
    let from : to_z w32 (of_z w32 args.place.now) ≡ args.place.now = search rules in
    let table : List Entry = zipped args.kinds.now args.operands.now in
    let ran : Run = c.run_numbers-ran.result in
    let back : to_z w32 (of_z w32 ran.position.place) ≡ ran.position.place = search rules in
    let called : handed ran c.run_numbers-ran.new.store c.run_numbers-ran.new.lengths
    ≡ table_called m at args.budget table =
    c.run_numbers-ran.ensures
    ∙ ap (λ (z : ℤ). table_called m (stands_at z args.steps.now) args.budget table) from in
    runs_on m at (read_table_for (count m) table) args.budget ran _ _ _ _
    (called ∙ table_is m at args.budget table) c.run_ended.ensures back
