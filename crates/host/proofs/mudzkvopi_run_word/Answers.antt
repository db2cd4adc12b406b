-- `mudzkvopi_run_word` meets its contract, since `machine::run_word` meets its own. A place goes through its 32 bits and is as it was.
use mathlib.Core.Path.{◌≡◌, ap, ◌∙◌}
use lib.IntN.{ℤ}
use mir.Syntax.{w32}
use mir.Val.{to_z, of_z}
use Rattle.theory.specs.Machines.{Memory, count}
use Rattle.theory.specs.TurnedDown.{read_word_for}
use Rattle.memory.specs.Calls.{memory, handed, word_called}
use Rattle.memory.specs.declared.answers.Position.{Position}
use Rattle.memory.specs.declared.answers.Run.{Run}
use Rattle.host.specs.Entries.{stands_at}
use Rattle.host.proofs.WordRuns.{runs_on, word_is}
use borrow.Author.Rules.{rules}
use Rattle.host.proofs.mudzkvopi_run_word.Goals as goal

pub returns : goal.returns
returns c =
    let args = c.args in
    let m : Memory = memory args.capacities.now args.store.now args.lengths.now in
    let at : Position = stands_at args.place.now args.steps.now in
    let from : to_z w32 (of_z w32 args.place.now) ≡ args.place.now = search rules in
    let ran : Run = c.run_word-run.result in
    let back : to_z w32 (of_z w32 ran.position.place) ≡ ran.position.place = search rules in
    let called : handed ran c.run_word-run.new.store c.run_word-run.new.lengths
    ≡ word_called m at args.budget args.word.now =
    c.run_word-run.ensures
    ∙ ap (λ (z : ℤ). word_called m (stands_at z args.steps.now) args.budget args.word.now) from in
    runs_on m at (read_word_for (count m) args.word.now) args.budget ran _ _ _ _
    (called ∙ word_is m at args.budget args.word.now) c.run_ended.ensures back
