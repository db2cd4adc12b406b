-- `mudzkvopi_run_source` meets its contract, since `states::run_text` meets its own.
use mathlib.Core.Path.{ap, ◌∙◌}
use Rattle.machine_packing.specs.Answered.{run_ended}
use Rattle.machine_packing.proofs.Packs.{packs_source}
use Rattle.host.proofs.mudzkvopi_run_source.Goals as goal

pub returns : goal.returns
returns c =
    let run = rw c.setting.ensures at c.run_text.ensures in
    record { result = c.run_ended.ensures ∙ ap run_ended run.ended ∙ packs_source _; state_after = run.state_after }
