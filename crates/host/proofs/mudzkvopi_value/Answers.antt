-- `mudzkvopi_value` meets its contract, since `memory::value` meets its own.
use mathlib.Core.Path.{ap, ◌∙◌}
use Rattle.machine_packing.specs.Answered.{value_read}
use Rattle.machine_packing.proofs.Packs.{packs_value}
use Rattle.host.proofs.mudzkvopi_value.Goals as goal

pub returns : goal.returns
returns c = c.value_read.ensures ∙ ap value_read c.value.ensures.is ∙ packs_value _
