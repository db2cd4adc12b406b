-- `mudzkvopi_read_program` meets its contract, since `program::read` meets its own.
use mathlib.Core.Path.{ap, ◌∙◌}
use Rattle.program_packing.specs.Answered.{program_read}
use Rattle.program_packing.proofs.Packs.{packs_program_read}
use Rattle.host.proofs.mudzkvopi_read_program.Goals as goal

pub returns : goal.returns
returns c =
    let read = rw c.setting.ensures at c.read.ensures in
    record { result = c.program_read.ensures ∙ ap program_read read.value ∙ packs_program_read _; list_after = read.list_after }
