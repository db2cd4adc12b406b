-- `mudzkvopi_write_program` meets its contract, since `program::write` meets its own.
use mathlib.Core.Path.{refl, ap, ◌∙◌}
use Rattle.program.specs.Answers.{written}
use Rattle.packing.specs.Packed.{counted}
use Rattle.packing.proofs.Packs.{packs_counted}
use Rattle.host.proofs.mudzkvopi_write_program.Goals as goal

pub returns : goal.returns
returns c =
    let write = rw c.setting.ensures at c.write.ensures in
    record { result = c.counted.ensures ∙ ap counted write.value ∙ packs_counted written (λ l. refl) (λ r. refl) _; text_after = write.text_after }
