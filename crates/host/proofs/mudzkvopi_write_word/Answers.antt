-- `mudzkvopi_write_word` meets its contract, since `table::write` meets its own.
use mathlib.Core.Path.{refl, ap, ◌∙◌}
use Rattle.word.specs.Answers.{written_answer}
use Rattle.packing.specs.Packed.{counted}
use Rattle.packing.proofs.Packs.{packs_counted}
use Rattle.host.proofs.mudzkvopi_write_word.Goals as goal

pub returns : goal.returns
returns c =
    let write = c.write.ensures in
    record { result = c.counted.ensures ∙ ap counted write.0 ∙ packs_counted written_answer (λ l. refl) (λ r. refl) _; word_after = write.1 }
