-- `mudzkvopi_read_word` meets its contract, since `word::read` meets its own.
use mathlib.Core.Path.{refl, ap, ◌∙◌}
use Rattle.word.specs.Answers.{read_answer}
use Rattle.packing.specs.Packed.{counted}
use Rattle.packing.proofs.Packs.{packs_counted}
use Rattle.host.proofs.mudzkvopi_read_word.Goals as goal

pub returns : goal.returns
returns c =
    let read = c.read.ensures in
    record {
      result = c.counted.ensures ∙ ap counted read.0 ∙ packs_counted read_answer (λ l. refl) (λ r. refl) _;
      kinds_after = read.1;
      operands_after = read.2;
    }
