-- `mudzkvopi_report_on` meets its contract, since `report::report_on` meets its own.
use mathlib.Core.Path.{refl, ap, ◌∙◌}
use Rattle.packing.specs.Packed.{counted}
use Rattle.packing.proofs.Packs.{packs_counted}
use Rattle.report.specs.Answers.{reported}
use Rattle.host.proofs.mudzkvopi_report_on.Goals as goal

pub returns : goal.returns
returns c =
    let made = c.report_on.ensures in
    record { result = c.counted.ensures ∙ ap counted made.value ∙ packs_counted reported (λ t. refl) (λ r. refl) _; out_after = made.out_after }
