-- `mudzkvopi_translate` meets its contract, since `translation::translate_text` meets its own.
use mathlib.Core.Path.{ap, ◌∙◌}
use Rattle.packing.specs.Packed.{form_of}
use Rattle.program_packing.specs.Answered.{translated}
use Rattle.program_packing.proofs.Packs.{packs_translated}
use Rattle.host.proofs.mudzkvopi_translate.Goals as goal

pub returns : goal.returns
returns c =
    let given = rw (c.setting-setting.ensures, c.form.ensures) at c.translate_text.ensures in
    let form = form_of c.args.form in
    record { result = c.translated.ensures ∙ ap translated given.value ∙ packs_translated form _; word_after = given.out_after }
