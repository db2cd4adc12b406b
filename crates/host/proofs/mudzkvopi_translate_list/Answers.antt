-- `mudzkvopi_translate_list` meets its contract, since `translation::translate_list` meets its own.
use mathlib.Core.Path.{ap, ◌∙◌}
use Rattle.packing.specs.Packed.{form_of}
use Rattle.program_packing.specs.Answered.{translated}
use Rattle.program_packing.proofs.Packs.{packs_translated}
use Rattle.host.proofs.mudzkvopi_translate_list.Goals as goal

pub returns : goal.returns
returns c =
    let given = rw (c.setting-setting.ensures, c.form.ensures) at c.translate_list.ensures in
    let form = form_of c.args.form in
    record { result = c.translated.ensures ∙ ap translated given.value ∙ packs_translated form _; word_after = given.out_after }
