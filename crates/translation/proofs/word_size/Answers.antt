-- `word_size` meets its contract: F1 has four symbols, then comes the code of the block at the first line, then what the form adds.
use mathlib.Core.Path.{ap, ◌∙◌}
use native.Mathlib.Omega.{arith}
use Rattle.forms.proofs.Words.{added_light}
use Rattle.translation.proofs.Noting.{noting_whole}
use Rattle.translation.proofs.Wholes.{site, small, whole-lines, size_is}
use Rattle.translation.proofs.word_size.Goals as goal

pub block_size-block-requires : goal.block_size-block-requires
block_size-block-requires c = (site _ _ _ c.requires.0, c.requires.1)

pub overflow_add-result : goal.overflow_add-result
overflow_add-result c =
    let h = small _ _ _ c.requires.0 in
    omega (arith, h.symbols, ap (λ z. z.symbols) c.block_size-block.ensures.0.size)

pub overflow_add-result-2 : goal.overflow_add-result-2
overflow_add-result-2 c =
    let h = small _ _ _ c.requires.0 in
    let block = ap (λ z. z.symbols) c.block_size-block.ensures.0.size in
    let light = added_light c.args.form c.args.variables (omega (arith, h.few_variables)) in
    omega (arith, h.symbols, block, light, ap (λ z. z.symbols) c.added_size-added.ensures)

pub returns : goal.returns
returns c =
    let k = c.requires in
    let e = c.block_size-block.ensures in (
      rw (c.from.ensures, c.from-2.ensures) (size_is _ _ _ k.0 c.args.form _ e.0 _ c.added_size-added.ensures),
      noting_whole _ _ _ _ _ _ (e.0.ended ∙ whole-lines _ _ _ k.0) k.1 e.1,
    )
