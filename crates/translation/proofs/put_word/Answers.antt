-- `put_word` meets its contract: F1, then the code of the block at the first line, then what the form adds.
use Rattle.translation.proofs.Wholes.{site, word-put}
use Rattle.translation.proofs.put_word.Goals as goal

pub put_block-block-requires : goal.put_block-block-requires
put_block-block-requires c = (site _ _ _ c.requires.0, c.requires.1)

pub returns : goal.returns
returns c =
    let k = c.requires in
    word-put _ _ _ k.0 c.args.form k.2 c.put_instruction-place.ensures c.put_block-block.ensures c.put_added.ensures
