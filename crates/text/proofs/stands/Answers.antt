-- `stands` meets its contract: the library's word for a text that starts with another says the same, at the rest of the text.
use mathlib.Core.Path.{◌≡◌, ◌∙◌}
use native.Mathlib.Omega.{arith}
use lib.ListN.{length, drop}
use Rattle.std.specs.List.{between}
use Rattle.std.proofs.lemmas.List.{drop_min}
use Rattle.std.proofs.lemmas.Slice.{between_to_end}
use Rattle.text.proofs.Words.{starts_following}
use Rattle.text.proofs.stands.Goals as goal

pub returns : goal.returns
returns c =
    let at : _ = c.min.result in
    let text : _ = c.args.text.now in
    let rest : between at (length text) text ≡ drop c.args.at text =
    between_to_end text at (length text) (omega arith) ∙ rw c.min.ensures (drop_min c.args.at text) in
    rw rest at c.starts_with.ensures.value ∙ starts_following c.args.word.now (drop c.args.at text)
