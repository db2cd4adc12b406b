-- `wrapped` meets its contract, by its test.
use mathlib.Core.Path.{sym}
use Rattle.rings.proofs.Rings.{wrapped_low, wrapped_high}
use Rattle.rings.proofs.store.wrapped.Goals as goal

pub returns-then-k-size : goal.returns-then-k-size
returns-then-k-size c = sym (wrapped_low _ _ c.if-k-size.true)

pub returns-else-k-size : goal.returns-else-k-size
returns-else-k-size c = sym (wrapped_high _ _ c.if-k-size.false)
