-- `pack` meets its contract. Each part is below the next one's power of two, so that the sums fit.
use mathlib.Core.Path.{refl}
use Rattle.packing.specs.Packed.{pack}
use Rattle.packing.proofs.pack.Goals as goal

pub returns : goal.returns
unfolding pack
returns c = refl
