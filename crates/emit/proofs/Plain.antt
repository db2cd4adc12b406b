-- The code of a plain line, and of the end of a pair, by its numbers.
use mathlib.Core.Path.{◌≡◌, refl}
use mathlib.Core.Bool.{Bool, true, false}
use mathlib.Core.List.{List, [], ◌∷◌}
use Prim.Native.Nat.{ℕ}
use lib.Dec.{eqb}
use borrow.Author.Tests.{eq-eqb, ne_eqb}
use Rattle.theory.specs.Runs.{register}
use Rattle.theory.specs.Word.{append, backward, one}
use Rattle.theory.specs.Translation.{scratch, clearing, touching, copying, plain_code}
use Rattle.emit.specs.Pieces.{plain_of, across, back, Written}
use Rattle.command.specs.declared.Numbers.{Numbers}

module _ (l : Numbers) (K : ℕ) where
  pub clears : l.kind ≡ 1 → plain_code K (plain_of l) ≡ clearing (register l.index)
  clears e = rw e

  pub increments : l.kind ≡ 2 → plain_code K (plain_of l) ≡ append one (register l.index) ∷ []
  increments e = rw e

  module _ (n : l.kind ≡ 1 → ⊥) (m : l.kind ≡ 2 → ⊥) where
    pub touches : l.index ≡ l.source → plain_code K (plain_of l) ≡ touching (register l.source)
    touches e = rw (ne_eqb l.kind 1 n, ne_eqb l.kind 2 m, eq-eqb l.index l.source e)

    pub copies : (l.index ≡ l.source → ⊥)
        → plain_code K (plain_of l) ≡ copying (register l.source) (register l.index) (scratch K)
    copies e = rw (ne_eqb l.kind 1 n, ne_eqb l.kind 2 m, ne_eqb l.index l.source e)

-- The end of a pair is one transfer back
pub goes_back : (n m : ℕ) {place end : ℕ} {l k : List ℕ} → Written (backward (across n m) ∷ []) place l k end
    → Written (back n m) place l k end
goes_back n m {place} {end} {l} {k} = go (eqb n 4) refl
  where
    go : (b : Bool) → eqb n 4 ≡ b → Written (backward (across n m) ∷ []) place l k end → Written (back n m) place l k end
    go true e h = rw e (rw e at h)
    go false e h = rw e (rw e at h)
