-- `around` meets its contract: what was laid aside are the lengths before, so that where the stretch is back it leads to the state that it
-- began in, and every whole round of it does.
use mathlib.Core.Path.{◌≡◌, sym, ap, ◌∙◌}
use Prim.Native.Nat.{ℕ}
use native.Mathlib.Omega.{arith}
use mathlib.Core.Bool.{◌&&◌}
use mathlib.Core.List.{List}
use lib.Dec.{eqb}
use lib.ListN.{length, take}
use Rattle.theory.specs.Text.{same}
use Rattle.rounds.proofs.Aside.{aside_take}
use Rattle.counts.proofs.Stretching.{all_round}
use Rattle.counts.proofs.stretches.around.Goals as goal
use Rattle.counts.proofs.stretches.around.Goals.{After-laid_aside-cells}

-- the lengths laid aside, as many as there are
aside : (c : After-laid_aside-cells)
    → let l = c.args.lengths.now in
    take (length l) c.laid_aside-cells.result ≡ l
aside c =
    aside_take c.args.lengths.now _ c.laid_aside-cells.ensures (omega (arith, c.requires.0.few, c.requires.0.paired))

pub returns-then-is_back : goal.returns-then-is_back
returns-then-is_back c =
    let a = c.args in
    let after = c.stretch.new.lengths in
    let back = sym c.is_back.ensures ∙ c.if-is_back.true in
    all_round a.capacities.now a.lengths.now after a.kinds.now a.operands.now a.from a.left _ _
    c.in_ok-s.ensures
    (ap (λ (l : List ℕ). eqb c.in_ok-s.s.there a.from && same after l)
    (sym (aside (goal.at.returns-then-is_back c).After-laid_aside-cells)) ∙ back)
    c.whole_rounds.ensures
