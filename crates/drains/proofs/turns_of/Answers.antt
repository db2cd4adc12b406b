-- `turns_of` meets its contract: it is the definition.
use Rattle.drains.proofs.Parts.{turns_are}
use Rattle.drains.proofs.turns_of.Goals as goal

pub returns : goal.returns
returns c =
    let a = c.args in
    turns_are a.lengths.now a.capacities.now a.from a.appends.now a.n a.left _ _ _
    c.of_register-held.ensures.0 c.with_steps.ensures c.with_room.ensures
