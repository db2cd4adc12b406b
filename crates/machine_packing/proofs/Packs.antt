-- What runs hand back is packed as the answer for which it stands.
use mathlib.Core.Path.{◌≡◌, refl}
use Rattle.theory.specs.Runs.{Outcome}
use Rattle.theory.specs.Source as S
use Rattle.theory.specs.Machines.{Value, valued, untidy}
use Rattle.theory.specs.TurnedDown.{Answer, done, refused}
use Rattle.source_state.specs.Answers.{ended_by}
use Rattle.memory.specs.Calls.{value_answer}
use Rattle.packing.specs.Packed.{packed, ending, symbols}
use Rattle.machine_packing.specs.Answered.{run_ended, value_read}

pub packs_source : (a : Answer (Outcome S.State)) → run_ended (ended_by a) ≡ packed ending a
unfolding packed ended_by
packs_source (done o) = refl
packs_source (refused r) = refl

pub packs_value : (a : Answer Value) → value_read (value_answer a) ≡ packed symbols a
unfolding packed
packs_value (done (valued xs)) = refl
packs_value (done untidy) = refl
packs_value (refused r) = refl
