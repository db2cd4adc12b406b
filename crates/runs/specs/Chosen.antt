-- What the crate's own functions promise each other: a run on lengths, on registers that hold 1s alone.
use Rattle.std.specs.Prelude.{◌≡◌, List, ℕ, Option, Some, None}
use Rattle.theory.specs.Text.{Bytes}
use Rattle.theory.specs.Word.{Entry}
use Rattle.theory.specs.Machines.{Memory}
use Rattle.memory.specs.declared.answers.Position.{Position}
use Rattle.memory.specs.declared.answers.Run.{Run}
use Rattle.memory.specs.Calls.{handed}
use Rattle.rings.specs.Calls.{usable_called}

-- The run that the call is to hand back; or there is none on lengths, and nothing changes
abbrev pub RanOnes : Memory → Position → ℕ → List Entry → Option Run → Bytes → List ℕ → Type 0
RanOnes m at budget t (Some r) store lengths = handed r store lengths ≡ usable_called m at budget t
RanOnes m at budget t None store lengths = (store ≡ m.store) × (lengths ≡ m.lengths)
