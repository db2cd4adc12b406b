-- A fresh word's registers, laid out in a lent memory.
use Rattle.theory.specs.declared.Refusal.{Refusal}
use Rattle.std.specs.Prelude.{◌≡◌, Bool, ◌&&◌, List, ℕ, leb, length, get_or, Result, Ok, Err}
use Rattle.theory.specs.Basics.{all_below}
use Rattle.theory.specs.Text.{Bytes}
use Rattle.theory.specs.Word.{Symbol}
use Rattle.theory.specs.Machines.{Memory, count, holding, is_sized, refilled}
use Rattle.theory.specs.TurnedDown.{Answer, done, refused, answer, unless}

-- Register i + 1 holds as many 1s as value i, and every other register is empty
abbrev pub fresh_registers : List ℕ → ℕ → List Symbol
fresh_registers values = holding (length values) (λ i. get_or values i 0)

-- Each value has a capacity that it is within
unfoldable pub values_within : List ℕ → List ℕ → Bool
values_within capacities values = all_below (length values) λ i. leb (get_or values i 0) (get_or capacities i 0)

-- The sizes are rule 10's, and each value has a register that can hold it
unfoldable pub can_hold : Memory → List ℕ → Bool
can_hold m values = is_sized m && leb (length values) (count m) && values_within m.capacities values

unfoldable pub fresh_memory : Memory → List ℕ → Answer Memory
fresh_memory m values = answer (unless (can_hold m values) 10 0) (refilled m (fresh_registers values))

abbrev pub laid_answer : Answer Memory → Result (Unit {0}) Refusal
laid_answer (done m) = Ok tt
laid_answer (refused r) = Err r

-- "Nothing lent changes" where the call is turned down
abbrev pub memory_after : Memory → Answer Memory → Memory
memory_after m (done n) = n
memory_after m (refused r) = m

-- What the call hands back, and the lent memory then
pub record LaysFresh (m : Memory) (values : List ℕ) (r : Result (Unit {0}) Refusal) (s : Bytes) (l : List ℕ) : Type 0 where
  pub is : r ≡ laid_answer (fresh_memory m values)
  pub store : s ≡ (memory_after m (fresh_memory m values)).store
  pub lengths : l ≡ (memory_after m (fresh_memory m values)).lengths
