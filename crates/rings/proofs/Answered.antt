-- What the search for an entry that the machine cannot do says of the answer.
use mathlib.Core.Path.{◌≡◌}
use mathlib.Core.Bool.{true, false}
use mathlib.Core.Option.{none, some}
use mathlib.Core.List.{List}
use Prim.Native.Nat.{ℕ}
use Rattle.theory.specs.Word.{Entry}
use Rattle.theory.specs.Machines.{Memory, count, is_memory}
use Rattle.theory.specs.TurnedDown.{done, rule_10}
use Rattle.memory.specs.declared.answers.Position.{Position}
use Rattle.memory.specs.Calls.{called, turned_down}
use Rattle.usable.specs.Usable.{first_unusable}
use Rattle.rings.specs.Calls.{usable_table, usable_called}

module _ (m : Memory) (p : Position) (budget : ℕ) (t : List Entry) where
  pub no_memory : is_memory m ≡ false → usable_called m p budget t ≡ turned_down m p (record { number = 10; place = 0 })
  unfolding usable_called rule_10
  no_memory h = rw h

  pub refused_15 : is_memory m ≡ true → (i : ℕ) → first_unusable (count m) t ≡ some i
      → usable_called m p budget t ≡ turned_down m p (record { number = 15; place = i })
  unfolding usable_called usable_table rule_10
  refused_15 h i f = rw (h, f)

  pub all_done : is_memory m ≡ true → first_unusable (count m) t ≡ none → usable_called m p budget t ≡ called m p budget (done t)
  unfolding usable_called usable_table rule_10
  all_done h f = rw (h, f)
