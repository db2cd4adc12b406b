-- A run of what a rule after 10 turns down, by the definitions: rule 10 goes before.
use mathlib.Core.Path.{◌≡◌, refl}
use mathlib.Core.Bool.{Bool, true, false}
use Prim.Native.Nat.{ℕ}
use Rattle.theory.specs.Machines.{Memory, is_memory}
use Rattle.theory.specs.TurnedDown.{refused, rule_10, for_machine}
use Rattle.theory.specs.declared.Refusal.{Refusal}
use Rattle.memory.specs.declared.answers.Position.{Position}
use Rattle.memory.specs.Calls.{called, turned_down, after_10}

pub refused_run : (m : Memory) (p : Position) (budget : ℕ) (r : Refusal)
    → called m p budget (for_machine m (refused r)) ≡ turned_down m p (after_10 m r)
unfolding rule_10
refused_run m p budget r = go (is_memory m) refl
  where
    go : (b : Bool) → is_memory m ≡ b → called m p budget (for_machine m (refused r)) ≡ turned_down m p (after_10 m r)
    go true h = rw h
    go false h = rw h
