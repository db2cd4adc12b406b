-- What `check` answers: a list that is turned down, capacities that are no set's, registers that are short, and a list that passes.
use Rattle.std.specs.Prelude.{Result, Ok, Err}
use mathlib.Core.Path.{◌≡◌, ap}
use mathlib.Core.Bool.{Bool, true, false}
use mathlib.Core.List.{List}
use Prim.Native.Nat.{ℕ, ◌≤◌}
use native.Mathlib.Omega.{arith}
use lib.ListN.{length}
use Rattle.theory.specs.ProgramText.{Command, variables, list_of}
use Rattle.theory.specs.Machines.{capacity_of}
use Rattle.theory.specs.TurnedDown.{done, unless, read_list, largest, rule_21}
use Rattle.theory.specs.RunTool.{capacities_fault}
use Rattle.theory.specs.Claims.{Accepted}
use Rattle.theory.specs.declared.Refusal.{Refusal}
use Rattle.theory.proofs.Nesting.{short, few_variables, reads_accepted}
use Rattle.theory.proofs.Lists.{lists_round_trip}
use Rattle.list.specs.declared.Program.{Program}
use Rattle.list.specs.Answers.{program_of, checked}
use Rattle.list.proofs.Lists.{list_length}
use Rattle.list.proofs.Replies.{checked_refused, checked_accepted}
use Rattle.capacities.specs.Room.{roomy, list_passes, is_set, with_room}
use Rattle.capacities.proofs.Named.{rule_21-passes}

-- Rule 21 of a program, by its list
ruled : (capacities l : List ℕ) (p : List Command) → Accepted p → list_of p ≡ l → (K : ℕ) → K ≡ variables p
    → rule_21 (capacity_of capacities) p
    ≡ unless (list_passes (roomy (largest (capacity_of capacities) K) capacities) K 0 l) 21 0
ruled capacities l p h listed K named = rw (named, ← listed) (rule_21-passes (capacity_of capacities) p h)

module _ (capacities l : List ℕ) {c : Result Program Refusal} (e : c ≡ checked (read_list l)) where
  pub turned_down : (r : Refusal) → c ≡ Err r → Err r ≡ checked (with_room capacities (read_list l))
  unfolding with_room
  turned_down r f = rw (checked_refused (read_list l) e f)

  module _ (x : Program) (f : c ≡ Ok x) where
    found : (p : List Command) × (read_list l ≡ done p) × (x ≡ program_of p)
    found = checked_accepted (read_list l) e f

    abbrev p : List Command
    p = found.0

    accepted : Accepted p
    accepted = reads_accepted.1 l p found.1

    listed : list_of p ≡ l
    listed = lists_round_trip.1 l p found.1

    named : x.variables ≡ variables p
    named = ap (λ y. y.variables) found.2

    pub few : (length l ≤ 1536) × (x.variables ≤ 32)
    few = (
      rw (← listed) (omega (arith, list_length p, short p accepted)),
      omega (arith, named, few_variables p accepted),
    )

    abbrev test : Bool
    test = list_passes (roomy (largest (capacity_of capacities) x.variables) capacities) x.variables 0 l

    judged : rule_21 (capacity_of capacities) p ≡ unless test 21 0
    judged = ruled capacities l p accepted listed x.variables named

    pub no_set : is_set capacities ≡ false → Err (record { number = 10; place = 0 }) ≡ checked (with_room capacities (read_list l))
    unfolding with_room capacities_fault
    no_set g = rw (found.1, g)

    module _ (set : is_set capacities ≡ true) where
      pub passed : test ≡ true → Ok x ≡ checked (with_room capacities (read_list l))
      unfolding with_room capacities_fault
      passed g = rw (found.1, set, judged, g) (ap Ok found.2)

      pub too_short : test ≡ false → Err (record { number = 21; place = 0 }) ≡ checked (with_room capacities (read_list l))
      unfolding with_room capacities_fault
      too_short g = rw (found.1, set, judged, g)
