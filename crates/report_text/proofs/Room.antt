-- What crate capacities answers of an accepted list: whether its program has room for its word.
use Rattle.std.specs.Prelude.{Result, Ok, Err}
use mathlib.Core.Path.{◌≡◌, refl, ap}
use mathlib.Core.Option.{Option, none, some}
use mathlib.Core.List.{List}
use Prim.Native.Nat.{ℕ}
use native.Mathlib.Omega.{arith}
use Rattle.theory.specs.Basics.{or_else}
use Rattle.theory.specs.ProgramText.{Command}
use Rattle.theory.specs.Machines.{capacity_of}
use Rattle.theory.specs.TurnedDown.{done, answer, read_list, rule_21}
use Rattle.theory.specs.RunTool.{capacities_fault}
use Rattle.theory.specs.declared.Refusal.{Refusal}
use Rattle.list.specs.declared.Program.{Program}
use Rattle.list.specs.Answers.{checked}
use Rattle.capacities.specs.Room.{with_room}
use Rattle.report_text.specs.Rows.{Roomy}

module _ (capacities l : List ℕ) (p : List Command) (accepted : read_list l ≡ done p) (c : Result Program Refusal)
    (e : c ≡ checked (with_room capacities (read_list l))) where
  abbrev fault : Option Refusal
  fault = or_else (capacities_fault capacities) (rule_21 (capacity_of capacities) p)

  answered : c ≡ checked (answer fault p)
  unfolding with_room
  answered = rw accepted at e

  pub short_refused : (r : Refusal) → c ≡ Err r → fault ≡ some r
  short_refused r f = go fault refl answered
    where
      go : (o : Option Refusal) → fault ≡ o → c ≡ checked (answer o p) → o ≡ some r
      go none k h = let z : ◌≡◌ {A = ℕ} 0 1 = cc in absurd (omega arith)
      go (some q) k h = let same : q ≡ r = cc in ap some same

  pub roomy_accepted : (q : Program) → c ≡ Ok q → Roomy capacities p
  roomy_accepted q f = go fault refl answered
    where
      go : (o : Option Refusal) → fault ≡ o → c ≡ checked (answer o p) → o ≡ none
      go none k h = refl
      go (some r) k h = let z : ◌≡◌ {A = ℕ} 0 1 = cc in absurd (omega arith)
