-- Rooms that agree on a program's variables: its source runs alike in both.
use mathlib.Core.Path.{◌≡◌, refl, ap, fun_ext}
use mathlib.Core.Option.{Option, none, some}
use mathlib.Core.List.{List}
use Prim.Native.Nat.{ℕ, ◌<◌}
use native.Mathlib.Omega.{arith}
use Rattle.theory.specs.Basics.{at, and_then}
use Rattle.theory.specs.ProgramText.{clear, increment, copy, loop, while, Command, plain, opens, closes, variables}
use Rattle.theory.specs.Runs.{register, Room, Machine}
use Rattle.theory.specs.Source as S
use Rattle.theory.proofs.Partners.{named_below}

module _ (room room' : Room) (p : List Command) (agree : (i : ℕ) → i < variables p → room (register i) ≡ room' (register i)) where
  same_performed : (s : S.State) (c : Command) → at p s.line ≡ some c → S.perform room p s c ≡ S.perform room' p s c
  same_performed s (plain (clear i)) e = refl
  same_performed s (plain (increment i)) e = rw (agree i (omega (arith, named_below p s.line (plain (increment i)) e)))
  same_performed s (plain (copy i j)) e = rw (agree i (omega (arith, named_below p s.line (plain (copy i j)) e)))
  same_performed s (opens loop i) e = refl
  same_performed s (closes loop i) e = refl
  same_performed s (opens while i) e = refl
  same_performed s (closes while i) e = refl

  same_step : (s : S.State) → S.step room p s ≡ S.step room' p s
  unfolding S.step
  same_step s = go (at p s.line) refl
    where
      go : (c : Option Command) → at p s.line ≡ c → and_then c (S.perform room p s) ≡ and_then c (S.perform room' p s)
      go none e = refl
      go (some c) e = same_performed s c e

  pub same-machine : S.machine room p ≡ S.machine room' p
  same-machine =
      ap {B = Machine S.State} (λ next. record { ended = (S.machine room p).ended; next = next }) (fun_ext same_step)
