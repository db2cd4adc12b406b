-- Many rounds: what some steps lead back to, so many times as many steps lead back to.
use mathlib.Core.Path.{refl, sym}
use mathlib.Core.Option.{Option}
use Prim.Native.Nat.{ℕ, zero, suc, ◌*◌}
use native.Mathlib.Nat.{zero-mul, suc-mul}
use native.Mathlib.Omega.{arith}
use Rattle.theory.specs.Runs.{Goes, stay, each}
use Rattle.theory.proofs.Joins.{ends, join}

pub goes_round : {S : Type 0} {next : S → Option S} {s : S} {c : ℕ} (m : ℕ) → Goes next each s c s → Goes next each s (m * c) s
goes_round {c} zero g = ends (sym (zero-mul c)) refl stay
goes_round {c} (suc m) g = ends (omega (arith, suc-mul m c)) refl (join g (goes_round m g))
