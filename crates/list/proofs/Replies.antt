-- A check read back: what was read, from the answer.
use Rattle.std.specs.Prelude.{Result, Ok, Err}
use mathlib.Core.Path.{◌≡◌, refl}
use mathlib.Core.List.{List}
use Prim.Native.Nat.{ℕ}
use native.Mathlib.Omega.{arith}
use Rattle.theory.specs.ProgramText.{Command}
use Rattle.theory.specs.TurnedDown.{Answer, done, refused}
use Rattle.theory.specs.declared.Refusal.{Refusal}
use Rattle.list.specs.declared.Program.{Program}
use Rattle.list.specs.Answers.{program_of, checked}

pub checked_refused : (a : Answer (List Command)) {c : Result Program Refusal} {r : Refusal} → c ≡ checked a → c ≡ Err r → a ≡ refused r
checked_refused (done p) e f = cc
checked_refused (refused q) e f = cc

pub checked_accepted : (a : Answer (List Command)) {c : Result Program Refusal} {q : Program} → c ≡ checked a → c ≡ Ok q
    → (p : List Command) × (a ≡ done p) × (q ≡ program_of p)
checked_accepted (done p) e f = (p, refl, cc)
checked_accepted (refused r) e f = let z : ◌≡◌ {A = ℕ} 0 1 = cc in absurd (omega arith)
