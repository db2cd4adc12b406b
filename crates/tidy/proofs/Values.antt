-- The value after a run of the tidy word on a set.
use mathlib.Core.Path.{◌≡◌, subst}
use mathlib.Core.Logic.{◌≢◌}
use Prim.Native.Nat.{ℕ}
use native.Mathlib.Omega.{arith}
use Rattle.theory.specs.Runs.{Outcome, run, unlimited, within_each}
use Rattle.theory.specs.ProgramText.{variables}
use Rattle.theory.specs.Word as W
use Rattle.theory.specs.Machines.{fresh_word}
use Rattle.theory.specs.Claims.{Ends}
use Rattle.theory.specs.declared.End.TheVariants.{Halted, Spent, Full}
use Rattle.theory.proofs.Unlimited.{word-unlimited}
use Rattle.theory.proofs.Values.{has_value}
use Rattle.tidy.specs.Forms.{tidy_word_of}
use Rattle.tidy.specs.Claims.{TidyValue}
use Rattle.tidy.proofs.Tidy.{tidy_demand_of_programs}

pub tidy_value : TidyValue
tidy_value p a v capacity b n e =
    let start : W.State = fresh_word (variables p) v in
    let o : Outcome W.State = run (W.machine (within_each capacity) (tidy_word_of p)) b n start in
    let not_spent : o.end ≢ Spent = λ z. let y : ◌≡◌ {A = ℕ} 0 1 = cc in omega arith in
    let not_full : o.end ≢ Full = λ z. let y : ◌≡◌ {A = ℕ} 0 1 = cc in omega arith in
    let u : _ = word-unlimited (tidy_word_of p) capacity b n start in
    let halted : Ends (W.machine unlimited (tidy_word_of p)) Halted o.state =
    subst (λ z. Ends (W.machine unlimited (tidy_word_of p)) z o.state) e (u.1 not_spent not_full) in
    let r : _ = (tidy_demand_of_programs p a v).only o.steps o.state u.0 halted in
    (r.0, r.1, r.2, r.3, r.4, λ k. has_value k o.state.registers _ r.4.value)
