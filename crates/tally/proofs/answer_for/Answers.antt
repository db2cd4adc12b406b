-- `answer_for` meets its contract: what `judge` answers, and then rule 19.
use Rattle.theory.proofs.PassedOn.{passed_on}
use Rattle.std.specs.Prelude.{Result, Ok, Err}
use mathlib.Core.Path.{◌≡◌, ◌∙◌}
use Prim.Native.Nat.{ℕ, ◌≤◌, ◌<◌}
use borrow.Author.Tests.{lt-ltb, le-ltb}
use Rattle.theory.specs.declared.Refusal.{Refusal}
use Rattle.tally.specs.declared.Tally.{Tally}
use Rattle.tally.specs.Tallies.{judged, answered}
use Rattle.tally.proofs.answer_for.Goals as goal

module _ (s : Tally) (room : ℕ) (j : Result ℕ Refusal) (h : j ≡ judged s) where
  short : (n : ℕ) → j ≡ Ok n → room < s.size → Err (record { number = 19; place = 0 }) ≡ answered s room
  unfolding answered
  short n e l = rw (← h, e, lt-ltb room s.size l)

  fits : (n : ℕ) → j ≡ Ok n → s.size ≤ room → Ok s.size ≡ answered s room
  unfolding answered
  fits n e l = rw (← h, e, le-ltb room s.size l)

  turned_down : (r : Refusal) → j ≡ Err r → Err r ≡ answered s room
  unfolding answered
  turned_down r e = rw (← h, e)

pub returns-then-room-size : goal.returns-then-room-size
returns-then-room-size c =
    let a = c.args in
    c.refused.ensures ∙ short a.t a.room c.judge.result c.judge.ensures c.in_ok-judge.field-0 c.in_ok-judge.was c.if-room-size.true

pub returns : goal.returns
returns c =
    let a = c.args in
    fits a.t a.room c.judge.result c.judge.ensures c.in_ok-judge.field-0 c.in_ok-judge.was c.if-room-size.false

pub returns-in_err-judge : goal.returns-in_err-judge
returns-in_err-judge c =
    let a = c.args in
    passed_on _ c.from_residual.ensures
    ∙ turned_down a.t a.room c.judge.result c.judge.ensures _ c.in_err-judge.was
