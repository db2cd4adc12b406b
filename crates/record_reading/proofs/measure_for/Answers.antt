-- `measure_for` meets its contract: what `measure` answers, and then rule 19.
use Rattle.theory.proofs.PassedOn.{passed_on}
use Rattle.std.specs.Prelude.{Ok, Err}
use mathlib.Core.Path.{◌≡◌, refl, sym, ap, ◌∙◌}
use mathlib.Core.Option.{Option, none, some}
use mathlib.Core.List.{List}
use Prim.Native.Nat.{ℕ, ◌≤◌, ◌<◌}
use native.Mathlib.Omega.{arith}
use lib.ListN.{length}
use borrow.Author.Tests.{le-leb, lt-leb}
use Rattle.theory.specs.TurnedDown.{read_word, word_entries, word_fault}
use Rattle.theory.specs.declared.Refusal.{Refusal}
use Rattle.word.specs.Answers.{read_answer}
use Rattle.record_reading.specs.Storing.{measured}
use Rattle.word.proofs.Judged.{measured as counted}
use Rattle.record_reading.proofs.measure_for.Goals as goal

module _ (w : List ℕ) (room : ℕ) where
  no_room : word_fault w ≡ none → room < length (word_entries w)
      → Err (record { number = 19; place = 0 }) ≡ read_answer (measured room w)
  unfolding read_word measured
  no_room fine h = rw (fine, lt-leb (length (word_entries w)) room h)

  enough_room : word_fault w ≡ none → length (word_entries w) ≤ room → Ok (length (word_entries w)) ≡ read_answer (measured room w)
  unfolding read_word measured
  enough_room fine h = rw (fine, le-leb (length (word_entries w)) room h)

  turned_down : (r : Refusal) → Err r ≡ read_answer (read_word w) → Err r ≡ read_answer (measured room w)
  unfolding read_word measured
  turned_down r h = go (word_fault w) refl
    where
      go : (o : Option Refusal) → word_fault w ≡ o → Err r ≡ read_answer (measured room w)
      go none e = absurd (let g : Err r ≡ Ok (length (word_entries w)) = rw e at h in let x : ◌≡◌ {A = ℕ} 0 1 = cc in omega arith)
      go (some s) e = let g : Err r ≡ Err s = rw e at h in rw e g

pub returns-then-room-count : goal.returns-then-room-count
returns-then-room-count c =
    let m : _ = counted c.args.word.now c.in_ok-count.count (sym c.in_ok-count.was
    ∙ c.measure.ensures) in
    c.refused.ensures ∙ no_room c.args.word.now c.args.room m.0 (omega (arith, m.1, c.if-room-count.true))

pub returns : goal.returns
returns c =
    let m : _ = counted c.args.word.now c.in_ok-count.count (sym c.in_ok-count.was
    ∙ c.measure.ensures) in
    ap Ok m.1 ∙ enough_room c.args.word.now c.args.room m.0 (omega (arith, m.1, c.if-room-count.false))

pub returns-in_err-count : goal.returns-in_err-count
returns-in_err-count c =
    passed_on _ c.from_residual.ensures
    ∙ turned_down c.args.word.now c.args.room _ (sym c.in_err-count.was
    ∙ c.measure.ensures)
