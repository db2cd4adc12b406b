-- What a call of a run of a table answers that the rules before 15 let pass.
use mathlib.Core.Path.{◌≡◌}
use mathlib.Core.Option.{none, some}
use mathlib.Core.List.{List}
use Prim.Native.Nat.{ℕ}
use Rattle.theory.specs.Word.{Entry}
use Rattle.theory.specs.TurnedDown.{Answer, answer, done, refused, next_entry, rule_15}
use Rattle.engine.proofs.Rule15.{first_lacking}

-- Rule 15, of entries that the rules before it let pass
unfoldable pub table_for : ℕ → List Entry → Answer (List Entry)
table_for registers t = answer (rule_15 next_entry registers t) t

module _ (registers : ℕ) (t : List Entry) where
  pub table-lacks : (i : ℕ) → first_lacking registers t ≡ some i → table_for registers t ≡ refused (record { number = 15; place = i })
  unfolding table_for rule_15
  table-lacks i h = rw h

  pub table-passes : first_lacking registers t ≡ none → table_for registers t ≡ done t
  unfolding table_for rule_15
  table-passes h = rw h
