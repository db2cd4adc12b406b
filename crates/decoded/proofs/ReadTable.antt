-- A table judged, and one gathered into numbers: what comes of it, rule by rule.
use mathlib.Core.Path.{◌≡◌, sym, ap, ◌∙◌}
use mathlib.Core.Option.{none}
use mathlib.Core.List.{List}
use Prim.Native.Nat.{ℕ, ◌≤◌}
use native.Mathlib.Omega.{arith}
use lib.ListN.{length, take, drop, length-append, length-map}
use lib.Seq.{take_at}
use Rattle.theory.specs.Word.{Entry}
use Rattle.theory.specs.Machines.{Memory}
use Rattle.theory.specs.TurnedDown.{done, read_table, table_fault, lent_after}
use Rattle.records.specs.declared.Gathered.{Gathered}
use Rattle.word.specs.Answers.{kinds_of, operands_of, read_answer}
use Rattle.records.specs.Answers.{gathered, no_numbers}
use Rattle.memory.specs.declared.answers.Position.{Position}
use Rattle.memory.specs.Calls.{Called, table_called}

module _ (t : List Entry) (g : Gathered) (is : g ≡ gathered t) where
  pub gathered-answer : g.answer ≡ read_answer (read_table t)
  unfolding gathered
  gathered-answer = ap (λ (x : Gathered). x.answer) is

  module _ (none_faulty : table_fault t ≡ none) (n : ℕ) (size_is : n ≡ length t) where
    kinds_are : g.kinds ≡ lent_after no_numbers (done (kinds_of t))
    unfolding gathered read_table
    kinds_are = ap (λ (x : Gathered). x.kinds) is ∙ rw none_faulty

    operands_are : g.operands ≡ lent_after no_numbers (done (operands_of t))
    unfolding gathered read_table
    operands_are = ap (λ (x : Gathered). x.operands) is ∙ rw none_faulty

    pub got_kinds : take n g.kinds ≡ kinds_of t
    unfolding lent_after
    got_kinds = rw kinds_are (take_at (kinds_of t) _ n (length-map t (λ e. e.kind) ∙ sym size_is))

    pub got_operands : take n g.operands ≡ operands_of t
    unfolding lent_after
    got_operands = rw operands_are (take_at (operands_of t) _ n (length-map t (λ e. e.operand) ∙ sym size_is))

    pub kinds_room : n ≤ length g.kinds
    unfolding lent_after
    kinds_room = rw kinds_are (omega (
      arith,
      length-append (kinds_of t) (drop (length (kinds_of t)) no_numbers),
      length-map t (λ e. e.kind),
    ))

    pub operands_room : n ≤ length g.operands
    unfolding lent_after
    operands_room =
        rw operands_are (omega (
          arith,
          length-append (operands_of t) (drop (length (operands_of t)) no_numbers),
          length-map t (λ e. e.operand),
        ))

-- The answers of a run of a table

module _ (m : Memory) (p : Position) (budget : ℕ) (t : List Entry) where
  pub table-ran : {u : List Entry} → u ≡ t → {c : Called} → c ≡ table_called m p budget u → c ≡ table_called m p budget t
  table-ran same h = h ∙ ap (table_called m p budget) same
