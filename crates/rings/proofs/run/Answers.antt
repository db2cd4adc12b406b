-- `run` meets its contract: rule 10, and then what the search for an entry that the machine cannot do found.
use mathlib.Core.Path.{◌≡◌, sym, ◌∙◌}
use mathlib.Core.Bool.{true}
use mathlib.Core.Option.{none}
use native.Mathlib.Omega.{arith}
use lib.ListN.{length}
use Rattle.theory.specs.Machines.{is_memory}
use Rattle.word.specs.Answers.{zipped}
use Rattle.memory.specs.Calls.{memory}
use Rattle.usable.specs.Usable.{first_unusable}
use Rattle.rings.proofs.Running.{memory-sized}
use Rattle.underway.proofs.AllUsable.{found, found_none, all_usable}
use Rattle.rings.proofs.Answered.{no_memory, refused_15, all_done}
use Rattle.rings.proofs.run.Goals as goal
use Rattle.rings.proofs.run.Goals.{Else-not-is_memory, In-None}

good : (c : Else-not-is_memory) → let a = c.args in is_memory (memory a.capacities.now
    a.store.now a.lengths.now) ≡ true
good c = sym c.is_memory.ensures ∙ c.if-not-is_memory.false

-- the machine can do every entry
nothing : (c : In-None)
    → let a = c.args in
    first_unusable (length a.capacities.now) (zipped a.kinds.now a.operands.now) ≡ none
nothing c = found_none _ (sym c.in-None.is ∙ c.first_unusable.ensures)

pub returns-then-not-is_memory : goal.returns-then-not-is_memory
returns-then-not-is_memory c =
    let a = c.args in
    let m = memory a.capacities.now a.store.now a.lengths.now in
    rw (
      c.turned_down.ensures,
      no_memory m a.at a.budget (zipped a.kinds.now a.operands.now)
          (sym c.is_memory.ensures ∙ c.if-not-is_memory.true),
    )

pub run_usable-requires : goal.run_usable-requires
run_usable-requires c =
    let a = c.args in
    let fine = good (goal.at.run_usable-requires c).Else-not-is_memory in
    let few = (memory-sized a.capacities.now a.store.now a.lengths.now fine).registers in
    (fine, all_usable (length a.capacities.now) a.kinds.now a.operands.now (nothing (goal.at.run_usable-requires c).In-None) (omega (arith, few)))

pub returns-in-Some : goal.returns-in-Some
returns-in-Some c =
    let a = c.args in
    let m = memory a.capacities.now a.store.now a.lengths.now in
    rw (
      c.turned_down-in-Some.ensures,
      refused_15 m a.at a.budget (zipped a.kinds.now a.operands.now) (good (goal.at.returns-in-Some c).Else-not-is_memory)
          c.in-Some.i
          (found _ c.in-Some.i (sym c.in-Some.is ∙ c.first_unusable.ensures)),
    )

pub returns-in-None : goal.returns-in-None
returns-in-None c =
    let a = c.args in
    let m = memory a.capacities.now a.store.now a.lengths.now in
    c.run_usable.ensures
    ∙ sym (all_done m a.at a.budget (zipped a.kinds.now a.operands.now) (good (goal.at.returns-in-None c).Else-not-is_memory) (nothing (goal.at.returns-in-None c).In-None))
