-- `run_instructions` meets its contract: the run of the table, and its refusal as that of the word.
use Rattle.std.specs.Prelude.{Result}
use Rattle.theory.specs.declared.Refusal.{Refusal}
use mathlib.Core.Path.{ap, ◌∙◌}
use native.Mathlib.Omega.{arith}
use Rattle.theory.proofs.Words.{table_good}
use Rattle.word.specs.Answers.{zipped}
use Rattle.theory.specs.declared.Ended.{Ended}
use Rattle.memory.specs.Calls.{memory, handed, moved_to}
use Rattle.engine.proofs.Rule15.{zipped-length}
use Rattle.engine.proofs.Accepted.{accepted_paired}
use Rattle.machine.proofs.ByByte.{ran_by_table}
use Rattle.machine.proofs.run_instructions.Goals as goal

pub by_byte-requires : goal.by_byte-requires
by_byte-requires c =
    let a = c.args in
    let p = c.requires in
    let same = accepted_paired a.kinds.now a.operands.now p in
    record {
      same = same;
      few = omega (
        arith,
        (table_good (zipped a.kinds.now a.operands.now) p).instructions,
        zipped-length a.kinds.now a.operands.now same,
      );
    }

pub returns-in-Ok : goal.returns-in-Ok
returns-in-Ok c =
    let a = c.args in
    let z = c.run_numbers-run.new in
    ap (λ (e : Result Ended Refusal). handed (moved_to c.run_numbers-run.result.position e) z.store z.lengths) c.in-Ok.is
    ∙ ran_by_table (memory a.capacities.now a.store.now a.lengths.now) a.at a.budget (zipped a.kinds.now a.operands.now)
    c.requires _ _ _ c.run_numbers-run.ensures _ c.in-Ok.is

pub returns-in-Err : goal.returns-in-Err
returns-in-Err c =
    let a = c.args in
    rw c.by_byte.ensures
    (ran_by_table (memory a.capacities.now a.store.now a.lengths.now) a.at a.budget (zipped a.kinds.now a.operands.now)
    c.requires _ _ _ c.run_numbers-run.ensures _ c.in-Err.is)
