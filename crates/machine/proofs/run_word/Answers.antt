-- `run_word` meets its contract: what reading the word answers, and then the run of what was read; rule 10 goes before both.
use mathlib.Core.Path.{refl, sym}
use native.Mathlib.Omega.{arith}
use lib.Seq.{length-take-le}
use Rattle.theory.specs.TurnedDown.{word_entries}
use Rattle.theory.proofs.Words.{good_table}
use Rattle.memory.specs.Calls.{memory}
use Rattle.word.proofs.ReadWhole.{Got, word_good, got_refused, got_done}
use Rattle.machine.proofs.ReadWord.{word_refused, word-ran}
use Rattle.machine.proofs.run_word.Goals as goal
use Rattle.machine.proofs.run_word.Goals.{In-Ok}

-- what was read
read : (c : In-Ok) → let r = c.read in
    Got c.args.word.now c.in-Ok.count
    r.new.kinds r.new.operands
read c =
    got_done c.args.word.now _ _ refl refl
    c.read.ensures c.in-Ok.count c.in-Ok.is

pub slice_bounds-kinds-end : goal.slice_bounds-kinds-end
slice_bounds-kinds-end c = omega (
  arith,
  (read (goal.at.slice_bounds-kinds-end c).In-Ok).few,
  c.read.auto.kinds,
)

pub slice_bounds-run_instructions-end : goal.slice_bounds-run_instructions-end
slice_bounds-run_instructions-end c = sym
    (length-take-le _ _ (omega (
      arith,
      (read (goal.at.slice_bounds-run_instructions-end c).In-Ok).few,
      c.read.auto.kinds,
    )))

pub slice_bounds-operands-end : goal.slice_bounds-operands-end
slice_bounds-operands-end c = omega (
  arith,
  (read (goal.at.slice_bounds-operands-end c).In-Ok).few,
  c.read.auto.operands,
)

pub slice_bounds-run_instructions-end-in-Ok : goal.slice_bounds-run_instructions-end-in-Ok
slice_bounds-run_instructions-end-in-Ok c = sym
    (length-take-le _ _ (omega (
      arith,
      (read (goal.at.slice_bounds-run_instructions-end-in-Ok c).In-Ok).few,
      c.read.auto.operands,
    )))

pub run_instructions-requires : goal.run_instructions-requires
run_instructions-requires c =
    let w = c.args.word.now in
    let got = read (goal.at.run_instructions-requires c).In-Ok in
    rw got.table (good_table (word_entries w) (word_good w got.passes))

pub returns-in-Ok : goal.returns-in-Ok
returns-in-Ok c =
    let a = c.args in
    word-ran (memory a.capacities.now a.store.now a.lengths.now) a.at a.budget a.word.now
    (read (goal.at.returns-in-Ok c).In-Ok) c.run_instructions.ensures

pub returns-in-Err : goal.returns-in-Err
returns-in-Err c =
    let a = c.args in
    let m = memory a.capacities.now a.store.now a.lengths.now in
    let fault = got_refused a.word.now _ _ refl refl c.read.ensures _ c.in-Err.is in
    rw c.turned_down.ensures (sym (word_refused m a.at a.budget a.word.now _ fault))
