-- `run_gathered` meets its contract: what gathering the table answered, and then the run of what was gathered; rule 10 goes before both.
use mathlib.Core.Path.{◌≡◌, sym}
use mathlib.Core.Option.{none}
use mathlib.Core.List.{List}
use Prim.Native.Nat.{◌≤◌}
use lib.ListN.{length, take}
use lib.Seq.{length-take-le}
use Rattle.theory.specs.Word.{Entry}
use Rattle.theory.specs.TurnedDown.{table_fault}
use Rattle.word.specs.Answers.{kinds_of, operands_of, zipped}
use Rattle.records.specs.Answers.{gathered}
use Rattle.memory.specs.Calls.{memory}
use Rattle.engine.proofs.Judged.{got_refused, got_done, table_refused}
use Rattle.word.proofs.Zipped.{zipped_self}
use Rattle.decoded.proofs.ReadTable.{gathered-answer, got_kinds, got_operands, kinds_room, operands_room, table-ran}
use Rattle.decoded.proofs.run_gathered.Goals as goal
use Rattle.decoded.proofs.run_gathered.Goals.{In-Ok}

-- what was gathered
module _ (c : In-Ok) (t : List Entry) (e : c.args.g
    ≡ gathered t) where
  read_done : (table_fault t ≡ none) × (c.in-Ok.count ≡ length t)
  read_done = got_done t _ (gathered-answer t c.args.g e)
      c.in-Ok.count c.in-Ok.is

  read_kinds : take c.in-Ok.count c.args.g.kinds
      ≡ kinds_of t
  read_kinds = got_kinds t c.args.g e read_done.0
      c.in-Ok.count read_done.1

  read_operands : take c.in-Ok.count c.args.g.operands
      ≡ operands_of t
  read_operands = got_operands t c.args.g e read_done.0
      c.in-Ok.count read_done.1

  read_table : zipped (take c.in-Ok.count
      c.args.g.kinds) (take c.in-Ok.count
      c.args.g.operands) ≡ t
  read_table = rw (read_kinds, read_operands) (zipped_self t)

kinds_fit : (c : In-Ok) → c.in-Ok.count ≤ length
    c.args.g.kinds
kinds_fit c =
    let p = c.requires in
    let d = read_done c p.0 p.1 in
    kinds_room p.0 c.args.g p.1 d.0
    c.in-Ok.count d.1

operands_fit : (c : In-Ok) → c.in-Ok.count ≤ length
    c.args.g.operands
operands_fit c =
    let p = c.requires in
    let d = read_done c p.0 p.1 in
    operands_room p.0 c.args.g p.1 d.0
    c.in-Ok.count d.1

pub slice_bounds-kinds-end : goal.slice_bounds-kinds-end
slice_bounds-kinds-end c = kinds_fit (goal.at.slice_bounds-kinds-end c).In-Ok

pub slice_bounds-run_numbers-end : goal.slice_bounds-run_numbers-end
slice_bounds-run_numbers-end c = sym (length-take-le _ _ (kinds_fit (goal.at.slice_bounds-run_numbers-end c).In-Ok))

pub slice_bounds-operands-end : goal.slice_bounds-operands-end
slice_bounds-operands-end c = operands_fit (goal.at.slice_bounds-operands-end c).In-Ok

pub slice_bounds-run_numbers-end-in-Ok : goal.slice_bounds-run_numbers-end-in-Ok
slice_bounds-run_numbers-end-in-Ok c = sym (length-take-le _ _ (operands_fit (goal.at.slice_bounds-run_numbers-end-in-Ok c).In-Ok))

pub returns-in-Ok : goal.returns-in-Ok
returns-in-Ok c =
    λ t e.
    let a = c.args in
    table-ran (memory a.capacities.now a.store.now a.lengths.now) a.at a.budget t (read_table (goal.at.returns-in-Ok c).In-Ok t e) c.run_numbers.ensures

pub returns-in-Err : goal.returns-in-Err
returns-in-Err c =
    λ t e.
    let a = c.args in
    let m = memory a.capacities.now a.store.now a.lengths.now in
    rw c.turned_down.ensures
    (sym (table_refused m a.at a.budget t _ (got_refused t _ (gathered-answer t a.g e) _ c.in-Err.is)))
