-- `check` meets its contract: the size rules of 16, then the line of names, then the rows.
use mathlib.Core.Path.{◌≡◌, sym, ◌∙◌}
use mathlib.Core.Bool.{true}
use Prim.Native.Nat.{min}
use native.Mathlib.Omega.{arith}
use Rattle.theory.proofs.PassedOn.{passed_on}
use Rattle.sheet.specs.Lines.{is_sheet_size}
use Rattle.sheet.proofs.Answered.{sheet_unsized, sheet_names_refused, few_columns, next_line, sheet_rows_refused, sheet_done}
use Rattle.sheet.proofs.check.Goals as goal
use Rattle.sheet.proofs.check.Goals.{After-read_names}

pub returns-then-not-is_sized : goal.returns-then-not-is_sized
returns-then-not-is_sized c =
    let a : _ = c.args in
    let unsized : _ = sym c.is_sized.ensures ∙ c.if-not-is_sized.true in
    c.refused.ensures ∙ sheet_unsized a.sheet.now (min a.variables 32) a.capacities unsized

-- What is known where the line of names is read
sized : (c : After-read_names) → is_sheet_size c.args.sheet.now ≡ true
sized c = sym c.is_sized.ensures ∙ c.if-not-is_sized.false

pub returns-in_err-head : goal.returns-in_err-head
returns-in_err-head c =
    let a : _ = c.args in
    let size : _ = sized (goal.at.returns-in_err-head c).After-read_names in
    let head : _ = sym c.in_err-head.was ∙ c.read_names.ensures in
    passed_on _ c.from_residual.ensures ∙ sheet_names_refused a.sheet.now (min a.variables 32) a.capacities size _ head

pub rows-requires : goal.rows-requires
rows-requires c =
    let a : _ = c.args in
    let size : _ = sized (goal.at.rows-requires c).After-read_names in
    let head : _ = sym c.in_ok-head.was ∙ c.read_names.ensures in
    let next : _ = next_line a.sheet.now (min a.variables 32) a.capacities size (omega arith) c.in_ok-head.head head in
    (few_columns a.sheet.now (min a.variables 32) a.capacities size (omega arith) c.in_ok-head.head head, omega (arith, next))

pub returns-in_err-count : goal.returns-in_err-count
returns-in_err-count c =
    let a : _ = c.args in
    let size : _ = sized (goal.at.returns-in_err-count c).After-read_names in
    let head : _ = sym c.in_ok-head.was ∙ c.read_names.ensures in
    passed_on _ c.from_residual-in_err-count.ensures
    ∙ sheet_rows_refused a.sheet.now (min a.variables 32) a.capacities size (omega arith) c.in_ok-head.head head
    c.rows.result c.rows.ensures _ c.in_err-count.was

pub returns : goal.returns
returns c =
    let a : _ = c.args in
    let size : _ = sized (goal.at.returns c).After-read_names in
    let head : _ = sym c.in_ok-head.was ∙ c.read_names.ensures in
    sheet_done a.sheet.now (min a.variables 32) a.capacities size (omega arith) c.in_ok-head.head head
    c.rows.result c.rows.ensures c.in_ok-count.count c.in_ok-count.was
