-- `put_rows` meets its contract: a turn of the loop puts one row, and at the end all are put.
use mathlib.Core.Path.{◌≡◌, refl, ap, ◌∙◌}
use mathlib.Core.List.{List}
use Prim.Native.Nat.{ℕ}
use native.Mathlib.Omega.{arith}
use Rattle.theory.specs.Translation.{word_text}
use Rattle.theory.specs.ProgramText.{commands}
use Rattle.capacities.specs.Room.{of_variables}
use Rattle.sheet.specs.Answers.{row_answer}
use Rattle.sheet.specs.declared.answers.Row.{Row}
use Rattle.report_text.specs.Rows.{Ready, Tabled}
use Rattle.output.proofs.Puts.{put-length}
use Rattle.report_text.proofs.Stepping.{Turn, turn, rows_begin, rows-printed}
use Rattle.report_text.proofs.put_rows.Goals as goal
use Rattle.report_text.proofs.put_rows.Goals.{After-row-line, At-loop-at}

-- the word whose instructions are lent
ready : {list kinds operands : List ℕ} {K : ℕ} → Tabled list kinds operands K → Ready list (word_text (commands list)) K
ready t = record { listed = t.listed; translated = refl }

-- The limits of the variables are the first capacities
limits_are : (l : At-loop-at) →
    l.of_variables-limits.result ≡ of_variables l.args.capacities.now
limits_are l = l.of_variables-limits.ensures

-- What is known in a turn of the loop
turn_at : (c : After-row-line) →
    let a = c.args in
    let header = c.put_header-place in
    Turn a.capacities.now a.list.now a.sheet.now a.variables header.result header.new.out
    c.loop-at.at c.loop-at.n c.loop-at.place c.loop-at.out c.row-line.result
turn_at c =
    let a = c.args in
    turn a.capacities.now a.list.now (word_text (commands a.list.now)) a.sheet.now a.names a.variables
    (ready c.requires.0) c.requires.2
    _ _ c.loop-at.at c.loop-at.n c.loop-at.place c.loop-at.out c.loop-at.invariant
    c.loop-at-test.true c.row-line.result
    (c.row-line.ensures ∙ ap {B = Row} (λ m. row_answer a.sheet.now a.names m c.loop-at.n c.loop-at.at) c.of_variables-limits.ensures)

pub loop-at-init : goal.loop-at-init
loop-at-init c =
    let a = c.args in
    let header = c.put_header-place in
    let word = word_text (commands a.list.now) in
    rows_begin a.capacities.now a.list.now word a.sheet.now a.names a.variables (ready c.requires.0) c.requires.2
    header.result header.new.out c.first_row-at.result c.first_row-at.ensures (omega (arith, header.ensures.next))
    (omega (arith, put-length header.ensures, header.ensures.sized))

pub run_row-row-requires : goal.run_row-row-requires
run_row-row-requires c =
    (c.requires.0, c.requires.1, limits_are (goal.at.run_row-row-requires c).At-loop-at, (turn_at (goal.at.run_row-row-requires c).After-row-line).starts)

pub loop-at-smaller : goal.loop-at-smaller
loop-at-smaller c =
    let t = turn_at (goal.at.loop-at-smaller c).After-row-line in
    omega (arith, t.later, t.inside)

pub loop-at-preserved : goal.loop-at-preserved
loop-at-preserved c =
    let t = turn_at (goal.at.loop-at-preserved c).After-row-line in
    t.puts c.run_row-row.result c.run_row-row.ensures _ _ c.put_row-place.ensures

pub returns : goal.returns
returns c =
    let a = c.args in
    let header = c.put_header-place in
    let l = c.loop-at in
    rows-printed a.capacities.now a.list.now (word_text (commands a.list.now)) a.sheet.now a.names a.variables
    (ready c.requires.0) c.requires.2
    header.result l.place l.at l.n a.out.now header.new.out l.out header.ensures l.invariant c.loop-at-test.false
