-- `put_word_rows` meets its contract: the word of an accepted program is read, and the rows follow.
use mathlib.Core.Path.{refl, sym, ap, ◌∙◌}
use native.Mathlib.Omega.{arith}
use lib.Seq.{length-take-le}
use Rattle.theory.specs.TurnedDown.{word_entries}
use Rattle.word.proofs.ReadWhole.{Got, got_done, got_refused}
use Rattle.report_text.proofs.Called.{word_unrefused}
use Rattle.report_text.proofs.put_word_rows.Goals as goal
use Rattle.report_text.proofs.put_word_rows.Goals.{In-Ok}

-- what was read
read : (c : In-Ok) → let r = c.read in
    Got c.args.word.now
    c.in-Ok.count
    r.new.kinds r.new.operands
read c =
    got_done c.args.word.now
    _ _ refl refl
    c.read.ensures c.in-Ok.count c.in-Ok.is

pub slice_bounds-kinds-end : goal.slice_bounds-kinds-end
slice_bounds-kinds-end c = omega (
  arith,
  (read (goal.at.slice_bounds-kinds-end c).In-Ok).few,
  c.read.auto.kinds,
)

pub slice_bounds-put_rows-end : goal.slice_bounds-put_rows-end
slice_bounds-put_rows-end c = sym
    (length-take-le _ _ (omega (
      arith,
      (read (goal.at.slice_bounds-put_rows-end c).In-Ok).few,
      c.read.auto.kinds,
    )))

pub slice_bounds-operands-end : goal.slice_bounds-operands-end
slice_bounds-operands-end c = omega (
  arith,
  (read (goal.at.slice_bounds-operands-end c).In-Ok).few,
  c.read.auto.operands,
)

pub slice_bounds-put_rows-end-in-Ok : goal.slice_bounds-put_rows-end-in-Ok
slice_bounds-put_rows-end-in-Ok c = sym
    (length-take-le _ _ (omega (
      arith,
      (read (goal.at.slice_bounds-put_rows-end-in-Ok c).In-Ok).few,
      c.read.auto.operands,
    )))

pub put_rows-requires : goal.put_rows-requires
put_rows-requires c =
    let got = read (goal.at.put_rows-requires c).In-Ok in (
      record { listed = c.requires.0.listed; table = got.table ∙ ap word_entries c.requires.0.translated },
      c.requires.1,
      c.requires.2,
    )

pub returns-in-Err : goal.returns-in-Err
returns-in-Err c =
    absurd (word_unrefused c.requires.0 (got_refused c.args.word.now _ _ refl refl c.read.ensures _ c.in-Err.is))
