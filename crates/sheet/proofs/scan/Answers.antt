-- `scan` meets its contract: the part that it reads is the line, and the line is judged as the definition judges its values.
use mathlib.Core.Path.{◌≡◌, ◌∙◌}
use mathlib.Core.List.{List}
use mathlib.Core.Option.{Option}
use Prim.Native.Nat.{ℕ, ◌≤◌, ◌<◌}
use native.Mathlib.Omega.{arith}
use borrow.Author.Rules.{rules}
use Rattle.std.proofs.Common.{Fits}
use mir.Syntax.{w32}
use lib.ListN.{length, get_or}
use lib.Seq.{length-take-le}
use Rattle.theory.specs.RunSheet.{values}
use Rattle.fields.specs.Fields.{most, line_of}
use Rattle.sheet.specs.Answers.{line_at}
use Rattle.sheet.proofs.Splits.{part_end, part_line, part_next}
use Rattle.sheet.proofs.Judged.{numbers-values, line-judged}
use Rattle.sheet.proofs.scan.Goals as goal
use Rattle.sheet.proofs.scan.Goals.{After-find-end, Start}

-- The part ends within the sheet
within : (c : After-find-end) → c.find-end.result ≤ length c.args.sheet.now
within c =
    let a : _ = c.args in
    part_end a.sheet.now a.at c.min-from.result c.find-end.result c.min-from.ensures c.find-end.ensures

-- A capacity has 32 bits
bounded : (s : Start) → (i : ℕ) → get_or s.args.capacities i 0 < most
bounded s i =
    let fit : Fits w32 (get_or s.args.capacities i 0) = search rules in
    fit.fits

pub slice_bounds-read_line-end : goal.slice_bounds-read_line-end
slice_bounds-read_line-end c = omega (arith, within c)

pub returns : goal.returns
returns c =
    let a : _ = c.args in
    let s : List ℕ = a.sheet.now in
    let o : Option (List ℕ) = values (line_at s a.at) in
    let from : ℕ = c.min-from.result in
    let end : ℕ = c.find-end.result in
    let part : _ = part_line s a.at from end c.min-from.ensures c.find-end.ensures in
    let next : _ = part_next s a.at from end c.min-from.ensures c.find-end.ensures in
    let read : c.read_line-line.result ≡ line_of most o = rw (part, numbers-values (line_at s a.at)) at c.read_line-line.ensures in
    let columns : length a.names.columns ≡ 32 = search rules in
    let counted : _ = length-take-le a.names.count a.names.columns (omega (arith, c.requires)) in
    record {
      judged =
          c.as_values.ensures
          ∙ line-judged a.capacities (bounded (goal.at.returns c).Start) a.names counted c.requires a.n o _ read;
      next_line = c.min.ensures ∙ next;
    }
