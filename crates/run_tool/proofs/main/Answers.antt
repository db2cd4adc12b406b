-- `main` meets its contract: what `report` wrote has its place in the buffer.
use mathlib.Core.Path.{◌≡◌, sym, ◌∙◌}
use mathlib.Core.List.{List}
use Prim.Native.Nat.{ℕ, ◌≤◌}
use native.Mathlib.Omega.{arith}
use lib.ListN.{length, replicate}
use lib.Seq.{length-take-le}
use Rattle.theory.specs.RunTool.{tool_capacities}
use Rattle.report.proofs.Lending.{done_fits}
use Rattle.run_tool.proofs.main.Goals as goal

-- The buffer, as it is lent
abbrev lent : List ℕ
lent = replicate 147467 0

within : (n : ℕ) (out : List ℕ) → length out ≡ length lent → n ≤ length lent → n ≤ length out
within n out same short = omega arith

pub slice_bounds-out-end : goal.slice_bounds-out-end
slice_bounds-out-end c =
    within _ _ c.report.auto.out (done_fits lent tool_capacities _ _ c.in-Ok.n (sym c.in-Ok.is ∙ c.report.ensures.value))

pub slice_bounds-write_all-end : goal.slice_bounds-write_all-end
slice_bounds-write_all-end c =
    sym
    (length-take-le _ _
    (within _ _ c.report.auto.out (done_fits lent tool_capacities _ _ c.in-Ok.n (sym c.in-Ok.is ∙ c.report.ensures.value))))
