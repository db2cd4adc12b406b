-- `main` meets its contract: what `put_label` wrote has its place in the buffer. Its 600,001 zeros are counted by a lemma, not one by one.
use mathlib.Core.Path.{◌≡◌, sym, ◌∙◌}
use mathlib.Core.List.{List}
use Prim.Native.Nat.{ℕ, ◌≤◌}
use native.Mathlib.Omega.{arith}
use lib.ListN.{length, length-replicate}
use lib.Seq.{length-take-le}
use Rattle.label_tool.proofs.main.Goals as goal

within : (n : ℕ) (out : List ℕ) → length out ≡ 600001 → n ≤ 600001 → n ≤ length out
within n out size short = omega arith

pub slice_bounds-put_label-end-2 : goal.slice_bounds-put_label-end-2
slice_bounds-put_label-end-2 c = sym (length-replicate {A = ℕ} 600001 0)

pub put_label-n-requires : goal.put_label-n-requires
put_label-n-requires c = length-replicate {A = ℕ} 600001 0

pub slice_bounds-out-end : goal.slice_bounds-out-end
slice_bounds-out-end c =
    within _ _ (c.put_label-n.auto.out ∙ length-replicate {A = ℕ} 600001 0) c.put_label-n.ensures.upper_bound

pub slice_bounds-write_all-end : goal.slice_bounds-write_all-end
slice_bounds-write_all-end c =
    sym
    (length-take-le _ _
    (within _ _ (c.put_label-n.auto.out ∙ length-replicate {A = ℕ} 600001 0) c.put_label-n.ensures.upper_bound))
