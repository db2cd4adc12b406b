-- `rises` meets its contract: the rises of a part and those behind it are those of the word, and they are fewer than its bytes.
use mathlib.Core.Path.{◌≡◌, ap, ◌∙◌}
use mathlib.Core.List.{List}
use Prim.Native.Nat.{ℕ, suc, ◌+◌, ◌-◌, ◌≤◌, ◌<◌}
use native.Mathlib.Omega.{arith}
use lib.ListN.{length, take, drop, length-drop}
use lib.Seq.{drop-drop}
use Rattle.counting.specs.Counts.{rises}
use Rattle.counting.proofs.Rising.{rises_part, rises_end, rises_below}
use Rattle.counting.proofs.rises.Goals as goal

module _ (w : List ℕ) (i end n r : ℕ) (h : i ≤ end) (g : end < length w) (counted : r ≡ rises (take (end + 1 - i) (drop i w)))
    (before : n + rises (drop i w) ≡ rises w) where
  -- One part more
  more : (n + r) + rises (drop end w) ≡ rises w
  more =
      let size : end + 1 - i ≡ suc (end - i) = omega arith in
      let place : i + (end - i) ≡ end = omega arith in
      let part : rises (drop i w) ≡ rises (take (suc (end - i)) (drop i w)) + rises (drop (end - i) (drop i w)) =
      rises_part (drop i w) (end - i) (omega (arith, length-drop i w)) in
      let rest : drop (end - i) (drop i w) ≡ drop end w = drop-drop (end - i) i w ∙ ap (λ (k : ℕ). drop k w) place in
      omega (arith, before, rw size at counted, rw rest at part)

  few : n + r ≤ length w
  few = omega (arith, more, rises_below w (omega arith))

pub overflow_add-n : goal.overflow_add-n
overflow_add-n c =
    let l = c.loop-i in
    let a = c.args in
    record {
      fits = omega (
        arith,
        few a.word.now l.i (l.i + c.min.result) l.n c.from-n.result (omega (arith, c.min.ensures))
            (omega (arith, c.min.ensures)) (c.from-n.ensures ∙ c.rises_of.ensures) l.invariant.1,
      );
    }

pub loop-i-preserved : goal.loop-i-preserved
loop-i-preserved c =
    let l = c.loop-i in
    let a = c.args in (
      omega arith,
      more a.word.now l.i (l.i + c.min.result) l.n c.from-n.result (omega (arith, c.min.ensures))
          (omega (arith, c.min.ensures)) (c.from-n.ensures ∙ c.rises_of.ensures) l.invariant.1,
    )

pub returns : goal.returns
returns c =
    let l = c.loop-i in
    omega (arith, l.invariant.1, rises_end c.args.word.now l.i (omega arith))
