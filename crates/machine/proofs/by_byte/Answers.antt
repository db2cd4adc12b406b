-- `by_byte` meets its contract: an entry past the last starts where the last ends.
use mathlib.Core.Path.{◌≡◌, sym, ap, ◌∙◌}
use mathlib.Core.List.{List}
use Prim.Native.Nat.{ℕ}
use native.Mathlib.Omega.{arith}
use lib.ListN.{take}
use lib.Seq.{take_all}
use Rattle.theory.specs.Word.{Entry}
use Rattle.theory.specs.TurnedDown.{total}
use Rattle.word.specs.Answers.{zipped}
use Rattle.engine.proofs.Rule15.{zipped-length}
use Rattle.machine.proofs.by_byte.Goals as goal
use Rattle.machine.proofs.by_byte.Goals.{else-kinds-r, then-kinds-r}

pub returns : goal.returns
returns c =
    let a = c.args in
    let t : List Entry = zipped a.kinds.now a.operands.now in
    let size = zipped-length a.kinds.now a.operands.now c.requires.same in
    let same : take c.if-kinds-r.entry t ≡ take a.r.place t = (elim c.if-kinds-r.branch [
      | then-kinds-r w ↦ take_all c.if-kinds-r.entry t (omega (arith, size))
          ∙ sym (take_all a.r.place t (omega (arith, size)))
      | else-kinds-r w ↦ ap (λ (n : ℕ). take n t) w.entry-is
    ]) in
    rw (c.if-r-ne15.false, c.start_of.ensures) (ap (λ (l : List Entry). record { number = 15; place = total l }) same)
