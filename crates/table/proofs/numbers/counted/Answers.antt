-- One entry more is noted in the tally of those before it; at the end all are counted.
use mathlib.Core.Path.{◌≡◌, sym, ap, ◌∙◌}
use mathlib.Core.List.{List, [], ◌∷◌, ◌++◌}
use Prim.Native.Nat.{ℕ, suc, ◌+◌, ◌<◌}
use native.Mathlib.Numerals.{add-one}
use native.Mathlib.Omega.{arith}
use lib.ListN.{length, take, get_or}
use lib.Seq.{length-take-le, take-suc, take_all}
use Rattle.theory.specs.Word.{Entry}
use Rattle.theory.proofs.Words.{entry}
use Rattle.tally.specs.declared.Tally.{Tally}
use Rattle.word.specs.Answers.{zipped}
use Rattle.tally.specs.Tallies.{longest, tally_of, noted}
use Rattle.word.proofs.Zipped.{zipped-length, zipped-at}
use Rattle.tally.proofs.Counts.{tally_none, tally_more}
use Rattle.table.proofs.numbers.counted.Goals as goal

module _ (kinds operands : List ℕ) (i : ℕ) (t : Tally) (q : t ≡ tally_of (take i (zipped kinds operands))) where
  counted_next : i < length (zipped kinds operands) → i < longest → (kind operand : ℕ) → kind ≡ get_or kinds i 0
      → operand ≡ get_or operands i 0 → (r : Tally) → r ≡ noted t (entry operand kind)
      → r ≡ tally_of (take (i + 1) (zipped kinds operands))
  counted_next h few kind operand k n r e =
      let z : List Entry = zipped kinds operands in
      let taken : take (suc i) z ≡ take i z ++ (get_or z i (entry 0 0) ∷ []) = take-suc z i (entry 0 0) h in
      let short : length (take i z) < longest = omega (arith, length-take-le i z (omega arith), few) in
      rw (e, q, k, n, add-one i, taken, zipped-at kinds operands i)
      (tally_more (take i z) (entry (get_or operands i 0) (get_or kinds i 0)) short)

pub loop-i-init : goal.loop-i-init
loop-i-init c = sym tally_none

pub loop-i-preserved : goal.loop-i-preserved
loop-i-preserved c =
    let l = c.loop-i in
    let count = c.max-count in
    let a = c.args in
    let inside : l.i < length (zipped a.kinds.now a.operands.now) =
    omega (arith, zipped-length a.kinds.now a.operands.now, count.ensures, c.loop-i-test.true) in
    counted_next a.kinds.now a.operands.now l.i l.t l.invariant inside (omega arith) _ _
    c.kind_at.ensures c.operand_at.ensures c.with_entry-t.result c.with_entry-t.ensures

pub returns : goal.returns
returns c =
    let l = c.loop-i in
    let a = c.args in
    let z = zipped-length a.kinds.now a.operands.now in
    let all = take_all l.i (zipped a.kinds.now a.operands.now)
    (omega (arith, z, c.max-count.ensures, c.loop-i-test.false)) in
    l.invariant ∙ ap tally_of all
