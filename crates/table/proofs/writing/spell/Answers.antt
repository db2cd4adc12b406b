-- One entry more is spelled behind those before it; at the end all are.
use mathlib.Core.Path.{◌≡◌, ◌∙◌}
use mathlib.Core.List.{List, [], ◌∷◌}
use Prim.Native.Nat.{ℕ, ◌+◌, ◌≤◌, ◌<◌, max}
use native.Mathlib.Omega.{arith}
use lib.ListN.{length, get_or, take}
use lib.Seq.{take_all}
use Rattle.theory.proofs.Words.{entry}
use Rattle.output.specs.Puts.{starting}
use Rattle.output.proofs.Puts.{sets-starting}
use Rattle.instruction.specs.Instructions.{text, Spelt}
use Rattle.instruction.proofs.Instructions.{spelt_none, spelt_more}
use Rattle.word.specs.Answers.{zipped}
use Rattle.word.proofs.Zipped.{zipped-at, zipped-length}
use Rattle.table.proofs.writing.spell.Goals as goal

module _ (kinds operands : List ℕ) (i : ℕ) {before after : List ℕ} {at : ℕ}
    (s : Spelt (take i (zipped kinds operands)) 0 before after at) where
  spelt_next : i < max (length kinds) (length operands) → (kind operand : ℕ) → kind ≡ get_or kinds i 0 → operand ≡ get_or operands i 0
      → {after' : List ℕ} {at' : ℕ} → Spelt (entry operand kind ∷ []) at after after' at'
      → Spelt (take (i + 1) (zipped kinds operands)) 0 before after' at'
  spelt_next h kind operand k n p =
      let here : get_or (zipped kinds operands) i (entry 0 0) ≡ entry operand kind = rw (k, n) (zipped-at kinds operands i) in
      spelt_more (zipped kinds operands) i (entry 0 0) (omega (arith, zipped-length kinds operands)) s (rw here p)

  spelt_all : max (length kinds) (length operands) ≤ i → after ≡ starting (text (zipped kinds operands)) before
  spelt_all h =
      let all : take i (zipped kinds operands) ≡ zipped kinds operands
      = take_all i (zipped kinds operands) (omega (arith, zipped-length kinds operands)) in
      (rw all at s.put.wrote) ∙ sets-starting (text (zipped kinds operands)) before

pub loop-i-init : goal.loop-i-init
loop-i-init c = spelt_none _ 0 (omega arith) (omega arith)

pub loop-i-preserved : goal.loop-i-preserved
loop-i-preserved c =
    let l = c.loop-i in
    let a = c.args in
    spelt_next a.kinds.now a.operands.now l.i l.invariant (omega arith) _ _ (c.from-kind.ensures ∙ c.kind_at.ensures)
    c.operand_at-operand.ensures c.put_instruction-at.ensures

pub returns : goal.returns
returns c =
    let l = c.loop-i in
    let a = c.args in
    spelt_all a.kinds.now a.operands.now l.i l.invariant (omega arith)
