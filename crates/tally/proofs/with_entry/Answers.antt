-- `with_entry` meets its contract: each of its ways out is a case of the definition.
use mathlib.Core.Path.{◌≡◌, sym, ◌∙◌}
use mathlib.Core.Bool.{true, false}
use Prim.Native.Nat.{ℕ, ◌+◌, ◌≤◌, ◌<◌, min}
use native.Mathlib.Omega.{arith}
use borrow.Author.Tests.{lt-ltb, le-ltb}
use Rattle.theory.specs.Word.{Entry}
use Rattle.theory.proofs.Words.{entry}
use Rattle.tally.specs.declared.Tally.{Tally}
use Rattle.tally.specs.Tallies.{is_good, longest, noted}
use Rattle.tally.proofs.with_entry.Goals as goal

module _ (s : Tally) (e : Entry) {held size count : ℕ} (before : held ≡ min s.size 600001)
    (sum : size ≡ min (held + e.operand + e.kind) 600001) (next : count ≡ min (s.count + 1) longest) where
  size_is : size ≡ min (s.size + e.operand + e.kind) 600001
  size_is = omega (arith, before, sum)

  past_bad : s.good < s.count → record { size = size; good = s.good; count = count } ≡ noted s e
  unfolding noted
  past_bad h = rw (size_is, next, lt-ltb s.good s.count h)

  still_good : s.count ≤ s.good → is_good e ≡ true → record { size = size; good = count; count = count } ≡ noted s e
  unfolding noted
  still_good h g = rw (size_is, next, le-ltb s.good s.count h, g)

  first_bad : s.count ≤ s.good → is_good e ≡ false → record { size = size; good = s.good; count = count } ≡ noted s e
  unfolding noted
  first_bad h g = rw (size_is, next, le-ltb s.good s.count h, g)

pub returns-then-good-t : goal.returns-then-good-t
returns-then-good-t c =
    let a = c.args in
    past_bad a.t (entry a.operand a.kind) c.capped.ensures (rw c.from.ensures at c.capped-size.ensures) c.saturating_add-count.ensures
    c.if-good-t.true

pub returns-then-is_instruction : goal.returns-then-is_instruction
returns-then-is_instruction c =
    let a = c.args in
    still_good a.t (entry a.operand a.kind) c.capped.ensures (rw c.from.ensures at c.capped-size.ensures) c.saturating_add-count.ensures
    c.if-good-t.false (sym c.is_instruction.ensures ∙ c.if-is_instruction.true)

pub returns : goal.returns
returns c =
    let a = c.args in
    first_bad a.t (entry a.operand a.kind) c.capped.ensures (rw c.from.ensures at c.capped-size.ensures) c.saturating_add-count.ensures
    c.if-good-t.false (sym c.is_instruction.ensures ∙ c.if-is_instruction.false)
