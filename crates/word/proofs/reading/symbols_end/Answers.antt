-- `symbols_end` meets its contract: a byte is a symbol where it is 1 or #.
use mathlib.Core.Path.{◌≡◌}
use mathlib.Core.Bool.{true, false}
use mathlib.Core.Logic.{◌⊎◌, inl, inr}
use Prim.Native.Nat.{ℕ}
use native.Mathlib.Omega.{arith}
use borrow.Author.Tests.{eq-eqb, ne_eqb}
use lib.ListN.{get_or}
use Rattle.theory.specs.Word.{is_symbol}
use Rattle.theory.proofs.Words.{one_is_symbol}
use Rattle.text.proofs.Runs.{leading-more, leading_stop, leading_end}
use Rattle.word.proofs.reading.symbols_end.Goals as goal

unknown : (b : ℕ) → (b ≡ 49 → ⊥) → (b ≡ 35 → ⊥) → is_symbol b ≡ false
unknown b h e = rw (ne_eqb b 49 h, ne_eqb b 35 e)

known : (b : ℕ) → ((b ≡ 49 → ⊥) × (b ≡ 35)) ⊎ (b ≡ 49) → is_symbol b ≡ true
known b (inl h) = rw (ne_eqb b 49 h.0, eq-eqb b 35 h.1)
known b (inr h) = one_is_symbol b h

pub returns-then-b-ne35 : goal.returns-then-b-ne35
returns-then-b-ne35 c =
    let i : ℕ = c.loop-i.i in
    let w : _ = c.args.word.now in
    omega (arith, leading_stop is_symbol w i 0 (omega arith) (unknown (get_or w i 0) c.if-b-ne49.true c.if-b-ne35.true))

pub loop-i-preserved : goal.loop-i-preserved
loop-i-preserved c =
    let i : ℕ = c.loop-i.i in
    let w : _ = c.args.word.now in
    (omega arith, omega (arith, leading-more is_symbol w i 0 (omega arith) (known (get_or w i 0) c.else-b-ne49.either)))

pub returns : goal.returns
returns c = omega (arith, leading_end is_symbol c.args.word.now c.loop-i.i 0 (omega arith))
