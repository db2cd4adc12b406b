-- `name` meets its contract: an index stands behind the X, in digits or in primes.
use mathlib.Core.Path.{ap, ◌∙◌}
use Prim.Native.Nat.{◌+◌}
use native.Mathlib.Omega.{arith}
use lib.ListN.{length}
use Rattle.numerals.specs.Numbers.{found_in}
use Rattle.numerals.proofs.Numbers.{no_name_end, no_name_X, digit_missing, digit_stands, digits-within}
use Rattle.numerals.proofs.Numbers.{name-in_digits, name_in_primes}
use Rattle.numerals.proofs.name.Goals as goal

pub returns-then-text-at : goal.returns-then-text-at
returns-then-text-at c = let a = c.args in
    no_name_end a.text.now a.at a.most c.if-text-at.true

pub returns-then-text-at-ne88 : goal.returns-then-text-at-ne88
returns-then-text-at-ne88 c = let a = c.args in
    no_name_X a.text.now a.at a.most (omega arith) c.if-text-at-ne88.true

pub returns-then-digits-at : goal.returns-then-digits-at
returns-then-digits-at c =
    let a = c.args in
    let none = digit_missing a.text.now (a.at + 1) a.most c.digits_at-digits.ensures (omega arith) in
    let same = name_in_primes a.text.now a.at (omega arith) c.if-text-at-ne88.false none in
    c.primes.ensures ∙ ap (found_in (length a.text.now) a.most) same

pub proper-requires : goal.proper-requires
proper-requires c =
    let a = c.args in
    digits-within a.text.now (a.at + 1) a.most c.digits_at-digits.ensures (omega arith)

pub returns : goal.returns
returns c =
    let a = c.args in
    let stands = digit_stands a.text.now (a.at + 1) a.most c.digits_at-digits.ensures (omega arith) in
    let same = name-in_digits a.text.now a.at (omega arith) c.if-text-at-ne88.false stands in
    c.proper.ensures a.most c.digits_at-digits.ensures (omega arith) ∙ ap (found_in (length a.text.now) a.most) same
