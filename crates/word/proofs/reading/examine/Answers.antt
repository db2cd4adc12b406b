-- `examine` meets its contract: each of its ways out is one of the rules, in their order.
use Rattle.std.specs.Prelude.{Err}
use mathlib.Core.Path.{◌≡◌, ap, ◌∙◌}
use mathlib.Core.List.{List}
use Prim.Native.Nat.{ℕ, ◌≤◌}
use native.Mathlib.Omega.{arith}
use lib.ListN.{length}
use Rattle.theory.specs.Word.{is_symbol}
use Rattle.word.specs.Scan.{symbols}
use Rattle.text.proofs.Runs.{leading_length}
use Rattle.counting.proofs.Symbols.{Known}
use Rattle.word.proofs.Judged.{empty-word, unknown_symbol, known_symbols}
use Rattle.word.proofs.reading.examine.Goals as goal

all_known : (w : List ℕ) (end : ℕ) → end ≡ symbols w → length w ≤ end → Known w
all_known w end e h = omega (arith, leading_length is_symbol w)

pub returns-then-word-eq0 : goal.returns-then-word-eq0
returns-then-word-eq0 c = c.refused.ensures ∙ empty-word c.args.word.now c.if-word-eq0.true

pub returns-then-end-word : goal.returns-then-end-word
returns-then-end-word c =
    let w : List ℕ = c.args.word.now in
    let e : c.symbols_end-end.result ≡ symbols w = c.symbols_end-end.ensures in
    c.refused-then-end-word.ensures
    ∙ ap (λ (n : ℕ). Err (record { number = 12; place = n })) e
    ∙ unknown_symbol w (omega arith, omega arith) (rw e at c.if-end-word.true)

pub scan-requires : goal.scan-requires
scan-requires c =
    let w : List ℕ = c.args.word.now in
    record { known = all_known w _ c.symbols_end-end.ensures c.if-end-word.false; short = omega arith }

pub returns : goal.returns
returns c =
    let w : List ℕ = c.args.word.now in
    c.scan.ensures ∙ known_symbols w (omega arith, omega arith) (all_known w _ c.symbols_end-end.ensures c.if-end-word.false)
