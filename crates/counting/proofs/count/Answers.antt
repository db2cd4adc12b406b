-- `count` meets its contract: a word that passes all tests plainly passes, and one that fails one of them does not.
use mathlib.Core.Path.{sym, ◌∙◌}
use native.Mathlib.Omega.{arith}
use Rattle.counting.proofs.Flags.{not_both}
use Rattle.counting.proofs.Symbols.{known_of_all, all_of_known}
use Rattle.counting.proofs.Rising.{rises_below}
use Rattle.counting.proofs.Plain.{Plain, plain_count, other_count, empty-count}
use Rattle.counting.proofs.count.Goals as goal

pub returns-then-size-eq0 : goal.returns-then-size-eq0
returns-then-size-eq0 c = sym (empty-count c.args.word.now c.if-size-eq0.true)

pub returns-then-word-ne49 : goal.returns-then-word-ne49
returns-then-word-ne49 c = sym (other_count c.args.word.now (λ p. c.if-word-ne49.true p.starts))

pub returns-then-word-size-ne35 : goal.returns-then-word-size-ne35
returns-then-word-size-ne35 c = sym (other_count c.args.word.now (λ p. c.if-word-size-ne35.true p.ends))

pub returns-then-not-are_symbols : goal.returns-then-not-are_symbols
returns-then-not-are_symbols c =
    let w = c.args.word.now in
    sym (other_count w
    (λ p. not_both _ (c.are_symbols.ensures ∙ all_of_known w p.known) c.if-not-are_symbols.true))

pub returns-then-not-few_hashes : goal.returns-then-not-few_hashes
returns-then-not-few_hashes c =
    let w = c.args.word.now in
    sym (other_count w (λ p. not_both _ (c.few_hashes.ensures ∙ p.sixless) c.if-not-few_hashes.true))

pub overflow_add-result : goal.overflow_add-result
overflow_add-result c =
    let w = c.args.word.now in
    record { fits = omega (arith, c.rises.ensures, rises_below w (omega arith)) }

pub returns : goal.returns
returns c =
    let w = c.args.word.now in
    let all = sym c.are_symbols.ensures ∙ c.if-not-are_symbols.false in
    let plain : Plain w = record {
      starts = c.if-word-ne49.false;
      ends = c.if-word-size-ne35.false;
      known = known_of_all w all;
      sixless = sym c.few_hashes.ensures ∙ c.if-not-few_hashes.false;
    } in
    omega (arith, c.rises.ensures, plain_count w (omega arith) plain)
