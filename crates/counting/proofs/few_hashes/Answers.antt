-- `few_hashes` meets its contract: the largest of six bytes says whether the flag falls, and no six are left at the end.
use mathlib.Core.Path.{◌≡◌, sym, subst, ◌∙◌}
use mathlib.Core.Bool.{true}
use Prim.Native.Nat.{ℕ, ◌+◌, ◌≤◌, ◌<◌}
use native.Mathlib.Omega.{arith}
use lib.ListN.{length, drop, length-drop}
use lib.Dec.{leb}
use Rattle.text.specs.Runs.{run}
use Rattle.counting.specs.Counts.{is_sixless}
use Rattle.counting.proofs.Flags.{flag_kept, flag_fallen, flag_last}
use Rattle.counting.proofs.Symbols.{known_of_all}
use Rattle.counting.proofs.Hashes.{top_is, sixless_at, few_at, many_at, sixless_short}
use Rattle.counting.proofs.few_hashes.Goals as goal
use Rattle.counting.proofs.few_hashes.Goals.{else-max-lt49, then-max-lt49}

pub returns-then-word-lt6 : goal.returns-then-word-lt6
returns-then-word-lt6 c = sym (sixless_short c.args.word.now (omega (arith, c.if-word-lt6.true)))

pub loop-i-preserved : goal.loop-i-preserved
loop-i-preserved c =
    let l = c.loop-i in
    let word = c.args.word.now in
    let is = top_is word l.i _ _ _ _ _ c.max-first.ensures c.max-second.ensures c.max-third.ensures
    c.max.ensures c.max-in-loop-i.ensures in
    let here : l.i + 5 < length word = omega arith in
    let at = sixless_at word l.i (omega (arith, here)) in
    let test = leb (run 35 (drop l.i word)) 5 in
    let rest = is_sixless (drop (l.i + 1) word) in
    let known = known_of_all word c.requires in (
      omega arith,
      (elim c.if-max-lt49.branch [
        | then-max-lt49 w ↦ rw w.ok-is (l.invariant.1 ∙ rw at (flag_fallen l.ok test rest (many_at word l.i known here
            (subst (λ (m : ℕ). m < 49) is w.if-max-lt49.true))))
        | else-max-lt49 w ↦ rw w.ok-is (l.invariant.1 ∙ rw at (flag_kept l.ok test rest (few_at word l.i
            (subst (λ (m : ℕ). 49 ≤ m) is w.if-max-lt49.false))))
      ]),
    )

pub returns : goal.returns
returns c =
    let l = c.loop-i in
    let word = c.args.word.now in
    let none : is_sixless (drop l.i word) ≡ true = sixless_short (drop l.i word) (omega (arith, length-drop l.i word)) in
    sym (l.invariant.1 ∙ flag_last l.ok _ none)
