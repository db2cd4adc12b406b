-- `named_columns` meets its contract: what the loop has seen says whether the numbers fit together.
use mathlib.Core.Path.{◌≡◌}
use mathlib.Core.List.{List}
use Prim.Native.Nat.{ℕ, ◌-◌, ◌<◌, ◌≤◌}
use native.Mathlib.Omega.{arith}
use lib.ListN.{take, get_or}
use lib.Seq.{length-take-le, get_or-take}
use Rattle.columns.proofs.Seen.{Seen, seen_start, seen_high, seen_again, seen_next, columns_many, columns_none, columns_done}
use Rattle.columns.proofs.named_columns.Goals as goal

-- The number at the place before `k`, among the first `count`
stands : (count : ℕ) (numbers : List ℕ) (k : ℕ) → 0 < k → k ≤ count → get_or (take count numbers) (k - 1) 0 ≡ get_or numbers (k - 1) 0
stands count numbers k h g =
    let within : k - 1 < count = omega arith in
    get_or-take count numbers (k - 1) 0 within

pub returns-then-count-gt-COLUMNS : goal.returns-then-count-gt-COLUMNS
returns-then-count-gt-COLUMNS c = columns_many c.args.count c.args.numbers c.if-count-gt-COLUMNS.true

pub loop-k-init : goal.loop-k-init
loop-k-init c =
    let a : _ = c.args in
    (omega arith, seen_start (take a.count a.numbers) a.count (length-take-le a.count a.numbers (omega arith)))

pub returns-then-n : goal.returns-then-n
returns-then-n c =
    let h : _ = c.loop-k in
    let a : _ = c.args in
    let x : ℕ = get_or a.numbers (h.k - 1) 0 in
    let at : _ = stands a.count a.numbers h.k (omega arith) (omega arith) in
    let high : _ = seen_high (take a.count a.numbers) h.k h.seen h.variables h.invariant.1 (omega arith) x at (omega arith) in
    columns_none a.count a.numbers (omega arith) high

pub returns-then-seen-i : goal.returns-then-seen-i
returns-then-seen-i c =
    let h : _ = c.loop-k in
    let a : _ = c.args in
    let x : ℕ = get_or a.numbers (h.k - 1) 0 in
    let at : _ = stands a.count a.numbers h.k (omega arith) (omega arith) in
    let again : _ = seen_again (take a.count a.numbers) h.k h.seen h.variables h.invariant.1 (omega arith) x at (omega arith) c.if-seen-i.true in
    columns_none a.count a.numbers (omega arith) again

pub loop-k-preserved : goal.loop-k-preserved
loop-k-preserved c =
    let h : _ = c.loop-k in
    let a : _ = c.args in
    let x : ℕ = get_or a.numbers (h.k - 1) 0 in
    let at : _ = stands a.count a.numbers h.k (omega arith) (omega arith) in
    (omega arith, seen_next (take a.count a.numbers) h.k h.seen h.variables h.invariant.1 (omega arith) x at (omega arith) c.if-seen-i.false)

pub returns : goal.returns
returns c =
    let h : _ = c.loop-k in
    let a : _ = c.args in
    let none_left : h.k ≡ 0 = omega arith in
    let all_seen : Seen (take a.count a.numbers) 0 h.seen h.variables = rw none_left at h.invariant.1 in
    columns_done a.count a.numbers (omega arith) h.seen h.variables all_seen
