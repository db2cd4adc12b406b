-- `block_size` and `pair_size` meet their contracts: what was counted and noted so far, the next line or pair, and a pair around its body.
use mathlib.Core.Path.{sym, ap}
use Prim.Native.Nat.{◌≤◌}
use native.Mathlib.Omega.{arith}
use Rattle.translation.specs.Sites.{numbers_at}
use Rattle.translation.proofs.Walks.{plain_at, pair-at, here}
use Rattle.translation.proofs.Counting.{counting_more, counting_room, counting_all}
use Rattle.translation.proofs.Counting.{plain_counts, pair_room, pair_counts, closes_below}
use Rattle.translation.proofs.Noting.{noting_then, noting_plain, noting_pair}
use Rattle.translation.proofs.sizes.+block_size_pair_size.Goals as goal

pub block_size-joined-size-requires : goal.block_size-joined-size-requires
block_size-joined-size-requires t c =
    counting_room _ _ _ _ _ _ _ _ c.requires.0 c.loop-bodies.invariant.0 (sym c.loop-bodies-test.ensures) c.pair_size-item.ensures.0

pub block_size-loop-bodies-preserved : goal.block_size-loop-bodies-preserved
block_size-loop-bodies-preserved t c =
    let inv = c.loop-bodies.invariant in
    let item = c.pair_size-item.ensures in
    (rw c.joined-size.ensures (counting_more _ _ _ _ _ _ _ _ inv.0 item.0), noting_then _ _ inv.0.passed.onward inv.1 item.1)

pub block_size-returns : goal.block_size-returns
block_size-returns t c =
    let goes = sym c.loop-bodies-test.ensures in
    let inv = c.loop-bodies.invariant in
    (counting_all _ _ _ _ _ _ _ inv.0 goes, inv.1, goes)

pub pair_size-line_at-line-requires : goal.pair_size-line_at-line-requires
pair_size-line_at-line-requires t c = (here _ _ _ _ _ c.requires.0 c.requires.1).numbers

pub pair_size-block_size-body-requires : goal.pair_size-block_size-body-requires
pair_size-block_size-body-requires t c =
    let q = c.requires in
    let p = pair-at _ _ _ _ _ q.0 q.1 _ c.line_at-line.ensures c.if-line-le-COPY.false in
    (omega (arith, (here _ _ _ _ _ q.0 q.1).below), (rw c.deeper-inner.ensures p.site, q.2))

pub pair_size-joined-size-requires : goal.pair_size-joined-size-requires
pair_size-joined-size-requires t c =
    let q = c.requires in
    let p = pair-at _ _ _ _ _ q.0 q.1 _ c.line_at-line.ensures c.if-line-le-COPY.false in
    pair_room _ _ _ _ _ q.0 q.1 _ p _ c.deeper-inner.ensures _ c.block_size-body.ensures.0 c.ends_size-ends.ensures

pub pair_size-overflow_add-result : goal.pair_size-overflow_add-result
pair_size-overflow_add-result t c =
    let q = c.requires in
    let p = pair-at _ _ _ _ _ q.0 q.1 _ c.line_at-line.ensures c.if-line-le-COPY.false in
    omega (arith, closes_below _ _ _ _ _ q.0 q.1 _ p _ c.deeper-inner.ensures c.block_size-body.ensures.0.ended)

pub pair_size-returns-then-line-le-COPY : goal.pair_size-returns-then-line-le-COPY
pair_size-returns-then-line-le-COPY t c =
    let q = c.requires in
    let line = c.line_at-line.ensures in
    let p = plain_at _ _ _ _ _ q.0 q.1 _ line c.if-line-le-COPY.true in
    let low : (numbers_at c.args.list.now c.args.at).kind ≤ 3 = omega (arith, ap (λ x. x.kind) line, c.if-line-le-COPY.true) in
    (plain_counts _ _ _ _ _ q.0 q.1 _ p c.line_size-size.ensures, noting_plain _ _ _ _ low)

pub pair_size-returns-else-line-le-COPY : goal.pair_size-returns-else-line-le-COPY
pair_size-returns-else-line-le-COPY t c =
    let q = c.requires in
    let p = pair-at _ _ _ _ _ q.0 q.1 _ c.line_at-line.ensures c.if-line-le-COPY.false in
    let below = (here _ _ _ _ _ q.0 q.1).below in
    let body = c.block_size-body.ensures in
    let m = ap (λ z. z.instructions) body.0.size in (
      pair_counts _ _ _ _ _ q.0 q.1 _ p _ c.deeper-inner.ensures _ body.0 c.ends_size-ends.ensures c.joined-size.ensures,
      noting_pair _ _ _ _ _ _ _ _ (omega (arith, below, q.2)) m (omega (arith, body.0.ended)) body.2 body.1,
    )
