-- `put_block` and `put_pair` meet their contracts: what was written so far, the next line or pair, and a pair around its body.
use mathlib.Core.Path.{sym}
use native.Mathlib.Omega.{arith}
use Rattle.translation.proofs.Walks.{plain_at, pair-at, here}
use Rattle.translation.proofs.Noting.{noted_counts}
use Rattle.translation.proofs.Counting.{closes_below}
use Rattle.translation.proofs.Written.{writing_none, writing_more, writing_all, plain_writes, pair_writes}
use Rattle.translation.proofs.writing.+put_block_put_pair.Goals as goal

pub put_block-loop-out-init : goal.put_block-loop-out-init
put_block-loop-out-init t c = writing_none _ _ _ _ _ _ _ (omega arith) (omega arith) c.requires.0

pub put_block-loop-out-preserved : goal.put_block-loop-out-preserved
put_block-loop-out-preserved t c = writing_more _ _ _ _ _ _ _ _ _ _ _ _ c.loop-out.invariant c.put_pair-item.ensures

pub put_block-returns : goal.put_block-returns
put_block-returns t c = writing_all _ _ _ _ _ _ _ _ _ _ c.loop-out.invariant (sym c.loop-out-test.ensures)

pub put_pair-put_block-body-requires : goal.put_pair-put_block-body-requires
put_pair-put_block-body-requires t c =
    let q = c.requires in
    let p = pair-at _ _ _ _ _ q.0 q.1 _ c.line_at-line.ensures c.if-line-le-COPY.false in
    (omega (arith, (here _ _ _ _ _ q.0 q.1).below), (rw c.deeper-inner.ensures p.site, q.2))

pub put_pair-overflow_add-result : goal.put_pair-overflow_add-result
put_pair-overflow_add-result t c =
    let q = c.requires in
    let p = pair-at _ _ _ _ _ q.0 q.1 _ c.line_at-line.ensures c.if-line-le-COPY.false in
    omega (arith, closes_below _ _ _ _ _ q.0 q.1 _ p _ c.deeper-inner.ensures c.put_block-body.ensures.ended)

pub put_pair-returns-then-line-le-COPY : goal.put_pair-returns-then-line-le-COPY
put_pair-returns-then-line-le-COPY t c =
    let q = c.requires in
    let p = plain_at _ _ _ _ _ q.0 q.1 _ c.line_at-line.ensures c.if-line-le-COPY.true in
    plain_writes _ _ _ _ _ q.0 q.1 _ p c.plain_line-end.ensures

pub put_pair-returns-else-line-le-COPY : goal.put_pair-returns-else-line-le-COPY
put_pair-returns-else-line-le-COPY t c =
    let q = c.requires in
    let line = c.line_at-line.ensures in
    let pairs = c.if-line-le-COPY.false in
    let p = pair-at _ _ _ _ _ q.0 q.1 _ line pairs in
    let m = noted_counts _ _ q.2 _ _ (here _ _ _ _ _ q.0 q.1).below q.1 line pairs in
    pair_writes _ _ _ _ _ q.0 q.1 _ p _ c.deeper-inner.ensures _ m
    c.before_body-start.ensures c.put_block-body.ensures c.after_body-end.ensures
