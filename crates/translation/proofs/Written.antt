-- Writing a block's code, one line or pair at a time, and a pair's code around that of its body.
use mathlib.Core.Path.{◌≡◌, sym, ap}
use mathlib.Core.Bool.{true, false}
use mathlib.Core.List.{List, [], ◌++◌}
use Prim.Native.Nat.{ℕ, ◌+◌, ◌≤◌}
use native.Mathlib.Omega.{arith}
use lib.ListN.{length}
use Rattle.theory.specs.Source.{deeper}
use Rattle.theory.specs.Word.{Instruction, spell_entries}
use Rattle.theory.specs.Translation.{plain_code, code}
use Rattle.command.specs.declared.Numbers.{Numbers}
use Rattle.output.specs.Puts.{most}
use Rattle.output.proofs.Puts.{put_nothing}
use Rattle.emit.specs.Pieces.{plain_of, kind_opened, front, back, Written}
use Rattle.emit.proofs.Puts.{written_then}
use Rattle.translation.specs.Sites.{block_at, goes_on, first, Site, Writes}
use Rattle.translation.specs.declared.writing.Spot.{Spot}
use Rattle.translation.proofs.Walks.{Passed, passed_none, passed_more, passed_all, PlainHere, PairHere}
use Rattle.translation.proofs.Counting.{pair_code}

module _ (list : List ℕ) (count K d at place : ℕ) (start : List ℕ) where
  -- What was passed from line `at` to line `next` was written, from `place` to `end`
  pub record Writing (out : List ℕ) (next end : ℕ) : Type 0 where
    pub code : List Instruction
    pub passed : Passed list count K d at next code
    pub written : Written code place start out end

  pub writing_none : place ≤ most → length start ≤ most → Site list count K d at → Writing start at place
  unfolding spell_entries
  writing_none h k s =
      record { code = []; passed = passed_none list count K d at s; written = record { put = put_nothing start place h k } }

  pub writing_more : (out out' : List ℕ) (next end : ℕ) (s : Spot) → Writing out next end
      → Writes K d next (first (block_at list next)) end out out' s → Writing out' s.next s.place
  writing_more out out' next end s c h =
      let w : List Instruction = code K d (first (block_at list next)) in
      record {
        code = c.code ++ w;
        passed = passed_more list count K d at next s.next c.code c.passed h.ended;
        written = written_then c.code w c.written h.written;
      }

  pub writing_all : (out : List ℕ) (next end : ℕ) → Writing out next end → goes_on (block_at list next) ≡ false
      → Writes K d at (block_at list at) place start out (record { next = next; place = end })
  writing_all out next end c g =
      let a : _ = passed_all list count K d at next c.code c.passed g in
      record { written = rw (← a.code) c.written; ended = a.line }

-- The line or pair at a site
module _ (list : List ℕ) (count K d at : ℕ) (s : Site list count K d at) (g : goes_on (block_at list at) ≡ true) (l : Numbers) where
  pub plain_writes : PlainHere list count K d at s g l → {place end : ℕ} {start out : List ℕ}
      → Written (plain_code K (plain_of l)) place start out end
      → Writes K d at (first (block_at list at)) place start out (record { next = at + 1; place = end })
  plain_writes p w = record { written = rw p.code w; ended = ap (λ n. at + n) (sym p.line) }

  pub pair_writes : (p : PairHere list count K d at s g l) (n : ℕ) → n ≡ deeper (kind_opened l.kind) d → (m : ℕ)
      → m ≡ length (code K n (block_at list (at + 1))) → {place from end : ℕ} {start out out' out'' : List ℕ} {b : Spot}
      → Written (front K d l m) place start out from → Writes K n (at + 1) (block_at list (at + 1)) from out out' b
      → Written (back l.kind m) b.place out' out'' end
      → Writes K d at (first (block_at list at)) place start out'' (record { next = b.next + 1; place = end })
  pair_writes p n e m h f w t =
      let inner : List Instruction = code K n (block_at list (at + 1)) in
      let end : List Instruction = back l.kind m in
      let whole : _ = written_then (front K d l m) (inner ++ end) f (written_then inner end w.written t) in
      record { written = rw (pair_code list count K d at s g l p n e m h) whole; ended = omega (arith, w.ended, p.line) }
