-- Counting a block's code, one line or pair at a time, and a pair's code around that of its body.
use mathlib.Core.Path.{◌≡◌, refl, sym, ap, ◌∙◌}
use mathlib.Core.Bool.{true, false}
use mathlib.Core.List.{List, [], ◌++◌}
use Prim.Native.Nat.{ℕ, ◌+◌, ◌≤◌, ◌<◌}
use native.Mathlib.Omega.{arith}
use lib.ListN.{length, length-append}
use Rattle.theory.specs.Limits
use Rattle.theory.specs.ProgramText.{lines}
use Rattle.theory.specs.Source.{deeper}
use Rattle.theory.specs.Word.{Instruction}
use Rattle.theory.specs.Translation.{plain_code, code}
use Rattle.theory.proofs.Sizes.{weight_append}
use Rattle.command.specs.declared.Numbers.{Numbers}
use Rattle.emit.specs.Pieces.{plain_of, kind_opened, front, back}
use Rattle.lengths.specs.Lengths.{length_of}
use Rattle.lengths.specs.declared.Length.{Length}
use Rattle.lengths.proofs.Counts.{counts}
use Rattle.translation.specs.Sites.{block_at, goes_on, first, Site, Counts, join}
use Rattle.translation.specs.declared.sizes.Extent.{Extent}
use Rattle.translation.proofs.Sites.{Bounds, bounds}
use Rattle.translation.proofs.Walks.{Passed, passed_none, passed_more, passed_all, here, PlainHere, PairHere}

-- The lengths of some instructions and of others, one after the other or one inside the other
join_then : (u w : List Instruction) → join (length_of u) (length_of w) ≡ length_of (u ++ w)
join_then u w = counts {v = u ++ w} refl (sym (length-append u w)) (sym (weight_append u w))

join-around : (u v w : List Instruction) → join (length_of v) (length_of (u ++ w)) ≡ length_of (u ++ (v ++ w))
join-around u v w =
    counts {v = u ++ (v ++ w)} refl (omega (arith, length-append u w, length-append u (v ++ w), length-append v w))
    (omega (arith, weight_append u w, weight_append u (v ++ w), weight_append v w))

-- The sum of two lengths does not wrap
abbrev pub Roomy : Length → Length → Type 0
Roomy a b = (a.instructions + b.instructions ≤ Limits.most_instructions) × (a.symbols + b.symbols ≤ Limits.most_symbols)

-- It does not where it is the length of what stands at a site
roomy : {list : List ℕ} {count K d at : ℕ} (s : Site list count K d at) (a b : Length) (w : List Instruction)
    → join a b ≡ length_of w → (length_of w).instructions ≤ (length_of (code K d (block_at list at))).instructions
    → (length_of w).symbols ≤ (length_of (code K d (block_at list at))).symbols → Roomy a b
roomy {list} {count} {K} {d} {at} s a b w e i t =
    let x : Bounds list count K d at = bounds list count K d at s in (
      omega (arith, x.instructions, ap (λ z. z.instructions) e),
      omega (arith, x.symbols, ap (λ z. z.symbols) e),
    )

module _ (list : List ℕ) (count K d at : ℕ) where
  -- A length is that of what was passed from line `at` to line `next`
  pub record Counting (size : Length) (next : ℕ) : Type 0 where
    pub code : List Instruction
    pub passed : Passed list count K d at next code
    pub counted : size ≡ length_of code

  pub counting_none : Site list count K d at → Counting (record { instructions = 0; symbols = 0 }) at
  counting_none s = record { code = []; passed = passed_none list count K d at s; counted = refl }

  pub counting_more : (size : Length) (next : ℕ) (f : Extent) → Counting size next → Counts K d next (first (block_at list next)) f
      → Counting (join size f.size) f.next
  counting_more size next f c h =
      let w : List Instruction = code K d (first (block_at list next)) in
      record {
        code = c.code ++ w;
        passed = passed_more list count K d at next f.next c.code c.passed h.ended;
        counted = rw (c.counted, h.size) (join_then c.code w);
      }

  -- The sums of that step do not wrap
  pub counting_room : (size : Length) (next : ℕ) (f : Extent) → Site list count K d at → Counting size next
      → goes_on (block_at list next) ≡ true → Counts K d next (first (block_at list next)) f → Roomy size f.size
  counting_room size next f s c g h =
      let i : _ = here list count K d next c.passed.site g in
      let w : List Instruction = code K d (first (block_at list next)) in
      let r : List Instruction = code K d (block_at list next) in
      let lengths : _ = ap length c.passed.code ∙ length-append c.code r in
      let weights : _ = ap (λ u. (length_of u).symbols) c.passed.code ∙ weight_append c.code r in
      roomy s size f.size (c.code ++ w) (rw (c.counted, h.size) (join_then c.code w))
      (omega (arith, i.instructions, lengths, length-append c.code w)) (omega (arith, i.symbols, weights, weight_append c.code w))

  pub counting_all : (size : Length) (next : ℕ) → Counting size next → goes_on (block_at list next) ≡ false
      → Counts K d at (block_at list at) (record { size = size; next = next })
  counting_all size next c g =
      let a : _ = passed_all list count K d at next c.code c.passed g in
      record { size = c.counted ∙ ap {B = Length} length_of a.code; ended = a.line }

-- The line or pair at a site
module _ (list : List ℕ) (count K d at : ℕ) (s : Site list count K d at) (g : goes_on (block_at list at) ≡ true) (l : Numbers) where
  pub plain_counts : PlainHere list count K d at s g l → {e : Length} → e ≡ length_of (plain_code K (plain_of l))
      → Counts K d at (first (block_at list at)) (record { size = e; next = at + 1 })
  plain_counts p c = record { size = rw p.code c; ended = ap (λ n. at + n) (sym p.line) }

  module _ (p : PairHere list count K d at s g l) (n : ℕ) (e : n ≡ deeper (kind_opened l.kind) d) where
    -- The instructions of the body
    abbrev pub inner : List Instruction
    inner = code K n (block_at list (at + 1))

    pub pair_code : (m : ℕ) → m ≡ length inner
        → code K d (first (block_at list at)) ≡ front K d l m ++ (inner ++ back l.kind m)
    pair_code m h = rw (h, e) p.code

    module _ (body : Extent) (c : Counts K n (at + 1) (block_at list (at + 1)) body) where
      -- And how many
      abbrev pub m : ℕ
      m = body.size.instructions

      counted : m ≡ length inner
      counted = ap (λ z. z.instructions) c.size

      pair_size : {ends : Length} → ends ≡ length_of (front K d l m ++ back l.kind m)
          → join body.size ends ≡ length_of (code K d (first (block_at list at)))
      pair_size {ends} h =
          let f : List Instruction = front K d l m in
          let b : List Instruction = back l.kind m in
          ap (λ z. join z ends) c.size
          ∙ (ap (λ z. join (length_of inner) z) h ∙ (join-around f inner b ∙ ap {B = Length} length_of (sym (pair_code m counted))))

      pub pair_room : {ends : Length} → ends ≡ length_of (front K d l m ++ back l.kind m) → Roomy body.size ends
      pair_room {ends} h =
          let i : _ = here list count K d at s g in
          roomy s body.size ends (code K d (first (block_at list at))) (pair_size h) i.instructions i.symbols

      pub pair_counts : {ends size : Length} → ends ≡ length_of (front K d l m ++ back l.kind m) → size ≡ join body.size ends
          → Counts K d at (first (block_at list at)) (record { size = size; next = body.next + 1 })
      pair_counts h j = record { size = j ∙ pair_size h; ended = omega (arith, c.ended, p.line) }

    -- The line that closes a pair is one of the list's
    pub closes_below : {next : ℕ} → next ≡ at + 1 + length (lines (block_at list (at + 1))) → next < Limits.most_lines
    closes_below h =
        omega (arith, (here list count K d at s g).within, p.line, (bounds list count K d at s).few_lines)
