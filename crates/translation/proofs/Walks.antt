-- A walk through a block, one line or pair at a time: its code is that of what was passed and of what remains; and the code of the line or
-- pair at a site, by the numbers of its line.
use mathlib.Core.Path.{◌≡◌, refl, sym, ap, ◌∙◌}
use mathlib.Core.Bool.{true, false, true≢false}
use mathlib.Core.List.{List, [], ◌∷◌, ◌++◌, append_assoc, append-nil}
use Prim.Native.Nat.{ℕ, ◌+◌, ◌*◌, ◌≤◌, ◌<◌}
use native.Mathlib.Omega.{arith}
use lib.ListN.{length, length-append}
use Rattle.theory.specs.ProgramText.{Plain, clear, increment, copy, Kind, loop, while, plain, opens, closes}
use Rattle.theory.specs.ProgramText.{Block, empty, single, pair, lines}
use Rattle.theory.specs.Source.{deeper}
use Rattle.theory.specs.Word.{Instruction}
use Rattle.theory.specs.Translation.{plain_code, before_body, code}
use Rattle.theory.proofs.Sizes.{weight_append}
use Rattle.command.specs.declared.Numbers.{Numbers}
use Rattle.emit.specs.Pieces.{plain_of, kind_opened, front, back}
use Rattle.lengths.specs.Lengths.{symbols_of}
use Rattle.translation.specs.Sites.{numbers_at, Says, block_at, goes_on, first, rest, Site}
use Rattle.translation.proofs.Sites.{numbers-count, Stands, body_site, rest_site, bounds}
use Rattle.translation.proofs.Sites.{Plainly, Paired, plain_here, pair_here}

code-first : (K d : ℕ) (b : Block) → code K d b ≡ code K d (first b) ++ code K d (rest b)
unfolding code
code-first K d empty = refl
code-first K d (single c b) = rw (append-nil (plain_code K c))
code-first K d (pair k i body b) =
    let inner : List Instruction = code K (deeper k d) body in
    let before : List Instruction = before_body K d k i (length inner) in
    sym (append_assoc before _ _ ∙ ap (λ w. before ++ w) (append_assoc inner _ _))

lines-first : (b : Block) → length (lines b) ≡ length (lines (first b)) + length (lines (rest b))
lines-first empty = refl
lines-first (single c b) = omega arith
lines-first (pair k i body b) =
    omega (arith, length-append (lines body) (closes k i ∷ lines b), length-append (lines body) (closes k i ∷ []))

-- From line `at` to line `next` of one block, with the code of what was passed
pub record Passed (list : List ℕ) (count K d at next : ℕ) (w : List Instruction) : Type 0 where
  pub site : Site list count K d next
  pub onward : at ≤ next
  pub code : code K d (block_at list at) ≡ w ++ code K d (block_at list next)
  pub line : next + length (lines (block_at list next)) ≡ at + length (lines (block_at list at))

module _ (list : List ℕ) (count K d at : ℕ) where
  pub passed_none : Site list count K d at → Passed list count K d at at []
  passed_none s = record { site = s; onward = omega arith; code = refl; line = refl }

  pub passed_more : (next n : ℕ) (w : List Instruction) → Passed list count K d at next w
      → n ≡ next + length (lines (first (block_at list next)))
      → Passed list count K d at n (w ++ code K d (first (block_at list next)))
  passed_more next n w p e =
      let b : Block = block_at list next in
      let r : Stands list count K d n (rest b) = rest_site list count K d next n p.site e in
      let split : code K d b ≡ code K d (first b) ++ code K d (block_at list n) = rw r.block (code-first K d b) in
      record {
        site = r.site;
        onward = omega (arith, p.onward);
        code = p.code ∙ (ap (λ u. w ++ u) split ∙ sym (append_assoc w _ _));
        line = omega (arith, p.line, lines-first b, ap (λ x. length (lines x)) r.block);
      }

  nothing_left : (b : Block) → goes_on b ≡ false → b ≡ empty
  nothing_left empty e = refl
  nothing_left (single c b) e = absurd (true≢false e)
  nothing_left (pair k i body b) e = absurd (true≢false e)

  pub record All (next : ℕ) (w : List Instruction) : Type 0 where
    pub code : w ≡ code K d (block_at list at)
    pub line : next ≡ at + length (lines (block_at list at))

  pub passed_all : (next : ℕ) (w : List Instruction) → Passed list count K d at next w → goes_on (block_at list next) ≡ false → All next w
  unfolding code
  passed_all next w p g =
      let e : block_at list next ≡ empty = nothing_left (block_at list next) g in
      record {
        code = sym (p.code ∙ (ap (λ x. w ++ code K d x) e ∙ append-nil w));
        line = omega (arith, p.line, ap (λ x. length (lines x)) e);
      }

-- The line or pair at a site, by the numbers of its line

kind_says : (l : Numbers) (k : Kind) (i : ℕ) → Says l (opens k i) → kind_opened l.kind ≡ k
kind_says l loop i s = let e : l.kind ≡ 4 = cc in rw e
kind_says l while i s = let e : l.kind ≡ 6 = cc in rw e

plain_says : (l : Numbers) (c : Plain) → Says l (plain c) → plain_of l ≡ c
plain_says l (clear i) s = let e : l.kind ≡ 1 = cc in rw e (cc)
plain_says l (increment i) s = let e : l.kind ≡ 2 = cc in rw e (cc)
plain_says l (copy i j) s = let e : l.kind ≡ 3 = cc in rw e (cc)

opens_index : (l : Numbers) (k : Kind) (i : ℕ) → Says l (opens k i) → l.index ≡ i
opens_index l loop i s = cc
opens_index l while i s = cc

module _ (list : List ℕ) (count K d at : ℕ) (s : Site list count K d at) (g : goes_on (block_at list at) ≡ true) where
  some_lines : (b : Block) → goes_on b ≡ true → 0 < length (lines (first b))
  some_lines empty e = absurd (true≢false (sym e))
  some_lines (single c b) e = omega arith
  some_lines (pair k i body b) e = omega arith

  -- There is such a line, of three numbers
  pub record Here : Type 0 where
    pub below : at < count
    pub numbers : 3 * at + 2 < length list
    pub within : at + length (lines (first (block_at list at))) ≤ count
    pub passes : 0 < length (lines (first (block_at list at)))
    pub instructions : length (code K d (first (block_at list at))) ≤ length (code K d (block_at list at))
    pub symbols : symbols_of (code K d (first (block_at list at))) ≤ symbols_of (code K d (block_at list at))

  pub here : Here
  here =
      let b : Block = block_at list at in
      let f : List Instruction = code K d (first b) in
      let r : List Instruction = code K d (rest b) in
      let x : _ = some_lines b g in
      let low : at < count = omega (arith, lines-first b, (bounds list count K d at s).ends) in
      record {
        below = low;
        numbers = omega (arith, numbers-count list count s.known.accepts);
        within = omega (arith, lines-first b, (bounds list count K d at s).ends);
        passes = x;
        instructions = omega (arith, ap length (code-first K d b), length-append f r);
        symbols = omega (arith, ap symbols_of (code-first K d b), weight_append f r);
      }

  pub record PlainHere (l : Numbers) : Type 0 where
    pub code : code K d (first (block_at list at)) ≡ plain_code K (plain_of l)
    pub line : length (lines (first (block_at list at))) ≡ 1

  pub plain_at : (l : Numbers) → l ≡ numbers_at list at → l.kind ≤ 3 → PlainHere l
  unfolding code
  plain_at l e h = rw e (go (plain_here list count K d at s g (rw e at h)))
    where
      go : Plainly list at → PlainHere (numbers_at list at)
      go p =
          let n : Numbers = numbers_at list at in
          record {
            code = rw (p.block, plain_says n p.command p.says) (append-nil (plain_code K p.command));
            line = rw p.block;
          }

  -- The code of a pair that line l opens, around that of its body
  pub record PairHere (l : Numbers) : Type 0 where
    pub site : Site list count K (deeper (kind_opened l.kind) d) (at + 1)
    pub code :
        let inner = code K (deeper (kind_opened l.kind) d) (block_at list (at + 1)) in
        let m = length inner in
        code K d (first (block_at list at)) ≡ front K d l m ++ (inner ++ back l.kind m)
    pub line : length (lines (first (block_at list at))) ≡ length (lines (block_at list (at + 1))) + 2

  pub pair-at : (l : Numbers) → l ≡ numbers_at list at → 3 < l.kind → PairHere l
  unfolding code
  pair-at l e h = rw e (go (pair_here list count K d at s g (rw e at h)))
    where
      go : Paired list at → PairHere (numbers_at list at)
      go p =
          let n : Numbers = numbers_at list at in
          let k : kind_opened n.kind ≡ p.kind = kind_says n p.kind p.index p.says in
          let inside : _ = body_site list count K d at s p.kind p.index p.body p.after p.block in
          record {
            site = rw k inside.site;
            code = rw (p.block, k, inside.block, opens_index n p.kind p.index p.says);
            line = rw (p.block, inside.block) (omega (arith, length-append (lines p.body) (closes p.kind p.index ∷ [])));
          }
