-- Where the code of each line stands in the word.
use mathlib.Core.Path.{◌≡◌, refl, sym, ap, ◌∙◌, subst}
use mathlib.Core.Option.{some, none-ne-some}
use mathlib.Core.List.{List, [], ◌∷◌, ◌++◌}
use Prim.Native.Nat.{ℕ, zero, suc, pred, ◌+◌}
use native.Mathlib.Nat.{add-zero}
use native.Mathlib.Omega.{arith}
use lib.ListN.{length, take, length-append}
use lib.Seq.{take-length}
use Rattle.theory.specs.Basics.{at}
use Rattle.theory.specs.ProgramText.{Kind, loop, while, Plain, Command, plain, opens, closes, variables}
use Rattle.theory.specs.ProgramText.{Block, empty, single, pair, lines}
use Rattle.theory.specs.Source.{deeper, depth}
use Rattle.theory.specs.Word.{Instruction, forward}
use Rattle.theory.specs.Translation.{plain_code, before_body, after_body, code, word}
use Rattle.theory.proofs.Cells.{Sits, sits_left, sits_right, sits_later, sits_self}
use Rattle.theory.proofs.Partners.{Inherited, Spot, spot, take_next, slide}
use Rattle.theory.proofs.Partners.{Partners, plain_depth, partners_here, body_lines, close_lines, depth-start}

-- The instructions before a pair's body
abbrev pub before-size : Kind → ℕ
before-size loop = 11
before-size while = 3

before-length : (K d : ℕ) (k : Kind) (i m : ℕ) → length (before_body K d k i m) ≡ before-size k
before-length K d loop i m = refl
before-length K d while i m = refl

-- The instructions of a line, and of lines
size : ℕ → Command → ℕ
size K (plain c) = length (plain_code K c)
size K (opens k i) = before-size k
size K (closes k i) = 1

sizes : ℕ → List Command → ℕ
sizes K [] = 0
sizes K (c ∷ p) = size K c + sizes K p

-- The place of the first instruction of line n: behind F1 and the code of the lines before
pub place : ℕ → List Command → ℕ → ℕ
place K p n = 2 + sizes K (take (pred n) p)

sizes-append : (K : ℕ) (p q : List Command) → sizes K (p ++ q) ≡ sizes K p + sizes K q
unfolding sizes
sizes-append K [] q = omega arith
sizes-append K (c ∷ p) q = omega (arith, sizes-append K p q)

-- The code of a block is as long as that of its lines
sized : (K d : ℕ) (b : Block) → sizes K (lines b) ≡ length (code K d b)
unfolding sizes size code
sized K d empty = refl
sized K d (single c b) = omega (arith, sized K d b, length-append (plain_code K c) (code K d b))
sized K d (pair k i body b) =
    let inner : List Instruction = code K (deeper k d) body in
    let front : List Instruction = before_body K d k i (length inner) in
    let back : List Instruction = after_body k (length inner) ∷ code K d b in
    omega (
      arith,
      sized K (deeper k d) body,
      sized K d b,
      sizes-append K (lines body) (closes k i ∷ lines b),
      length-append front (inner ++ back),
      length-append inner back,
      before-length K d k i (length inner),
    )

module _ (K : ℕ) (p : List Command) where
  place-next : (n : ℕ) (c : Command) → at p n ≡ some c → place K p (suc n) ≡ place K p n + size K c
  unfolding place sizes
  place-next zero c e = absurd (none-ne-some c e)
  place-next (suc n) c e = rw (take_next p n c e) (omega (arith, sizes-append K (take n p) (c ∷ [])))

  place-along : (l : List Command) (n : ℕ) → Sits p n l → place K p (n + length l) ≡ place K p n + sizes K l
  unfolding sizes
  place-along [] n h = ap (place K p) (add-zero n) ∙ sym (add-zero (place K p n))
  place-along (c ∷ l) n h = ap (place K p) (slide n (length l)) ∙ omega (arith, place-along l (suc n) h.1, place-next n c h.0)

-- The code of the pair of kind k on variable i whose lines are o and c, around a body of `size` instructions
pub record Pair (K : ℕ) (p : List Command) (w : List Instruction) (o c : ℕ) (k : Kind) (i : ℕ) : Type 0 where
  pub partners : Partners p o c k i
  pub size : ℕ
  pub before-code : Sits w (place K p o) (before_body K (depth p o) k i size)
  pub after-code : at w (place K p c) ≡ some (after_body k size)
  pub body_place : place K p (suc o) ≡ place K p o + before-size k
  pub close_place : place K p c ≡ place K p (suc o) + size
  pub after-place : place K p (suc c) ≡ suc (place K p c)

pub record Line (K : ℕ) (p : List Command) (w : List Instruction) (n : ℕ) (c : Plain) : Type 0 where
  pub line_code : Sits w (place K p n) (plain_code K c)
  pub line-place : place K p (suc n) ≡ place K p n + length (plain_code K c)
  pub line-depth : depth p (suc n) ≡ depth p n

module _ (K : ℕ) (p : List Command) (w : List Instruction) where
  -- What there is to know of line n
  abbrev pub Site : ℕ → Command → Type 0
  Site n (plain c) = Line K p w n c
  Site n (opens k i) = (c : ℕ) × Pair K p w n c k i
  Site n (closes k i) = (o : ℕ) × Pair K p w o n k i

  -- The lines of a block stand in the program, and its code in the word
  abbrev Coded : ℕ → Block → Type 0
  Coded n b = Sits p n (lines b) × Sits w (place K p n) (code K (depth p n) b)

  module _ (n : ℕ) (c : Plain) (b : Block) (h : Coded n (single c b)) where
    line_here : Line K p w n c
    unfolding size code
    line_here = record {
      line_code = sits_left w (place K p n) (plain_code K c) (code K (depth p n) b) h.1;
      line-place = place-next K p n (plain c) h.0.0;
      line-depth = plain_depth p n c h.0.0;
    }

    rest_coded : Coded (suc n) b
    unfolding code
    rest_coded = (
      h.0.1,
      rw (line_here.line-depth, line_here.line-place) (sits_right w (place K p n) (plain_code K c) (code K (depth p n) b) h.1),
    )

  module _ (n : ℕ) (k : Kind) (i : ℕ) (body b : Block) (h : Coded n (pair k i body b)) where
    abbrev c : ℕ
    c = suc n + length (lines body)

    abbrev both : Partners p n c k i
    both = partners_here p n k i body b h.0

    inner : List Instruction
    inner = code K (deeper k (depth p n)) body

    front : List Instruction
    front = before_body K (depth p n) k i (length inner)

    back : List Instruction
    back = after_body k (length inner) ∷ code K (depth p n) b

    pair_code : Sits w (place K p n) (front ++ (inner ++ back))
    unfolding code inner front back
    pair_code = h.1

    to_body : place K p (suc n) ≡ place K p n + length front
    unfolding size front
    to_body = place-next K p n (opens k i) h.0.0 ∙ ap (◌+◌ (place K p n)) (sym (before-length K (depth p n) k i (length inner)))

    to_close : place K p c ≡ place K p (suc n) + length inner
    unfolding inner
    to_close =
        place-along K p (lines body) (suc n) (body_lines p n k i body b h.0)
        ∙ ap (◌+◌ (place K p (suc n))) (sized K (deeper k (depth p n)) body)

    past_close : place K p (suc c) ≡ suc (place K p c)
    unfolding size
    past_close = place-next K p c (closes k i) (close_lines p n k i body b h.0).0 ∙ omega arith

    body_code : Sits w (place K p (suc n)) (inner ++ back)
    body_code = rw to_body (sits_right w (place K p n) front (inner ++ back) pair_code)

    close_code : Sits w (place K p c) back
    close_code = rw to_close (sits_right w (place K p (suc n)) inner back body_code)

    pair_here : Pair K p w n c k i
    unfolding front back
    pair_here = record {
      partners = both;
      size = length inner;
      before-code = sits_left w (place K p n) front (inner ++ back) pair_code;
      after-code = close_code.0;
      body_place = to_body ∙ ap (◌+◌ (place K p n)) (before-length K (depth p n) k i (length inner));
      close_place = to_close;
      after-place = past_close;
    }

    body_coded : Coded (suc n) body
    unfolding inner
    body_coded = (body_lines p n k i body b h.0, rw both.body_depth (sits_left w (place K p (suc n)) inner back body_code))

    next_coded : Coded (suc c) b
    unfolding back
    next_coded = ((close_lines p n k i body b h.0).1, rw (both.after-depth, past_close) close_code.1)

  coded_inherited : Inherited Coded
  coded_inherited = record { rest = rest_coded; body = body_coded; next = next_coded }

  site_of : (n : ℕ) (c : Command) → Spot Coded n c → Site n c
  site_of n (plain c) s = line_here n c s.0 s.1
  site_of n (opens k i) s = (suc n + length (lines s.0), pair_here n k i s.0 s.1 s.2)
  site_of n (closes k i) s = (s.0, subst (λ l. Pair K p w s.0 l k i) (sym s.3) (pair_here s.0 k i s.1 s.2 s.4))

-- Of a whole program and its word

pub place-start : (K : ℕ) (p : List Command) → place K p 1 ≡ 2
unfolding place sizes
place-start K p = refl

pub place_end : (b : Block) → place (variables (lines b)) (lines b) (suc (length (lines b))) ≡ suc (length (word b))
unfolding place word
place_end b = rw take-length (omega (arith, sized (variables (lines b)) 0 b))

pub site : (b : Block) (n : ℕ) (c : Command) → at (lines b) n ≡ some c → Site (variables (lines b)) (lines b) (word b) n c
unfolding word
site b n c e =
    let K : ℕ = variables (lines b) in
    let all : List Instruction = code K 0 b in
    let whole : Sits (word b) 2 all = sits_later (forward 1) all 1 all (sits_self all) in
    let start : Coded K (lines b) (word b) 1 b = (sits_self (lines b), rw (place-start K (lines b), depth-start (lines b)) whole) in
    site_of K (lines b) (word b) n c (spot (Coded K (lines b) (word b)) (coded_inherited K (lines b) (word b)) b start n c e)
