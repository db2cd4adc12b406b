-- The lines of a block: at each line its partner, and the number of loops around it, after it and in its body.
use mathlib.Core.Path.{◌≡◌, refl, sym, ap, ◌∙◌, subst}
use mathlib.Core.Option.{some, none-ne-some, some-injective}
use mathlib.Core.List.{List, [], ◌∷◌, ◌++◌, append_assoc}
use Prim.Native.Nat.{ℕ, zero, suc, ◌+◌, ◌≤◌, ◌<◌}
use native.Mathlib.Nat.{add-zero, suc-add}
use native.Mathlib.Omega.{arith}
use lib.ListN.{length, get_elem?, take, drop, length-append, length-take}
use lib.Seq.{take-length}
use Rattle.theory.specs.Basics.{at}
use Rattle.theory.specs.ProgramText.{Kind, Plain, Command, plain, opens, closes, indices, above, variables}
use Rattle.theory.specs.ProgramText.{Opening, open_next, Block, empty, single, pair, lines}
use Rattle.theory.specs.Source.{ahead, closing, open_after, open_at, innermost, opening, deeper, loops, depth}
use Rattle.theory.proofs.Cells.{at-within, Sits, sits_left, sits_right, sits_self}

-- What holds of a block that begins at a line, told of every line of the block

-- A property of blocks and the lines where they begin that goes on to the blocks within
pub record Inherited (Q : ℕ → Block → Type 0) : Type 0 where
  pub rest : (n : ℕ) (c : Plain) (b : Block) → Q n (single c b) → Q (suc n) b
  pub body : (n : ℕ) (k : Kind) (i : ℕ) (body b : Block) → Q n (pair k i body b) → Q (suc n) body
  pub next : (n : ℕ) (k : Kind) (i : ℕ) (body b : Block) → Q n (pair k i body b) → Q (suc (suc n + length (lines body))) b

module _ (Q : ℕ → Block → Type 0) where
  -- Of line n, a plain line or a line of a pair: the block that begins with it
  abbrev pub Spot : ℕ → Command → Type 0
  Spot n (plain c) = (b : Block) × Q n (single c b)
  Spot n (opens k i) = (body : Block) × (b : Block) × Q n (pair k i body b)
  Spot n (closes k i) = (o : ℕ) × (body : Block) × (b : Block) × (n ≡ suc o + length (lines body)) × Q o (pair k i body b)

  abbrev Spots : ℕ → List Command → Type 0
  Spots n [] = Unit {0}
  Spots n (c ∷ l) = Spot n c × Spots (suc n) l

  spots_append : (n : ℕ) (l r : List Command) → Spots n l → Spots (n + length l) r → Spots n (l ++ r)
  spots_append n [] r h g = subst (λ k. Spots k r) (add-zero n) g
  spots_append n (c ∷ l) r h g = (h.0, spots_append (suc n) l r h.1 (subst (λ k. Spots k r) (omega arith) g))

  spot_at : (l : List Command) (n k : ℕ) (c : Command) → Spots n l → get_elem? l k ≡ some c → Spot (n + k) c
  spot_at [] n k c h e = absurd (none-ne-some c e)
  spot_at (x ∷ l) n zero c h e = subst (Spot (n + 0)) (some-injective x c e) (subst (λ j. Spot j x) (omega arith) h.0)
  spot_at (x ∷ l) n (suc k) c h e = subst (λ j. Spot j c) (omega arith) (spot_at l (suc n) k c h.1 e)

  spots : Inherited Q → (b : Block) (n : ℕ) → Q n b → Spots n (lines b)
  spots I empty n q = tt
  spots I (single c b) n q = ((b, q), spots I b (suc n) (I.rest n c b q))
  spots I (pair k i body b) n q = (
    (body, b, q),
    spots_append (suc n) (lines body) (closes k i ∷ lines b)
        (spots I body (suc n) (I.body n k i body b q))
        ((n, body, b, refl, q), spots I b (suc (suc n + length (lines body))) (I.next n k i body b q)),
  )

  pub spot : Inherited Q → (b : Block) → Q 1 b → (n : ℕ) (c : Command) → at (lines b) n ≡ some c → Spot n c
  spot I b q zero c e = absurd (none-ne-some c e)
  spot I b q (suc n) c e = subst (λ j. Spot j c) (omega arith) (spot_at (lines b) 1 n c (spots I b 1 q) e)

-- Lines passed over

open_after-append : (p q : List Command) (n : ℕ) (os : List Opening)
    → open_after (p ++ q) n os ≡ open_after q (n + length p) (open_after p n os)
open_after-append [] q n os = rw add-zero
open_after-append (c ∷ p) q n os =
    let os' : List Opening = open_next n os c in
    open_after-append p q (suc n) os' ∙ ap (λ k. open_after q k (open_after p (suc n) os')) (omega arith)

-- A block leaves open what was open, and is passed over in the search for a closing line
balanced : (b : Block) (n : ℕ) (os : List Opening) → open_after (lines b) n os ≡ os
balanced empty n os = refl
balanced (single c b) n os = balanced b (suc n) os
balanced (pair k i body b) n os =
    let c : ℕ = suc n + length (lines body) in
    let inside : List Opening = record { line = n; kind = k; index = i } ∷ os in
    open_after-append (lines body) (closes k i ∷ lines b) (suc n) inside
    ∙ (ap (λ o. open_after (lines b) (suc c) (open_next c o (closes k i))) (balanced body (suc n) inside) ∙ balanced b (suc c) os)

passed : (b : Block) (l : List Command) (n : ℕ) → ahead (lines b ++ l) n ≡ length (lines b) + ahead l n
passed empty l n = omega arith
passed (single c b) l n = omega (arith, passed b l n)
passed (pair k i body b) l n =
    rw (append_assoc (lines body) (closes k i ∷ lines b) l)
    (omega (
      arith,
      passed body (closes k i ∷ (lines b ++ l)) (suc n),
      passed b l n,
      length-append (lines body) (closes k i ∷ lines b),
    ))

-- One line on
pub take_next : {A : Type 0} (p : List A) (n : ℕ) (c : A) → get_elem? p n ≡ some c → take (suc n) p ≡ take n p ++ (c ∷ [])
take_next [] n c e = absurd (none-ne-some c e)
take_next {A} (x ∷ p) zero c e = ap {B = List A} (λ y. y ∷ []) (some-injective x c e)
take_next {A} (x ∷ p) (suc n) c e = ap {B = List A} (λ y. x ∷ y) (take_next p n c e)

drop-next : {A : Type 0} (p : List A) (n : ℕ) (c : A) → get_elem? p n ≡ some c → drop n p ≡ c ∷ drop (suc n) p
drop-next [] n c e = absurd (none-ne-some c e)
drop-next {A} (x ∷ p) zero c e = ap {B = List A} (λ y. y ∷ p) (some-injective x c e)
drop-next (x ∷ p) (suc n) c e = drop-next p n c e

pub slide : (n k : ℕ) → n + suc k ≡ suc n + k
slide n k = omega arith

drop-along : {A : Type 0} (p l : List A) (n : ℕ) → Sits p (suc n) l → drop n p ≡ l ++ drop (n + length l) p
drop-along p [] n h = ap (λ k. drop k p) (sym (add-zero n))
drop-along {A} p (c ∷ l) n h =
    drop-next p n c h.0
    ∙ ap {B = List A} (λ r. c ∷ r) (drop-along p l (suc n) h.1 ∙ ap (λ k. l ++ drop k p) (sym (slide n (length l))))

module _ (p : List Command) where
  -- The pairs open after one line more
  pub open_on : (n : ℕ) (c : Command) → at p n ≡ some c → open_at p (suc n) ≡ open_next n (open_at p n) c
  unfolding open_at
  open_on zero c e = absurd (none-ne-some c e)
  open_on (suc n) c e =
      let inside : (1 ≤ suc n) × (suc n ≤ length p) = at-within p (suc n) c e in
      let before : length (take n p) ≡ n = rw length-take (omega (arith, inside.1)) in
      ap (λ l. open_after l 1 []) (take_next p n c e)
      ∙ (open_after-append (take n p) (c ∷ []) 1 [] ∙ ap (λ k. open_after (c ∷ []) k (open_after (take n p) 1 [])) (omega arith))

  open_along : (l : List Command) (n : ℕ) → Sits p n l → open_at p (n + length l) ≡ open_after l n (open_at p n)
  open_along [] n h = ap (open_at p) (add-zero n)
  open_along (c ∷ l) n h =
      ap (open_at p) (omega arith)
      ∙ (open_along l (suc n) h.1
      ∙ ap (open_after l (suc n)) (open_on n c h.0))

  pub plain_depth : (n : ℕ) (c : Plain) → at p n ≡ some (plain c) → depth p (suc n) ≡ depth p n
  unfolding depth
  plain_depth n c e = ap loops (open_on n (plain c) e)

-- The pair of kind k on variable i whose lines are o and c
pub record Partners (p : List Command) (o c : ℕ) (k : Kind) (i : ℕ) : Type 0 where
  pub open_line : at p o ≡ some (opens k i)
  pub close_line : at p c ≡ some (closes k i)
  pub in_order : o < c
  pub closing_is : closing p o ≡ c
  pub opening_is : opening p c ≡ o
  pub body_open : open_at p (suc o) ≡ record { line = o; kind = k; index = i } ∷ open_at p o
  pub close_open : open_at p c ≡ record { line = o; kind = k; index = i } ∷ open_at p o
  pub after_open : open_at p (suc c) ≡ open_at p o
  pub body_depth : depth p (suc o) ≡ deeper k (depth p o)
  pub close_depth : depth p c ≡ deeper k (depth p o)
  pub after-depth : depth p (suc c) ≡ depth p o

-- of a pair whose lines stand in p from line n on
module _ (p : List Command) (n : ℕ) (k : Kind) (i : ℕ) (body b : Block) (h : Sits p n (lines (pair k i body b))) where
  abbrev c : ℕ
  c = suc n + length (lines body)

  pub body_lines : Sits p (suc n) (lines body)
  body_lines = sits_left p (suc n) (lines body) (closes k i ∷ lines b) h.1

  pub close_lines : Sits p c (closes k i ∷ lines b)
  close_lines = sits_right p (suc n) (lines body) (closes k i ∷ lines b) h.1

  open_body : open_at p (suc n) ≡ record { line = n; kind = k; index = i } ∷ open_at p n
  open_body = open_on p n (opens k i) h.0

  open_close : open_at p c ≡ record { line = n; kind = k; index = i } ∷ open_at p n
  open_close = open_along p (lines body) (suc n) body_lines ∙ (balanced body (suc n) (open_at p (suc n)) ∙ open_body)

  open_past : open_at p (suc c) ≡ open_at p n
  open_past = open_on p c (closes k i) close_lines.0 ∙ ap (λ os. open_next c os (closes k i)) open_close

  closes_at : closing p n ≡ c
  unfolding closing
  closes_at =
      let m : ℕ = length (lines body) in
      let closer : at p (suc (n + m)) ≡ some (closes k i) = subst (λ r. at p r ≡ some (closes k i)) (suc-add n m) close_lines.0 in
      ap (◌+◌ (suc n))
      (ap (λ l. ahead l 0) (drop-along p (lines body) n body_lines)
      ∙ (passed body (drop (n + m) p) 0
      ∙ (ap (λ l. m + ahead l 0) (drop-next p (n + m) (closes k i) closer) ∙ add-zero m)))

  pub partners_here : Partners p n c k i
  unfolding opening depth
  partners_here = record {
    open_line = h.0;
    close_line = close_lines.0;
    in_order = omega arith;
    closing_is = closes_at;
    opening_is = ap innermost open_close;
    body_open = open_body;
    close_open = open_close;
    after_open = open_past;
    body_depth = ap loops open_body;
    close_depth = ap loops open_close;
    after-depth = ap loops open_past;
  }

-- Where the lines of a block stand, those of the blocks within it stand
abbrev pub Stands : List Command → ℕ → Block → Type 0
Stands p n b = Sits p n (lines b)

pub stands_inherited : (p : List Command) → Inherited (Stands p)
stands_inherited p = record {
  rest = λ n c b h. h.1;
  body = body_lines p;
  next = λ n k i body b h. (close_lines p n k i body b h).1;
}

-- What there is to know of line n: the loops around it and after it, or its partner
abbrev pub Known : List Command → ℕ → Command → Type 0
Known p n (plain c) = depth p (suc n) ≡ depth p n
Known p n (opens k i) = (c : ℕ) × Partners p n c k i
Known p n (closes k i) = (o : ℕ) × Partners p o n k i

pub known : (b : Block) (n : ℕ) (c : Command) → at (lines b) n ≡ some c → Known (lines b) n c
known b n c e = go c e (spot (Stands (lines b)) (stands_inherited (lines b)) b (sits_self (lines b)) n c e)
  where
    go : (c : Command) → at (lines b) n ≡ some c → Spot (Stands (lines b)) n c → Known (lines b) n c
    go (plain c) e s = plain_depth (lines b) n c e
    go (opens k i) e s = (suc n + length (lines s.0), partners_here (lines b) n k i s.0 s.1 s.2)
    go (closes k i) e s =
        (s.0, subst (λ l. Partners (lines b) s.0 l k i) (sym s.3) (partners_here (lines b) s.0 k i s.1 s.2 s.4))

-- No loop is around the first line, nor around the line after the last
pub depth-start : (p : List Command) → depth p 1 ≡ 0
unfolding depth open_at
depth-start p = refl

pub depth_end : (b : Block) → depth (lines b) (suc (length (lines b))) ≡ 0
unfolding depth open_at
depth_end b = ap (λ l. loops (open_after l 1 [])) (take-length (lines b)) ∙ ap loops (balanced b 1 [])

-- Every index named is below K
below_variables : (p : List Command) (n : ℕ) (c : Command) → get_elem? p n ≡ some c → above (indices c) ≤ variables p
below_variables [] n c e = absurd (none-ne-some c e)
below_variables (x ∷ p) zero c e = rw (← some-injective x c e) (omega arith)
below_variables (x ∷ p) (suc n) c e = omega (arith, below_variables p n c e)

pub named_below : (p : List Command) (n : ℕ) (c : Command) → at p n ≡ some c → above (indices c) ≤ variables p
named_below p zero c e = absurd (none-ne-some c e)
named_below p (suc n) c e = below_variables p n c e
