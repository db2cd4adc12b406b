-- Sites: the lines of a list and the block that begins at one of them; a pair's body and what follows a line or pair are sites too; and
-- what is counted at a site is small.
use mathlib.Core.Path.{◌≡◌, refl, sym, ap, ◌∙◌}
use mathlib.Core.Logic.{◌⊎◌, inl, inr, ⊎_elim}
use mathlib.Core.Bool.{true, false, false≢true}
use mathlib.Core.List.{List, [], ◌∷◌, ◌++◌, append_assoc, append-nil}
use Prim.Native.Nat.{ℕ, zero, suc, ◌+◌, ◌*◌, ◌≤◌, ◌<◌}
use native.Mathlib.Nat.{add-zero, mul-le-mul}
use native.Mathlib.Omega.{arith}
use lib.ListN.{length, get_or, drop, length-append, length-drop, drop_of_length-le}
use lib.Seq.{get_or-drop, drop-drop, drop-nil, drop-append_seam}
use Rattle.theory.specs.Limits
use Rattle.theory.specs.ProgramText.{Plain, clear, increment, copy, Kind, loop, while, Command, plain, opens, closes, numbers, list_of}
use Rattle.theory.specs.ProgramText.{variables, Block, empty, single, pair, lines, Blocks, opened_by, blocks, block_of}
use Rattle.theory.specs.Source.{deeper}
use Rattle.theory.specs.Translation.{code}
use Rattle.theory.specs.Claims.{Accepted}
use Rattle.theory.proofs.Nesting.{nest, reads_accepted, short, few_variables, well_nested, shallow}
use Rattle.theory.proofs.Sizes.{code-length, code_weight}
use Rattle.theory.proofs.Lists.{lists_round_trip}
use Rattle.theory.specs.ProgramText.{commands}
use Rattle.list.proofs.Lists.{list_length}
use Rattle.command.specs.declared.Numbers.{Numbers}
use Rattle.lengths.specs.Lengths.{symbols_of}
use Rattle.translation.specs.Sites.{numbers_at, Says, block_at, goes_on, first, rest, pairs_deep, Accepts, Known, Site}

-- An accepted list has three numbers a line

record Three (c : Command) : Type 0 where
  kind : ℕ
  index : ℕ
  source : ℕ
  are : numbers c ≡ kind ∷ index ∷ source ∷ []

three : (c : Command) → Three c
three (plain (clear i)) = record { kind = 1; index = i; source = 0; are = refl }
three (plain (increment i)) = record { kind = 2; index = i; source = 0; are = refl }
three (plain (copy i j)) = record { kind = 3; index = i; source = j; are = refl }
three (opens loop i) = record { kind = 4; index = i; source = 0; are = refl }
three (closes loop i) = record { kind = 5; index = i; source = 0; are = refl }
three (opens while i) = record { kind = 6; index = i; source = 0; are = refl }
three (closes while i) = record { kind = 7; index = i; source = 0; are = refl }

list_drop : (n : ℕ) (p : List Command) → drop (3 * n) (list_of p) ≡ list_of (drop n p)
unfolding list_of
list_drop zero p = refl
list_drop (suc n) [] = drop-nil (3 * suc n)
list_drop (suc n) (c ∷ p) =
    let m : 3 * suc n ≡ suc (suc (suc (3 * n))) = omega arith in
    rw ((three c).are, m) (list_drop n p)

module _ (list : List ℕ) (count : ℕ) (a : Accepts list count) where
  written : list_of (commands list) ≡ list
  written = lists_round_trip.1 list (commands list) a.read

  pub accepted : Accepted (commands list)
  accepted = reads_accepted.1 list (commands list) a.read

  pub numbers-count : length list ≡ 3 * count
  numbers-count = ap length (sym written) ∙ (list_length (commands list) ∙ ap (λ n. 3 * n) (sym a.counts))

  -- The numbers at a line are those of the command that stands there
  pub numbers_of-line : (at : ℕ) (c : Command) (p : List Command) → drop at (commands list) ≡ c ∷ p → Says (numbers_at list at) c
  unfolding list_of
  numbers_of-line at c p e =
      let t : Three c = three c in
      let from : drop (3 * at) list ≡ t.kind ∷ t.index ∷ t.source ∷ list_of p =
      ap (drop (3 * at)) (sym written) ∙ (list_drop at (commands list) ∙ (ap list_of e ∙ ap (λ r. r ++ list_of p) t.are)) in
      let number : (i : ℕ) → get_or list (3 * at + i) 0 ≡ get_or (t.kind ∷ t.index ∷ t.source ∷ list_of p) i 0 =
      λ i. sym (get_or-drop (3 * at) list i 0) ∙ ap (λ l. get_or l i 0) from in
      let k : get_or list (3 * at) 0 ≡ t.kind = rw add-zero at (number 0) in
      cc (t.are, k, number 1, number 2)

-- A block is the one that its lines begin with, where those that follow end or close a pair

blocks_begin : (b : Block) (q : List Command) → (blocks q).first ≡ empty
    → blocks (lines b ++ q) ≡ record { first = b; later = (blocks q).later }
unfolding blocks
blocks_begin empty q e = ap {B = Blocks} (λ x. record { first = x; later = (blocks q).later }) e
blocks_begin (single c b) q e = ap {B = Blocks} (λ r. record { first = single c r.first; later = r.later }) (blocks_begin b q e)
blocks_begin (pair k i body b) q e =
    let q' : List Command = closes k i ∷ (lines b ++ q) in
    ap (λ r. opened_by k i r.first r.later)
    (ap blocks (append_assoc (lines body) (closes k i ∷ lines b) q)
    ∙ (blocks_begin body q' refl
    ∙ ap {B = Blocks} (λ r. record { first = body; later = r.first ∷ r.later }) (blocks_begin b q e)))

block_begins : (list : List ℕ) (at : ℕ) (b : Block) (q : List Command) → (blocks q).first ≡ empty → drop at (commands list) ≡ lines b ++ q
    → block_at list at ≡ b
unfolding block_at
block_begins list at b q e h = ap (λ l. (blocks l).first) h ∙ ap (λ r. r.first) (blocks_begin b q e)

-- Whether a line or a pair begins at a line

record Standing (list : List ℕ) (at : ℕ) : Type 0 where
  command : Command
  after : List Command
  here : drop at (commands list) ≡ command ∷ after

standing : (list : List ℕ) (count at : ℕ) → Accepts list count → at < count → Standing list at
standing list count at a h = go (drop at (commands list)) refl
  where
    go : (l : List Command) → drop at (commands list) ≡ l → Standing list at
    go [] e = absurd (omega (arith, a.counts, length-drop at (commands list), ap length e))
    go (c ∷ p) e = record { command = c; after = p; here = e }

opened_goes_on : (k : Kind) (i : ℕ) (b : Block) (bs : List Block) → goes_on (opened_by k i b bs).first ≡ true
opened_goes_on k i b [] = refl
opened_goes_on k i b (b' ∷ bs) = refl

goes_on-at : (l : Numbers) (c : Command) (p : List Command) → Says l c → (l.kind ≡ 5 → ⊥) → (l.kind ≡ 7 → ⊥)
    → goes_on (blocks (c ∷ p)).first ≡ true
unfolding blocks
goes_on-at l (plain c) p s h g = refl
goes_on-at l (opens k i) p s h g = opened_goes_on k i (blocks p).first (blocks p).later
goes_on-at l (closes loop i) p s h g = let e : l.kind ≡ 5 = cc in absurd (h e)
goes_on-at l (closes while i) p s h g = let e : l.kind ≡ 7 = cc in absurd (g e)

plain_kind : (l : Numbers) (c : Plain) → Says l (plain c) → l.kind ≤ 3
plain_kind l (clear i) s = let e : l.kind ≡ 1 = cc in omega arith
plain_kind l (increment i) s = let e : l.kind ≡ 2 = cc in omega arith
plain_kind l (copy i j) s = let e : l.kind ≡ 3 = cc in omega arith

opens_kind : (l : Numbers) (k : Kind) (i : ℕ) → Says l (opens k i) → (l.kind ≡ 4) ⊎ (l.kind ≡ 6)
opens_kind l loop i s = inl (cc)
opens_kind l while i s = inr (cc)

stops_at : (l : Numbers) (c : Command) (p : List Command) → Says l c → (l.kind ≡ 5) ⊎ (l.kind ≡ 7)
    → goes_on (blocks (c ∷ p)).first ≡ false
unfolding blocks
stops_at l (plain c) p s h = absurd (⊎_elim (λ e. omega (arith, plain_kind l c s)) (λ e. omega (arith, plain_kind l c s)) h)
stops_at l (opens k i) p s h =
    let other : (n : ℕ) → l.kind ≡ n → (n ≡ 4) ⊎ (n ≡ 6) → ⊥ =
    λ n e. ⊎_elim (λ f. ⊎_elim (λ g. omega arith) (λ g. omega arith) h) (λ f. ⊎_elim (λ g. omega arith) (λ g. omega arith) h) in
    absurd (other l.kind refl (opens_kind l k i s))
stops_at l (closes k i) p s h = refl

module _ (list : List ℕ) (count at : ℕ) (a : Accepts list count) where
  pub begins_more : at < count → ((numbers_at list at).kind ≡ 5 → ⊥) → ((numbers_at list at).kind ≡ 7 → ⊥)
      → true ≡ goes_on (block_at list at)
  unfolding block_at
  begins_more h f g =
      let t : Standing list at = standing list count at a h in
      let says : Says (numbers_at list at) t.command = numbers_of-line list count a at t.command t.after t.here in
      sym (ap (λ l. goes_on (blocks l).first) t.here ∙ goes_on-at (numbers_at list at) t.command t.after says f g)

  pub begins_none : at < count → ((numbers_at list at).kind ≡ 5) ⊎ ((numbers_at list at).kind ≡ 7) → false ≡ goes_on (block_at list at)
  unfolding block_at
  begins_none h f =
      let t : Standing list at = standing list count at a h in
      let says : Says (numbers_at list at) t.command = numbers_of-line list count a at t.command t.after t.here in
      sym (ap (λ l. goes_on (blocks l).first) t.here ∙ stops_at (numbers_at list at) t.command t.after says f)

  pub begins_end : count ≤ at → false ≡ goes_on (block_at list at)
  unfolding block_at blocks
  begins_end h =
      let none : drop at (commands list) ≡ [] = drop_of_length-le (commands list) {i = at} (omega (arith, a.counts)) in
      sym (ap (λ l. goes_on (blocks l).first) none)

-- The rest of a block, and a pair's body

lines-first : (b : Block) → lines b ≡ lines (first b) ++ lines (rest b)
lines-first empty = refl
lines-first (single c b) = refl
lines-first (pair k i body b) = rw append_assoc

-- The depth is the one that `theory` counts by
deep_nest : (b : Block) → pairs_deep b ≡ nest b
deep_nest empty = refl
deep_nest (single c b) = deep_nest b
deep_nest (pair k i body b) = omega (arith, deep_nest body, deep_nest b)

deep_rest : (b : Block) → pairs_deep (rest b) ≤ pairs_deep b
deep_rest empty = omega arith
deep_rest (single c b) = omega arith
deep_rest (pair k i body b) = omega arith

deep_body : (k : Kind) (d i : ℕ) (body b : Block) → d + pairs_deep (pair k i body b) ≤ Limits.most_open
    → deeper k d + pairs_deep body ≤ Limits.most_open
deep_body loop d i body b h = omega arith
deep_body while d i body b h = omega arith

-- A site, and the block that stands there
pub record Stands (list : List ℕ) (count K d at : ℕ) (b : Block) : Type 0 where
  pub site : Site list count K d at
  pub block : block_at list at ≡ b

module _ (list : List ℕ) (count K : ℕ) where
  stands : (d at : ℕ) (b : Block) (later : List Command) → Known list count K → at ≤ count
      → drop at (commands list) ≡ lines b ++ later → (blocks later).first ≡ empty → d + pairs_deep b ≤ Limits.most_open
      → Stands list count K d at b
  stands d at b later k w h s r =
      let e : block_at list at ≡ b = block_begins list at b later s h in
      record {
        site = record { known = k; within = w; later = later; split = rw e h; stops = s; room = rw e r };
        block = e;
      }

  ends : (d at : ℕ) → (s : Site list count K d at) → at + length (lines (block_at list at)) + length s.later ≡ count
  ends d at s =
      omega (
        arith,
        s.within,
        s.known.accepts.counts,
        length-drop at (commands list),
        ap length s.split,
        length-append (lines (block_at list at)) s.later,
      )

  pub whole_site : Known list count K → Stands list count K 0 0 (block_of (commands list))
  unfolding blocks
  whole_site k =
      let p : List Command = commands list in
      let ok : Accepted p = accepted list count k.accepts in
      let e : p ≡ lines (block_of p) ++ [] = sym (append-nil (lines (block_of p)) ∙ well_nested p ok) in
      stands 0 0 (block_of p) [] k (omega arith) e refl (omega (arith, shallow p ok, deep_nest (block_of p)))

  pub body_site : (d at : ℕ) → Site list count K d at → (k : Kind) (i : ℕ) (body b : Block) → block_at list at ≡ pair k i body b
      → Stands list count K (deeper k d) (at + 1) body
  unfolding blocks
  body_site d at s k i body b e =
      let q : List Command = closes k i ∷ (lines b ++ s.later) in
      let here : drop at (commands list) ≡ opens k i ∷ (lines body ++ q) =
      s.split ∙ (ap (λ x. lines x ++ s.later) e ∙ ap {B = List Command} (λ l. opens k i ∷ l) (append_assoc (lines body) _ _)) in
      let below : at + 1 ≤ count = omega (arith, ends d at s, ap (λ x. length (lines x)) e) in
      let room : d + pairs_deep (pair k i body b) ≤ Limits.most_open = rw e at s.room in
      stands (deeper k d) (at + 1) body q s.known below (sym (drop-drop 1 at (commands list)) ∙ ap (drop 1) here) refl
      (deep_body k d i body b room)

  pub rest_site : (d at n : ℕ) → Site list count K d at → n ≡ at + length (lines (first (block_at list at)))
      → Stands list count K d n (rest (block_at list at))
  rest_site d at n s e =
      let b : Block = block_at list at in
      let f : List Command = lines (first b) in
      let here : drop at (commands list) ≡ f ++ (lines (rest b) ++ s.later) =
      s.split ∙ (ap (λ l. l ++ s.later) (lines-first b) ∙ append_assoc f _ _) in
      let there : drop (at + length f) (commands list) ≡ lines (rest b) ++ s.later =
      sym (drop-drop (length f) at (commands list)) ∙ (ap (drop (length f)) here ∙ drop-append_seam f _) in
      let l : length (lines b) ≡ length f + length (lines (rest b)) = ap length (lines-first b) ∙ length-append f _ in
      rw e (stands d (at + length f) (rest b) s.later s.known (omega (arith, ends d at s)) there s.stops
      (omega (arith, s.room, deep_rest b)))

-- What is counted at a site is small

variables-drop : (n : ℕ) (p : List Command) → variables (drop n p) ≤ variables p
variables-drop zero p = omega arith
variables-drop (suc n) [] = omega arith
variables-drop (suc n) (c ∷ p) = omega (arith, variables-drop n p)

variables-front : (p q : List Command) → variables p ≤ variables (p ++ q)
variables-front [] q = omega arith
variables-front (c ∷ p) q = omega (arith, variables-front p q)

-- As many variables, or as high an index plus 1, as are allowed
abbrev Few : ℕ → Type 0
Few n = n ≤ suc Limits.most_index

pub record Bounds (list : List ℕ) (count K d at : ℕ) : Type 0 where
  pub few_lines : count ≤ Limits.most_lines
  pub few_variables : Few K
  pub shallow : d ≤ Limits.most_open
  pub ends : at + length (lines (block_at list at)) ≤ count
  pub instructions : length (code K d (block_at list at)) ≤ Limits.most_instructions
  pub symbols : symbols_of (code K d (block_at list at)) ≤ Limits.most_symbols

pub bounds : (list : List ℕ) (count K d at : ℕ) → Site list count K d at → Bounds list count K d at
bounds list count K d at s =
    let p : List Command = commands list in
    let b : Block = block_at list at in
    let ok : Accepted p = accepted list count s.known.accepts in
    let few : count ≤ Limits.most_lines = omega (arith, s.known.accepts.counts, short p ok) in
    let high : Few K = omega (arith, s.known.names, few_variables p ok) in
    let named : Few (variables (lines b)) =
    omega (arith, few_variables p ok, variables-drop at p, ap variables s.split, variables-front (lines b) s.later) in
    let short_enough : length (lines b) ≤ 512 = omega (arith, ends list count K d at s) in
    let light : symbols_of (code K d b) ≤ length (lines b) * (251 + 24 * pairs_deep b) =
    code_weight K d (pairs_deep b) b high named (omega (arith, s.room)) (omega (arith, deep_nest b)) in
    let each : 251 + 24 * pairs_deep b ≤ 635 = omega (arith, s.room) in
    let product : length (lines b) * (251 + 24 * pairs_deep b) ≤ 512 * 635 = mul-le-mul short_enough each in
    record {
      few_lines = few;
      few_variables = high;
      shallow = omega (arith, s.room);
      ends = omega (arith, ends list count K d at s);
      instructions = omega (arith, code-length K d b);
      symbols = omega arith;
    }

-- The line or pair that begins at a site, and its numbers

pub record Plainly (list : List ℕ) (at : ℕ) : Type 0 where
  pub command : Plain
  pub after : Block
  pub block : block_at list at ≡ single command after
  pub says : Says (numbers_at list at) (plain command)

pub record Paired (list : List ℕ) (at : ℕ) : Type 0 where
  pub kind : Kind
  pub index : ℕ
  pub body : Block
  pub after : Block
  pub block : block_at list at ≡ pair kind index body after
  pub says : Says (numbers_at list at) (opens kind index)

module _ (list : List ℕ) (count K d at : ℕ) (s : Site list count K d at) (g : goes_on (block_at list at) ≡ true) where
  says_first : (c : Command) (p : List Command) (b : Block) → block_at list at ≡ b → lines b ≡ c ∷ p → Says (numbers_at list at) c
  says_first c p b e l =
      numbers_of-line list count s.known.accepts at c (p ++ s.later) (s.split ∙ ap (λ x. x ++ s.later) (ap lines e ∙ l))

  pub plain_here : (numbers_at list at).kind ≤ 3 → Plainly list at
  plain_here h = go (block_at list at) refl
    where
      go : (b : Block) → block_at list at ≡ b → Plainly list at
      go empty e = absurd (false≢true (ap goes_on (sym e) ∙ g))
      go (single c b) e = record { command = c; after = b; block = e; says = says_first (plain c) (lines b) (single c b) e refl }
      go (pair k i body b) e =
          let says : Says (numbers_at list at) (opens k i) = says_first (opens k i) _ (pair k i body b) e refl in
          absurd (⊎_elim (λ f. omega arith) (λ f. omega arith) (opens_kind (numbers_at list at) k i says))

  pub pair_here : 3 < (numbers_at list at).kind → Paired list at
  pair_here h = go (block_at list at) refl
    where
      go : (b : Block) → block_at list at ≡ b → Paired list at
      go empty e = absurd (false≢true (ap goes_on (sym e) ∙ g))
      go (single c b) e = absurd (omega (arith, plain_kind (numbers_at list at) c (says_first (plain c) (lines b) (single c b) e refl)))
      go (pair k i body b) e =
          record {
            kind = k;
            index = i;
            body = body;
            after = b;
            block = e;
            says = says_first (opens k i) (lines body ++ (closes k i ∷ lines b)) (pair k i body b) e refl;
          }
