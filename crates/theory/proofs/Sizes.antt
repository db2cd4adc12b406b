-- Sizes of words: how many symbols and instructions a block's code has, as sums over the block, and the limits that the word of an
-- accepted program keeps.
use mathlib.Core.Path.{◌≡◌, refl, ap, ◌∙◌}
use mathlib.Core.Bool.{Bool, true, false, cond, ◌&&◌, false≢true}
use mathlib.Core.Option.{none}
use mathlib.Core.List.{List, [], ◌∷◌, ◌++◌, map, append_assoc}
use Prim.Native.Nat.{ℕ, zero, suc, ◌+◌, ◌*◌, ◌≤◌, ◌<◌, max}
use native.Mathlib.Omega.{arith}
use lib.ListN.{length, length-append, length-map}
use lib.Dec.{eqb, ltb}
use borrow.Author.Tests.{le-ltb}
use Rattle.theory.specs.Limits
use Rattle.theory.specs.Basics.{given, EachOf}
use Rattle.theory.specs.ProgramText.{Plain, clear, increment, copy, Kind, loop, while, Command, plain, closes, above, indices}
use Rattle.theory.specs.ProgramText.{variables, Block, empty, single, pair, lines, block_of}
use Rattle.theory.specs.Source.{deeper}
use Rattle.theory.specs.Word.{Symbol, byte_of, Instruction, append, forward, backward, cases, kind, operand, Entry, entry_of}
use Rattle.theory.specs.Word.{table_of, spell_entries, spell, bytes_of}
use Rattle.theory.specs.Runs.{register}
use Rattle.theory.specs.Translation.{scratch, counter, clearing, sharing, returning, touching, copying, plain_code}
use Rattle.theory.specs.Translation.{before_body, after_body, code, word, word_of, word_text}
use Rattle.theory.specs.TurnedDown.{done, total, entry_size, next_byte, first_along, names_register, lacks, rule_15, read_word_for}
use Rattle.theory.specs.Claims.{Accepted, NamesAtMost, Sized, FitsASet, WordsFit}
use Rattle.theory.proofs.Nesting.{nest, shallow, short, few_variables, well_nested}
use Rattle.theory.proofs.Faults.{neither}
use Rattle.theory.proofs.Words.{total-length, GoodTable, entries_of-word, word_accepted}
use Rattle.theory.proofs.Words.{formed_of_instructions, instructions_of_table}

-- Spelling

pub spell_entries-append : (s t : List Entry) → spell_entries (s ++ t) ≡ spell_entries s ++ spell_entries t
unfolding spell_entries
spell_entries-append [] t = refl
spell_entries-append (e ∷ s) t = rw (spell_entries-append s t) (simp append_assoc)

map-append : {A B : Type 0} (f : A → B) (u w : List A) → map f (u ++ w) ≡ map f u ++ map f w
map-append f [] w = refl
map-append f (x ∷ u) w = rw (map-append f u w)

pub spell-append : (u w : List Instruction) → spell (u ++ w) ≡ spell u ++ spell w
unfolding spell
spell-append u w = ap spell_entries (map-append entry_of u w) ∙ spell_entries-append (table_of u) (table_of w)

pub bytes-append : (u w : List Instruction) → bytes_of (spell (u ++ w)) ≡ bytes_of (spell u) ++ bytes_of (spell w)
bytes-append u w = ap bytes_of (spell-append u w) ∙ map-append byte_of (spell u) (spell w)

-- The symbols of a word
abbrev pub weight : List Instruction → ℕ
weight w = total (table_of w)

pub spelled : (w : List Instruction) → length (spell w) ≡ weight w
unfolding spell
spelled w = total-length (table_of w)

pub bytes-length : (w : List Instruction) → length (bytes_of (spell w)) ≡ weight w
bytes-length w = length-map (spell w) byte_of ∙ spelled w

pub weight_append : (u w : List Instruction) → weight (u ++ w) ≡ weight u + weight w
weight_append [] w = omega arith
weight_append (i ∷ u) w = omega (arith, weight_append u w)

-- The code of a block, as sums: of a plain line and the rest, of a pair and the rest

-- Instructions and symbols of a plain line
abbrev pub plain_length : Plain → ℕ
plain_length (clear i) = 3
plain_length (increment i) = 1
plain_length (copy i j) = cond (eqb i j) 3 12

abbrev pub plain_weight : ℕ → Plain → ℕ
plain_weight K (clear i) = register i + 16
plain_weight K (increment i) = register i + 1
plain_weight K (copy i j) = cond (eqb i j) (2 * register j + 11) (2 * register j + 2 * register i + 2 * scratch K + 57)

pub length_plain : (K : ℕ) (c : Plain) → length (plain_code K c) ≡ plain_length c
length_plain K (clear i) = refl
length_plain K (increment i) = refl
length_plain K (copy i j) = go (eqb i j)
  where
    go : (t : Bool) → length (cond t (touching (register j)) (copying (register j) (register i) (scratch K))) ≡ cond t 3 12
    go true = refl
    go false = refl

pub weight_plain : (K : ℕ) (c : Plain) → weight (plain_code K c) ≡ plain_weight K c
weight_plain K (clear i) = omega arith
weight_plain K (increment i) = omega arith
weight_plain K (copy i j) = go (eqb i j)
  where
    go : (t : Bool)
        → weight (cond t (touching (register j)) (copying (register j) (register i) (scratch K)))
        ≡ cond t (2 * register j + 11) (2 * register j + 2 * register i + 2 * scratch K + 57)
    go true = omega arith
    go false = omega arith

-- Instructions before a pair's body; after it there is one
abbrev pub before-length : Kind → ℕ
before-length loop = 11
before-length while = 3

pub length_before : (K d : ℕ) (k : Kind) (i m : ℕ) → length (before_body K d k i m) ≡ before-length k
length_before K d loop i m = refl
length_before K d while i m = refl

-- Symbols of both ends of a pair with a body of m instructions
abbrev pub ends_weight : ℕ → ℕ → Kind → ℕ → ℕ → ℕ
ends_weight K d k i m = weight (before_body K d k i m) + (operand (after_body k m) + kind (after_body k m))

module _ (K d : ℕ) where
  pub length-line : (c : Plain) (b : Block) → length (code K d (single c b)) ≡ length (plain_code K c) + length (code K d b)
  unfolding code
  length-line c b = length-append (plain_code K c) (code K d b)

  pub weight_line : (c : Plain) (b : Block) → weight (code K d (single c b)) ≡ weight (plain_code K c) + weight (code K d b)
  unfolding code
  weight_line c b = weight_append (plain_code K c) (code K d b)

  pub length-pair : (k : Kind) (i : ℕ) (body b : Block)
      → length (code K d (pair k i body b)) ≡ before-length k + length (code K (deeper k d) body) + 1 + length (code K d b)
  unfolding code
  length-pair k i body b =
      let inner : List Instruction = code K (deeper k d) body in
      let m : ℕ = length inner in
      let rest : List Instruction = after_body k m ∷ code K d b in
      omega (arith, length-append (before_body K d k i m) (inner ++ rest), length-append inner rest, length_before K d k i m)

  pub weight_pair : (k : Kind) (i : ℕ) (body b : Block)
      → let inner = code K (deeper k d) body in
      weight (code K d (pair k i body b)) ≡ ends_weight K d k i (length inner) + weight inner + weight (code K d b)
  unfolding code
  weight_pair k i body b =
      let inner : List Instruction = code K (deeper k d) body in
      let m : ℕ = length inner in
      let rest : List Instruction = after_body k m ∷ code K d b in
      omega (arith, weight_append (before_body K d k i m) (inner ++ rest), weight_append inner rest)

-- Limits of a block's code: at most 12 instructions a line

plain_short : (c : Plain) → plain_length c ≤ 12
plain_short (clear i) = omega arith
plain_short (increment i) = omega arith
plain_short (copy i j) = go (eqb i j)
  where
    go : (t : Bool) → cond t 3 12 ≤ 12
    go true = omega arith
    go false = omega arith

before_short : (k : Kind) → before-length k ≤ 11
before_short loop = omega arith
before_short while = omega arith

pub code-length : (K d : ℕ) (b : Block) → length (code K d b) ≤ 12 * length (lines b)
unfolding code
code-length K d empty = omega arith
code-length K d (single c b) = omega (arith, code-length K d b, length-line K d c b, length_plain K c, plain_short c)
code-length K d (pair k i body b) =
    omega (
      arith,
      code-length K (deeper k d) body,
      code-length K d b,
      length-append (lines body) (closes k i ∷ lines b),
      length-pair K d k i body b,
      before_short k,
    )

-- At most 251 symbols a line, and 24 more for each pair around it, since each pair spells its body's length twice

plain_light : (K : ℕ) (c : Plain) → K ≤ 32 → above (indices (plain c)) ≤ 32 → plain_weight K c ≤ 251
plain_light K (clear i) h l = omega arith
plain_light K (increment i) h l = omega arith
plain_light K (copy i j) h l = go (eqb i j)
  where
    go : (t : Bool) → cond t (2 * register j + 11) (2 * register j + 2 * register i + 2 * scratch K + 57) ≤ 251
    go true = omega arith
    go false = omega arith

ends_light : (K d : ℕ) (k : Kind) (i m : ℕ) → K ≤ 32 → i < 32 → d ≤ 15 → ends_weight K d k i m ≤ 285 + 2 * m
ends_light K d loop i m h l e = omega arith
ends_light K d while i m h l e = omega arith

pub variables-append : (p q : List Command) → variables (p ++ q) ≡ max (variables p) (variables q)
variables-append [] q = omega arith
variables-append (c ∷ p) q = omega (arith, variables-append p q)

deeper_room : (k : Kind) (d e : ℕ) → d + suc e ≤ 16 → deeper k d + e ≤ 16
deeper_room loop d e h = omega arith
deeper_room while d e h = omega arith

pub code_weight : (K d e : ℕ) (b : Block) → K ≤ 32 → variables (lines b) ≤ 32 → d + e ≤ 16 → nest b ≤ e
    → weight (code K d b) ≤ length (lines b) * (251 + 24 * e)
unfolding code
code_weight K d e empty h l s n = omega arith
code_weight K d e (single c b) h l s n =
    omega (arith, code_weight K d e b h (omega arith) s n, weight_line K d c b, weight_plain K c, plain_light K c h (omega arith))
code_weight K d zero (pair k i body b) h l s n = absurd (omega arith)
code_weight K d (suc e) (pair k i body b) h l s n =
    let inner : List Instruction = code K (deeper k d) body in
    let v : _ = variables-append (lines body) (closes k i ∷ lines b) in
    rw (length-append (lines body) (closes k i ∷ lines b))
    (omega (
      arith,
      code_weight K (deeper k d) e body h (omega arith) (deeper_room k d e s) (omega arith),
      code_weight K d (suc e) b h (omega arith) s (omega arith),
      code-length K (deeper k d) body,
      ends_light K d k i (length inner) h (omega arith) (omega arith),
      weight_pair K d k i body b,
    ))

-- Operands are at least 1, and the registers named are at most K + 17: the counter of a loop inside 15 others

pub each_append : {A : Type 0} (P : A → Type 0) (u w : List A) → EachOf P u → EachOf P w → EachOf P (u ++ w)
each_append P [] w h g = g
each_append P (x ∷ u) w h g = (h.0, each_append P u w h.1 g)

pub each_map : {A : Type 0} (P Q : A → Type 0) → ((x : A) → P x → Q x) → (l : List A) → EachOf P l → EachOf Q l
each_map P Q f [] h = tt
each_map P Q f (x ∷ l) h = (f x h.0, each_map P Q f l h.1)

pub record Fits (most : ℕ) (i : Instruction) : Type 0 where
  pub operand : 1 ≤ operand i
  pub register : NamesAtMost most i

module _ (most : ℕ) where
  -- A register of a machine that has so many
  abbrev pub Register : ℕ → Type 0
  Register r = (1 ≤ r) × (r ≤ most)

  pub forward_fits : (n : ℕ) → 1 ≤ n → Fits most (forward n)
  forward_fits n h = record { operand = h; register = λ e. absurd (false≢true e) }

  pub backward_fits : (n : ℕ) → 1 ≤ n → Fits most (backward n)
  backward_fits n h = record { operand = h; register = λ e. absurd (false≢true e) }

  pub cases_fit : (r : ℕ) → Register r → Fits most (cases r)
  cases_fit r h = record { operand = h.0; register = λ e. h.1 }

  pub append_fits : {x : Symbol} (r : ℕ) → Register r → Fits most (append x r)
  append_fits r h = record { operand = h.0; register = λ e. h.1 }

  sharing_fits : (a b t : ℕ) → Register a → Register b → Register t → EachOf (Fits most) (sharing a b t)
  sharing_fits a b t ha hb ht =
      let F4 : Fits most (forward 4) = forward_fits 4 (omega arith) in
      let B4 : Fits most (backward 4) = backward_fits 4 (omega arith) in
      (cases_fit a ha, (F4, (append_fits b hb, (append_fits t ht, (B4, tt)))))

  returning_fits : (t a : ℕ) → Register t → Register a → EachOf (Fits most) (returning t a)
  returning_fits t a ht ha =
      let F3 : Fits most (forward 3) = forward_fits 3 (omega arith) in
      let B3 : Fits most (backward 3) = backward_fits 3 (omega arith) in
      (cases_fit t ht, (F3, (append_fits a ha, (B3, tt))))

  pub clearing_fits : (a : ℕ) → Register a → EachOf (Fits most) (clearing a)
  clearing_fits a h = (cases_fit a h, (forward_fits 2 (omega arith), (backward_fits 2 (omega arith), tt)))

  touching_fits : (a : ℕ) → Register a → EachOf (Fits most) (touching a)
  touching_fits a h = (cases_fit a h, (forward_fits 2 (omega arith), (append_fits a h, tt)))

  copying_fits : (a b t : ℕ) → Register a → Register b → Register t → EachOf (Fits most) (copying a b t)
  copying_fits a b t ha hb ht =
      each_append (Fits most) (clearing b) (sharing a b t ++ returning t a) (clearing_fits b hb)
      (each_append (Fits most) (sharing a b t) (returning t a) (sharing_fits a b t ha hb ht) (returning_fits t a ht ha))

  plain_fits : (K : ℕ) (c : Plain) → above (indices (plain c)) ≤ K → K < most → EachOf (Fits most) (plain_code K c)
  plain_fits K (clear i) l h = clearing_fits (register i) (omega arith, omega arith)
  plain_fits K (increment i) l h = (append_fits (register i) (omega arith, omega arith), tt)
  plain_fits K (copy i j) l h = go (eqb i j)
    where
      target : Register (register i)
      target = (omega arith, omega arith)

      source : Register (register j)
      source = (omega arith, omega arith)

      go : (t : Bool) → EachOf (Fits most) (cond t (touching (register j)) (copying (register j) (register i) (scratch K)))
      go true = touching_fits (register j) source
      go false = copying_fits (register j) (register i) (scratch K) source target (omega arith, omega arith)

  before_fits : (K d : ℕ) (k : Kind) (i m : ℕ) → i < K → counter K d ≤ most → EachOf (Fits most) (before_body K d k i m)
  before_fits K d loop i m l h =
      let a : ℕ = register i in
      let c : ℕ = counter K d in
      let t : ℕ = scratch K in
      let ha : Register a = (omega arith, omega arith) in
      let hc : Register c = (omega arith, omega arith) in
      let ht : Register t = (omega arith, omega arith) in
      let last : List Instruction = cases c ∷ forward (m + 2) ∷ [] in
      each_append (Fits most) (sharing a c t) (returning t a ++ last) (sharing_fits a c t ha hc ht)
      (each_append (Fits most) (returning t a) last (returning_fits t a ht ha) (cases_fit c hc, (forward_fits (m + 2) (omega arith), tt)))
  before_fits K d while i m l h =
      let ha : Register (register i) = (omega arith, omega arith) in
      (cases_fit (register i) ha, (forward_fits (m + 3) (omega arith), (append_fits (register i) ha, tt)))

  after_fits : (k : Kind) (m : ℕ) → Fits most (after_body k m)
  after_fits loop m = backward_fits (m + 2) (omega arith)
  after_fits while m = backward_fits (m + 3) (omega arith)

pub code_fits : (K d : ℕ) (b : Block) → variables (lines b) ≤ K → d + nest b ≤ 16 → EachOf (Fits (K + 17)) (code K d b)
unfolding code
code_fits K d empty l s = tt
code_fits K d (single c b) l s =
    let first : _ = plain_fits (K + 17) K c (omega arith) (omega arith) in
    each_append (Fits (K + 17)) (plain_code K c) (code K d b) first (code_fits K d b (omega arith) s)
code_fits K d (pair k i body b) l s =
    let inner : List Instruction = code K (deeper k d) body in
    let m : ℕ = length inner in
    let after : List Instruction = after_body k m ∷ code K d b in
    let v : _ = variables-append (lines body) (closes k i ∷ lines b) in
    let first : _ = before_fits (K + 17) K d k i m (omega arith) (omega arith) in
    let within : _ = code_fits K (deeper k d) body (omega arith) (deeper_room k d (nest body) (omega arith)) in
    let rest : _ = code_fits K d b (omega arith) (omega arith) in
    each_append (Fits (K + 17)) (before_body K d k i m) (inner ++ after) first
    (each_append (Fits (K + 17)) inner after within (after_fits (K + 17) k m, rest))

-- The word of an accepted program

pub word_fits : (p : List Command) → Accepted p → EachOf (Fits (variables p + 17)) (word_of p)
unfolding word_of word
word_fits p a =
    let b : Block = block_of p in
    let e : lines b ≡ p = well_nested p a in
    let room : 0 + nest b ≤ 16 = omega (arith, shallow p a) in
    (forward_fits (variables p + 17) 1 (omega arith), rw e (code_fits (variables p) 0 b (rw e (omega arith)) room))

-- 512 lines of at most 635 symbols and 12 instructions each, and F1
pub word-limits : (p : List Command) → Accepted p → (weight (word_of p) ≤ 325124) × (length (word_of p) ≤ 6145)
unfolding word_of word
word-limits p a =
    let b : Block = block_of p in
    let K : ℕ = variables p in
    let e : lines b ≡ p = well_nested p a in
    let few : K ≤ 32 = omega (arith, few_variables p a) in
    let deep : nest b ≤ 16 = omega (arith, shallow p a) in
    let w : length (lines b) ≤ 512 = rw e (omega (arith, short p a)) in (
      rw e (omega (arith, code_weight K 0 16 b few (rw e few) (omega arith) deep)),
      rw e (omega (arith, code-length K 0 b)),
    )

sized : (p : List Command) → Accepted p → Sized (variables p) (word_of p)
unfolding word_of word
sized p a =
    let K : ℕ = variables p in
    record {
      some_instruction = omega arith;
      few_symbols = omega (arith, spelled (word_of p), (word-limits p a).0);
      few_instructions = omega (arith, (word-limits p a).1);
      operands_from_1 = each_map (Fits (K + 17)) (λ i. 1 ≤ operand i) (λ i f. f.operand) (word_of p) (word_fits p a);
      low_registers = each_map (Fits (K + 17)) (NamesAtMost (K + 17)) (λ i f. f.register) (word_of p) (word_fits p a);
      few_variables = few_variables p a;
    }

-- So a set with 64 registers reads the word that is written, and its instructions are those of the word

rule_15-passes : (most n : ℕ) (w : List Instruction) → EachOf (NamesAtMost most) w
    → first_along next_byte (lacks most) n (table_of w) ≡ none
unfolding first_along
rule_15-passes most n [] h = refl
rule_15-passes most n (i ∷ w) h =
    neither (lacks most n (entry_of i)) _ (go (names_register (kind i)) refl) (rule_15-passes most (n + entry_size (entry_of i)) w h.1)
  where
    go : (t : Bool) → names_register (kind i) ≡ t → given (t && ltb most (operand i)) n ≡ none
    go true e = rw (le-ltb most (operand i) (h.0 e))
    go false e = refl

-- Of any word within the limits, whose registers are some of a set with so many
pub word_good : (w : List Instruction) → 1 ≤ length w → length (spell w) ≤ Limits.most_symbols → length w ≤ Limits.most_instructions
    → EachOf (λ i. 1 ≤ operand i) w → GoodTable (table_of w)
unfolding spell
word_good w some symbols instructions operands =
    record {
      some = omega (arith, length-map w entry_of);
      symbols = omega (arith, spelled w);
      formed = formed_of_instructions w operands;
      instructions = omega (arith, length-map w entry_of);
    }

pub word_read : (most : ℕ) (w : List Instruction) → GoodTable (table_of w) → EachOf (NamesAtMost most) w
    → read_word_for most (bytes_of (spell w)) ≡ done (table_of w)
unfolding read_word_for spell rule_15
word_read most w g h =
    let t : List Entry = table_of w in
    rw (entries_of-word t g.formed, word_accepted t g, rule_15-passes most 0 w h)

pub fits_a_set : (K : ℕ) (w : List Instruction) → Sized K w → FitsASet K w (bytes_of (spell w))
fits_a_set K w s =
    let good : GoodTable (table_of w) =
    word_good w s.some_instruction s.few_symbols s.few_instructions s.operands_from_1 in
    record {
      sized = s;
      read = word_read Limits.most_registers w good within_64;
      same = instructions_of_table w s.operands_from_1;
    }
  where
    within_64 : EachOf (NamesAtMost Limits.most_registers) w
    within_64 =
        let names : (i : Instruction) → NamesAtMost (K + 17) i → NamesAtMost Limits.most_registers i =
        λ i h e. omega (arith, h e, s.few_variables) in
        each_map (NamesAtMost (K + 17)) (NamesAtMost Limits.most_registers) names w s.low_registers

pub words_fit : WordsFit
unfolding word_text
words_fit p a = fits_a_set (variables p) (word_of p) (sized p a)
