-- Sizes of a listing's word: at most 4 instructions and 2,131 symbols a line, and no transfer goes to its own place.
use mathlib.Core.Path.{◌≡◌, refl, sym, ◌∙◌}
use mathlib.Core.Logic.{◌⊎◌, inl, inr, ◌≢◌}
use mathlib.Core.Bool.{Bool, true, false, cond}
use mathlib.Core.Option.{some}
use mathlib.Core.List.{List, [], ◌∷◌, ◌++◌, map, append_assoc}
use Prim.Native.Nat.{ℕ, zero, suc, ◌+◌, ◌-◌, ◌*◌, ◌≤◌, ◌<◌}
use native.Mathlib.Omega.{arith}
use lib.ListN.{length, length-map, take}
use lib.Dec.{ltb, leb}
use borrow.Author.Tests.{ltb-true, ltb-false, leb-true}
use Rattle.theory.specs.Limits
use Rattle.theory.specs.Basics.{sum, EachOf}
use Rattle.theory.specs.Word.{one, hash, Instruction, forward, backward, operand, spell}
use Rattle.theory.specs.Claims.{NamesAtMost}
use Rattle.theory.proofs.Faults.{none_first, unless_none}
use Rattle.theory.proofs.Words.{instructions_of_table}
use Rattle.theory.proofs.Sizes.{weight, spelled, weight_append, each_append, each_map, Fits, forward_fits, backward_fits, cases_fit}
use Rattle.theory.proofs.Sizes.{append_fits, word_good, word_read}
use Rattle.listing.specs.Listing.{Line, print, scan, size, place, transfer, line_code, code, word, word_text}
use Rattle.listing.specs.Refused.{most_lines, rule_3, listing_fault}
use Rattle.listing.specs.Claims.{OnASet, Accepted, ListingWordsFit}
use Rattle.listing.proofs.Places.{code-length}
use Rattle.listing.proofs.Spelled.{on_a_set}

-- Places

-- The instructions of some lines
abbrev pub sizes : List Line → ℕ
sizes l = sum (map size l)

-- A line's place is not within another line, after its first instruction: it is one of those up to that line's own, or past all of it
between : (before : List Line) (c : Line) (after : List Line) (n : ℕ)
    → let t = sizes (take n (before ++ (c ∷ after))) in
    (t ≤ sizes before) ⊎ (sizes before + size c ≤ t)
between [] c after zero = inl (omega arith)
between [] c after (suc n) = inr (omega arith)
between (b ∷ before) c after zero = inl (omega arith)
between (b ∷ before) c after (suc n) = go (between before c after n)
  where
    t : ℕ
    t = sizes (take n (before ++ (c ∷ after)))

    go : (t ≤ sizes before) ⊎ (sizes before + size c ≤ t)
        → (size b + t ≤ size b + sizes before) ⊎ (size b + sizes before + size c ≤ size b + t)
    go (inl h) = inl (omega arith)
    go (inr h) = inr (omega arith)

size-most : (c : Line) → size c ≤ 4
size-most (print x n) = omega arith
size-most (scan n e f) = omega arith

pub sizes-most : (l : List Line) → sizes l ≤ 4 * length l
sizes-most [] = omega arith
sizes-most (c ∷ l) = omega (arith, size-most c, sizes-most l)

sizes-append : (k l : List Line) → sizes (k ++ l) ≡ sizes k + sizes l
sizes-append [] l = omega arith
sizes-append (c ∷ k) l = omega (arith, sizes-append k l)

sizes-take : (n : ℕ) (l : List Line) → sizes (take n l) ≤ sizes l
sizes-take zero l = omega arith
sizes-take (suc n) [] = omega arith
sizes-take (suc n) (c ∷ l) = omega (arith, sizes-take n l)

-- Transfers

transfer_fits : (most q t : ℕ) → q ≢ t → Fits most (transfer q t)
transfer_fits most q t h = go (ltb q t) refl
  where
    go : (x : Bool) → ltb q t ≡ x → Fits most (cond x (forward (t - q)) (backward (q - t)))
    go true e = forward_fits most (t - q) (omega (arith, ltb-true q t e))
    go false e = backward_fits most (q - t) (omega (arith, ltb-false q t e, h))

-- An accepted listing has at most so many instructions after F1, which are at places from 2 on
abbrev most-sizes : ℕ
most-sizes = 4 * most_lines

transfer_weight : (q t : ℕ) → 2 ≤ q → q ≤ 2 + most-sizes → 2 ≤ t → t ≤ 2 + most-sizes → weight (transfer q t ∷ []) ≤ most-sizes + 4
transfer_weight q t a b c d = go (ltb q t)
  where
    go : (x : Bool) → weight (cond x (forward (t - q)) (backward (q - t)) ∷ []) ≤ most-sizes + 4
    go true = omega arith
    go false = omega arith

-- The code of a line, and of lines that follow others

module _ (l : List Line) where
  place_least : (n : ℕ) → 2 ≤ place l n
  unfolding place
  place_least n = omega arith

  place-most : (n : ℕ) → place l n ≤ 2 + sizes l
  unfolding place
  place-most n = omega (arith, sizes-take (n - 1) l)

  -- No line is at the third or fourth instruction of a Scd
  never_within : (before : List Line) (c : Line) (after : List Line) → l ≡ before ++ (c ∷ after) → (n i : ℕ)
      → 1 ≤ i → i < size c → 2 + sizes before + i ≢ place l n
  unfolding place
  never_within before c after h n i a b e = go (rw (← h) at (between before c after (n - 1)))
    where
      go : (sizes (take (n - 1) l) ≤ sizes before) ⊎ (sizes before + size c ≤ sizes (take (n - 1) l)) → ⊥
      go (inl x) = omega arith
      go (inr x) = omega arith

  line_fits : (before : List Line) (c : Line) (after : List Line) → l ≡ before ++ (c ∷ after) → OnASet c
      → EachOf (Fits Limits.most_registers) (line_code l (2 + sizes before) c)
  line_fits before (print x n) after h s = (append_fits Limits.most_registers n (on_a_set (print x n) s), tt)
  line_fits before (scan n e f) after h s =
      let most : ℕ = Limits.most_registers in
      let apart : _ = never_within before (scan n e f) after h in
      let q : ℕ = 2 + sizes before in
      let first : Fits most (transfer (q + 2) (place l e)) = transfer_fits most _ _ (apart e 2 (omega arith) (omega arith)) in
      let second : Fits most (transfer (q + 3) (place l f)) = transfer_fits most _ _ (apart f 3 (omega arith) (omega arith)) in
      (cases_fit most n (on_a_set (scan n e f) s), (forward_fits most 3 (omega arith), (first, (second, tt))))

  code_fits : (before after : List Line) (q : ℕ) → l ≡ before ++ after → q ≡ 2 + sizes before → EachOf OnASet after
      → EachOf (Fits Limits.most_registers) (code l q after)
  unfolding code
  code_fits before [] q h e s = tt
  code_fits before (c ∷ after) q h e s =
      let more : l ≡ (before ++ (c ∷ [])) ++ after = h ∙ sym (append_assoc before (c ∷ []) after) in
      let next : q + size c ≡ 2 + sizes (before ++ (c ∷ [])) = omega (arith, sizes-append before (c ∷ [])) in
      let first : EachOf (Fits Limits.most_registers) (line_code l q c) = rw e (line_fits before c after h s.0) in
      each_append (Fits Limits.most_registers) (line_code l q c) (code l (q + size c) after) first
      (code_fits (before ++ (c ∷ [])) after (q + size c) more next s.1)

  line_weight : (q : ℕ) (c : Line) → sizes l ≤ most-sizes → 2 ≤ q → q + size c ≤ 2 + most-sizes → OnASet c → weight (line_code l q c) ≤ 2131
  line_weight q (print one n) h a b s = let last : n ≤ Limits.most_registers = omega (arith, s.last) in omega arith
  line_weight q (print hash n) h a b s = let last : n ≤ Limits.most_registers = omega (arith, s.last) in omega arith
  line_weight q (scan n e f) h a b s =
      let last : n ≤ Limits.most_registers = omega (arith, s.last) in
      let first : _ = transfer_weight (q + 2) (place l e) (omega arith) (omega arith) (place_least e) (omega (arith, place-most e)) in
      let second : _ = transfer_weight (q + 3) (place l f) (omega arith) (omega arith) (place_least f) (omega (arith, place-most f)) in
      omega arith

  code_weight : (q : ℕ) (cs : List Line) → sizes l ≤ most-sizes → 2 ≤ q → q + sizes cs ≤ 2 + most-sizes → EachOf OnASet cs
      → weight (code l q cs) ≤ 2131 * length cs
  unfolding code
  code_weight q [] h a b s = omega arith
  code_weight q (c ∷ cs) h a b s =
      omega (
        arith,
        weight_append (line_code l q c) (code l (q + size c) cs),
        line_weight q c h a (omega arith) s.0,
        code_weight (q + size c) cs h (omega arith) (omega arith) s.1,
      )

-- The word of an accepted listing

pub few_lines : (l : List Line) → Accepted l → length l ≤ most_lines
unfolding listing_fault rule_3
few_lines l a =
    let n : ℕ = length (map some l) in
    let passes : leb n most_lines ≡ true = unless_none _ 3 (suc most_lines) (none_first (rule_3 (map some l)) _ a.passes) in
    omega (arith, leb-true n most_lines passes, length-map l some)

-- At most 256 lines of at most 2,131 symbols and 4 instructions each, and F1
word-limits : (l : List Line) → Accepted l → (weight (word l) ≤ 545540) × (length (word l) ≤ 1025)
unfolding word
word-limits l a =
    let few : length l ≤ most_lines = few_lines l a in
    let short : sizes l ≤ most-sizes = omega (arith, sizes-most l) in (
      omega (arith, code_weight l 2 l short (omega arith) (omega arith) a.registers),
      omega (arith, code-length l 2 l),
    )

word_fits : (l : List Line) → EachOf OnASet l → EachOf (Fits Limits.most_registers) (word l)
unfolding word
word_fits l s = (forward_fits Limits.most_registers 1 (omega arith), code_fits l [] l 2 refl (omega arith) s)

pub listing_words_fit : ListingWordsFit
unfolding word word_text
listing_words_fit l a =
    let w : List Instruction = word l in
    let most : ℕ = Limits.most_registers in
    let symbols : length (spell w) ≤ 545540 = omega (arith, spelled w, (word-limits l a).0) in
    let instructions : length w ≤ 1025 = (word-limits l a).1 in
    let fits : EachOf (Fits most) w = word_fits l a.registers in
    let operands : EachOf (λ i. 1 ≤ operand i) w = each_map (Fits most) (λ i. 1 ≤ operand i) (λ i f. f.operand) w fits in
    let registers : EachOf (NamesAtMost most) w = each_map (Fits most) (NamesAtMost most) (λ i f. f.register) w fits in
    record {
      few_symbols = omega arith;
      few_instructions = omega arith;
      operands_from_1 = operands;
      low_registers = registers;
      read = word_read most w (word_good w (omega arith) (omega arith) (omega arith) operands) registers;
      same = instructions_of_table w operands;
    }
