-- The registers above the variables that a program's word names, line by line: the test of the word is that of the program's list.
use mathlib.Core.Path.{◌≡◌, refl, sym, ◌∙◌}
use mathlib.Core.Bool.{Bool, true, false, not, cond, ◌&&◌, ◌||◌, and_assoc}
use mathlib.Core.List.{List, [], ◌∷◌, ◌++◌, append_assoc, append-nil}
use Prim.Native.Nat.{ℕ, suc, ◌+◌, ◌-◌, ◌≤◌, ◌<◌}
use native.Mathlib.Omega.{arith}
use borrow.Author.Tests.{lt-ltb, le-ltb}
use lib.Dec.{eqb, ltb, leb}
use lib.ListN.{length}
use Rattle.theory.specs.Basics.{all}
use Rattle.theory.specs.ProgramText.{clear, increment, copy, loop, while, Command, closes, variables, list_of}
use Rattle.theory.specs.ProgramText.{Block, empty, single, pair, lines, block_of}
use Rattle.theory.specs.Runs.{register}
use Rattle.theory.specs.Word.{Instruction, kind, operand, backward}
use Rattle.theory.specs.Translation.{scratch, counter, touching, copying, plain_code, code, word, word_of}
use Rattle.theory.specs.TurnedDown.{unless, names_register, largest, rule_21}
use Rattle.theory.specs.Claims.{Accepted}
use Rattle.theory.proofs.Nesting.{well_nested}
use Rattle.theory.proofs.Sizes.{variables-append}
use Rattle.capacities.specs.Room.{list_passes}

-- Tests in a row

all_both : {A : Type 0} (f : A → Bool) (u w : List A) → all f (u ++ w) ≡ (all f u && all f w)
all_both f [] w = refl
all_both f (x ∷ u) w = rw (all_both f u w) (sym (and_assoc (f x) (all f u) (all f w)))

-- The counter and the scratch register are each named twice
twice : (c t x y q : Bool) → (t && c && (x && (y && q))) ≡ ((c && (t && (t && (c && (x && y))))) && q)
twice true true x y q = sym (and_assoc x y q)
twice true false x y q = refl
twice false true x y q = refl
twice false false x y q = refl

module _ (ok : ℕ → Bool) (K : ℕ) where
  abbrev pub test : Instruction → Bool
  test i = not (names_register (kind i) && ltb K (operand i)) || ok (operand i)

  variable : (i : ℕ) → i < K → ltb K (register i) ≡ false
  variable i l = le-ltb K (register i) (omega arith)

  above-scratch : ltb K (scratch K) ≡ true
  above-scratch = lt-ltb K (scratch K) (omega arith)

  above-counter : (d : ℕ) → ltb K (counter K d) ≡ true
  above-counter d = lt-ltb K (counter K d) (omega arith)

  -- A copy's code, with what follows it
  copy_passes : (i j : ℕ) → i < K → j < K → (t x y q : Bool) → x ≡ (y && q)
      → ((t || ok (scratch K)) && x)
      ≡ (all test (cond t (touching (register j)) (copying (register j) (register i) (scratch K))) && y && q)
  copy_passes i j l l' true x y q e = rw (variable j l') e
  copy_passes i j l l' false x y q e = rw (variable i l, variable j l', above-scratch) (go (ok (scratch K)))
    where
      go : (s : Bool) → (s && x) ≡ ((s && (s && true)) && y && q)
      go true = e
      go false = refl

  -- A block's code, with any lines after it
  pub code-passes : (d : ℕ) (b : Block) → variables (lines b) ≤ K → (q : List Command)
      → list_passes ok K d (list_of (lines b ++ q)) ≡ (all test (code K d b) && list_passes ok K d (list_of q))
  unfolding code list_passes list_of
  code-passes d empty h q = refl
  code-passes d (single (clear i) b) h q = rw (variable i (omega arith)) (code-passes d b (omega arith) q)
  code-passes d (single (increment i) b) h q = rw (variable i (omega arith)) (code-passes d b (omega arith) q)
  code-passes d (single (copy i j) b) h q =
      rw (all_both test (plain_code K (copy i j)) (code K d b))
      (copy_passes i j (omega arith) (omega arith) (eqb i j) _ _ _ (code-passes d b (omega arith) q))
  code-passes d (pair loop i body b) h q =
      let v : _ = variables-append (lines body) (closes loop i ∷ lines b) in
      let u : List Instruction = code K (suc d) body in
      let back : suc d - 1 ≡ d = omega arith in
      let inner : _ = code-passes (suc d) body (omega arith) (closes loop i ∷ (lines b ++ q)) in
      let rest : _ = code-passes d b (omega arith) q in
      rw (
        append_assoc (lines body) (closes loop i ∷ lines b) q,
        all_both test u (backward (length u + 2) ∷ code K d b),
        variable i (omega arith),
        above-scratch,
        above-counter d,
        inner,
        back,
        rest,
      )
      (twice (ok (counter K d)) (ok (scratch K)) (all test u) (all test (code K d b)) (list_passes ok K d (list_of q)))
  code-passes d (pair while i body b) h q =
      let v : _ = variables-append (lines body) (closes while i ∷ lines b) in
      let u : List Instruction = code K d body in
      let inner : _ = code-passes d body (omega arith) (closes while i ∷ (lines b ++ q)) in
      let rest : _ = code-passes d b (omega arith) q in
      rw (
        append_assoc (lines body) (closes while i ∷ lines b) q,
        all_both test u (backward (length u + 3) ∷ code K d b),
        variable i (omega arith),
        inner,
        rest,
      )
      (sym (and_assoc (all test u) (all test (code K d b)) (list_passes ok K d (list_of q))))

and_true : (x : Bool) → (x && true) ≡ x
and_true true = refl
and_true false = refl

-- The whole word of an accepted program
module _ (capacity : ℕ → ℕ) (p : List Command) (h : Accepted p) where
  abbrev K : ℕ
  K = variables p

  abbrev ok : ℕ → Bool
  ok r = leb (largest capacity K) (capacity r)

  word-passes : all (test ok K) (word_of p) ≡ list_passes ok K 0 (list_of p)
  unfolding word_of word list_passes list_of
  word-passes =
      let b : Block = block_of p in
      let same : lines b ≡ p = well_nested p h in
      let few : variables (lines b) ≤ K = rw same (omega arith) in
      let whole : _ = code-passes ok K 0 b few [] in
      rw same (sym (and_true (all (test ok K) (code K 0 b))) ∙ sym whole ∙ rw (append-nil (lines b), same))

  pub rule_21-passes : rule_21 capacity p ≡ unless (list_passes ok K 0 (list_of p)) 21 0
  unfolding rule_21
  rule_21-passes = rw word-passes
