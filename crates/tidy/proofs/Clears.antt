-- Clears of variables 1 to n in rising order: as lines, as instructions, and what they do.
use mathlib.Core.Path.{◌≡◌, refl, sym, ap, ap₂, ◌∙◌, subst}
use mathlib.Core.Option.{some}
use mathlib.Core.List.{List, [], ◌∷◌, ◌++◌, append_assoc}
use Prim.Native.Nat.{ℕ, zero, suc, pred, ◌+◌, ◌*◌, ◌≤◌, ◌<◌, max}
use native.Mathlib.Nat.{add-zero}
use native.Mathlib.Omega.{arith}
use lib.ListN.{length, length-append}
use Rattle.theory.specs.Basics.{at, and_then}
use Rattle.theory.specs.Runs.{unlimited, stay, move}
use Rattle.theory.specs.ProgramText.{clear, Command, plain, opens, closes, variables, Block, empty, single, pair, lines}
use Rattle.theory.specs.Source as S
use Rattle.theory.specs.Source.{State, set_variable, deeper}
use Rattle.theory.specs.Word.{Instruction}
use Rattle.theory.specs.Translation.{clearing, plain_code, before_body, after_body, code, charge}
use Rattle.theory.specs.Claims.{SourceRun}
use Rattle.theory.proofs.Cells.{put_other, put_cases, Sits, sits_left, sits_right}
use Rattle.theory.proofs.Joins.{ends, join}
use Rattle.theory.proofs.Partners.{Stands}
use Rattle.theory.proofs.Sizes.{variables-append}
use Rattle.tidy.specs.Forms.{clears}
use Rattle.tidy.specs.Claims.{clear_charges}

-- One block after another

abbrev pub followed_by : Block → Block → Block
followed_by empty x = x
followed_by (single c b) x = single c (followed_by b x)
followed_by (pair k i body b) x = pair k i body (followed_by b x)

pub lines_followed : (b x : Block) → lines (followed_by b x) ≡ lines b ++ lines x
lines_followed empty x = refl
lines_followed (single c b) x = ap {B = List Command} (λ l. plain c ∷ l) (lines_followed b x)
lines_followed (pair k i body b) x =
    ap {B = List Command} (λ l. opens k i ∷ (lines body ++ (closes k i ∷ l))) (lines_followed b x)
    ∙ ap {B = List Command} (λ l. opens k i ∷ l) (sym (append_assoc (lines body) (closes k i ∷ lines b) (lines x)))

pub code_followed : (K d : ℕ) (b x : Block) → code K d (followed_by b x) ≡ code K d b ++ code K d x
unfolding code
code_followed K d empty x = refl
code_followed K d (single c b) x =
    ap (λ l. plain_code K c ++ l) (code_followed K d b x) ∙ sym (append_assoc (plain_code K c) (code K d b) (code K d x))
code_followed K d (pair k i body b) x =
    let inner : List Instruction = code K (deeper k d) body in
    let front : List Instruction = before_body K d k i (length inner) in
    let back : Instruction = after_body k (length inner) in
    ap (λ l. front ++ (inner ++ (back ∷ l))) (code_followed K d b x)
    ∙ sym (append_assoc front (inner ++ (back ∷ code K d b)) (code K d x)
    ∙ ap (λ l. front ++ l) (append_assoc inner (back ∷ code K d b) (code K d x)))

-- The clears as lines

abbrev one_clear : ℕ → Block
one_clear i = single (clear i) empty

unfoldable pub clear_lines : ℕ → Block
clear_lines zero = empty
clear_lines (suc n) = followed_by (clear_lines n) (one_clear (suc n))

clear_lines_are : (n : ℕ) → lines (clear_lines (suc n)) ≡ lines (clear_lines n) ++ (plain (clear (suc n)) ∷ [])
unfolding clear_lines
clear_lines_are n = lines_followed (clear_lines n) (one_clear (suc n))

pub clears-length : (n : ℕ) → length (lines (clear_lines n)) ≡ n
unfolding clear_lines
clears-length zero = refl
clears-length (suc n) =
    ap length (clear_lines_are n)
    ∙ omega (arith, length-append (lines (clear_lines n)) (plain (clear (suc n)) ∷ []), clears-length n)

clears-variables : (n : ℕ) → variables (lines (clear_lines n)) ≤ suc n
unfolding clear_lines
clears-variables zero = omega arith
clears-variables (suc n) =
    rw (clear_lines_are n)
    (omega (arith, variables-append (lines (clear_lines n)) (plain (clear (suc n)) ∷ []), clears-variables n))

-- Clears of the variables of a program, all but the first, name no further variable
pub variables-same : (p : List Command) → variables (p ++ lines (clear_lines (pred (variables p)))) ≡ variables p
unfolding clear_lines
variables-same p = variables-append p (lines (clear_lines (pred (variables p)))) ∙ go (variables p)
  where
    go : (K : ℕ) → max K (variables (lines (clear_lines (pred K)))) ≡ K
    go zero = omega arith
    go (suc n) = omega (arith, clears-variables n)

-- and their code is the clears of registers 2 to K
pub clears-code : (L d K : ℕ) → code L d (clear_lines (pred K)) ≡ clears K
unfolding clear_lines code clears
clears-code L d zero = refl
clears-code L d (suc zero) = refl
clears-code L d (suc (suc n)) =
    code_followed L d (clear_lines n) (one_clear (suc n))
    ∙ ap₂ (λ l r. l ++ clearing r) (clears-code L d (suc n)) (omega arith)

-- The clears done
module _ (p : List Command) where
  clear_step : (s : State) (i : ℕ) → at p s.line ≡ some (plain (clear i)) → SourceRun p s (2 * s.values i + 2) (set_variable s i 0)
  unfolding S.step charge
  clear_step s i e = ends (rw e (omega arith)) refl (move (ap (λ o. and_then o (S.perform unlimited p s)) e) stay)

  -- From s, at line m where the clears of variables 1 to n stand
  pub record Cleared (n m : ℕ) (s : State) : Type 0 where
    pub last : State
    pub run : SourceRun p s (clear_charges (suc n) s.values) last
    pub there : last.line ≡ m + n
    pub first : last.values 0 ≡ s.values 0
    pub empty : (j : ℕ) → 0 < j → j ≤ n → last.values j ≡ 0
    pub later : (j : ℕ) → n < j → last.values j ≡ s.values j

  pub clears-run : (n m : ℕ) → Stands p m (clear_lines n) → (s : State) → s.line ≡ m → Cleared n m s
  unfolding clear_lines clear_charges
  clears-run zero m h s e = record {
    last = s;
    run = stay;
    there = e ∙ sym (add-zero m);
    first = refl;
    empty = λ j l l'. absurd (omega arith);
    later = λ j l. refl;
  }
  clears-run (suc n) m h s e =
      let own : List Command = plain (clear (suc n)) ∷ [] in
      let parts : Sits p m (lines (clear_lines n) ++ own) = subst (Sits p m) (clear_lines_are n) h in
      let r : Cleared n m s = clears-run n m (sits_left p m (lines (clear_lines n)) own parts) s e in
      let u : State = r.last in
      let line : u.line ≡ m + length (lines (clear_lines n)) = omega (arith, r.there, clears-length n) in
      let here : at p u.line ≡ some (plain (clear (suc n))) =
      ap (at p) line ∙ (sits_right p m (lines (clear_lines n)) own parts).0 in
      let value : u.values (suc n) ≡ s.values (suc n) = r.later (suc n) (omega arith) in
      record {
        last = set_variable u (suc n) 0;
        run = ends (ap (λ x. clear_charges (suc n) s.values + (2 * x + 2)) value) refl (join r.run (clear_step u (suc n) here));
        there = omega (arith, r.there);
        first = put_other u.values (suc n) 0 0 (λ z. omega arith) ∙ r.first;
        empty = λ j l l'. put_cases u.values (suc n) 0 j 0 (λ z. refl) (λ z. r.empty j l (omega arith));
        later = λ j l. put_other u.values (suc n) 0 j (λ z. omega arith) ∙ r.later j (omega arith);
      }
