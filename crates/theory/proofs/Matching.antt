-- When the counts of a word's registers match a source state, what of that stays as the source goes on, and the room that this asks for.
use mathlib.Core.Path.{◌≡◌, refl, sym, ap, ◌∙◌}
use mathlib.Core.Logic.{◌≢◌}
use mathlib.Core.Bool.{Bool, true, false}
use mathlib.Core.Option.{some}
use mathlib.Core.List.{List}
use Prim.Native.Nat.{ℕ, zero, suc, pred, ◌≤◌, ◌<◌}
use native.Mathlib.Omega.{arith}
use lib.ListN.{length}
use lib.Dec.{eqb}
use borrow.Author.Tests.{eqb-true, eqb-false}
use Rattle.theory.specs.Basics.{at, put}
use Rattle.theory.specs.Runs.{register, Room}
use Rattle.theory.specs.ProgramText.{Command}
use Rattle.theory.specs.Source.{State, depth, go_to, set_variable}
use Rattle.theory.specs.Word.{one, Instruction, append}
use Rattle.theory.specs.Translation.{scratch, counter}
use Rattle.theory.proofs.Cells.{put_same, put_other, put_cases, put_ind}
use Rattle.theory.proofs.Paths.{Fits}

-- Where there is room for an amount there is room for less, and what has room in a variable has room in each register above K that the
-- word appends to: in scratch, and in the counters of the depths that it uses
pub record Roomy (room : Room) (K : ℕ) (w : List Instruction) : Type 0 where
  pub less : (r n : ℕ) → room r (suc n) ≡ true → room r n ≡ true
  pub in_named : (q r i n : ℕ) → at w q ≡ some (append one r) → K < r → i < K → room (register i) n ≡ true → room r n ≡ true

pub fits : (room : Room) (K : ℕ) (w : List Instruction) → Roomy room K w → (r x : ℕ) → room r x ≡ true → Fits room r x
fits room K w R r zero h k l = let z : k ≡ 0 = omega arith in ap (room r) z ∙ h
fits room K w R r (suc x) h k l = go (eqb k (suc x)) refl (fits room K w R r x (R.less r x h) k)
  where
    go : (b : Bool) → eqb k (suc x) ≡ b → (k ≤ x → room r k ≡ true) → room r k ≡ true
    go true e f = ap (room r) (eqb-true k (suc x) e) ∙ h
    go false e f = let ne : k ≢ suc x = eqb-false k (suc x) e in f (omega arith)

-- The counts n at the first instruction of the line of s: each variable in its register, nothing in scratch, and in the counter of depth d
-- one less than the passes left there. No passes are left of loops that are not around the line
pub record Match (room : Room) (K : ℕ) (p : List Command) (s : State) (n : ℕ → ℕ) : Type 0 where
  pub from_first : 0 < s.line
  pub to_end : s.line ≤ suc (length p)
  pub held : (i : ℕ) → i < K → n (register i) ≡ s.values i
  pub empty : n (scratch K) ≡ 0
  pub counted : (d : ℕ) → n (counter K d) ≡ pred (s.passes d)
  pub idle : (d : ℕ) → depth p s.line ≤ d → s.passes d ≡ 0
  pub fit : (i : ℕ) → i < K → room (register i) (s.values i) ≡ true

module _ (room : Room) (K : ℕ) (p : List Command) (s : State) (n : ℕ → ℕ) (M : Match room K p s n) where
  pub match_store : (i x : ℕ) → i < K → s.line ≤ length p → depth p (suc s.line) ≡ depth p s.line → room (register i) x ≡ true
      → Match room K p (set_variable s i x) (put n (register i) x)
  match_store i x l b e f = record {
    from_first = omega arith;
    to_end = omega arith;
    held = λ j h. put_cases n (register i) x (register j) (put s.values i x j)
        (λ q. sym (ap (put s.values i x) (omega arith) ∙ put_same s.values i x))
        (λ q. M.held j h ∙ sym (put_other s.values i x j (omega arith)));
    empty = put_other n (register i) x (scratch K) (omega arith) ∙ M.empty;
    counted = λ d. put_other n (register i) x (counter K d) (omega arith) ∙ M.counted d;
    idle = λ d h. M.idle d (omega arith);
    fit = λ j h. put_ind (λ y. room (register j) y ≡ true) s.values i x j
        (λ q. ap (λ m. room (register m) x) q ∙ f)
        (λ q. M.fit j h);
  }

  pub match_go_to : (l : ℕ) → 0 < l → l ≤ suc (length p) → depth p l ≡ depth p s.line → Match room K p (go_to s l) n
  match_go_to l g h e = record {
    from_first = g;
    to_end = h;
    held = M.held;
    empty = M.empty;
    counted = M.counted;
    idle = λ d z. M.idle d (omega arith);
    fit = M.fit;
  }

  pub match_passes : (l d x y : ℕ) → 0 < l → l ≤ suc (length p) → y ≡ pred x → ((e : ℕ) → depth p l ≤ e → put s.passes d x e ≡ 0)
      → Match room K p (record { line = l; values = s.values; passes = put s.passes d x }) (put n (counter K d) y)
  match_passes l d x y g h e f = record {
    from_first = g;
    to_end = h;
    held = λ j z. put_other n (counter K d) y (register j) (omega arith) ∙ M.held j z;
    empty = put_other n (counter K d) y (scratch K) (omega arith) ∙ M.empty;
    counted = λ k. put_cases n (counter K d) y (counter K k) (pred (put s.passes d x k))
        (λ q. e ∙ ap pred (sym (ap (put s.passes d x) (omega arith) ∙ put_same s.passes d x)))
        (λ q. M.counted k ∙ ap pred (sym (put_other s.passes d x k (omega arith))));
    idle = f;
    fit = M.fit;
  }
