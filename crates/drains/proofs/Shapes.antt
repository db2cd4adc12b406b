-- Two lists of numbers that give a drain, and the word whose instructions they give.
use mathlib.Core.Path.{◌≡◌, refl, sym, ap, ◌∙◌}
use mathlib.Core.Bool.{Bool, true, ◌&&◌}
use mathlib.Core.Logic.{⊎_elim}
use mathlib.Core.Option.{Option, some}
use mathlib.Core.List.{List, [], ◌∷◌}
use Prim.Native.Nat.{ℕ, zero, suc, ◌+◌, ◌-◌, ◌≤◌, ◌<◌}
use native.Mathlib.Omega.{arith}
use lib.ListN.{length, get_or, take, drop, length-take, length-drop, get_or-eq_default}
use lib.Seq.{drop-cons, get_or-take, get_or-drop}
use lib.Dec.{eqb, leb}
use borrow.Author.Tests.{eqb-true, leb-true}
use Rattle.theory.specs.Basics.{at, all}
use Rattle.theory.specs.Word.{one, hash, Instruction, append, forward, backward, cases, kind, operand}
use Rattle.theory.proofs.Faults.{and_first, and_second}
use Rattle.drains.specs.Drains.{loops_back, is_drain, targets}
use Rattle.drains.proofs.Loops.{Adds, Drains}
use Rattle.drains.proofs.Poured.{lt_or_le}

-- Two lists of numbers give a word's instructions
abbrev pub Spells : List Instruction → List ℕ → List ℕ → Type 0
Spells w kinds operands =
    (j : ℕ) → j < length kinds
    → (x : Instruction) × (at w (suc j) ≡ some x) × (kind x ≡ get_or kinds j 0) × (operand x ≡ get_or operands j 0)

is_append : (x : Instruction) → kind x ≡ 1 → x ≡ append one (operand x)
is_append (append one n) k = refl
is_append (append hash n) k = absurd (omega arith)
is_append (forward n) k = absurd (omega arith)
is_append (backward n) k = absurd (omega arith)
is_append (cases n) k = absurd (omega arith)

is_backward : (x : Instruction) → kind x ≡ 4 → x ≡ backward (operand x)
is_backward (append one n) k = absurd (omega arith)
is_backward (append hash n) k = absurd (omega arith)
is_backward (forward n) k = absurd (omega arith)
is_backward (backward n) k = refl
is_backward (cases n) k = absurd (omega arith)

is_cases : (x : Instruction) → kind x ≡ 5 → x ≡ cases (operand x)
is_cases (append one n) k = absurd (omega arith)
is_cases (append hash n) k = absurd (omega arith)
is_cases (forward n) k = absurd (omega arith)
is_cases (backward n) k = absurd (omega arith)
is_cases (cases n) k = refl

-- What stands in a list where it is not 0 stands within it
pub within_list : (l : List ℕ) (j : ℕ) → 1 ≤ get_or l j 0 → j < length l
within_list l j h = ⊎_elim
    (λ (below : j < length l). below)
    (λ (past : length l ≤ j). absurd (omega (arith, get_or-eq_default l 0 past)))
    (lt_or_le j (length l))

all_get_d : (f : ℕ → Bool) (l : List ℕ) → all f l ≡ true → (k : ℕ) → k < length l → f (get_or l k 0) ≡ true
all_get_d f [] h k below = absurd (omega arith)
all_get_d f (x ∷ l) h zero below = and_first (f x) (all f l) h
all_get_d f (x ∷ l) h (suc k) below = all_get_d f l (and_second (f x) (all f l) h) k (omega arith)

-- What it says that a loop goes back so
pub record Back (kinds operands : List ℕ) (i n : ℕ) : Type 0 where
  pub two : 2 ≤ n
  pub kind_is : get_or kinds (i + n) 0 ≡ 4
  pub operand_is : get_or operands (i + n) 0 ≡ n
  pub in_kinds : i + n < length kinds
  pub in_operands : i + n < length operands
  pub appends : (k : ℕ) → k < n - 2 → get_or kinds (i + 2 + k) 0 ≡ 1

module _ (kinds operands : List ℕ) (i n : ℕ) where
  abbrev body : List ℕ
  body = take (n - 2) (drop (i + 2) kinds)

  pub is_back : loops_back kinds operands i n ≡ true → Back kinds operands i n
  unfolding loops_back
  is_back h =
      let k = eqb (get_or kinds (i + n) 0) 4 in
      let o = eqb (get_or operands (i + n) 0) n in
      let three = and_first (leb 2 n && k && o) (all (eqb 1) body) h in
      let both = and_first (leb 2 n && k) o three in
      let two : 2 ≤ n = leb-true 2 n (and_first (leb 2 n) k both) in
      let kind_is : get_or kinds (i + n) 0 ≡ 4 = eqb-true _ 4 (and_second (leb 2 n) k both) in
      let operand_is : get_or operands (i + n) 0 ≡ n = eqb-true _ n (and_second (leb 2 n && k) o three) in
      let in_kinds : i + n < length kinds = within_list kinds (i + n) (omega arith) in
      let long : length body ≡ n - 2 = simp (length-take, length-drop) (omega arith) in
      record {
        two = two;
        kind_is = kind_is;
        operand_is = operand_is;
        in_kinds = in_kinds;
        in_operands = within_list operands (i + n) (omega arith);
        appends = λ k l.
            sym (get_or-take (n - 2) (drop (i + 2) kinds) k 0 l ∙ get_or-drop (i + 2) kinds k 0)
            ∙ sym (eqb-true 1 (get_or body k 0)
            (all_get_d (eqb 1) body (and_second (leb 2 n && eqb (get_or kinds (i + n) 0) 4 && o) (all (eqb 1) body) h) k (omega arith)));
      }

pub targets-length : (kinds operands : List ℕ) (i n : ℕ) → Back kinds operands i n → length (targets operands i n) ≡ n - 2
targets-length kinds operands i n b = simp (length-take, length-drop) (omega (arith, b.two, b.in_operands))

module _ (w : List Instruction) (kinds operands : List ℕ) (sp : Spells w kinds operands) where
  at-append : (j : ℕ) → j < length kinds → get_or kinds j 0 ≡ 1 → at w (suc j) ≡ some (append one (get_or operands j 0))
  at-append j l k =
      let (x, is, e, o) = sp j l in
      is ∙ ap {B = Option Instruction} some (is_append x (e ∙ k) ∙ ap {B = Instruction} (append one) o)

  at_backward : (j : ℕ) → j < length kinds → get_or kinds j 0 ≡ 4 → at w (suc j) ≡ some (backward (get_or operands j 0))
  at_backward j l k =
      let (x, is, e, o) = sp j l in
      is ∙ ap {B = Option Instruction} some (is_backward x (e ∙ k) ∙ ap {B = Instruction} backward o)

  at_cases : (j : ℕ) → j < length kinds → get_or kinds j 0 ≡ 5 → at w (suc j) ≡ some (cases (get_or operands j 0))
  at_cases j l k =
      let (x, is, e, o) = sp j l in
      is ∙ ap {B = Option Instruction} some (is_cases x (e ∙ k) ∙ ap {B = Instruction} cases o)

  -- c appends from index j on, and back
  adds_spelled : (c j n : ℕ) → j + c < length kinds → j + c < length operands → ((k : ℕ) → k < c → get_or kinds (j + k) 0 ≡ 1)
      → get_or kinds (j + c) 0 ≡ 4 → get_or operands (j + c) 0 ≡ n → Adds w (suc j) (take c (drop j operands)) n
  adds_spelled zero j n l l' each b f =
      let e : j + 0 ≡ j = omega arith in
      at_backward j (omega arith) (rw e at b) ∙ ap (λ x. some (backward x)) (rw e at f)
  adds_spelled (suc c) j n l l' each b f =
      let e : j + suc c ≡ suc j + c = omega arith in
      let first : j + 0 ≡ j = omega arith in
      let here : get_or kinds j 0 ≡ 1 = rw first at (each 0 (omega arith)) in
      rw (drop-cons operands j 0 (omega arith)) (
        at-append j (omega arith) here,
        adds_spelled c (suc j) n (omega arith) (omega arith)
            (λ k h. let g : j + suc k ≡ suc j + k = omega arith in rw g at (each (suc k) (omega arith))) (rw e at b) (rw e at f),
      )

module _ (kinds operands : List ℕ) (i n : ℕ) (drain : is_drain kinds operands i n ≡ true) where
  pub drain_cases : eqb (get_or kinds i 0) 5 ≡ true
  unfolding is_drain
  drain_cases = and_first (eqb (get_or kinds i 0) 5) (loops_back kinds operands i n) drain

  pub drain_back : loops_back kinds operands i n ≡ true
  unfolding is_drain
  drain_back = and_second (eqb (get_or kinds i 0) 5) (loops_back kinds operands i n) drain

  b : Back kinds operands i n
  b = is_back kinds operands i n drain_back

  pub drain_length : n ≡ length (targets operands i n) + 2
  drain_length = omega (arith, targets-length kinds operands i n b, b.two)

  pub drains_spelled : (w : List Instruction) → Spells w kinds operands → Drains w (suc i) (get_or operands i 0) (targets operands i n)
  drains_spelled w sp =
      let end : i + 2 + (n - 2) ≡ i + n = omega (arith, b.two) in
      let start : suc (i + 2) ≡ suc (suc (suc i)) = omega arith in
      let adds = adds_spelled w kinds operands sp (n - 2) (i + 2) n (omega (arith, b.in_kinds)) (omega (arith, b.in_operands))
      b.appends (rw end b.kind_is) (rw end b.operand_is) in
      record {
        test = at_cases w kinds operands sp i (omega (arith, b.in_kinds)) (eqb-true (get_or kinds i 0) 5 drain_cases);
        adds = rw (← drain_length) (rw start at adds);
      }
