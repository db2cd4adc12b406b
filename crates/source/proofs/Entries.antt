-- The entries of the passes-left, filled line by line: as many loops are open as are around the next line.
use mathlib.Core.Path.{◌≡◌, refl, sym, ap, ◌∙◌}
use mathlib.Core.Bool.{Bool, true, false}
use mathlib.Core.Option.{some}
use mathlib.Core.List.{List}
use Prim.Native.Nat.{ℕ, suc, pred, ◌+◌, ◌-◌, ◌≤◌, ◌<◌}
use native.Mathlib.Decide.{ℕ_discrete}
use native.Mathlib.Numerals.{add-one}
use native.Mathlib.Omega.{arith}
use borrow.Author.Tests.{ne_eqb}
use lib.ListN.{length, get_or, set}
use lib.Seq.{get_or-set_same, get_or-set_other}
use lib.Dec.{eqb}
use Rattle.theory.specs.Limits.{most_open}
use Rattle.theory.specs.ProgramText.{Plain, clear, increment, copy, loop, while, Command, plain, opens, closes, commands}
use Rattle.theory.specs.Source.{depth}
use Rattle.theory.proofs.Partners.{Known, depth-start}
use Rattle.source.specs.Lines.{Holds, command_at, entry_of, entry_at}
use Rattle.source.proofs.Program.{here, partner, depth_room}
use Rattle.source.proofs.Stepping.{kind_at, first-at, second_at, of_kind, by_tests}

-- What held of the cells below n holds of those up to n, once n has its value
pub set_more : (P : ℕ → ℕ → Type 0) (l : List ℕ) (n x : ℕ) → n < length l → ((m : ℕ) → m < n → P m (get_or l m 0)) → P n x
    → (m : ℕ) → m < n + 1 → P m (get_or (set l n x) m 0)
set_more P l n x room below at m h = go (ℕ_discrete m n)
  where
    go : Dec (m ≡ n) → P m (get_or (set l n x) m 0)
    go (yes e) = rw (e, get_or-set_same l n x 0 room) at
    go (no ne) = rw (get_or-set_other l n m x 0 ne) (below m (omega arith))

-- Entries

-- A kind that is neither `loop` nor `endloop`
pub off_loops : (P : Command → Type 0) (l : List ℕ) (m : ℕ) → ((c : Plain) → P (plain c)) → ((i : ℕ) → P (opens while i))
    → ((i : ℕ) → P (closes while i)) → (kind_at l m ≡ 4 → ⊥) → (kind_at l m ≡ 5 → ⊥) → P (command_at l m)
unfolding command_at
off_loops P l m p o c four five =
    rw (ne_eqb (kind_at l m) 4 four, ne_eqb (kind_at l m) 5 five)
    (go (eqb (kind_at l m) 1) (eqb (kind_at l m) 2) (eqb (kind_at l m) 3) (eqb (kind_at l m) 6))
  where
    go : (t u v w : Bool) → P (by_tests (first-at l m) (second_at l m) t u v false false w)
    go true u v w = p (clear (first-at l m))
    go false true v w = p (increment (first-at l m))
    go false false true w = p (copy (first-at l m) (second_at l m))
    go false false false true = o (first-at l m)
    go false false false false = c (first-at l m)

-- The entry is the number of loops around the line, but at `endloop`
pub off_endloop : (l : List ℕ) (m : ℕ) → (kind_at l m ≡ 5 → ⊥) → (d : ℕ) → entry_of (command_at l m) d ≡ d
off_endloop l m five d = go (ℕ_discrete (kind_at l m) 4)
  where
    go : Dec (kind_at l m ≡ 4) → entry_of (command_at l m) d ≡ d
    go (yes four) = rw (of_kind l m 4 four)
    go (no four) = off_loops (λ c. entry_of c d ≡ d) l m (λ c. refl) (λ i. refl) (λ i. refl) four five

-- n lines have been passed: as many loops are open as are around the next line
pub record Entering (l : List ℕ) (n deep : ℕ) (es : List ℕ) : Type 0 where
  pub count : deep ≡ depth (commands l) (suc n)
  pub entries : (m : ℕ) → m < n → get_or es m 0 ≡ entry_at l m

pub entering_start : (l es : List ℕ) → Entering l 0 0 es
entering_start l es = record { count = sym (depth-start (commands l)); entries = λ m h. absurd (omega arith) }

module _ (l : List ℕ) (h : Holds l) (n : ℕ) (inside : n < length (commands l)) where
  -- The loops around the next line
  opened_depth : kind_at l n ≡ 4 → depth (commands l) (suc (suc n)) ≡ suc (depth (commands l) (suc n))
  opened_depth e =
      let pair : Known (commands l) (suc n) (opens loop (first-at l n)) = rw (of_kind l n 4 e) at (partner l h n inside) in
      pair.1.body_depth

  pub closed_depth : kind_at l n ≡ 5 → depth (commands l) (suc n) ≡ suc (depth (commands l) (suc (suc n)))
  closed_depth e =
      let pair : Known (commands l) (suc n) (closes loop (first-at l n)) = rw (of_kind l n 5 e) at (partner l h n inside) in
      pair.1.close_depth ∙ ap suc (sym pair.1.after-depth)

  abbrev Even : Command → Type 0
  Even c = Known (commands l) (suc n) c
      → (depth (commands l) (suc (suc n)) ≡ depth (commands l) (suc n))
      × (entry_of c (depth (commands l) (suc n)) ≡ depth (commands l) (suc n))

  same-depth : (kind_at l n ≡ 4 → ⊥) → (kind_at l n ≡ 5 → ⊥) → Even (command_at l n)
  same-depth four five = off_loops Even l n (λ c k. (k, refl)) (λ i k. (k.1.body_depth, refl))
      (λ i k. (k.1.after-depth ∙ sym k.1.close_depth, refl)) four five

  module _ (deep : ℕ) (es : List ℕ) (before : Entering l n deep es) (room : n < length es) where
    entered_as : (x deep' : ℕ) → x ≡ entry_at l n → deep' ≡ depth (commands l) (suc (suc n)) → Entering l (n + 1) deep' (set es n x)
    entered_as x deep' e o = record {
      count = rw (add-one n) o;
      entries = set_more (λ m v. v ≡ entry_at l m) es n x room before.entries e;
    }

    pub entering_opens : kind_at l n ≡ 4 → Entering l (n + 1) (deep + 1) (set es n deep)
    unfolding entry_at
    entering_opens e = entered_as deep (deep + 1) (before.count ∙ rw (of_kind l n 4 e)) (omega (arith, before.count, opened_depth e))

    pub entering_closes : kind_at l n ≡ 5 → Entering l (n + 1) (deep - 1) (set es n (deep - 1))
    unfolding entry_at
    entering_closes e =
        let less : deep - 1 ≡ pred (depth (commands l) (suc n)) = omega (arith, before.count) in
        entered_as (deep - 1) (deep - 1) (less ∙ rw (of_kind l n 5 e)) (omega (arith, closed_depth e))

    pub entering_other : (kind_at l n ≡ 4 → ⊥) → (kind_at l n ≡ 5 → ⊥) → Entering l (n + 1) deep (set es n deep)
    unfolding entry_at
    entering_other four five =
        let even : _ = same-depth four five (partner l h n inside) in
        entered_as deep deep (before.count ∙ sym even.1) (before.count ∙ sym even.0)

    -- An `endloop` has a loop open, and a `loop` has room for one more
    pub some_open : kind_at l n ≡ 5 → 1 ≤ deep
    some_open e = omega (arith, before.count, closed_depth e)

    pub few_loops : kind_at l n ≡ 4 → deep < most_open
    few_loops e = rw before.count (depth_room l h (suc n) loop (first-at l n) (here l h n inside ∙ ap some (of_kind l n 4 e)))
