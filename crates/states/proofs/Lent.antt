-- Runs from numbers that are lent: those that are a state, and those that are none since there are not 82 of them.
use mathlib.Core.Path.{◌≡◌, refl, sym, ap, subst, ◌∙◌}
use mathlib.Core.Bool.{Bool, true, false, cond, ◌&&◌}
use mathlib.Core.List.{List, ◌∷◌, ◌++◌}
use Prim.Native.Nat.{ℕ, suc, ◌+◌}
use native.Mathlib.Omega.{arith}
use lib.ListN.{length, get_or, drop, replicate}
use lib.Dec.{eqb}
use lib.Seq.{take_at, drop_at, take_all, drop-drop, get_or_at, get_or-append-add}
use borrow.Author.Tests.{eqb-true}
use Rattle.theory.specs.ProgramText.{Command, variables}
use Rattle.theory.specs.Runs.{Outcome}
use Rattle.theory.specs.Source as S
use Rattle.theory.specs.Machines.{SourceState, is_limited}
use Rattle.theory.specs.TurnedDown.{Answer, done, refused, after, rule_9, are_capacities, is_source, run_from}
use Rattle.theory.proofs.GoodMemory.{length-cells}
use Rattle.source_state.specs.Answers.{HandsBack, source_state, ended_by, state_by, moved_by}
use Rattle.source_state.specs.declared.State.{State}
use Rattle.source_state.specs.declared.Run.{Run}
use Rattle.state_numbers.specs.Numbers.{state_numbers, state_of, numbers_of, no_state, lent_state, kept_numbers}
use Rattle.states.specs.Numbers.{run_numbers, numbers_by, RunsLent}
use Rattle.state_numbers.proofs.Parts.{part_length, parts}

-- A state has 32 capacities, 32 values and 16 passes-left
pub record Sized (s : State) : Type 0 where
  pub capacities : length s.capacities ≡ 32
  pub values : length s.values ≡ 32
  pub passes : length s.passes ≡ 16

pub sized_of : (l : List ℕ) → length l ≡ 82 → Sized (state_of l)
unfolding state_of
sized_of l e = record {
  capacities = part_length l 0 32 (omega arith) (omega arith);
  values = part_length l 34 32 (omega arith) (omega arith);
  passes = part_length l 66 16 (omega arith) (omega arith);
}

sized_by : (s : State) → Sized s → (a : Answer (Outcome S.State)) → Sized (state_by s a)
unfolding state_by
sized_by s h (done o) = record {
  capacities = h.capacities;
  values = length-cells 32 o.state.values;
  passes = length-cells 16 o.state.passes;
}
sized_by s h (refused r) = h

-- Numbers to a state and back, and a state to numbers and back
pub numbers_again : (l : List ℕ) → length l ≡ 82 → numbers_of (state_of l) ≡ l
unfolding state_of numbers_of
numbers_again l e = parts l e

get_or_behind : (u r : List ℕ) (k n : ℕ) → length u ≡ k → get_or (u ++ r) (k + n) 0 ≡ get_or r n 0
get_or_behind u r k n e = rw (← e) (get_or-append-add u r n 0)

pub state_again : (s : State) → Sized s → state_of (numbers_of s) ≡ s
unfolding state_of numbers_of
state_again s h =
    let c : List ℕ = s.capacities in
    let lists : List ℕ = s.values ++ s.passes in
    let behind : drop 34 (numbers_of s) ≡ lists =
    sym (drop-drop 2 32 (numbers_of s)) ∙ ap (drop 2) (drop_at c (s.line ∷ s.steps ∷ lists) 32 h.capacities) in
    let last : drop 66 (numbers_of s) ≡ s.passes =
    sym (drop-drop 32 34 (numbers_of s)) ∙ (ap (drop 32) behind ∙ drop_at s.values s.passes 32 h.values) in
    rw (
      take_at c (s.line ∷ s.steps ∷ lists) 32 h.capacities,
      get_or_at c s.line (s.steps ∷ lists) 0 32 h.capacities,
      get_or_behind c (s.line ∷ s.steps ∷ lists) 32 1 h.capacities,
      behind,
      take_at s.values s.passes 32 h.values,
      last,
      take_all 16 s.passes (omega (arith, h.passes)),
    )

after_same : {A B : Type 0} (a : Answer A) (f g : A → Answer B) → ((x : A) → f x ≡ g x) → after a f ≡ after a g
after_same (done x) f g h = h x
after_same (refused r) f g h = refl

numbers_of_by : (l : List ℕ) → length l ≡ 82 → (a : Answer (Outcome S.State)) → numbers_of (state_by (state_of l) a) ≡ numbers_by l a
unfolding numbers_by state_by
numbers_of_by l e (done o) = refl
numbers_of_by l e (refused r) = numbers_again l e

-- Rule 9
abbrev turned_down : List Command → Answer (Outcome S.State)
turned_down p = refused (record { number = 9; place = 0 })

-- What a run from s hands back, when it was asked as A
abbrev Back : Answer (List Command) → ℕ → State → Run → Type 0
Back A budget s r = HandsBack s (after A (run_from (source_state s) budget)) r

-- From 82 numbers, a run from the state that they are
module _ (A : Answer (List Command)) (l : List ℕ) (budget : ℕ) (is : eqb (length l) state_numbers ≡ true) where
  size : length l ≡ 82
  size = eqb-true (length l) 82 is

  same_answer : after A (run_from (source_state (state_of l)) budget) ≡ after A (run_numbers l budget)
  unfolding run_numbers
  same_answer = after_same A _ _ λ p. rw is

  runs-state : (r : Run) → Back A budget (state_of l) r → RunsLent A l budget r.ended (numbers_of r.state)
  runs-state r back =
      let a : Answer (Outcome S.State) = after A (run_from (source_state (state_of l)) budget) in
      let sized : Sized r.state = rw back.state (sized_by (state_of l) (sized_of l size) a) in
      record {
        ended = back.ended ∙ ap ended_by same_answer;
        state_after = record {
          numbers = ap numbers_of back.state ∙ numbers_of_by l size a ∙ ap (numbers_by l) same_answer;
          stands
              = ap source_state (state_again r.state sized) ∙ back.stands ∙ ap (moved_by (source_state (state_of l))) same_answer;
        };
      }

-- From another number of numbers: rule 9, as for a state at line 0
off_line : (t : Bool) (most : ℕ) → (t && is_limited most 0) ≡ false
off_line true most = refl
off_line false most = refl

no_line : (budget : ℕ) (p : List Command) → run_from (source_state no_state) budget p ≡ turned_down p
unfolding no_state run_from rule_9 is_source
no_line budget p = rw (off_line (are_capacities (variables p) (replicate 32 0)) (suc (length p)))

kept : (A : Answer (List Command)) (l : List ℕ) → numbers_by l (after A turned_down) ≡ l
unfolding numbers_by
kept (done p) l = refl
kept (refused r) l = refl

unmoved : (A : Answer (List Command)) (s : SourceState) → moved_by s (after A turned_down) ≡ s
unfolding moved_by
unmoved (done p) s = refl
unmoved (refused r) s = refl

module _ (A : Answer (List Command)) (l : List ℕ) (budget : ℕ) (other : eqb (length l) state_numbers ≡ false) where
  refused_answer : after A turned_down ≡ after A (run_numbers l budget)
  unfolding run_numbers
  refused_answer = after_same A _ _ λ p. rw other

  runs_none : (r : Run) → Back A budget no_state r → RunsLent A l budget r.ended l
  runs_none r back =
      let down : after A (run_from (source_state no_state) budget) ≡ after A turned_down = after_same A _ _ (no_line budget) in
      record {
        ended = back.ended ∙ ap ended_by (down ∙ refused_answer);
        state_after = record {
          numbers = sym (kept A l) ∙ ap (numbers_by l) refused_answer;
          stands = sym (unmoved A (source_state (state_of l))) ∙ ap (moved_by (source_state (state_of l))) refused_answer;
        };
      }

-- Both
pub runs_lent : (A : Answer (List Command)) (l : List ℕ) (budget : ℕ) (s : State) (r : Run) (l' : List ℕ)
    → s ≡ lent_state l → Back A budget s r → l' ≡ kept_numbers l r.state → RunsLent A l budget r.ended l'
unfolding lent_state kept_numbers
runs_lent A l budget s r l' from back to = go (eqb (length l) state_numbers) refl from to
  where
    go : (t : Bool) → eqb (length l) state_numbers ≡ t → s ≡ cond t (state_of l) no_state → l' ≡ cond t (numbers_of r.state) l
        → RunsLent A l budget r.ended l'
    go true e from to =
        subst (RunsLent A l budget r.ended) (sym to)
        (runs-state A l budget e r (subst (λ x. Back A budget x r) from back))
    go false e from to =
        subst (RunsLent A l budget r.ended) (sym to)
        (runs_none A l budget e r (subst (λ x. Back A budget x r) from back))
