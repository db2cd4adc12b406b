-- A step of the source keeps what rule 9 asks of a state, so a run does.
use mathlib.Core.Path.{◌≡◌, refl, ap, subst}
use mathlib.Core.Bool.{Bool, true, false, cond, ◌&&◌}
use mathlib.Core.Option.{Option, none, some}
use mathlib.Core.List.{List, ◌∷◌}
use Prim.Native.Nat.{ℕ, zero, suc, ◌+◌, ◌≤◌, ◌<◌, pred}
use native.Mathlib.Numerals.{add-one}
use native.Mathlib.Omega.{arith}
use lib.ListN.{length, get_or}
use lib.Dec.{ltb, leb}
use borrow.Author.Tests.{eqb-true, eq-eqb, ltb-true, ltb-false, lt-ltb, le-ltb, leb-true, le-leb}
use Rattle.theory.specs.Limits
use Rattle.theory.specs.Basics.{at, put, given, and_then, all_below}
use Rattle.theory.specs.ProgramText.{Plain, clear, increment, copy, loop, while, Command, plain, opens, closes, variables}
use Rattle.theory.specs.ProgramText.{Opening, block_of}
use Rattle.theory.specs.Runs.{register, within_each}
use Rattle.theory.specs.Source.{open_at, closing, opening, loops, loop_variable, depth, State, go_to, set_variable}
use Rattle.theory.specs.Source.{begin_loop, passes_after, end_loop, begin_while, perform, step, machine}
use Rattle.theory.specs.Machines.{capacity_of, SourceState, run_source, is_limited}
use Rattle.theory.specs.TurnedDown.{are_capacities, is_value, is_passes, is_source}
use Rattle.theory.specs.Claims.{Accepted, SourceStaysGood}
use Rattle.theory.proofs.Faults.{and_first, and_second}
use Rattle.theory.proofs.Cells.{put_ind, at-within}
use Rattle.theory.proofs.Partners.{Partners, Known, known, named_below, open_on}
use Rattle.theory.proofs.Nesting.{well_nested, few_variables}
use Rattle.theory.proofs.Budgets.{run_keeps}
use Rattle.theory.proofs.GoodMemory.{all_below-at, all_below-from}

-- What rule 9 asks, in numbers

abbrev pub Limited : ℕ → ℕ → Type 0
Limited most n = (1 ≤ n) × (n ≤ most)

pub limited : (most n : ℕ) → is_limited most n ≡ true → Limited most n
limited most n h = (leb-true 1 n (and_first (leb 1 n) (leb n most) h), leb-true n most (and_second (leb 1 n) (leb n most) h))

pub is_limited-from : (most n : ℕ) → Limited most n → is_limited most n ≡ true
is_limited-from most n h = rw (le-leb 1 n h.0, le-leb n most h.1)

-- The capacity of variable i
pub capacity_at : (capacities : List ℕ) (i : ℕ) → capacity_of capacities (register i) ≡ get_or capacities i 0
capacity_at capacities i = rw (add-one i)

-- One of two, as a test has it
both_ways : {A : Type 0} (n m : ℕ) (x y : A) (P : A → Type 0) → (n < m → P x) → (m ≤ n → P y) → P (cond (ltb n m) x y)
both_ways {A} n m x y P below above = go (ltb n m) refl
  where
    go : (t : Bool) → ltb n m ≡ t → P (cond t x y)
    go true e = below (ltb-true n m e)
    go false e = above (ltb-false n m e)

-- The values of a program of K variables
abbrev pub Value : (ℕ → ℕ) → ℕ → ℕ → ℕ → Type 0
Value capacity K i v = (i < K → v ≤ capacity (register i)) × (K ≤ i → v ≡ 0)

value_of : (capacities : List ℕ) (K i v : ℕ) → is_value capacities K i v ≡ true → Value (capacity_of capacities) K i v
value_of capacities K i v h = (λ l. leb-true v _ (rw (lt-ltb i K l) at h), λ l. eqb-true v 0 (rw (le-ltb i K l) at h))

is_value-from : (capacities : List ℕ) (K i v : ℕ) → Value (capacity_of capacities) K i v → is_value capacities K i v ≡ true
is_value-from capacities K i v h = both_ways i K _ _ (λ t. t ≡ true) (λ l. le-leb v _ (h.0 l)) (λ l. eq-eqb v 0 (h.1 l))

-- The passes left where these pairs hold the line
abbrev pub Passes : (ℕ → ℕ) → List Opening → ℕ → ℕ → Type 0
Passes capacity os d k = (d < loops os → Limited (capacity (register (loop_variable os d))) k) × (loops os ≤ d → k ≡ 0)

passes_of : (capacities : List ℕ) (os : List Opening) (d k : ℕ) → is_passes capacities os d k ≡ true
    → Passes (capacity_of capacities) os d k
passes_of capacities os d k h =
    (λ l. limited _ k (rw (lt-ltb d (loops os) l) at h), λ l. eqb-true k 0 (rw (le-ltb d (loops os) l) at h))

is_passes-from : (capacities : List ℕ) (os : List Opening) (d k : ℕ) → Passes (capacity_of capacities) os d k
    → is_passes capacities os d k ≡ true
is_passes-from capacities os d k h =
    both_ways d (loops os) _ _ (λ t. t ≡ true) (λ l. is_limited-from _ k (h.0 l)) (λ l. eq-eqb k 0 (h.1 l))

abbrev pub Values : (ℕ → ℕ) → ℕ → (ℕ → ℕ) → Type 0
Values capacity K f = (i : ℕ) → i < Limits.state_values → Value capacity K i (f i)

abbrev pub PassesLeft : (ℕ → ℕ) → List Opening → (ℕ → ℕ) → Type 0
PassesLeft capacity os f = (d : ℕ) → d < Limits.state_passes → Passes capacity os d (f d)

-- A loop around others keeps its variable; the innermost has its own
pub outer_variable : (o : Opening) (os : List Opening) (d : ℕ) → d < loops os → loop_variable (o ∷ os) d ≡ loop_variable os d
outer_variable o os d l = rw (lt-ltb d (loops os) l)

pub inner_variable : (o : Opening) (os : List Opening) → loop_variable (o ∷ os) (loops os) ≡ o.index
inner_variable o os = rw (le-ltb (loops os) (loops os) (omega arith))

module _ (capacity : ℕ → ℕ) where
  values-put : (K : ℕ) (f : ℕ → ℕ) (i x : ℕ) → i < K → x ≤ capacity (register i) → Values capacity K f → Values capacity K (put f i x)
  values-put K f i x named short h j l =
      put_ind (Value capacity K j) f i x j (λ e. (λ below. rw e short, λ high. absurd (omega arith))) (λ e. h j l)

  module _ (n i : ℕ) (os : List Opening) (f : ℕ → ℕ) where
    abbrev loop_of : Opening
    loop_of = record { line = n; kind = loop; index = i }

    abbrev while_of : Opening
    while_of = record { line = n; kind = while; index = i }

    -- what is left inside a loop of d < D others is limited alike within a pair more
    kept : (o : Opening) (d k : ℕ) → d < loops os → Limited (capacity (register (loop_variable os d))) k
        → Limited (capacity (register (loop_variable (o ∷ os) d))) k
    kept o d k l h = rw (outer_variable o os d l) h

    back : (o : Opening) (d k : ℕ) → d < loops os → Limited (capacity (register (loop_variable (o ∷ os) d))) k
        → Limited (capacity (register (loop_variable os d))) k
    back o d k l h = rw (outer_variable o os d l) at h

    -- a loop begins with k passes, goes on with k, or is over
    passes_begin : (k : ℕ) → Limited (capacity (register i)) k → PassesLeft capacity os f
        → PassesLeft capacity (loop_of ∷ os) (put f (loops os) k)
    passes_begin k left h d l = put_ind (Passes capacity (loop_of ∷ os) d) f (loops os) k d
        (λ e. (λ below. rw (e, inner_variable loop_of os) left, λ high. absurd (omega arith)))
        (λ e. (λ below. kept loop_of d (f d) (omega arith) ((h d l).0 (omega arith)), λ high. (h d l).1 (omega arith)))

    passes_again : (k : ℕ) → (loops os < Limits.state_passes → Limited (capacity (register i)) k)
        → PassesLeft capacity (loop_of ∷ os) f → PassesLeft capacity (loop_of ∷ os) (put f (loops os) k)
    passes_again k left h d l = put_ind (Passes capacity (loop_of ∷ os) d) f (loops os) k d
        (λ e. (λ below. rw (e, inner_variable loop_of os) (left (omega arith)), λ high. absurd (omega arith)))
        (λ e. h d l)

    passes_over : PassesLeft capacity (loop_of ∷ os) f → PassesLeft capacity os (put f (loops os) 0)
    passes_over h d l = put_ind (Passes capacity os d) f (loops os) 0 d
        (λ e. (λ below. absurd (omega arith), λ high. refl))
        (λ e. (λ below. back loop_of d (f d) below ((h d l).0 (omega arith)), λ high. (h d l).1 (omega arith)))

    -- a while begins or is over
    while_begins : PassesLeft capacity os f → PassesLeft capacity (while_of ∷ os) f
    while_begins h d l = (λ below. kept while_of d (f d) below ((h d l).0 below), (h d l).1)

    while_over : PassesLeft capacity (while_of ∷ os) f → PassesLeft capacity os f
    while_over h d l = (λ below. back while_of d (f d) below ((h d l).0 below), (h d l).1)

-- A state as rule 9 asks
pub record Stood (p : List Command) (capacity : ℕ → ℕ) (s : State) : Type 0 where
  pub line : Limited (suc (length p)) s.line
  pub values : Values capacity (variables p) s.values
  pub passes : PassesLeft capacity (open_at p s.line) s.passes

module _ (p : List Command) (s : SourceState) where
  abbrev is_value-at : ℕ → Bool
  is_value-at i = is_value s.capacities (variables p) i (s.state.values i)

  abbrev is_passes-at : ℕ → Bool
  is_passes-at d = is_passes s.capacities (open_at p s.state.line) d (s.state.passes d)

  pub stood_is_source : are_capacities (variables p) s.capacities ≡ true → Stood p (capacity_of s.capacities) s.state
      → is_source p s ≡ true
  unfolding is_source
  stood_is_source c h =
      let on_line = is_limited-from (suc (length p)) s.state.line h.line in
      let values = all_below-from Limits.state_values is_value-at
      (λ i l. is_value-from s.capacities (variables p) i (s.state.values i) (h.values i l)) in
      let passes = all_below-from Limits.state_passes is_passes-at
      (λ d l. is_passes-from s.capacities (open_at p s.state.line) d (s.state.passes d) (h.passes d l)) in
      rw (c, on_line, values, passes)

  pub source_is_stood : is_source p s ≡ true
      → (are_capacities (variables p) s.capacities ≡ true) × Stood p (capacity_of s.capacities) s.state
  unfolding is_source
  source_is_stood h =
      let sized = are_capacities (variables p) s.capacities in
      let on_line = is_limited (suc (length p)) s.state.line in
      let valued = all_below Limits.state_values is_value-at in
      let left = all_below Limits.state_passes is_passes-at in
      let first = and_first (sized && on_line && valued) left h in
      let last = and_second (sized && on_line && valued) left h in
      let start = and_first (sized && on_line) valued first in
      let good = and_second (sized && on_line) valued first in (
        and_first sized on_line start,
        record {
          line = limited (suc (length p)) s.state.line (and_second sized on_line start);
          values = λ i l. value_of s.capacities (variables p) i (s.state.values i)
              (all_below-at Limits.state_values is_value-at good i l);
          passes = λ d l. passes_of s.capacities (open_at p s.state.line) d (s.state.passes d)
              (all_below-at Limits.state_passes is_passes-at last d l);
        },
      )

-- Steps

module _ (p : List Command) (capacity : ℕ → ℕ) (s : State) (h : Stood p capacity s) where
  abbrev here : List Opening
  here = open_at p s.line

  -- the line moves to one where the passes left are as they should be
  stood_go : (n : ℕ) → Limited (suc (length p)) n → PassesLeft capacity (open_at p n) s.passes → Stood p capacity (go_to s n)
  stood_go n inside left = record { line = inside; values = h.values; passes = left }

  -- a variable that is named takes a value
  stood_store : (c : Plain) → at p s.line ≡ some (plain c) → (i x : ℕ) → i < variables p → x ≤ capacity (register i)
      → Stood p capacity (set_variable s i x)
  stood_store c a i x named short =
      let (low, high) = at-within p s.line (plain c) a in
      record {
        line = (omega arith, omega arith);
        values = values-put capacity (variables p) s.values i x named short h.values;
        passes = rw (open_on p s.line (plain c) a) h.passes;
      }

  -- `loop` with c for its `endloop`
  stood_loop : (c i : ℕ) → Partners p s.line c loop i → (k : ℕ) → k ≤ capacity (register i) → Stood p capacity (begin_loop p s k)
  unfolding depth
  stood_loop c i P zero short =
      let (low, high) = at-within p c (closes loop i) P.close_line in
      stood_go (suc (closing p s.line)) (rw P.closing_is (omega arith, omega arith))
      (rw (P.closing_is, P.after_open) h.passes)
  stood_loop c i P (suc k) short =
      let (low, high) = at-within p s.line (opens loop i) P.open_line in
      record {
        line = (omega arith, omega arith);
        values = h.values;
        passes = rw P.body_open (passes_begin capacity s.line i here s.passes (suc k) (omega arith, short) h.passes);
      }

  stood_while : (c i : ℕ) → Partners p s.line c while i → (k : ℕ) → Stood p capacity (begin_while p s k)
  stood_while c i P zero =
      let (low, high) = at-within p c (closes while i) P.close_line in
      stood_go (suc (closing p s.line)) (rw P.closing_is (omega arith, omega arith))
      (rw (P.closing_is, P.after_open) h.passes)
  stood_while c i P (suc k) =
      let (low, high) = at-within p s.line (opens while i) P.open_line in
      stood_go (suc s.line) (omega arith, omega arith)
      (rw P.body_open (while_begins capacity s.line i here s.passes h.passes))

  -- `endloop` with o for its `loop`
  stood_endloop : (o i : ℕ) → Partners p o s.line loop i → (k : ℕ) → passes_after p s ≡ k → Stood p capacity (end_loop p s k)
  unfolding depth
  stood_endloop o i P k e = go k e
    where
      os : List Opening
      os = open_at p o

      inner : pred (loops (open_at p s.line)) ≡ loops os
      inner = ap (λ l. pred (loops l)) P.close_open

      held : PassesLeft capacity (record { line = o; kind = loop; index = i } ∷ os) s.passes
      held = subst (λ l. PassesLeft capacity l s.passes) P.close_open h.passes

      fallen : (k : ℕ) → passes_after p s ≡ suc k → loops os < Limits.state_passes → Limited (capacity (register i)) (suc k)
      fallen k e l =
          let most : ℕ = capacity (register i) in
          let bound : Limited most (s.passes (loops os))
          = rw (inner_variable (record { line = o; kind = loop; index = i }) os) at ((held (loops os) l).0 (omega arith)) in
          let fall : pred (s.passes (loops os)) ≡ suc k = rw inner at e in
          (omega arith, omega (arith, bound.1))

      go : (k : ℕ) → passes_after p s ≡ k → Stood p capacity (end_loop p s k)
      go zero e =
          let (low, high) = at-within p s.line (closes loop i) P.close_line in
          record {
            line = (omega arith, omega arith);
            values = h.values;
            passes = rw (P.after_open, inner) (passes_over capacity o i os s.passes held);
          }
      go (suc k) e =
          let (low, high) = at-within p o (opens loop i) P.open_line in
          record {
            line = rw P.opening_is (omega arith, omega arith);
            values = h.values;
            passes = rw (P.opening_is, P.body_open, inner) (passes_again capacity o i os s.passes (suc k) (fallen k e) held);
          }

  stood_endwhile : (o i : ℕ) → Partners p o s.line while i → Stood p capacity (go_to s (opening p s.line))
  stood_endwhile o i P =
      let (low, high) = at-within p o (opens while i) P.open_line in
      stood_go (opening p s.line) (rw P.opening_is (omega arith, omega arith))
      (rw P.opening_is (while_over capacity o i (open_at p o) s.passes (rw P.close_open at h.passes)))

-- What a step gives, if it gives a state
abbrev Keeps : List Command → (ℕ → ℕ) → Option State → Type 0
Keeps p capacity none = Unit {0}
Keeps p capacity (some s) = Stood p capacity s

keeps_given : (p : List Command) (capacity : ℕ → ℕ) (t : Bool) (s : State) → (t ≡ true → Stood p capacity s) → Keeps p capacity (given t s)
keeps_given p capacity true s h = h refl
keeps_given p capacity false s h = tt

-- A program of which the partner lines are known, of no more variables than a state keeps
module _ (p : List Command) (facts : (n : ℕ) (c : Command) → at p n ≡ some c → Known p n c) (few : variables p ≤ Limits.state_values) where
  stood_performed : (capacity : ℕ → ℕ) (s : State) → Stood p capacity s → (c : Command) → at p s.line ≡ some c
      → Keeps p capacity (perform (within_each capacity) p s c)
  stood_performed capacity s h (plain c) a = go c a
    where
      go : (c : Plain) → at p s.line ≡ some (plain c) → Keeps p capacity (perform (within_each capacity) p s (plain c))
      go (clear i) a =
          let n = named_below p s.line (plain (clear i)) a in
          stood_store p capacity s h (clear i) a i 0 (omega arith) (omega arith)
      go (increment i) a =
          let n = named_below p s.line (plain (increment i)) a in
          let x = suc (s.values i) in
          keeps_given p capacity (leb x (capacity (register i))) (set_variable s i x)
          λ t. stood_store p capacity s h (increment i) a i x (omega arith) (leb-true x (capacity (register i)) t)
      go (copy i j) a =
          let n = named_below p s.line (plain (copy i j)) a in
          let x = s.values j in
          keeps_given p capacity (leb x (capacity (register i))) (set_variable s i x)
          λ t. stood_store p capacity s h (copy i j) a i x (omega arith) (leb-true x (capacity (register i)) t)
  stood_performed capacity s h (opens loop i) a =
      let n = named_below p s.line (opens loop i) a in
      let (c, P) = facts s.line (opens loop i) a in
      stood_loop p capacity s h c i P (s.values i) ((h.values i (omega arith)).0 (omega arith))
  stood_performed capacity s h (opens while i) a =
      let (c, P) = facts s.line (opens while i) a in
      stood_while p capacity s h c i P (s.values i)
  stood_performed capacity s h (closes loop i) a =
      let (o, P) = facts s.line (closes loop i) a in
      stood_endloop p capacity s h o i P (passes_after p s) refl
  stood_performed capacity s h (closes while i) a =
      let (o, P) = facts s.line (closes while i) a in
      stood_endwhile p capacity s h o i P

  stood_step : (capacity : ℕ → ℕ) (s s' : State) → step (within_each capacity) p s ≡ some s' → Stood p capacity s → Stood p capacity s'
  unfolding step
  stood_step capacity s s' e h = subst (Keeps p capacity) e (go (at p s.line) refl)
    where
      go : (c : Option Command) → at p s.line ≡ c → Keeps p capacity (and_then c (perform (within_each capacity) p s))
      go none a = tt
      go (some c) a = stood_performed capacity s h c a

-- The partner lines of an accepted program
pub known_lines : (p : List Command) → Accepted p → (n : ℕ) (c : Command) → at p n ≡ some c → Known p n c
known_lines p accepted = subst (λ q. (n : ℕ) (c : Command) → at q n ≡ some c → Known q n c) (well_nested p accepted) (known (block_of p))

pub run-stands : (p : List Command) → Accepted p → (s : SourceState) (b : ℕ)
    → Stood p (capacity_of s.capacities) s.state → Stood p (capacity_of s.capacities) (run_source p s b).state
unfolding run_source
run-stands p accepted s b =
    let capacity : ℕ → ℕ = capacity_of s.capacities in
    run_keeps (machine (within_each capacity) p) (Stood p capacity)
    (λ t t' live e. stood_step p (known_lines p accepted) (few_variables p accepted) capacity t t' e)
    b s.steps s.state

pub source_stays_good : SourceStaysGood
source_stays_good p accepted s b good =
    let (sized, stood) = source_is_stood p s good in
    let o = run_source p s b in
    let s' : SourceState = record { capacities = s.capacities; steps = s.steps + o.steps; state = o.state } in
    stood_is_source p s' sized (run-stands p accepted s b stood)
