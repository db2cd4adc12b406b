-- The targets of a run, filled line by line with a stack of the lines that are open: a closing line sets its own target and its partner's.
use mathlib.Core.Path.{◌≡◌, refl, sym, ap, ◌∙◌, subst}
use mathlib.Core.Option.{some, some-injective}
use mathlib.Core.List.{List, [], ◌∷◌}
use Prim.Native.Nat.{ℕ, suc, ◌+◌, ◌-◌, ◌≤◌, ◌<◌}
use native.Mathlib.Decide.{ℕ_discrete}
use native.Mathlib.Numerals.{add-one}
use native.Mathlib.Omega.{arith}
use lib.ListN.{length, get_or, set, drop, length-set}
use lib.Seq.{get_or-set_same, get_or-set_other}
use Rattle.theory.specs.Limits.{most_open}
use Rattle.theory.specs.Basics.{at}
use Rattle.theory.specs.ProgramText.{Plain, clear, increment, copy, Kind, loop, while, Command, plain, opens, closes, commands}
use Rattle.theory.specs.ProgramText.{Opening, open_next}
use Rattle.theory.specs.Source.{innermost, open_at, opening, closing}
use Rattle.theory.proofs.Cells.{at-within}
use Rattle.theory.proofs.Partners.{Known, Partners}
use Rattle.source.specs.Lines.{Holds, command_at, Reaches}
use Rattle.source.proofs.Program.{here, kind-within, past_plain, partner, open_more, open_room}
use Rattle.source.proofs.Stepping.{kind_at, first-at, second_at, of_kind}

-- The stack has the lines that are open, counted from 0, the innermost last
abbrev pub Stacked : List ℕ → List Opening → Type 0
Stacked st [] = Unit {0}
Stacked st (o ∷ os) = (o.line ≡ suc (get_or st (length os) 0)) × Stacked st os

stacked_set : (st : List ℕ) (i x : ℕ) (os : List Opening) → length os ≤ i → Stacked st os → Stacked (set st i x) os
stacked_set st i x [] h s = tt
stacked_set st i x (o ∷ os) h s =
    let other : get_or (set st i x) (length os) 0 ≡ get_or st (length os) 0 = get_or-set_other st i (length os) x 0 (omega arith) in
    (s.0 ∙ ap suc (sym other), stacked_set st i x os (omega arith) s.1)

-- The innermost is on top
pub record Top (st : List ℕ) (os : List Opening) : Type 0 where
  pub count : length os ≡ suc (length (drop 1 os))
  pub line : innermost os ≡ suc (get_or st (length (drop 1 os)) 0)
  pub rest : Stacked st (drop 1 os)

top : (st : List ℕ) (os : List Opening) → 0 < innermost os → Stacked st os → Top st os
top st [] h s = absurd (omega arith)
top st (o ∷ os) h s = record { count = refl; line = s.0; rest = s.1 }

pops : (n : ℕ) (os : List Opening) (k : Kind) (i : ℕ) → open_next n os (closes k i) ≡ drop 1 os
pops n [] k i = refl
pops n (o ∷ os) k i = refl

-- The line after which a line's target is known
abbrev due_by : List Command → ℕ → Command → ℕ
due_by p n (plain c) = 0
due_by p n (opens k i) = closing p n
due_by p n (closes k i) = 0

-- n lines have been passed
pub record Linking (l : List ℕ) (n deep : ℕ) (st ts : List ℕ) : Type 0 where
  pub count : deep ≡ length (open_at (commands l) (suc n))
  pub stack : Stacked st (open_at (commands l) (suc n))
  pub targets : (m : ℕ) → m < n → due_by (commands l) (suc m) (command_at l m) ≤ n
      → Reaches (commands l) (suc m) (command_at l m) (get_or ts m 0)

pub linking_start : (l st ts : List ℕ) → Linking l 0 0 st ts
unfolding open_at
linking_start l st ts = record { count = refl; stack = tt; targets = λ m h. absurd (omega arith) }

-- Every pair is closed by the last line
module _ (l : List ℕ) (h : Holds l) where
  due_at_last : (m : ℕ) → m < length (commands l) → (c : Command) → command_at l m ≡ c → Known (commands l) (suc m) c
      → due_by (commands l) (suc m) c ≤ length (commands l)
  due_at_last m inside (plain c) e k = omega arith
  due_at_last m inside (opens k i) e pair =
      rw pair.1.closing_is (at-within (commands l) pair.0 (closes k i) pair.1.close_line).1
  due_at_last m inside (closes k i) e k' = omega arith

  pub linking_end : (deep : ℕ) (st ts : List ℕ) → Linking l (length (commands l)) deep st ts
      → (m : ℕ) → m < length (commands l) → Reaches (commands l) (suc m) (command_at l m) (get_or ts m 0)
  linking_end deep st ts k m inside =
      k.targets m inside (due_at_last m inside (command_at l m) refl (partner l h m inside))

-- A kind of 4 to 7 that is none of the first three of these
past_six : (k : ℕ) → 4 ≤ k → k ≤ 7 → (k ≡ 4 → ⊥) → (k ≡ 5 → ⊥) → (k ≡ 6 → ⊥) → k ≡ 7
past_six k low high a b c = omega arith

-- Line n is passed
module _ (l : List ℕ) (h : Holds l) (n : ℕ) (inside : n < length (commands l))
    (deep : ℕ) (st ts : List ℕ) (before : Linking l n deep st ts) where
  abbrev p : List Command
  p = commands l

  -- A pair that the line closes
  closed_here : (m : ℕ) → m < n → (k : Kind) (i : ℕ) → command_at l m ≡ opens k i → closing p (suc m) ≡ suc n
      → Partners p (suc m) (suc n) k i
  closed_here m less k i e c =
      let pair : Known p (suc m) (opens k i) = rw e at (partner l h m (omega arith)) in
      subst (λ x. Partners p (suc m) x k i) (sym pair.1.closing_is ∙ c) pair.1

  -- A line that closes none
  module _ (none_closed : (k : Kind) (i : ℕ) → command_at l n ≡ closes k i → ⊥) where
    due_before : (m : ℕ) → m < n → (c : Command) → command_at l m ≡ c → due_by p (suc m) c ≤ n + 1 → due_by p (suc m) c ≤ n
    due_before m less (plain c) e d = omega arith
    due_before m less (closes k i) e d = omega arith
    due_before m less (opens k i) e d = go (ℕ_discrete (closing p (suc m)) (suc n))
      where
        go : Dec (closing p (suc m) ≡ suc n) → closing p (suc m) ≤ n
        go (no ne) = omega arith
        go (yes c) =
            let pair : Partners p (suc m) (suc n) k i = closed_here m less k i e c in
            let same : command_at l n ≡ closes k i = some-injective _ _ (sym (here l h n inside) ∙ pair.close_line) in
            absurd (none_closed k i same)

    due_here : (c : Command) → command_at l n ≡ c → Known p (suc n) c → due_by p (suc n) c ≤ n + 1 → (t : ℕ) → Reaches p (suc n) c t
    unfolding Reaches
    due_here (plain c) e k d t = tt
    due_here (opens k i) e pair d t = absurd (omega (arith, pair.1.closing_is, pair.1.in_order))
    due_here (closes k i) e pair d t = absurd (none_closed k i e)

    none_due : (m : ℕ) → m < n + 1 → due_by p (suc m) (command_at l m) ≤ n + 1 → Reaches p (suc m) (command_at l m) (get_or ts m 0)
    none_due m less d = go (ℕ_discrete m n)
      where
        go : Dec (m ≡ n) → Reaches p (suc m) (command_at l m) (get_or ts m 0)
        go (yes e) = rw e (due_here (command_at l n) refl (partner l h n inside) (rw e at d) (get_or ts n 0))
        go (no ne) = before.targets m (omega arith) (due_before m (omega arith) (command_at l m) refl d)

  -- A kind that is none of a pair's
  pub plain_line : (kind_at l n ≡ 4 → ⊥) → (kind_at l n ≡ 5 → ⊥) → (kind_at l n ≡ 6 → ⊥) → (kind_at l n ≡ 7 → ⊥)
      → (c : Plain) × (command_at l n ≡ plain c)
  unfolding command_at
  plain_line four five six seven = go (ℕ_discrete (kind_at l n) 1) (ℕ_discrete (kind_at l n) 2) (ℕ_discrete (kind_at l n) 3)
    where
      go : Dec (kind_at l n ≡ 1) → Dec (kind_at l n ≡ 2) → Dec (kind_at l n ≡ 3) → (c : Plain) × (command_at l n ≡ plain c)
      go (yes e) b c = (clear (first-at l n), of_kind l n 1 e)
      go (no a) (yes e) c = (increment (first-at l n), of_kind l n 2 e)
      go (no a) (no b) (yes e) = (copy (first-at l n) (second_at l n), of_kind l n 3 e)
      go (no a) (no b) (no c) =
          absurd (seven (past_six (kind_at l n) (past_plain l h n inside a b c) (kind-within l h n inside).1 four five six))

  pub linking_plain : (c : Plain) → command_at l n ≡ plain c → Linking l (n + 1) deep st ts
  linking_plain c e =
      let next : open_at p (suc (n + 1)) ≡ open_at p (suc n) = rw (add-one n) (open_more l h n inside ∙ rw e) in
      record {
        count = rw next before.count;
        stack = rw next before.stack;
        targets = none_due (λ k i e'. let z : ◌≡◌ {A = ℕ} 0 1 = cc in omega arith);
      }

  pub linking_opens : (k : Kind) (i : ℕ) → command_at l n ≡ opens k i → deep < length st → Linking l (n + 1) (deep + 1) (set st deep n) ts
  linking_opens k i e room =
      let next : open_at p (suc (n + 1)) ≡ record { line = suc n; kind = k; index = i } ∷ open_at p (suc n) =
      rw (add-one n) (open_more l h n inside ∙ rw e) in
      let top_is : suc n ≡ suc (get_or (set st deep n) (length (open_at p (suc n))) 0) =
      rw (← before.count) (ap suc (sym (get_or-set_same st deep n 0 room))) in
      let rest : Stacked (set st deep n) (open_at p (suc n)) =
      stacked_set st deep n (open_at p (suc n)) (omega (arith, before.count)) before.stack in
      record {
        count = rw next (omega (arith, before.count));
        stack = rw next (top_is, rest);
        targets = none_due (λ k' i' e'. let z : ◌≡◌ {A = ℕ} 0 1 = cc in omega arith);
      }

  -- There is room for one more
  pub stack_room : (k : Kind) (i : ℕ) → command_at l n ≡ opens k i → deep < most_open
  stack_room k i e = rw before.count (open_room l h (suc n) k i (here l h n inside ∙ ap some e))

  -- A line that closes a pair
  module _ (k : Kind) (i : ℕ) (e : command_at l n ≡ closes k i) where
    pair : (o : ℕ) × Partners p o (suc n) k i
    pair = let known_pair : Known p (suc n) (closes k i) = rw e at (partner l h n inside) in known_pair

    abbrev first : ℕ
    first = get_or st (deep - 1) 0

    on_top : Top st (open_at p (suc n))
    unfolding opening
    on_top = top st (open_at p (suc n))
        (omega (arith, pair.1.opening_is, (at-within p pair.0 (opens k i) pair.1.open_line).0))
        before.stack

    depth_is : deep - 1 ≡ length (drop 1 (open_at p (suc n)))
    depth_is = omega (arith, before.count, on_top.count)

    pub stack_open : 1 ≤ deep
    stack_open = omega (arith, before.count, on_top.count)

    opened_at : opening p (suc n) ≡ suc first
    unfolding opening
    opened_at = rw depth_is on_top.line

    pairs_with : Partners p (suc first) (suc n) k i
    pairs_with = subst (λ x. Partners p x (suc n) k i) (sym pair.1.opening_is ∙ opened_at) pair.1

    pub first-before : first < n
    first-before = omega (arith, pairs_with.in_order)

    abbrev passed : ℕ → List ℕ
    passed x = set (set ts first (n + 2)) n x

    -- Of the opening line: the target is past this line
    opened_due : (c : Command) → command_at l first ≡ c → Reaches p (suc first) c (n + 2)
    unfolding Reaches
    opened_due c e' =
        let fetch : at p (suc first) ≡ some c = here l h first (omega (arith, first-before)) ∙ ap some e' in
        let same : c ≡ opens k i = some-injective _ _ (sym fetch ∙ pairs_with.open_line) in
        let goal : n + 2 ≡ suc (closing p (suc first)) = omega (arith, pairs_with.closing_is) in
        rw same (record { to = goal; low = omega arith; high = omega arith })

    -- Of any other line before: what is due was due before
    other_due : (m : ℕ) → m < n → (m ≡ first → ⊥) → (c : Command) → command_at l m ≡ c
        → due_by p (suc m) c ≤ n + 1 → due_by p (suc m) c ≤ n
    other_due m less other (plain c) e' d = omega arith
    other_due m less other (closes k' i') e' d = omega arith
    other_due m less other (opens k' i') e' d = go (ℕ_discrete (closing p (suc m)) (suc n))
      where
        go : Dec (closing p (suc m) ≡ suc n) → closing p (suc m) ≤ n
        go (no ne) = omega arith
        go (yes c) = absurd (other (omega (arith, (closed_here m less k' i' e' c).opening_is, opened_at)))

    all_due : (x : ℕ) → n < length ts → Reaches p (suc n) (closes k i) x → (m : ℕ) → m < n + 1 → due_by p (suc m) (command_at l m) ≤ n + 1
        → Reaches p (suc m) (command_at l m) (get_or (passed x) m 0)
    all_due x room here-due m less d = go (ℕ_discrete m n) (ℕ_discrete m first)
      where
        here_is : get_or (passed x) n 0 ≡ x
        here_is = get_or-set_same (set ts first (n + 2)) n x 0 (rw length-set room)

        first_is : get_or (passed x) first 0 ≡ n + 2
        first_is =
            get_or-set_other (set ts first (n + 2)) n first x 0 (omega (arith, first-before))
            ∙ get_or-set_same ts first (n + 2) 0 (omega (arith, first-before))

        go : Dec (m ≡ n) → Dec (m ≡ first) → Reaches p (suc m) (command_at l m) (get_or (passed x) m 0)
        go (yes q) f = rw (q, here_is, e) here-due
        go (no nq) (yes f) = rw (f, first_is) (opened_due (command_at l first) refl)
        go (no nq) (no nf) =
            rw (get_or-set_other (set ts first (n + 2)) n m x 0 nq, get_or-set_other ts first m (n + 2) 0 nf)
            (before.targets m (omega arith) (other_due m (omega arith) nf (command_at l m) refl d))

    linking_closes : (x : ℕ) → n < length ts → Reaches p (suc n) (closes k i) x → Linking l (n + 1) (deep - 1) st (passed x)
    linking_closes x room here-due =
        let next : open_at p (suc (n + 1)) ≡ drop 1 (open_at p (suc n)) =
        rw (add-one n) (open_more l h n inside ∙ rw e (pops (suc n) (open_at p (suc n)) k i)) in
        record { count = rw next depth_is; stack = rw next on_top.rest; targets = all_due x room here-due }

  pub linking_endloop : (i : ℕ) (e : command_at l n ≡ closes loop i) → n < length ts
      → Linking l (n + 1) (deep - 1) st (passed loop i e (first loop i e + 2))
  unfolding Reaches
  linking_endloop i e room =
      let to : first loop i e + 2 ≡ suc (opening p (suc n)) = omega (arith, opened_at loop i e) in
      linking_closes loop i e (first loop i e + 2) room
      (record { to = to; low = omega arith; high = omega (arith, first-before loop i e) })

  pub linking_endwhile : (i : ℕ) (e : command_at l n ≡ closes while i) → n < length ts
      → Linking l (n + 1) (deep - 1) st (passed while i e (first while i e + 1))
  unfolding Reaches
  linking_endwhile i e room =
      let to : first while i e + 1 ≡ opening p (suc n) = omega (arith, opened_at while i e) in
      linking_closes while i e (first while i e + 1) room
      (record { to = to; low = omega arith; high = omega (arith, first-before while i e) })
