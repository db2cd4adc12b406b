-- A step of each kind, as the code makes it on lists, is the definition's.
use mathlib.Core.Path.{◌≡◌, refl, sym, ap, ◌∙◌, subst, fun_ext}
use mathlib.Core.Bool.{Bool, true, false, cond}
use mathlib.Core.Option.{none, some}
use mathlib.Core.List.{List}
use Prim.Native.Nat.{ℕ, zero, suc, pred, ◌+◌, ◌-◌, ◌*◌, ◌≤◌, ◌<◌}
use native.Mathlib.Numerals.{add-one}
use native.Mathlib.Decide.{ℕ_discrete}
use native.Mathlib.Omega.{arith}
use borrow.Author.Tests.{le-leb, lt-leb, ne_eqb, leb-true, leb-false}
use lib.ListN.{length, get_or, set}
use lib.Seq.{get_or-set_same, get_or-set_other, set-get_or}
use lib.Dec.{eqb, leb}
use Rattle.std.specs.Prelude.{Option, Some, None}
use Rattle.theory.specs.Limits.{state_values, state_passes, most_index}
use Rattle.theory.specs.Basics.{at, put}
use Rattle.theory.specs.ProgramText.{Command, plain, clear, increment, copy, opens, closes, loop, while, indices, above, commands}
use Rattle.theory.specs.Runs.{register, Room, within_each}
use Rattle.theory.specs.Machines.{capacity_of}
use Rattle.theory.specs.Source as S
use Rattle.theory.specs.Source.{State, set_variable, go_to, perform, end_loop, begin_loop, begin_while}
use Rattle.theory.proofs.Cells.{put_cases}
use Rattle.theory.proofs.GoodSource.{capacity_at}
use Rattle.theory.proofs.Partners.{Known}
use Rattle.source_state.specs.Answers.{stands}
use Rattle.source_state.specs.Numbers.{stored, led}
use Rattle.source.specs.Lines.{Holds, decoded, command_at, entry_at, Jump, Reaches, Filled, Put, Left, Stepped}
use Rattle.source_state.specs.declared.step.Led.{Led}
use Rattle.source.proofs.Program.{here, kind-within, no_second, partner, low_indices, depth_room}

-- Cells and lists

pub put-set : (l : List ℕ) (i x : ℕ) → i < length l → put (λ j. get_or l j 0) i x ≡ λ j. get_or (set l i x) j 0
put-set l i x h = fun_ext λ j. put_cases (λ j. get_or l j 0) i x j (get_or (set l i x) j 0)
    (λ e. rw e (sym (get_or-set_same l i x 0 h)))
    (λ n. sym (get_or-set_other l i j x 0 n))

assigns : (line : ℕ) (vs ps : List ℕ) (i x : ℕ) → i < length vs → set_variable (stands line vs ps) i x ≡ stands (line + 1) (set vs i x) ps
assigns line vs ps i x h =
    rw add-one (ap {B = State} (λ f. record { line = suc line; values = f; passes = λ d. get_or ps d 0 }) (put-set vs i x h))

entered : (line : ℕ) (vs ps : List ℕ) (d k : ℕ) → d < length ps
    → ◌≡◌ {A = State} (record { line = line; values = λ i. get_or vs i 0; passes = put (λ d. get_or ps d 0) d k })
    (stands line vs (set ps d k))
entered line vs ps d k h = ap {B = State} (λ f. record { line = line; values = λ i. get_or vs i 0; passes = f }) (put-set ps d k h)

-- Every command names its first index
abbrev pub by_tests : ℕ → ℕ → Bool → Bool → Bool → Bool → Bool → Bool → Command
by_tests i j a b c d e f =
    cond a (plain (clear i))
    (cond b (plain (increment i))
    (cond c (plain (copy i j)) (cond d (opens loop i) (cond e (closes loop i) (cond f (opens while i) (closes while i))))))

first_below : (k i j n : ℕ) → above (indices (decoded k i j)) ≤ n → i < n
first_below k i j n = go (eqb k 1) (eqb k 2) (eqb k 3) (eqb k 4) (eqb k 5) (eqb k 6)
  where
    go : (a b c d e f : Bool) → above (indices (by_tests i j a b c d e f)) ≤ n → i < n
    go true b c d e f h = omega arith
    go false true c d e f h = omega arith
    go false false true d e f h = omega arith
    go false false false true e f h = omega arith
    go false false false false true f h = omega arith
    go false false false false false true h = omega arith
    go false false false false false false h = omega arith

-- The numbers of line m, counted from 0, and what is known of them
abbrev pub kind_at : List ℕ → ℕ → ℕ
kind_at l m = get_or l (3 * m) 0

abbrev pub first-at : List ℕ → ℕ → ℕ
first-at l m = get_or l (3 * m + 1) 0

abbrev pub second_at : List ℕ → ℕ → ℕ
second_at l m = get_or l (3 * m + 2) 0

pub of_kind : (l : List ℕ) (m k : ℕ) → kind_at l m ≡ k → command_at l m ≡ decoded k (first-at l m) (second_at l m)
unfolding command_at
of_kind l m k e = rw e

-- The kind is none of the first six
pub of_last_kind : (l : List ℕ) (m : ℕ) → (kind_at l m ≡ 1 → ⊥) → (kind_at l m ≡ 2 → ⊥) → (kind_at l m ≡ 3 → ⊥) → (kind_at l m ≡ 4 → ⊥)
    → (kind_at l m ≡ 5 → ⊥) → (kind_at l m ≡ 6 → ⊥) → command_at l m ≡ closes while (first-at l m)
unfolding command_at
of_last_kind l m a b c d e f =
    rw (
      ne_eqb (kind_at l m) 1 a,
      ne_eqb (kind_at l m) 2 b,
      ne_eqb (kind_at l m) 3 c,
      ne_eqb (kind_at l m) 4 d,
      ne_eqb (kind_at l m) 5 e,
      ne_eqb (kind_at l m) 6 f,
    )

module _ (l : List ℕ) (h : Holds l) (m : ℕ) (inside : m < length (commands l)) where
  pub first_low : first-at l m < state_values
  unfolding command_at
  first_low = first_below (kind_at l m) (first-at l m) (second_at l m) (suc most_index) (low_indices l h m inside)

  pub second_low : second_at l m < state_values
  second_low = go (ℕ_discrete (kind_at l m) 3)
    where
      go : Dec (kind_at l m ≡ 3) → second_at l m < state_values
      go (yes e) =
          let low : above (indices (plain (copy (first-at l m) (second_at l m)))) ≤ suc most_index =
          rw (of_kind l m 3 e) at (low_indices l h m inside) in
          omega arith
      go (no ne) = omega (arith, no_second l h m inside ne)

  module _ (es : List ℕ) (fits : get_or es m 0 ≡ entry_at l m) where
    pub opening-entry : kind_at l m ≡ 4 → (get_or es m 0 ≡ S.depth (commands l) (suc m)) × (get_or es m 0 < state_passes)
    unfolding entry_at
    opening-entry e =
        let same : get_or es m 0 ≡ S.depth (commands l) (suc m) = rw (of_kind l m 4 e) at fits in
        let room : S.depth (commands l) (suc m) < state_passes =
        depth_room l h (suc m) loop (first-at l m) (here l h m inside ∙ ap some (of_kind l m 4 e)) in
        (same, omega arith)

    pub closing-entry : kind_at l m ≡ 5 → (get_or es m 0 ≡ pred (S.depth (commands l) (suc m))) × (get_or es m 0 < state_passes)
    unfolding entry_at
    closing-entry e =
        let same : get_or es m 0 ≡ pred (S.depth (commands l) (suc m)) = rw (of_kind l m 5 e) at fits in
        let pair : Known (commands l) (suc m) (closes loop (first-at l m)) = rw (of_kind l m 5 e) at (partner l h m inside) in
        let room : S.depth (commands l) pair.0 < state_passes =
        depth_room l h pair.0 loop (first-at l m) pair.1.open_line in
        (same, omega (arith, pair.1.close_depth))

    -- The entry of a line of any pair is one of the passes-left
    pub pair-entry : 3 < kind_at l m → get_or es m 0 < state_passes
    unfolding entry_at
    pair-entry pair = go (ℕ_discrete (kind_at l m) 4) (ℕ_discrete (kind_at l m) 5) (ℕ_discrete (kind_at l m) 6)
      where
        go : Dec (kind_at l m ≡ 4) → Dec (kind_at l m ≡ 5) → Dec (kind_at l m ≡ 6) → get_or es m 0 < state_passes
        go (yes e) b c = (opening-entry e).1
        go (no a) (yes e) c = (closing-entry e).1
        go (no a) (no b) (yes e) =
            let same : get_or es m 0 ≡ S.depth (commands l) (suc m) = rw (of_kind l m 6 e) at fits in
            omega (arith, depth_room l h (suc m) while (first-at l m) (here l h m inside ∙ ap some (of_kind l m 6 e)))
        go (no a) (no b) (no c) =
            let is : command_at l m ≡ closes while (first-at l m) =
            of_last_kind l m (λ e. omega arith) (λ e. omega arith) (λ e. omega arith) a b c in
            let same : get_or es m 0 ≡ S.depth (commands l) (suc m) = rw is at fits in
            let known_pair : Known (commands l) (suc m) (closes while (first-at l m)) = rw is at (partner l h m inside) in
            omega (
              arith,
              depth_room l h known_pair.0 while (first-at l m) known_pair.1.open_line,
              known_pair.1.close_depth,
            )

-- The lines of a pair, by a number that is 0 or not
module _ (p : List Command) (s : State) where
  begun : (k : ℕ) → (k ≡ 0 → ⊥)
      → begin_loop p s k ≡ record { line = suc s.line; values = s.values; passes = put s.passes (S.depth p s.line) k }
  begun zero h = absurd (h refl)
  begun (suc k) h = refl

  held : (k : ℕ) → (k ≡ 0 → ⊥) → begin_while p s k ≡ go_to s (suc s.line)
  held zero h = absurd (h refl)
  held (suc k) h = refl

  repeated : (k : ℕ) → (k ≡ 0 → ⊥)
      → end_loop p s k
      ≡ record { line = suc (S.opening p s.line); values = s.values; passes = put s.passes (pred (S.depth p s.line)) k }
  repeated zero h = absurd (h refl)
  repeated (suc k) h = refl

-- The step at a line, and its results
module _ (l : List ℕ) (h : Holds l) (capacities : List ℕ) (line : ℕ) (low : 0 < line) (high : line ≤ length (commands l))
    (vs ps : List ℕ) where
  abbrev m : ℕ
  m = line - 1

  inside : m < length (commands l)
  inside = omega arith

  abbrev room : Room
  room = within_each (capacity_of capacities)

  -- The capacity of the first variable of the line
  abbrev capacity : ℕ
  capacity = get_or capacities (first-at l m) 0

  room_for : (n : ℕ) (t : Bool) → leb n capacity ≡ t → leb n (capacity_of capacities (register (first-at l m))) ≡ t
  room_for n t e = rw (capacity_at capacities (first-at l m)) e

  performs : (c : Command) → command_at l m ≡ c
      → S.step room (commands l) (stands line vs ps) ≡ perform room (commands l) (stands line vs ps) c
  unfolding S.step
  performs c e =
      let from : line ≡ suc m = omega arith in
      let fetch : at (commands l) line ≡ some c = ap (at (commands l)) from ∙ (here l h m inside ∙ ap some e) in
      rw fetch

  -- A step to the next line, and a full one
  goes_on : (vs' ps' : List ℕ) → S.step room (commands l) (stands line vs ps) ≡ some (stands (line + 1) vs' ps')
      → Stepped (commands l) capacities line vs ps (Some (line + 1)) vs' ps'
  goes_on vs' ps' e = record { next = e; inside = omega arith; kept = tt }

  stays : S.step room (commands l) (stands line vs ps) ≡ none → Stepped (commands l) capacities line vs ps None vs ps
  stays e = record { next = e; inside = tt; kept = (refl, refl) }

  clears : kind_at l m ≡ 1 → first-at l m < length vs
      → Stepped (commands l) capacities line vs ps (Some (line + 1)) (set vs (first-at l m) 0) ps
  clears e i = goes_on (set vs (first-at l m) 0) ps
      (performs (plain (clear (first-at l m))) (of_kind l m 1 e) ∙ ap some (assigns line vs ps (first-at l m) 0 i))

  counts : kind_at l m ≡ 2 → first-at l m < length vs → get_or vs (first-at l m) 0 < capacity
      → Stepped (commands l) capacities line vs ps (Some (line + 1)) (set vs (first-at l m) (get_or vs (first-at l m) 0 + 1)) ps
  counts e i less =
      let x : ℕ = get_or vs (first-at l m) 0 in
      let fits : _ = room_for (suc x) true (le-leb (suc x) capacity less) in
      goes_on (set vs (first-at l m) (x + 1)) ps
      (performs (plain (increment (first-at l m))) (of_kind l m 2 e)
      ∙ rw (fits, ← add-one x) (ap some (assigns line vs ps (first-at l m) (x + 1) i)))

  counts_full : kind_at l m ≡ 2 → capacity ≤ get_or vs (first-at l m) 0 → Stepped (commands l) capacities line vs ps None vs ps
  counts_full e more =
      let x : ℕ = get_or vs (first-at l m) 0 in
      let fits : _ = room_for (suc x) false (lt-leb (suc x) capacity (omega arith)) in
      stays (performs (plain (increment (first-at l m))) (of_kind l m 2 e) ∙ rw fits)

  copies : kind_at l m ≡ 3 → first-at l m < length vs → get_or vs (second_at l m) 0 ≤ capacity
      → Stepped (commands l) capacities line vs ps (Some (line + 1)) (set vs (first-at l m) (get_or vs (second_at l m) 0)) ps
  copies e i less =
      let x : ℕ = get_or vs (second_at l m) 0 in
      goes_on (set vs (first-at l m) x) ps
      (performs (plain (copy (first-at l m) (second_at l m))) (of_kind l m 3 e)
      ∙ rw (room_for x true (le-leb x capacity less)) (ap some (assigns line vs ps (first-at l m) x i)))

  copies_full : kind_at l m ≡ 3 → capacity < get_or vs (second_at l m) 0 → Stepped (commands l) capacities line vs ps None vs ps
  copies_full e more =
      let x : ℕ = get_or vs (second_at l m) 0 in
      stays (performs (plain (copy (first-at l m) (second_at l m))) (of_kind l m 3 e) ∙ rw (room_for x false (lt-leb x capacity more)))

  -- What the variables of the line hold
  abbrev x : ℕ
  x = get_or vs (first-at l m) 0

  abbrev y : ℕ
  y = get_or vs (second_at l m) 0

  -- All plain kinds, as the numbers say what is stored
  abbrev Stores : Option ℕ → Type 0
  Stores (Some v) = Stepped (commands l) capacities line vs ps (Some (line + 1)) (set vs (first-at l m) v) ps
  Stores None = Stepped (commands l) capacities line vs ps None vs ps

  stores : kind_at l m ≤ 3 → first-at l m < length vs → Stores (stored (kind_at l m) x y capacity)
  unfolding stored
  stores small i = go (ℕ_discrete (kind_at l m) 1) (ℕ_discrete (kind_at l m) 2)
    where
      more : kind_at l m ≡ 2 → (room : Bool) → leb (suc x) capacity ≡ room → Stores (cond room (Some (x + 1)) None)
      more e true room = counts e i (leb-true (suc x) capacity room)
      more e false room = counts_full e (omega (arith, leb-false (suc x) capacity room))

      same : kind_at l m ≡ 3 → (room : Bool) → leb y capacity ≡ room → Stores (cond room (Some y) None)
      same e true room = copies e i (leb-true y capacity room)
      same e false room = copies_full e (leb-false y capacity room)

      go : Dec (kind_at l m ≡ 1) → Dec (kind_at l m ≡ 2) → Stores (stored (kind_at l m) x y capacity)
      go (yes e) q = rw e (clears e i)
      go (no a) (yes e) = rw e (more e (leb (suc x) capacity) refl)
      go (no a) (no q) =
          let e : kind_at l m ≡ 3 = omega (arith, kind-within l h m inside) in
          rw (ne_eqb (kind_at l m) 1 a, ne_eqb (kind_at l m) 2 q) (same e (leb y capacity) refl)

  pub put_in : kind_at l m ≤ 3 → first-at l m < length vs → (r : Option ℕ) (vs' : List ℕ)
      → Put (stored (kind_at l m) x y capacity) (line + 1) (first-at l m) vs r vs'
      → Stepped (commands l) capacities line vs ps r vs' ps
  put_in small i r vs' = go (stored (kind_at l m) x y capacity) (stores small i)
    where
      go : (s : Option ℕ) → Stores s → Put s (line + 1) (first-at l m) vs r vs' → Stepped (commands l) capacities line vs ps r vs' ps
      go (Some v) made put = rw (put.0, put.1) made
      go None made put = rw (put.0, put.1) made

  -- The lines of a pair, by tables that are filled
  module _ (ts es : List ℕ) (tables : Filled l ts es) where
    abbrev t : ℕ
    t = get_or ts m 0

    abbrev d : ℕ
    d = get_or es m 0

    from : line ≡ suc m
    from = omega arith

    jump : (c : Command) → command_at l m ≡ c → Reaches (commands l) line c t
    jump c e = subst (λ n. Reaches (commands l) n c t) (sym from) (rw e at (tables.jumps m inside))

    goes_to : (goal : ℕ) (vs' ps' : List ℕ) → Jump (commands l) goal t
        → S.step room (commands l) (stands line vs ps) ≡ some (stands goal vs' ps')
        → Stepped (commands l) capacities line vs ps (Some t) vs' ps'
    goes_to goal vs' ps' j e =
        record { next = e ∙ ap (λ n. some (stands n vs' ps')) (sym j.to); inside = (j.low, j.high); kept = tt }

    loop_past : kind_at l m ≡ 4 → get_or vs (first-at l m) 0 ≡ 0 → Stepped (commands l) capacities line vs ps (Some t) vs ps
    unfolding Reaches
    loop_past e z =
        let c : command_at l m ≡ opens loop (first-at l m) = of_kind l m 4 e in
        goes_to (suc (S.closing (commands l) line)) vs ps (jump (opens loop (first-at l m)) c)
        (performs (opens loop (first-at l m)) c ∙ rw z)

    loop_in : kind_at l m ≡ 4 → (get_or vs (first-at l m) 0 ≡ 0 → ⊥) → d < length ps
        → Stepped (commands l) capacities line vs ps (Some (line + 1)) vs (set ps d (get_or vs (first-at l m) 0))
    loop_in e n b =
        let k : ℕ = get_or vs (first-at l m) 0 in
        let entry : d ≡ S.depth (commands l) line =
        (opening-entry l h m inside es (tables.enters m inside) e).0 ∙ ap (S.depth (commands l)) (sym from) in
        goes_on vs (set ps d k)
        (performs (opens loop (first-at l m)) (of_kind l m 4 e)
        ∙ ap some (begun (commands l) (stands line vs ps) k n ∙ rw (← entry, add-one line) (entered (suc line) vs ps d k b)))

    -- `endloop`: the entry is that of the loop which the line closes
    closed_entry : kind_at l m ≡ 5 → pred (S.depth (commands l) line) ≡ d
    closed_entry e = ap (λ n. pred (S.depth (commands l) n)) from ∙ sym (closing-entry l h m inside es (tables.enters m inside) e).0

    loop_ends : kind_at l m ≡ 5 → get_or ps d 0 ≤ 1 → d < length ps
        → Stepped (commands l) capacities line vs ps (Some (line + 1)) vs (set ps d 0)
    loop_ends e few b =
        let zero_left : pred (get_or ps d 0) ≡ 0 = omega arith in
        goes_on vs (set ps d 0)
        (performs (closes loop (first-at l m)) (of_kind l m 5 e)
        ∙ rw (closed_entry e, zero_left, closed_entry e, add-one line) (ap some (entered (suc line) vs ps d 0 b)))

    loop_again : kind_at l m ≡ 5 → 1 < get_or ps d 0 → d < length ps
        → Stepped (commands l) capacities line vs ps (Some t) vs (set ps d (get_or ps d 0 - 1))
    unfolding Reaches
    loop_again e more b =
        let k : ℕ = get_or ps d 0 - 1 in
        let left : pred (get_or ps d 0) ≡ k = omega arith in
        let some_left : k ≡ 0 → ⊥ = omega arith in
        let c : command_at l m ≡ closes loop (first-at l m) = of_kind l m 5 e in
        goes_to (suc (S.opening (commands l) line)) vs (set ps d k) (jump (closes loop (first-at l m)) c)
        (performs (closes loop (first-at l m)) c
        ∙ rw (closed_entry e, left, repeated (commands l) (stands line vs ps) k some_left, closed_entry e)
        (ap some (entered (suc (S.opening (commands l) line)) vs ps d k b)))

    while_past : kind_at l m ≡ 6 → get_or vs (first-at l m) 0 ≡ 0 → Stepped (commands l) capacities line vs ps (Some t) vs ps
    unfolding Reaches
    while_past e z =
        let c : command_at l m ≡ opens while (first-at l m) = of_kind l m 6 e in
        goes_to (suc (S.closing (commands l) line)) vs ps (jump (opens while (first-at l m)) c)
        (performs (opens while (first-at l m)) c ∙ rw z)

    while_in : kind_at l m ≡ 6 → (get_or vs (first-at l m) 0 ≡ 0 → ⊥)
        → Stepped (commands l) capacities line vs ps (Some (line + 1)) vs ps
    while_in e n =
        goes_on vs ps
        (performs (opens while (first-at l m)) (of_kind l m 6 e)
        ∙ rw (add-one line) (ap some (held (commands l) (stands line vs ps) (get_or vs (first-at l m) 0) n)))

    while_back : command_at l m ≡ closes while (first-at l m) → Stepped (commands l) capacities line vs ps (Some t) vs ps
    unfolding Reaches
    while_back c =
        goes_to (S.opening (commands l) line) vs ps (jump (closes while (first-at l m)) c) (performs (closes while (first-at l m)) c)

    -- All kinds of a pair, as the numbers lead
    abbrev left : ℕ
    left = get_or ps d 0

    abbrev Leads : Led → Type 0
    Leads r = Stepped (commands l) capacities line vs ps (Some r.line) vs (set ps d r.left)

    unchanged : (n : ℕ) → Stepped (commands l) capacities line vs ps (Some n) vs ps → Leads (record { line = n; left = left })
    unchanged n h = rw (set-get_or ps d 0) h

    leads : 3 < kind_at l m → d < length ps → Leads (led (kind_at l m) x left (line + 1) t)
    unfolding led
    leads pair b = go (ℕ_discrete (kind_at l m) 4) (ℕ_discrete (kind_at l m) 5) (ℕ_discrete (kind_at l m) 6) (ℕ_discrete x 0)
      where
        again : kind_at l m ≡ 5 → (few : Bool) → leb left 1 ≡ few
            → Leads (cond few (record { line = line + 1; left = 0 }) (record { line = t; left = left - 1 }))
        again e true few = loop_ends e (leb-true left 1 few) b
        again e false few = loop_again e (leb-false left 1 few) b

        go : Dec (kind_at l m ≡ 4) → Dec (kind_at l m ≡ 5) → Dec (kind_at l m ≡ 6) → Dec (x ≡ 0)
            → Leads (led (kind_at l m) x left (line + 1) t)
        go (yes e) q r (yes z) = rw (e, z) (unchanged t (loop_past e z))
        go (yes e) q r (no z) = rw (e, ne_eqb x 0 z) (loop_in e z b)
        go (no a) (yes e) r z = rw e (again e (leb left 1) refl)
        go (no a) (no q) (yes e) (yes z) = rw (e, z) (unchanged t (while_past e z))
        go (no a) (no q) (yes e) (no z) = rw (e, ne_eqb x 0 z) (unchanged (line + 1) (while_in e z))
        go (no a) (no q) (no r) z =
            let is : command_at l m ≡ closes while (first-at l m) =
            of_last_kind l m (λ e. omega arith) (λ e. omega arith) (λ e. omega arith) a q r in
            rw (ne_eqb (kind_at l m) 4 a, ne_eqb (kind_at l m) 5 q, ne_eqb (kind_at l m) 6 r) (unchanged t (while_back is))

    pub led_on : 3 < kind_at l m → d < length ps → (r : ℕ) (ps' : List ℕ) → Left ts es (kind_at l m) x line ps r ps'
        → Stepped (commands l) capacities line vs ps (Some r) vs ps'
    led_on pair b r ps' went = rw (went.to, went.passes) (leads pair b)
