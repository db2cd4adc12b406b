-- Each source step is as many steps of the word as it is charged, from match to match.
use mathlib.Core.Path.{◌≡◌, refl, sym, ap, ◌∙◌, subst}
use mathlib.Core.Logic.{◌≢◌}
use mathlib.Core.Bool.{Bool, true, false, cond}
use mathlib.Core.Option.{Option, none, some, map, none-ne-some, some-injective}
use mathlib.Core.List.{List, [], ◌∷◌, ◌++◌}
use Prim.Native.Nat.{ℕ, zero, suc, pred, ◌+◌, ◌*◌, ◌≤◌, ◌<◌}
use native.Mathlib.Omega.{arith}
use lib.ListN.{length}
use lib.Dec.{eqb}
use borrow.Author.Tests.{eqb-true, eqb-false}
use Rattle.theory.specs.Basics.{at, put, given, and_then, default}
use Rattle.theory.specs.Runs.{register, Room, stay, move}
use Rattle.theory.specs.ProgramText.{Kind, loop, while, clear, increment, copy, Command, plain, opens, closes, indices, above}
use Rattle.theory.specs.Source as S
use Rattle.theory.specs.Source.{State, closing, opening, depth, go_to, set_variable, begin_loop, end_loop, begin_while, passes_after}
use Rattle.theory.specs.Word as W
use Rattle.theory.specs.Word.{one, Instruction, append, forward, cases}
use Rattle.theory.specs.Translation.{scratch, counter, sharing, returning, touching, copying, before_body}
use Rattle.theory.specs.Translation.{loop_charge, endloop_charge, command_charge, charge}
use Rattle.theory.proofs.Cells.{at-within, put_same, put_other, put_cases, put-put, put_id, Sits, sits_left, sits_right}
use Rattle.theory.proofs.Joins.{ends, join}
use Rattle.theory.proofs.Steps.{standing, step-append, step_forward, step_backward, step-empty, step_one}
use Rattle.theory.proofs.Paths.{Fits, Run, clears, puts_back, touches, spreads, copies}
use Rattle.theory.proofs.Sites.{place, Site, Line, Pair}
use Rattle.theory.proofs.Matching.{Roomy, fits, Match, match_store, match_go_to, match_passes}

module _ (room : Room) (K : ℕ) (p : List Command) (w : List Instruction) where
  -- From s, whose counts are n, the word goes in m steps to where s' is
  abbrev pub Result : State → (ℕ → ℕ) → ℕ → State → Type 0
  Result s n m s' =
      (n' : ℕ → ℕ) × Run room w (standing (place K p s.line) n) m (standing (place K p s'.line) n') × Match room K p s' n'

  -- The last two instructions before a loop's body
  loop-test : (q d i m : ℕ) → Sits w q (before_body K d loop i m) → Sits w (q + 9) (cases (counter K d) ∷ forward (m + 2) ∷ [])
  loop-test q d i m h =
      let test : List Instruction = cases (counter K d) ∷ forward (m + 2) ∷ [] in
      let return : List Instruction = returning (scratch K) (register i) in
      let h₂ : Sits w (q + 5) (return ++ test) = sits_right w q (sharing (register i) (counter K d) (scratch K)) (return ++ test) h in
      subst (λ r. Sits w r test) (omega arith) (sits_right w (q + 5) return test h₂)

  module _ (R : Roomy room K w) (s : State) (n : ℕ → ℕ) (M : Match room K p s n) where
    abbrev here : ℕ
    here = place K p s.line

    -- There is room for the value of variable i in its register, and in scratch and a counter that the word appends to
    own : (i x : ℕ) → i < K → s.values i ≡ x → Fits room (register i) x
    own i x l e = fits room K w R (register i) x (ap (room (register i)) (sym e) ∙ M.fit i l)

    spare : (q i x : ℕ) → at w q ≡ some (append one (scratch K)) → i < K → s.values i ≡ x → Fits room (scratch K) x
    spare q i x h l e =
        fits room K w R (scratch K) x (R.in_named q (scratch K) i x h (omega arith) l (ap (room (register i)) (sym e) ∙ M.fit i l))

    extra : (q i x d : ℕ) → at w q ≡ some (append one (counter K d)) → i < K → s.values i ≡ x → Fits room (counter K d) x
    extra q i x d h l e =
        fits room K w R (counter K d) x (R.in_named q (counter K d) i x h (omega arith) l (ap (room (register i)) (sym e) ∙ M.fit i l))

    -- Past a pair, nothing else changed
    past_pair : (k : Kind) (i c : ℕ) → Pair K p w s.line c k i → Match room K p (go_to s (suc (closing p s.line))) n
    past_pair k i c P =
        let ok : (1 ≤ c) × (c ≤ length p) = at-within p c (closes k i) P.partners.close_line in
        let same : depth p (suc (closing p s.line)) ≡ depth p s.line =
        ap (λ r. depth p (suc r)) P.partners.closing_is ∙ P.partners.after-depth in
        match_go_to room K p s n M (suc (closing p s.line)) (omega arith) (omega (arith, ok.1, P.partners.closing_is)) same

    on_clear : (i : ℕ) → i < K → s.line ≤ length p → Line K p w s.line (clear i) → Result s n (2 * s.values i + 2) (set_variable s i 0)
    on_clear i l b L = (
      put n (register i) 0,
      ends refl (ap (λ q. standing q (put n (register i) 0)) (sym L.line-place))
          (clears room w here (register i) L.line_code (s.values i) n (M.held i l)),
      match_store room K p s n M i 0 l b L.line-depth (own i (s.values i) l refl 0 (omega arith)),
    )

    on_increment : (i : ℕ) → i < K → s.line ≤ length p → Line K p w s.line (increment i)
        → room (register i) (suc (s.values i)) ≡ true → Result s n 1 (set_variable s i (suc (s.values i)))
    on_increment i l b L r = (
      put n (register i) (suc (s.values i)),
      move (step-append room w here n (register i) (s.values i) (place K p (suc s.line)) (put n (register i) (suc (s.values i)))
          L.line_code.0 (M.held i l) r (omega (arith, L.line-place)) refl) stay,
      match_store room K p s n M i (suc (s.values i)) l b L.line-depth r,
    )

    module _ (i j : ℕ) (l : i < K) (l' : j < K) (b : s.line ≤ length p) (L : Line K p w s.line (copy i j))
        (r : room (register i) (s.values j) ≡ true) where
      -- The code of the copy, by whether it is to itself
      abbrev copy_code : Bool → List Instruction
      copy_code t = cond t (touching (register j)) (copying (register j) (register i) (scratch K))

      stored : Match room K p (set_variable s i (s.values j)) (put n (register i) (s.values j))
      stored = match_store room K p s n M i (s.values j) l b L.line-depth r

      copy_to_itself : i ≡ j → Sits w here (copy_code true) → place K p (suc s.line) ≡ here + 3
          → Result s n 2 (set_variable s i (s.values j))
      copy_to_itself e h to =
          let x : ℕ = s.values j in
          let same : put n (register i) x ≡ n = put_id n (register i) x (ap (λ m. n (register m)) e ∙ M.held j l') in (
            n,
            ends refl (ap (λ q. standing q n) (sym to)) (touches room w here (register j) h x n (M.held j l') (own j x l' refl)),
            subst (Match room K p (set_variable s i x)) same stored,
          )

      copy_to_other : i ≢ j → Sits w here (copy_code false) → place K p (suc s.line) ≡ here + 12
          → Result s n (2 * s.values i + 7 * s.values j + 6) (set_variable s i (s.values j))
      copy_to_other e h to =
          let x : ℕ = s.values j in
          let fit : Fits room (register i) x = fits room K w R (register i) x r in
          let spared : Fits room (scratch K) x = spare (suc (suc (suc (suc (suc (suc here)))))) j x h.1.1.1.1.1.1.0 l' refl in (
            put n (register i) x,
            ends refl (ap (λ q. standing q (put n (register i) x)) (sym to))
                (copies room w n (register j) (register i) (scratch K) (omega arith) (omega arith) (omega arith) here h x (s.values i)
                (M.held j l') (M.held i l) M.empty (own j x l' refl) fit spared),
            stored,
          )

      on_copy : Result s n (command_charge p s (plain (copy i j))) (set_variable s i (s.values j))
      on_copy = go (eqb i j) refl L.line_code L.line-place
        where
          go : (t : Bool) → eqb i j ≡ t → Sits w here (copy_code t) → place K p (suc s.line) ≡ here + length (copy_code t)
              → Result s n (cond t 2 (2 * s.values i + 7 * s.values j + 6)) (set_variable s i (s.values j))
          go true e h to = copy_to_itself (eqb-true i j e) h to
          go false e h to = copy_to_other (eqb-false i j e) h to

    -- A loop's line
    module _ (i : ℕ) (l : i < K) (c : ℕ) (P : Pair K p w s.line c loop i) where
      abbrev loop_depth : ℕ
      loop_depth = depth p s.line

      abbrev loop_counter : ℕ
      loop_counter = counter K (depth p s.line)

      test_code : Sits w (here + 9) (cases loop_counter ∷ forward (P.size + 2) ∷ [])
      test_code = loop-test here loop_depth i P.size P.before-code

      not_counting : n loop_counter ≡ 0
      not_counting = M.counted loop_depth ∙ ap pred (M.idle loop_depth (omega arith))

      -- The first nine instructions hand the loop's value to its counter
      counts : (x : ℕ) → s.values i ≡ x → Run room w (standing here n) (7 * x + 4) (standing (here + 9) (put n loop_counter x))
      counts x e =
          let share : List Instruction = sharing (register i) loop_counter (scratch K) in
          let return : List Instruction = returning (scratch K) (register i) in
          let test : List Instruction = cases loop_counter ∷ forward (P.size + 2) ∷ [] in
          let h : Sits w (here + 5) (return ++ test) = sits_right w here share (return ++ test) P.before-code in
          spreads room w n (register i) loop_counter (scratch K) (omega arith) (omega arith) (omega arith) here
          (sits_left w here share (return ++ test) P.before-code) (sits_left w (here + 5) return test h) x
          (M.held i l ∙ e) not_counting M.empty (own i x l e)
          (extra (suc (suc here)) i x loop_depth P.before-code.1.1.0 l e)
          (spare (suc (suc (suc here))) i x P.before-code.1.1.1.0 l e)

      on_loop : (x : ℕ) → s.values i ≡ x → Result s n (loop_charge x) (begin_loop p s x)
      on_loop zero e =
          let past : ℕ = suc (closing p s.line) in
          let cleared : ℕ → ℕ = put n loop_counter 0 in
          let to : place K p past ≡ suc (here + 9) + (P.size + 2) =
          ap (λ r. place K p (suc r)) P.partners.closing_is ∙ omega (arith, P.body_place, P.close_place, P.after-place) in (
            n,
            ends refl (ap (standing (place K p past)) (put_id n loop_counter 0 not_counting))
                (join (counts 0 e)
                (move (step-empty room w (here + 9) cleared loop_counter (suc (here + 9)) test_code.0 (put_same n loop_counter 0) refl)
                (move (step_forward room w (suc (here + 9)) cleared (P.size + 2) (place K p past) test_code.1.0 to) stay))),
            past_pair loop i c P,
          )
      on_loop (suc x) e =
          let ok : (1 ≤ s.line) × (s.line ≤ length p) = at-within p s.line (opens loop i) P.partners.open_line in (
            put n loop_counter x,
            ends (omega arith) refl
                (join (counts (suc x) e)
                (move (step_one room w (here + 9) (put n loop_counter (suc x)) loop_counter x (place K p (suc s.line))
                (put n loop_counter x) test_code.0 (put_same n loop_counter (suc x)) (omega (arith, P.body_place))
                (put-put n loop_counter (suc x) x)) stay)),
            match_passes room K p s n M (suc s.line) loop_depth (suc x) x (omega arith) (omega (arith, ok.1)) refl
                (λ y g. let inside : suc loop_depth ≤ y = omega (arith, P.partners.body_depth) in
                put_other s.passes loop_depth (suc x) y (omega arith) ∙ M.idle y (omega arith)),
          )

    -- A loop's `endloop` line
    module _ (i o : ℕ) (P : Pair K p w o s.line loop i) where
      abbrev own_depth : ℕ
      own_depth = pred (depth p s.line)

      abbrev own_counter : ℕ
      own_counter = counter K (pred (depth p s.line))

      abbrev test_place : ℕ
      test_place = place K p o + 9

      own_depth_is : own_depth ≡ depth p o
      own_depth_is = ap pred P.partners.close_depth

      own_test : Sits w test_place (cases own_counter ∷ forward (P.size + 2) ∷ [])
      own_test =
          subst (λ d. Sits w test_place (cases (counter K d) ∷ forward (P.size + 2) ∷ [])) (sym own_depth_is)
          (loop-test (place K p o) (depth p o) i P.size P.before-code)

      back_to_test : W.step room w (standing here n) ≡ some (standing test_place n)
      back_to_test = step_backward room w here n (P.size + 2) test_place P.after-code (omega (arith, P.close_place, P.body_place))

      on_endloop : (x : ℕ) → passes_after p s ≡ x → Result s n (endloop_charge x) (end_loop p s x)
      on_endloop zero e =
          let last : n own_counter ≡ 0 = M.counted own_depth ∙ e in
          let to : place K p (suc s.line) ≡ suc test_place + (P.size + 2) =
          omega (arith, P.close_place, P.body_place, P.after-place) in
          let ok : (1 ≤ s.line) × (s.line ≤ length p) = at-within p s.line (closes loop i) P.partners.close_line in (
            n,
            move back_to_test
                (move (step-empty room w test_place n own_counter (suc test_place) own_test.0 last refl)
                (move (step_forward room w (suc test_place) n (P.size + 2) (place K p (suc s.line)) own_test.1.0 to) stay)),
            subst (Match room K p (end_loop p s 0)) (put_id n own_counter 0 last)
                (match_passes room K p s n M (suc s.line) own_depth 0 0 (omega arith) (omega (arith, ok.1)) refl
                (λ y g. put_cases s.passes own_depth 0 y 0 (λ a. refl)
                (λ a. M.idle y (omega (arith, own_depth_is, P.partners.close_depth, P.partners.after-depth))))),
          )
      on_endloop (suc x) e =
          let first : ℕ = suc (opening p s.line) in
          let to : place K p first ≡ test_place + 2 =
          ap (λ r. place K p (suc r)) P.partners.opening_is ∙ omega (arith, P.body_place) in
          let inside : depth p first ≡ suc (depth p o) = ap (λ r. depth p (suc r)) P.partners.opening_is ∙ P.partners.body_depth in
          let ok : (1 ≤ o) × (o ≤ length p) = at-within p o (opens loop i) P.partners.open_line in (
            put n own_counter x,
            move back_to_test
                (move (step_one room w test_place n own_counter x (place K p first) (put n own_counter x) own_test.0
                (M.counted own_depth ∙ e) to refl) stay),
            match_passes room K p s n M first own_depth (suc x) x (omega arith) (omega (arith, ok.1, P.partners.opening_is)) refl
                (λ y g. put_other s.passes own_depth (suc x) y (omega (arith, own_depth_is))
                ∙ M.idle y (omega (arith, P.partners.close_depth))),
          )

    on_while : (i : ℕ) → i < K → (c : ℕ) → Pair K p w s.line c while i → (x : ℕ) → s.values i ≡ x → Result s n 2 (begin_while p s x)
    on_while i l c P zero e =
        let past : ℕ = suc (closing p s.line) in
        let to : place K p past ≡ suc here + (P.size + 3) =
        ap (λ r. place K p (suc r)) P.partners.closing_is ∙ omega (arith, P.body_place, P.close_place, P.after-place) in (
          n,
          move (step-empty room w here n (register i) (suc here) P.before-code.0 (M.held i l ∙ e) refl)
              (move (step_forward room w (suc here) n (P.size + 3) (place K p past) P.before-code.1.0 to) stay),
          past_pair while i c P,
        )
    on_while i l c P (suc x) e =
        let ok : (1 ≤ s.line) × (s.line ≤ length p) = at-within p s.line (opens while i) P.partners.open_line in (
          n,
          ends refl (ap (λ q. standing q n) (sym P.body_place))
              (puts_back room w here (register i) P.before-code.0 P.before-code.1.1.0 x n (M.held i l ∙ e) (own i (suc x) l e)),
          match_go_to room K p s n M (suc s.line) (omega arith) (omega (arith, ok.1)) P.partners.body_depth,
        )

    on_endwhile : (i o : ℕ) → Pair K p w o s.line while i → Result s n 1 (go_to s (opening p s.line))
    on_endwhile i o P =
        let first : ℕ = opening p s.line in
        let to : here ≡ place K p first + (P.size + 3) =
        omega (arith, P.close_place, P.body_place, ap (place K p) P.partners.opening_is) in
        let ok : (1 ≤ o) × (o ≤ length p) = at-within p o (opens while i) P.partners.open_line in
        let same : depth p first ≡ depth p s.line = ap (depth p) P.partners.opening_is ∙ sym P.partners.close_depth in (
          n,
          move (step_backward room w here n (P.size + 3) (place K p first) P.after-code to) stay,
          match_go_to room K p s n M first (omega (arith, ok.0, P.partners.opening_is))
              (omega (arith, ok.1, P.partners.opening_is)) same,
        )

    module _ (known : (l : ℕ) (c : Command) → at p l ≡ some c → Site K p w l c × (above (indices c) ≤ K)) where
      on_command : (s' : State) (c : Command) → at p s.line ≡ some c → S.perform room p s c ≡ some s'
          → Result s n (command_charge p s c) s'
      on_command s' (plain (clear i)) e x =
          let k : _ = known s.line (plain (clear i)) e in
          subst (Result s n (2 * s.values i + 2)) (some-injective (set_variable s i 0) s' x)
          (on_clear i (omega (arith, k.1)) (at-within p s.line (plain (clear i)) e).1 k.0)
      on_command s' (plain (increment i)) e x = go (room (register i) (suc (s.values i))) refl x
        where
          after : State
          after = set_variable s i (suc (s.values i))

          go : (r : Bool) → room (register i) (suc (s.values i)) ≡ r → given r after ≡ some s' → Result s n 1 s'
          go true h y =
              let k : _ = known s.line (plain (increment i)) e in
              subst (Result s n 1) (some-injective after s' y)
              (on_increment i (omega (arith, k.1)) (at-within p s.line (plain (increment i)) e).1 k.0 h)
          go false h y = absurd (none-ne-some s' y)
      on_command s' (plain (copy i j)) e x = go (room (register i) (s.values j)) refl x
        where
          after : State
          after = set_variable s i (s.values j)

          go : (r : Bool) → room (register i) (s.values j) ≡ r → given r after ≡ some s'
              → Result s n (command_charge p s (plain (copy i j))) s'
          go true h y =
              let k : _ = known s.line (plain (copy i j)) e in
              subst (Result s n (command_charge p s (plain (copy i j)))) (some-injective after s' y)
              (on_copy i j (omega (arith, k.1)) (omega (arith, k.1)) (at-within p s.line (plain (copy i j)) e).1 k.0 h)
          go false h y = absurd (none-ne-some s' y)
      on_command s' (opens loop i) e x =
          let k : _ = known s.line (opens loop i) e in
          subst (Result s n (loop_charge (s.values i))) (some-injective (begin_loop p s (s.values i)) s' x)
          (on_loop i (omega (arith, k.1)) k.0.0 k.0.1 (s.values i) refl)
      on_command s' (opens while i) e x =
          let k : _ = known s.line (opens while i) e in
          subst (Result s n 2) (some-injective (begin_while p s (s.values i)) s' x)
          (on_while i (omega (arith, k.1)) k.0.0 k.0.1 (s.values i) refl)
      on_command s' (closes loop i) e x =
          let k : _ = known s.line (closes loop i) e in
          subst (Result s n (endloop_charge (passes_after p s))) (some-injective (end_loop p s (passes_after p s)) s' x)
          (on_endloop i k.0.0 k.0.1 (passes_after p s) refl)
      on_command s' (closes while i) e x =
          let k : _ = known s.line (closes while i) e in
          subst (Result s n 1) (some-injective (go_to s (opening p s.line)) s' x) (on_endwhile i k.0.0 k.0.1)

      pub simulate : (s' : State) → S.step room p s ≡ some s' → Result s n (charge p s) s'
      unfolding S.step charge
      simulate s' x = go (at p s.line) refl x
        where
          go : (o : Option Command) → at p s.line ≡ o → and_then o (S.perform room p s) ≡ some s'
              → Result s n (default 0 (map (command_charge p s) o)) s'
          go none e y = absurd (none-ne-some s' y)
          go (some c) e y = on_command s' c e y
