-- A listing halts exactly when its word does, with the same words in all registers, after 1 step for F1 and the steps of its lines; and the
-- word never strays.
use mathlib.Core.Path.{◌≡◌, refl, sym, ap, ◌∙◌, subst}
use mathlib.Core.Logic.{◌≢◌, ◌⊎◌, inl, inr, ⊎_elim}
use mathlib.Core.Bool.{Bool, true, false}
use mathlib.Core.Option.{Option, none, some, map, none-ne-some, some-injective}
use mathlib.Core.List.{List, [], ◌∷◌}
use Prim.Native.Nat.{ℕ, zero, suc, ◌+◌, ◌≤◌}
use native.Mathlib.Omega.{arith}
use lib.ListN.{length}
use lib.Dec.{eqb}
use borrow.Author.Tests.{eqb-true, eqb-false, eq-eqb}
use Rattle.theory.specs.Basics.{at, EachOf}
use Rattle.theory.specs.Runs.{unlimited, stay, move, each}
use Rattle.theory.specs.Word as W
use Rattle.theory.specs.Word.{Symbol, one, hash, Instruction}
use Rattle.theory.specs.Claims.{Ends, WordRun}
use Rattle.theory.specs.declared.End.{End}
use Rattle.theory.specs.declared.End.TheVariants.{Halted}
use Rattle.theory.proofs.Faults.{given_some}
use Rattle.theory.proofs.Cells.{at-within, at_there, each_at}
use Rattle.theory.proofs.Joins.{Onward, ends, join, inversion}
use Rattle.theory.proofs.Unlimited.{word_live}
use Rattle.listing.specs.Listing.{Line, print, scan, State, scanned, perform, step, machine, word_steps, place, word}
use Rattle.listing.specs.Claims.{ListingRun, at_line_1, at_place_1, Targets, DemandOfListings, DemandOfAccepted}
use Rattle.listing.proofs.Places.{place-start, place_end}
use Rattle.listing.proofs.Targets.{accepted_targets}
use Rattle.listing.proofs.Follows.{goes_forward, here, Steps, follows}

module _ (l : List Line) where
  abbrev w : List Instruction
  w = word l

  -- Where the listing has halted so has its word

  halted_line : (s : State) → Ends (machine l) Halted s → s.line ≡ suc (length l)
  halted_line s h = eqb-true s.line _ (given_some _ Halted Halted h).0

  line_halted : (s : State) → s.line ≡ suc (length l) → Ends (machine l) Halted s
  line_halted s h = rw (eq-eqb s.line (suc (length l)) h)

  word_halted : (s : State) → s.line ≡ suc (length l) → Ends (W.machine unlimited w) Halted (here l s)
  word_halted s h =
      let there : place l s.line ≡ suc (length w) = ap (place l) h ∙ place_end l in
      rw (eq-eqb (place l s.line) (suc (length w)) there)

  -- The word follows its listing

  first : (f : ℕ → List Symbol) → W.step unlimited w (at_place_1 f) ≡ some (here l (at_line_1 f))
  unfolding word
  first f = goes_forward w 1 _ (place l 1) f refl (place-start l)

  follow : {s s' : State} {c : ℕ} → ListingRun l s c s' → WordRun w (here l s) c (here l s')
  follow stay = stay
  follow (move {s} {s'} {m} e g) =
      let r : Steps l s (word_steps l s) s' = follows l s s' e in
      ends (ap (λ k. k + m) (sym r.4)) refl (join (move r.2 r.3) (follow g))

  module _ (targets : EachOf (Targets (length l)) l) where
    -- The listing comes to its lines and the line after the last alone, and has a step at its lines

    abbrev Within : State → Type 0
    Within s = (1 ≤ s.line) × (s.line ≤ suc (length l))

    within : (s s' : State) → step l s ≡ some s' → Within s'
    unfolding step
    within s s' = go (at l s.line) refl
      where
        on_scan : (n e f : ℕ) → Targets (length l) (scan n e f) → s.line ≤ length l → (xs : List Symbol) → Within (scanned n e f s xs)
        on_scan n e f t h [] = (omega arith, omega arith)
        on_scan n e f t h (one ∷ xs) = (t.0, t.1)
        on_scan n e f t h (hash ∷ xs) = (t.2, t.3)

        on_line : (c : Line) → Targets (length l) c → s.line ≤ length l → Within (perform s c)
        on_line (print x n) t h = (omega arith, omega arith)
        on_line (scan n e f) t h = on_scan n e f t h (s.registers n)

        target : (k : ℕ) (c : Line) → at l k ≡ some c → Targets (length l) c
        target zero c e = absurd (none-ne-some c e)
        target (suc k) c e = each_at (Targets (length l)) l k c targets e

        go : (o : Option Line) → at l s.line ≡ o → map (perform s) o ≡ some s' → Within s'
        go none e h = absurd (none-ne-some s' h)
        go (some c) e h =
            subst Within (some-injective (perform s c) s' h) (on_line c (target s.line c e) (at-within l s.line c e).1)

    run-within : {s s' : State} {c : ℕ} → ListingRun l s c s' → Within s → Within s'
    run-within stay h = h
    run-within (move {s} {s'} e g) h = run-within g (within s s' e)

    steps_or_halted : (s : State) → Within s → ((s' : State) × (step l s ≡ some s')) ⊎ (s.line ≡ suc (length l))
    unfolding step
    steps_or_halted s h = go (eqb s.line (suc (length l))) refl
      where
        go : (b : Bool) → eqb s.line (suc (length l)) ≡ b → ((s' : State) × (step l s ≡ some s')) ⊎ (s.line ≡ suc (length l))
        go true e = inr (eqb-true s.line (suc (length l)) e)
        go false e =
            let other : s.line ≢ suc (length l) = eqb-false s.line (suc (length l)) e in
            let c : _ = at_there l s.line h.0 (omega (arith, h.1)) in
            inl (perform s c.0, rw c.1)

    module _ (f : ℕ → List Symbol) where
      -- After m steps the word is at t, on the way to where it stands for a state that the listing comes to
      record OnWay (m : ℕ) (t : W.State) : Type 0 where
        cost : ℕ
        state : State
        goes : ListingRun l (at_line_1 f) cost state
        left : ℕ
        comes : WordRun w t left (here l state)
        paid : m + left ≡ 1 + cost

      -- with steps left to it; or there, and both have halted
      abbrev Before : ℕ → W.State → Type 0
      Before m t =
          (c : ℕ) × (s : State) × ListingRun l (at_line_1 f) c s
          × (k : ℕ) × Onward (W.step unlimited (word l)) each t k (here l s) × (m + k ≡ 1 + c)

      abbrev Over : ℕ → W.State → Type 0
      Over m t = (c : ℕ) × (s : State) × ListingRun l (at_line_1 f) c s × (s.line ≡ suc (length l)) × (m ≡ 1 + c) × (t ≡ here l s)

      before_or_over : (m : ℕ) (t : W.State) → OnWay m t → Before m t ⊎ Over m t
      before_or_over m t y = ⊎_elim there (λ z. inl (y.cost, y.state, y.goes, y.left, z, y.paid)) (inversion y.comes)
        where
          there : (y.left ≡ 0) × (t ≡ here l y.state) → Before m t ⊎ Over m t
          there z = ⊎_elim
              (λ x. inl (
                y.cost + (word_steps l y.state + 0),
                x.0,
                join y.goes (move x.1 stay),
                word_steps l y.state,
                subst (λ u. Onward (W.step unlimited w) each u (word_steps l y.state) (here l x.0)) (sym z.1)
                    (follows l y.state x.0 x.1),
                omega (arith, z.0, y.paid),
              ))
              (λ x. inr (y.cost, y.state, y.goes, x, omega (arith, z.0, y.paid), z.1))
              (steps_or_halted y.state (run-within y.goes (omega arith, omega arith)))

      start : OnWay 0 (at_place_1 f)
      start = record { cost = 0; state = at_line_1 f; goes = stay; left = 1; comes = move (first f) stay; paid = refl }

      advance : (m : ℕ) (t t' : W.State) → W.step unlimited w t ≡ some t' → OnWay m t → OnWay (suc m) t'
      advance m t t' e y = ⊎_elim before over (before_or_over m t y)
        where
          before : Before m t → OnWay (suc m) t'
          before z =
              let o : Onward (W.step unlimited w) each t z.3 (here l z.1) = z.4 in
              record {
                cost = z.0;
                state = z.1;
                goes = z.2;
                left = o.1;
                comes = subst (λ u. WordRun w u o.1 (here l z.1)) (some-injective o.0 t' (sym o.2 ∙ e)) o.3;
                paid = omega (arith, o.4, z.5);
              }

          over : Over m t → OnWay (suc m) t'
          over z =
              let halted : Ends (W.machine unlimited w) Halted t = rw z.5 (word_halted z.1 z.3) in
              absurd (none-ne-some Halted (sym (word_live unlimited w t t' e) ∙ halted))

      reached : {t t' : W.State} {k : ℕ} → WordRun w t k t' → (m n : ℕ) → m + k ≡ n → OnWay m t → OnWay n t'
      reached {t} stay m n p y = subst (λ k. OnWay k t) (omega arith) y
      reached (move {s} {s'} e g) m n p y = reached g (suc m) n (omega arith) (advance m s s' e y)

      -- Where the word has ended it has halted, and so has the listing
      ended : (m : ℕ) (t : W.State) (x : End) → WordRun w (at_place_1 f) m t → Ends (W.machine unlimited w) x t → Over m t × (x ≡ Halted)
      ended m t x g h = ⊎_elim
          (λ z. absurd (none-ne-some x (sym (word_live unlimited w t z.4.0 z.4.2) ∙ h)))
          (λ z. (z, some-injective x Halted (sym h ∙ rw z.5 (word_halted z.1 z.3))))
          (before_or_over m t (reached g 0 m (omega arith) start))

pub demand_of_listings : DemandOfListings
demand_of_listings l targets f = record {
  halts = λ c s g h. (here l s, move (first l f) (follow l g), word_halted l s (halted_line l s h), λ r. refl);
  only = λ m t g h.
      let z : _ = (ended l targets f m t Halted g h).0 in
      (z.0, z.1, z.2, line_halted l z.1 z.3, z.4, λ r. ap (λ u. u.registers r) z.5);
  goes_on = λ c s g e. ⊎_elim
      (λ x. absurd (none-ne-some x.0 (sym e ∙ x.1)))
      (line_halted l s)
      (steps_or_halted l targets s (run-within l targets g (omega arith, omega arith)));
  stays = λ m t g h. let x : _ = (ended l targets f m t _ g h).1 in let y : ◌≡◌ {A = ℕ} 0 1 = cc in omega arith;
}

-- An accepted listing has such targets
pub demand_of_accepted : DemandOfAccepted
demand_of_accepted l a = demand_of_listings l (accepted_targets l a)
