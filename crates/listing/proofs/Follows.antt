-- Each step of a listing is as many steps of its word as its line costs, from the place of the line to the place of the next one, and puts
-- the same words into the registers.
use mathlib.Core.Path.{◌≡◌, refl, ap, ◌∙◌, subst}
use mathlib.Core.Bool.{Bool, true, false}
use mathlib.Core.Option.{Option, none, some, map, none-ne-some, some-injective}
use mathlib.Core.List.{List, [], ◌∷◌}
use Prim.Native.Nat.{ℕ, suc, ◌+◌, ◌≤◌, ◌<◌}
use native.Mathlib.Omega.{arith}
use lib.IntN.{pos, ◌-ℤ◌, +ℤ-neg_ℤ_cancel}
use lib.Dec.{ltb}
use borrow.Author.Tests.{ltb-true, ltb-false}
use Rattle.theory.specs.Basics.{at, put, default}
use Rattle.theory.specs.Runs.{unlimited, stay, move, each}
use Rattle.theory.specs.Word as W
use Rattle.theory.specs.Word.{Symbol, one, hash, Instruction, append, forward, backward, cases}
use Rattle.theory.proofs.Cells.{Sits}
use Rattle.theory.proofs.Joins.{Onward}
use Rattle.listing.specs.Listing.{Line, print, scan, State, scanned, perform, step, line_steps, word_steps}
use Rattle.listing.specs.Listing.{place, transfer, line_code, word}
use Rattle.listing.proofs.Places.{place-next, code_at}

-- One step of a word, whatever its registers hold

abbrev standing : ℕ → (ℕ → List Symbol) → W.State
standing q f = record { place = pos q; registers = f }

module _ (w : List Instruction) where
  does : (q : ℕ) (f : ℕ → List Symbol) (i : Instruction) (t : W.State) → at w q ≡ some i → W.perform unlimited (standing q f) i ≡ some t
      → W.step unlimited w (standing q f) ≡ some t
  unfolding W.step
  does q f i t e h = rw e h

  pub goes_forward : (q k q' : ℕ) (f : ℕ → List Symbol) → at w q ≡ some (forward k) → q' ≡ q + k
      → W.step unlimited w (standing q f) ≡ some (standing q' f)
  goes_forward q k q' f e p = does q f (forward k) (standing q' f) e (rw p)

  goes_backward : (q k q' : ℕ) (f : ℕ → List Symbol) → at w q ≡ some (backward k) → q ≡ q' + k
      → W.step unlimited w (standing q f) ≡ some (standing q' f)
  goes_backward q k q' f e p =
      let there : pos q -ℤ pos k ≡ pos q' = rw p (+ℤ-neg_ℤ_cancel (pos q') (pos k)) in
      does q f (backward k) (standing q' f) e (ap (λ z. some (record { place = z; registers = f })) there)

  -- A transfer goes to its target
  goes_to : (q t : ℕ) (f : ℕ → List Symbol) → at w q ≡ some (transfer q t) → W.step unlimited w (standing q f) ≡ some (standing t f)
  goes_to q t f e = go (ltb q t) refl
    where
      go : (b : Bool) → ltb q t ≡ b → W.step unlimited w (standing q f) ≡ some (standing t f)
      go true b = let ahead : q < t = ltb-true q t b in goes_forward q _ t f (rw b at e) (omega arith)
      go false b = let behind : t ≤ q = ltb-false q t b in goes_backward q _ t f (rw b at e) (omega arith)

module _ (l : List Line) where
  abbrev w : List Instruction
  w = word l

  -- Where the word stands for the listing's state s
  abbrev pub here : State → W.State
  here s = record { place = pos (place l s.line); registers = s.registers }

  -- From there it takes one step or more, m in all, to where it stands for s'
  abbrev pub Steps : State → ℕ → State → Type 0
  Steps s m s' = Onward (W.step unlimited (word l)) each (here s) m (here s')

  module _ (s : State) where
    abbrev q : ℕ
    q = place l s.line

    on_print : (x : Symbol) (n : ℕ) → at l s.line ≡ some (print x n) → Steps s 1 (perform s (print x n))
    on_print x n e =
        let s' : State = perform s (print x n) in
        let next : _ = place-next l s.line (print x n) e in
        (here s', 0, does w q s.registers (append x n) (here s') (code_at l s.line (print x n) e).0 (rw next), stay, refl)

    module _ (n e f : ℕ) (at-line : at l s.line ≡ some (scan n e f)) where
      its_code : Sits w q (line_code l q (scan n e f))
      its_code = code_at l s.line (scan n e f) at-line

      -- After a 1 or a #: to the transfer at place q', and from there to its target
      on_symbol : (q' t : ℕ) (left : ℕ → List Symbol) → W.step unlimited w (here s) ≡ some (standing q' left)
          → at w q' ≡ some (transfer q' (place l t)) → Steps s 2 (record { line = t; registers = left })
      on_symbol q' t left h g = (standing q' left, 1, h, move (goes_to w q' (place l t) left g) stay, refl)

      -- by what the register holds
      on_scan : (xs : List Symbol) → s.registers n ≡ xs → Steps s 2 (scanned n e f s xs)
      on_scan [] h =
          let to : ℕ = place l (suc s.line) in
          let next : _ = place-next l s.line (scan n e f) at-line in
          let second : q + 1 ≡ suc q = omega arith in (
            standing (q + 1) s.registers,
            1,
            does w q s.registers (cases n) (standing (q + 1) s.registers) its_code.0 (rw h),
            move (goes_forward w (q + 1) _ to s.registers (ap (at w) second ∙ its_code.1.0) (omega (arith, next))) stay,
            refl,
          )
      on_scan (one ∷ xs) h =
          let left : ℕ → List Symbol = put s.registers n xs in
          let third : q + 2 ≡ suc (suc q) = omega arith in
          on_symbol (q + 2) e left (does w q s.registers (cases n) (standing (q + 2) left) its_code.0 (rw h))
          (ap (at w) third ∙ its_code.1.1.0)
      on_scan (hash ∷ xs) h =
          let left : ℕ → List Symbol = put s.registers n xs in
          let fourth : q + 3 ≡ suc (suc (suc q)) = omega arith in
          on_symbol (q + 3) f left (does w q s.registers (cases n) (standing (q + 3) left) its_code.0 (rw h))
          (ap (at w) fourth ∙ its_code.1.1.1.0)

    on_line : (c : Line) → at l s.line ≡ some c → Steps s (line_steps c) (perform s c)
    on_line (print x n) e = on_print x n e
    on_line (scan n e f) h = on_scan n e f h (s.registers n) refl

    pub follows : (s' : State) → step l s ≡ some s' → Steps s (word_steps l s) s'
    unfolding step
    follows s' = go (at l s.line) refl
      where
        go : (o : Option Line) → at l s.line ≡ o → map (perform s) o ≡ some s'
            → Steps s (default 0 (map line_steps o)) s'
        go none e h = absurd (none-ne-some s' h)
        go (some c) e h = subst (Steps s (line_steps c)) (some-injective (perform s c) s' h) (on_line c e)
