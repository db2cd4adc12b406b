-- One instruction as the definition has it: what each kind does.
use mathlib.Core.Path.{◌≡◌, refl, sym, ap}
use mathlib.Core.Bool.{Bool, true, false}
use mathlib.Core.List.{List, [], ◌∷◌, ◌++◌}
use Prim.Native.Nat.{ℕ, suc, ◌+◌, ◌-◌, ◌≤◌}
use native.Mathlib.Omega.{arith}
use borrow.Author.Tests.{le-leb, lt-leb}
use lib.ListN.{length, get_or}
use Rattle.std.specs.Prelude.{Some}
use Rattle.theory.specs.Basics.{put}
use Rattle.theory.specs.Word as W
use Rattle.theory.specs.Word.{Symbol, one, hash, byte_of, Instruction, append, forward, backward, cases}
use Rattle.rings.specs.Ring.{Ring, Appended, Deleted}
use Rattle.rings.specs.Steps.{Performed, symbol_of, next_if, by_byte}
use Rattle.underway.proofs.Effects.{place_forward, place_backward}

-- what is none of the other kinds is an append, of the symbol that its kind gives
pub is_append : (i : Instruction) {k r : ℕ} → (k ≡ 3 → ⊥) → (k ≡ 4 → ⊥) → (k ≡ 5 → ⊥) → W.kind i ≡ k → W.operand i ≡ suc r
    → (x : Symbol) × (i ≡ append x (suc r)) × (symbol_of k ≡ byte_of x)
is_append (append one n) no-3 no-4 no-5 k e = (one, ap {B = Instruction} (append one) e, rw (← k))
is_append (append hash n) no-3 no-4 no-5 k e = (hash, ap {B = Instruction} (append hash) e, rw (← k))
is_append (forward n) no-3 no-4 no-5 k e = absurd (no-3 (sym k))
is_append (backward n) no-3 no-4 no-5 k e = absurd (no-4 (sym k))
is_append (cases n) no-3 no-4 no-5 k e = absurd (no-5 (sym k))

-- What each does, at register r counted from 0

module _ (capacities : List ℕ) (f : ℕ → List Symbol) (here : ℕ) (store lengths starts : List ℕ) where
  pub did_append : (r : ℕ) (x : Symbol) (room : Bool) → Appended capacities f r x room store lengths starts
      → Performed capacities f here (append x (suc r)) (next_if room here) store lengths starts
  did_append r x true h = (
    put f (suc r) (f (suc r) ++ (x ∷ [])),
    rw (le-leb (suc (length (f (suc r)))) (get_or capacities r 0) h.0, place_forward here 1),
    h.1,
    omega arith,
  )
  did_append r x false h = (rw (lt-leb (suc (length (f (suc r)))) (get_or capacities r 0) (omega (arith, h.0))), h.1)

  pub did_forward : (n : ℕ) → n ≤ 600000 → Ring capacities f store lengths starts
      → Performed capacities f here (forward n) (Some (here + n)) store lengths starts
  did_forward n l h = (f, rw (place_forward here n), h, omega arith)

  pub did_backward : (n : ℕ) → n ≤ here → Ring capacities f store lengths starts
      → Performed capacities f here (backward n) (Some (here - n)) store lengths starts
  did_backward n l h = (f, rw (place_backward here n l), h, omega arith)

  pub did_cases : (r b : ℕ) → Deleted capacities f r (f (suc r)) b store lengths starts
      → Performed capacities f here (cases (suc r)) (by_byte b here) store lengths starts
  did_cases r b = go (f (suc r)) refl
    where
      go : (ys : List Symbol) → f (suc r) ≡ ys → Deleted capacities f r ys b store lengths starts
          → Performed capacities f here (cases (suc r)) (by_byte b here) store lengths starts
      go [] e h = rw h.0 (f, rw (e, place_forward here 1), h.1, omega arith)
      go (one ∷ xs) e h = rw h.0 (put f (suc r) xs, rw (e, place_forward here 2), h.1, omega arith)
      go (hash ∷ xs) e h = rw h.0 (put f (suc r) xs, rw (e, place_forward here 3), h.1, omega arith)
