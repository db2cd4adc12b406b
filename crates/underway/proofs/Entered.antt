-- A run as a whole: whether it begins inside, and what it hands back.
use mathlib.Core.Path.{◌≡◌, refl, ap, ◌∙◌}
use mathlib.Core.Bool.{Bool, true, false, cond, ◌&&◌}
use mathlib.Core.Option.{some}
use mathlib.Core.List.{List}
use Prim.Native.Nat.{ℕ, zero, suc, ◌+◌, ◌≤◌, ◌<◌, min}
use native.Mathlib.Omega.{arith}
use borrow.Author.Tests.{leb-true, leb-false, le-leb, lt-leb, ne_eqb}
use lib.Dec.{leb}
use lib.IntN.{ℤ, pos, negsuc}
use Rattle.theory.specs.Limits.{last_count}
use Rattle.theory.specs.Runs.{Outcome}
use Rattle.theory.specs.Word as W
use Rattle.theory.specs.Word.{ended_at}
use Rattle.theory.specs.declared.End.TheVariants.{Strayed}
use Rattle.memory.specs.declared.answers.Run.{Run}
use Rattle.std.specs.Prelude.{Ok}
use Rattle.underway.specs.declared.Stop.{Stop}
use Rattle.underway.specs.Places.{bias, placed, most_place, number_of, entry_of}
use Rattle.underway.specs.Ends.{ran_to}
use Rattle.underway.specs.Inside.{Stopped}
use Rattle.underway.proofs.Outside.{placed_number}

outside_low : (L : ℕ) (z : ℤ) → number_of z < 1 → ended_at L z ≡ some Strayed
outside_low L (pos zero) h = rw (ne_eqb 0 (suc L) (λ e. omega arith))
outside_low L (pos (suc n)) h = absurd (omega arith)
outside_low L (negsuc n) h = refl

outside_high : (L : ℕ) (z : ℤ) → suc L < number_of z → ended_at L z ≡ some Strayed
outside_high L (pos n) h = rw (ne_eqb n (suc L) (λ e. omega arith), le-leb 1 n (omega arith), lt-leb n L (omega arith))
outside_high L (negsuc n) h = absurd (omega arith)

place_inside : (z : ℤ) → 1 ≤ number_of z → placed (bias + number_of z) ≡ z
place_inside (pos n) h = placed_number (bias + n) (omega arith) ∙ ap pos (omega arith)
place_inside (negsuc n) h = absurd (omega arith)

-- What a run that begins at z, of L instructions, has in n
pub entry_outside : (L : ℕ) (z : ℤ) → 0 ≡ entry_of z L → ended_at L z ≡ some Strayed
entry_outside L z = go (leb 1 (number_of z)) refl (leb (number_of z) (suc L)) refl
  where
    go : (a : Bool) → leb 1 (number_of z) ≡ a → (b : Bool) → leb (number_of z) (suc L) ≡ b → 0 ≡ cond (a && b) (number_of z) 0
        → ended_at L z ≡ some Strayed
    go false e b d h = outside_low L z (leb-false 1 (number_of z) e)
    go true e false d h = outside_high L z (leb-false (number_of z) (suc L) d)
    go true e true d h = absurd (omega (arith, leb-true 1 (number_of z) e))

pub entry_inside : (L n : ℕ) (z : ℤ) → n ≡ entry_of z L → 1 ≤ n → (n ≤ suc L) × (placed (bias + n) ≡ z)
entry_inside L n z = go (leb 1 (number_of z)) refl (leb (number_of z) (suc L)) refl
  where
    go : (a : Bool) → leb 1 (number_of z) ≡ a → (b : Bool) → leb (number_of z) (suc L) ≡ b → n ≡ cond (a && b) (number_of z) 0 → 1 ≤ n
        → (n ≤ suc L) × (placed (bias + n) ≡ z)
    go false e b d h l = absurd (omega arith)
    go true e false d h l = absurd (omega arith)
    go true e true d h l =
        (omega (arith, leb-true (number_of z) (suc L) d), ap (λ k. placed (bias + k)) h ∙ place_inside z (leb-true 1 (number_of z) e))

-- What a run hands back is what the definition gives, where its count has room for the steps
pub ran_is : (held_in : (ℕ → List W.Symbol) → Type 0) (o : Outcome W.State) (steps : ℕ) (s : Stop) → Stopped held_in o s
    → steps + o.steps ≤ last_count
    → ran_to steps s ≡ record {
      position = record { place = o.state.place; steps = steps + o.steps };
      ended = Ok (record { end = o.end; steps = o.steps });
    }
ran_is held_in o steps s h l =
    let near : min s.here most_place ≡ s.here = omega (arith, h.near) in
    let few : min (steps + s.steps) last_count ≡ steps + s.steps = omega (arith, h.steps) in
    rw (near, few, h.place, h.end, h.steps)
