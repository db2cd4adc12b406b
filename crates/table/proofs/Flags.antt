-- A loop with no early end keeps in a flag whether a test has passed everywhere.
use mathlib.Core.Path.{◌≡◌, subst}
use mathlib.Core.Bool.{Bool, true, false}
use mathlib.Core.Logic.{⊎_elim}
use Prim.Native.Nat.{ℕ, ◌+◌, ◌<◌}
use native.Mathlib.Omega.{arith}
use Rattle.word.proofs.Fills.{lt_or_le}

-- A test that failed has not passed
pub never : {P : Type 0} → ◌≡◌ {A = Bool} false true → P
never q = let z : ◌≡◌ {A = ℕ} 0 1 = cc q in absurd (omega (arith, z))

-- One place more
pub each_more : (P : ℕ → Type 0) (i : ℕ) → ((j : ℕ) → j < i → P j) → P i → (j : ℕ) → j < i + 1 → P j
each_more P i h p j l =
    ⊎_elim (h j) (λ g. let e : i ≡ j = omega arith in subst P e p) (lt_or_le j i)
