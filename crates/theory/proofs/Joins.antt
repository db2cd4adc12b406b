-- Unlimited runs, joined and compared.
use mathlib.Core.Path.{◌≡◌, refl, sym, ◌∙◌, subst}
use mathlib.Core.Logic.{◌⊎◌, inl, inr, ⊎_elim}
use mathlib.Core.Option.{Option, none, some, none-ne-some, some-injective}
use Prim.Native.Nat.{ℕ, ◌+◌}
use native.Mathlib.Nat.{zero-add, add_assoc}
use native.Mathlib.Omega.{arith}
use Rattle.theory.specs.Runs.{Goes, stay, move, each}

module _ {S : Type 0} (next : S → Option S) (cost : S → ℕ) where
  -- A run that begins with a step
  abbrev pub Onward : S → ℕ → S → Type 0
  Onward s c t = (s' : S) × (c' : ℕ) × (next s ≡ some s') × Goes next cost s' c' t × (c ≡ cost s + c')

module _ {S : Type 0} {next : S → Option S} {cost : S → ℕ} where
  -- A run whose cost and last state are these
  pub ends : {s t t' : S} {m m' : ℕ} → m ≡ m' → t ≡ t' → Goes next cost s m t → Goes next cost s m' t'
  ends {s} {t} {t'} {m} {m'} e f g = subst (λ k. Goes next cost s k t') e (subst (λ u. Goes next cost s m u) f g)

  pub join : {s t u : S} {m n : ℕ} → Goes next cost s m t → Goes next cost t n u → Goes next cost s (m + n) u
  join {n} stay h = rw zero-add h
  join {n} (move {s} {m} e g) h = rw add_assoc (move e (join g h))

  -- A run is over, or begins with a step
  pub inversion : {s t : S} {c : ℕ} → Goes next cost s c t → ((c ≡ 0) × (s ≡ t)) ⊎ Onward next cost s c t
  inversion stay = inl (refl, refl)
  inversion (move {s'} {m} e g) = inr (s', m, e, g, refl)

-- Of two runs from one state, one goes on from where the other ends
module _ {S : Type 0} (next : S → Option S) where
  abbrev pub Rest : S → ℕ → ℕ → S → Type 0
  Rest u m c t = (k : ℕ) × (m + k ≡ c) × Goes next each u k t

pub compare : {S : Type 0} {next : S → Option S} {s u t : S} {m c : ℕ} → Goes next each s m u → Goes next each s c t
    → Rest next u m c t ⊎ Rest next t c m u
compare {c} stay h = inl (c, zero-add c, h)
compare {S} {next} {u} {t} {c} (move {s} {s'} {m} e g) h = go (λ c' h'. compare g h') (inversion h)
  where
    go : ((c' : ℕ) → Goes next each s' c' t → Rest next u m c' t ⊎ Rest next t c' m u)
        → ((c ≡ 0) × (s ≡ t)) ⊎ Onward next each s c t
        → Rest next u (1 + m) c t ⊎ Rest next t c (1 + m) u
    go rec (inl z) = inr (1 + m, (omega arith), subst (λ r. Goes next each r (1 + m) u) z.1 (move e g))
    go rec (inr z) = ⊎_elim
        (λ y. let f : m + y.0 ≡ z.1 = y.1 in inl (y.0, omega (arith, z.4), y.2))
        (λ y. let f : z.1 + y.0 ≡ m = y.1 in inr (y.0, omega (arith, z.4), y.2))
        (rec z.1 (subst (λ r. Goes next each r z.1 t) (some-injective z.0 s' (sym z.2 ∙ e)) z.3))

-- and so a run that cannot go on is the only one that cannot
pub only_end : {S : Type 0} {next : S → Option S} {s u t : S} {m c : ℕ} → Goes next each s m u → Goes next each s c t
    → next u ≡ none → next t ≡ none → (m ≡ c) × (u ≡ t)
only_end {S} {next} {u} {t} {m} {c} g h e f = ⊎_elim
    (λ y. let z : (y.0 ≡ 0) × (u ≡ t) = over u t y.0 e y.2 in let a : m + y.0 ≡ c = y.1 in (omega (arith, z.0), z.1))
    (λ y. let z : (y.0 ≡ 0) × (t ≡ u) = over t u y.0 f y.2 in let a : c + y.0 ≡ m = y.1 in (omega (arith, z.0), sym z.1))
    (compare g h)
  where
    over : (u t : S) (k : ℕ) → next u ≡ none → Goes next each u k t → (k ≡ 0) × (u ≡ t)
    over u t k e g = ⊎_elim (λ z. z) (λ z. absurd (none-ne-some z.0 (sym e ∙ z.2))) (inversion g)

-- A run at one cost is a run at any other
pub at_cost : {S : Type 0} {next : S → Option S} {cost : S → ℕ} (cost' : S → ℕ) {s t : S} {m : ℕ} → Goes next cost s m t
    → (c : ℕ) × Goes next cost' s c t
at_cost cost' stay = (0, stay)
at_cost cost' (move {s} e g) = let r : _ = at_cost cost' g in (cost' s + r.0, move e r.1)
