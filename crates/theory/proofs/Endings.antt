-- Runs with a budget that are not spent: where they stop there is no step, and they are full exactly where the state has not ended.
use mathlib.Core.Path.{◌≡◌, refl, sym, ◌∙◌}
use mathlib.Core.Logic.{◌≢◌, ◌⊎◌, inl, inr, ⊎_elim, ◌↔◌}
use mathlib.Core.Option.{Option, none, some, none-ne-some}
use Prim.Native.Nat.{ℕ}
use native.Mathlib.Omega.{arith}
use Rattle.theory.specs.Runs.{Machine, Outcome, run}
use Rattle.theory.specs.declared.End.{End}
use Rattle.theory.specs.declared.End.TheVariants.{Halted, Strayed, Spent, Full}
use Rattle.theory.proofs.Unlimited.{run_ends, run_fills}

full_or_not : (e : End) → (e ≡ Full) ⊎ (e ≢ Full)
full_or_not Full = inl refl
full_or_not Halted = inr λ h. let z : ◌≡◌ {A = ℕ} 0 1 = cc in omega arith
full_or_not Strayed = inr λ h. let z : ◌≡◌ {A = ℕ} 0 1 = cc in omega arith
full_or_not Spent = inr λ h. let z : ◌≡◌ {A = ℕ} 0 1 = cc in omega arith

-- A state that has ended has no step, where one that has a step has not ended
pub ended_stops : {S : Type 0} (M : Machine S) → ((s s' : S) → M.next s ≡ some s' → M.ended s ≡ none)
    → (s : S) (e : End) → M.ended s ≡ some e → M.next s ≡ none
ended_stops {S} M live s e h = go (M.next s) refl
  where
    go : (o : Option S) → M.next s ≡ o → o ≡ none
    go none x = refl
    go (some t) x = absurd (none-ne-some e (sym (live s t x) ∙ h))

-- Of such a machine, whose states never end as full
module _ {S : Type 0} (M : Machine S) (live : (s s' : S) → M.next s ≡ some s' → M.ended s ≡ none)
    (never : (s : S) → M.ended s ≢ some Full) (b n : ℕ) (s : S) (paid : (run M b n s).end ≢ Spent) where
  abbrev o : Outcome S
  o = run M b n s

  pub run_stops : M.next (run M b n s).state ≡ none
  run_stops = ⊎_elim
      (λ h. (run_fills M never b n s h).1)
      (λ h. ended_stops M live o.state o.end (run_ends M b n s paid h))
      (full_or_not o.end)

  pub full_where : ((run M b n s).end ≡ Full) ↔ (M.ended (run M b n s).state ≡ none)
  full_where = (
    λ h. (run_fills M never b n s h).0,
    λ e. ⊎_elim (λ h. h) (λ h. absurd (none-ne-some o.end (sym e ∙ run_ends M b n s paid h))) (full_or_not o.end),
  )
