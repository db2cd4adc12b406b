-- Runs with a budget, of any machine: the definition a case at a time, its induction, a budget cut in two, and what a loop of steps keeps.
use mathlib.Core.Path.{◌≡◌, refl, sym, ap, ◌∙◌}
use mathlib.Core.Bool.{Bool, true, false}
use mathlib.Core.Option.{Option, none, some}
use Prim.Native.Nat.{ℕ, zero, suc, ◌+◌, ◌≤◌, ◌<◌}
use native.Mathlib.Nat.{add-zero, zero-add, suc-add, add-suc}
use native.Mathlib.Omega.{arith}
use lib.Dec.{ltb}
use borrow.Author.Tests.{ltb-true}
use Rattle.theory.specs.Limits.{last_count}
use Rattle.theory.specs.Runs.{Machine, Outcome, stop, stepped, run}
use Rattle.theory.specs.Claims.{BudgetsCut}
use Rattle.theory.specs.declared.End.{End}
use Rattle.theory.specs.declared.End.TheVariants.{Spent, Full}

-- The definition, a case at a time

module _ {S : Type 0} (M : Machine S) where
  pub run-ended : (b n : ℕ) (s : S) (e : End) → M.ended s ≡ some e → run M b n s ≡ stop M e s
  unfolding run
  run-ended zero n s e h = rw (h, run)
  run-ended (suc b) n s e h = rw (h, run)

  -- no budget left
  pub run_spent : (n : ℕ) (s : S) → M.ended s ≡ none → run M 0 n s ≡ stop M Spent s
  unfolding run
  run_spent n s h = rw (h, run)

  -- no count left
  pub run-counted : (b n : ℕ) (s : S) → M.ended s ≡ none → ltb n last_count ≡ false → run M b n s ≡ stop M Spent s
  unfolding run
  run-counted zero n s h t = rw (h, run)
  run-counted (suc b) n s h t = rw (h, t, run)

  pub run_full : (b n : ℕ) (s : S) → M.ended s ≡ none → ltb n last_count ≡ true → M.next s ≡ none → run M (suc b) n s ≡ stop M Full s
  unfolding run
  run_full b n s h t x = rw (h, t, x, run)

  pub run_step : (b n : ℕ) (s s' : S) → M.ended s ≡ none → ltb n last_count ≡ true → M.next s ≡ some s'
      → run M (suc b) n s ≡ stepped M (run M b (suc n) s')
  unfolding run
  run_step b n s s' h t x = rw (h, t, x, run)

-- What holds of budget, count, state and outcome in each case holds of every run
pub record Cases {S : Type 0} (M : Machine S) (P : ℕ → ℕ → S → Outcome S → Type 0) : Type 0 where
  pub ended : (b n : ℕ) (s : S) (e : End) → M.ended s ≡ some e → P b n s (stop M e s)
  pub spent : (n : ℕ) (s : S) → M.ended s ≡ none → P 0 n s (stop M Spent s)
  pub counted : (b n : ℕ) (s : S) → M.ended s ≡ none → ltb n last_count ≡ false → P (suc b) n s (stop M Spent s)
  pub full : (b n : ℕ) (s : S) → M.ended s ≡ none → ltb n last_count ≡ true → M.next s ≡ none → P (suc b) n s (stop M Full s)
  pub step : (b n : ℕ) (s s' : S) (o : Outcome S) → M.ended s ≡ none → ltb n last_count ≡ true → M.next s ≡ some s'
      → P b (suc n) s' o → P (suc b) n s (stepped M o)

pub run_induction : {S : Type 0} (M : Machine S) (P : ℕ → ℕ → S → Outcome S → Type 0) → Cases M P
    → (b n : ℕ) (s : S) → P b n s (run M b n s)
run_induction {S} M P c zero n s = at (M.ended s) refl
  where
    at : (x : Option End) → M.ended s ≡ x → P 0 n s (run M 0 n s)
    at (some e) h = rw (run-ended M 0 n s e h) (c.ended 0 n s e h)
    at none h = rw (run_spent M n s h) (c.spent n s h)
run_induction {S} M P c (suc b) n s = at (λ s'. run_induction M P c b (suc n) s') (M.ended s) refl (ltb n last_count) refl (M.next s) refl
  where
    at : ((s' : S) → P b (suc n) s' (run M b (suc n) s')) → (x : Option End) → M.ended s ≡ x → (t : Bool) → ltb n last_count ≡ t
        → (y : Option S) → M.next s ≡ y → P (suc b) n s (run M (suc b) n s)
    at later (some e) h t k y x = rw (run-ended M (suc b) n s e h) (c.ended (suc b) n s e h)
    at later none h false k y x = rw (run-counted M (suc b) n s h k) (c.counted b n s h k)
    at later none h true k none x = rw (run_full M b n s h k x) (c.full b n s h k x)
    at later none h true k (some s') x = rw (run_step M b n s s' h k x) (c.step b n s s' (run M b (suc n) s') h k x (later s'))

-- A budget cut in two: the first part ended as o, and b is left for the second
Cut : {S : Type 0} → Machine S → ℕ → ℕ → S → Outcome S → Type 0
Cut M a n s o =
    (b : ℕ)
    → let second = run M b (n + o.steps) o.state in
    let whole = run M (a + b) n s in
    (whole.state ≡ second.state) × (whole.steps ≡ o.steps + second.steps) × (0 < b → whole.end ≡ second.end)

module _ {S : Type 0} (M : Machine S) where
  -- Where the first part does no step, the second is the whole
  cut_at_once : (a n : ℕ) (s : S) (e : End) → ((b : ℕ) → run M (a + b) n s ≡ run M b n s) → Cut M a n s (stop M e s)
  unfolding Cut
  cut_at_once a n s e same b = rw (add-zero, zero-add, same b) (refl, refl, λ h. refl)

  cut_full : (a n : ℕ) (s : S) → M.ended s ≡ none → ltb n last_count ≡ true → M.next s ≡ none → Cut M (suc a) n s (stop M Full s)
  unfolding Cut
  cut_full a n s h t x zero = simp (add-zero, run_full M a n s h t x, run_spent M n s h) (refl, refl, λ z. absurd (omega arith))
  cut_full a n s h t x (suc b) =
      simp (add-zero, suc-add, run_full M (a + suc b) n s h t x, run_full M b n s h t x) (refl, refl, λ z. refl)

  cut_step : (a n : ℕ) (s s' : S) (o : Outcome S) → M.ended s ≡ none → ltb n last_count ≡ true → M.next s ≡ some s'
      → Cut M a (suc n) s' o → Cut M (suc a) n s (stepped M o)
  unfolding Cut
  cut_step a n s s' o h t x c b =
      rw (suc-add a b, run_step M (a + b) n s s' h t x, suc-add o.steps, add-suc n o.steps, ← (suc-add n o.steps))
      ((c b).0, ap suc (c b).1, (c b).2)

pub budgets_cut : BudgetsCut
unfolding Cut
budgets_cut S M a b n s = run_induction M (Cut M) cases a n s b
  where
    cases : Cases M (Cut M)
    cases = record {
      ended = λ a n s e h. cut_at_once M a n s e λ b. run-ended M (a + b) n s e h ∙ sym (run-ended M b n s e h);
      spent = λ n s h. cut_at_once M 0 n s Spent λ b. rw zero-add;
      counted = λ a n s h t. cut_at_once M (suc a) n s Spent λ b. run-counted M (suc a + b) n s h t ∙ sym (run-counted M b n s h t);
      full = cut_full M;
      step = cut_step M;
    }

-- A run takes no more steps than its budget, and its count stays within the last
pub steps_within : {S : Type 0} (M : Machine S) (b n : ℕ) (s : S) → (run M b n s).steps ≤ b
steps_within M = run_induction M (λ b n s o. o.steps ≤ b) (record {
  ended = λ b n s e h. omega arith;
  spent = λ n s h. omega arith;
  counted = λ b n s h t. omega arith;
  full = λ b n s h t x. omega arith;
  step = λ b n s s' o h t x k. omega arith;
})

pub count-within : {S : Type 0} (M : Machine S) (b n : ℕ) (s : S) → n ≤ last_count → n + (run M b n s).steps ≤ last_count
count-within M = run_induction M (λ b n s o. n ≤ last_count → n + o.steps ≤ last_count) (record {
  ended = λ b n s e h l. omega arith;
  spent = λ n s h l. omega arith;
  counted = λ b n s h t l. omega arith;
  full = λ b n s h t x l. omega arith;
  step = λ b n s s' o h t x k l. let below : n < last_count = ltb-true n last_count t in omega (arith, k below);
})

-- What every step keeps, a run keeps
pub run_keeps : {S : Type 0} (M : Machine S) (P : S → Type 0) → ((s s' : S) → M.ended s ≡ none → M.next s ≡ some s' → P s → P s')
    → (b n : ℕ) (s : S) → P s → P (run M b n s).state
run_keeps M P keeps = run_induction M (λ b n s o. P s → P o.state) (record {
  ended = λ b n s e h p. p;
  spent = λ n s h p. p;
  counted = λ b n s h t p. p;
  full = λ b n s h t x p. p;
  step = λ b n s s' o h t x later p. later (keeps s s' h x p);
})

-- What a loop keeps that runs a machine

-- The outcome, with k steps before it
abbrev pub advanced : {S : Type 0} → ℕ → Outcome S → Outcome S
advanced k o = record { end = o.end; steps = k + o.steps; state = o.state }

-- o is the outcome of a run that has done k steps and stands at s, with b left of its budget, its count at n
abbrev pub Underway : {S : Type 0} → Machine S → Outcome S → ℕ → ℕ → ℕ → S → Type 0
Underway M o k b n s = o ≡ advanced k (run M b n s)

pub underway_start : {S : Type 0} (M : Machine S) (b n : ℕ) (s : S) → Underway M (run M b n s) 0 b n s
underway_start M b n s = rw zero-add

module _ {S : Type 0} (M : Machine S) (o : Outcome S) (k b n : ℕ) (s : S) (left : Underway M o k b n s) where
  stopped : (e : End) → run M b n s ≡ stop M e s → o ≡ record { end = e; steps = k; state = s }
  stopped e h = left ∙ rw (h, add-zero)

  pub underway_ended : (e : End) → M.ended s ≡ some e → o ≡ record { end = e; steps = k; state = s }
  underway_ended e h = stopped e (run-ended M b n s e h)

  pub underway_spent : M.ended s ≡ none → b ≡ 0 → o ≡ record { end = Spent; steps = k; state = s }
  underway_spent h z = stopped Spent (rw z (run_spent M n s h))

  pub underway_counted : M.ended s ≡ none → ltb n last_count ≡ false → o ≡ record { end = Spent; steps = k; state = s }
  underway_counted h t = stopped Spent (run-counted M b n s h t)

  pub underway_full : (b' : ℕ) → b ≡ suc b' → M.ended s ≡ none → ltb n last_count ≡ true → M.next s ≡ none
      → o ≡ record { end = Full; steps = k; state = s }
  underway_full b' z h t x = stopped Full (rw z (run_full M b' n s h t x))

  pub underway_step : (k' b' n' : ℕ) (s' : S) → k' ≡ suc k → b ≡ suc b' → n' ≡ suc n → M.ended s ≡ none → ltb n last_count ≡ true
      → M.next s ≡ some s' → Underway M o k' b' n' s'
  underway_step k' b' n' s' c z d h t x = left ∙ rw (z, run_step M b' n s s' h t x, c, d, add-suc, suc-add)
