-- Tests of the lengths after the first, one after the other.
use mathlib.Core.Path.{◌≡◌, refl, ap, ◌∙◌}
use mathlib.Core.Bool.{Bool, true, false}
use mathlib.Core.List.{List}
use Prim.Native.Nat.{ℕ, suc, ◌+◌, ◌-◌, ◌≤◌, ◌<◌}
use native.Mathlib.Omega.{arith}
use borrow.Author.Tests.{eq-eqb, ne_eqb}
use lib.Dec.{eqb}
use lib.ListN.{length, get_or}
use Rattle.theory.specs.Basics.{all_below}
use Rattle.theory.proofs.GoodMemory.{both, all_below_fails}
use Rattle.memory.specs.Rest.{rest_empty}

module _ (lengths : List ℕ) where
  abbrev empty-after : ℕ → Bool
  empty-after j = eqb (get_or lengths (j + 1) 0) 0

  -- Those before i are 0
  pub record EmptyTo (i : ℕ) : Type 0 where
    pub from : 1 ≤ i
    pub to : i - 1 ≤ length lengths - 1
    pub empty : all_below (i - 1) (λ j. eqb (get_or lengths (j + 1) 0) 0) ≡ true

  pub empty_none : EmptyTo 1
  empty_none = record { from = omega arith; to = omega arith; empty = refl }

  pub empty-more : (i : ℕ) → EmptyTo i → i < length lengths → get_or lengths i 0 ≡ 0 → EmptyTo (i + 1)
  empty-more i h l e =
      let next : i + 1 - 1 ≡ suc (i - 1) = omega (arith, h.from) in
      let same : i - 1 + 1 ≡ i = omega (arith, h.from) in
      let here : empty-after (i - 1) ≡ true = eq-eqb (get_or lengths (i - 1 + 1) 0) 0 (ap (λ j. get_or lengths j 0) same ∙ e) in
      record {
        from = omega arith;
        to = omega arith;
        empty = ap (λ n. all_below n empty-after) next ∙ both (all_below (i - 1) empty-after) (empty-after (i - 1)) h.empty here;
      }

  pub empty_fails : (i : ℕ) → EmptyTo i → i < length lengths → (get_or lengths i 0 ≡ 0 → ⊥) → rest_empty lengths ≡ false
  empty_fails i h l ne =
      let same : i - 1 + 1 ≡ i = omega (arith, h.from) in
      all_below_fails (length lengths - 1) empty-after (i - 1) (omega (arith, h.from))
      (ne_eqb (get_or lengths (i - 1 + 1) 0) 0 (λ e. ne (ap (λ j. get_or lengths j 0) (omega (arith, same)) ∙ e)))

  pub empty-all : (i : ℕ) → EmptyTo i → length lengths ≤ i → rest_empty lengths ≡ true
  empty-all i h l =
      let end : length lengths - 1 ≡ i - 1 = omega (arith, h.to, h.from) in
      ap (λ n. all_below n empty-after) end ∙ h.empty
