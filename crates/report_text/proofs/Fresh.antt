-- The lengths that a row's word starts from: one after the other they become the values, and then they give the same registers.
use mathlib.Core.Path.{◌≡◌, refl, sym, ap, ◌∙◌, fun_ext}
use mathlib.Core.Bool.{Bool, true, false}
use mathlib.Core.List.{List}
use Prim.Native.Nat.{ℕ, zero, suc, ◌+◌, ◌≤◌, ◌<◌}
use native.Mathlib.Omega.{arith}
use borrow.Author.Tests.{ltb-true, ltb-false}
use lib.Dec.{ltb}
use lib.ListN.{length, get_or, set, replicate, length-replicate, length-set, get_or-eq_default}
use lib.Seq.{get_or-set_same, get_or-set_other}
use Rattle.theory.specs.Word.{Symbol}
use Rattle.theory.specs.Machines.{ones}
use Rattle.registers.specs.Fresh.{fresh_registers}
use Rattle.registers.proofs.Filling.{zeros_at, fresh-ones}

module _ (values : List ℕ) where
  -- The lengths before i are the values, and the others 0
  pub record Started (i : ℕ) (lengths : List ℕ) : Type 0 where
    pub few : i ≤ length values
    pub size : length lengths ≡ 64
    pub before : (j : ℕ) → j < i → get_or lengths j 0 ≡ get_or values j 0
    pub behind : (j : ℕ) → i ≤ j → get_or lengths j 0 ≡ 0

  pub started_none : Started 0 (replicate 64 0)
  started_none = record {
    few = omega arith;
    size = length-replicate {A = ℕ} 64 0;
    before = λ j l. absurd (omega arith);
    behind = λ j l. sym (zeros_at 64 j);
  }

  pub started_next : (i : ℕ) (lengths : List ℕ) → Started i lengths → i < length values → length values ≤ 32
      → Started (i + 1) (set lengths i (get_or values i 0))
  started_next i lengths h l few = record {
    few = omega arith;
    size = length-set lengths i (get_or values i 0) ∙ h.size;
    before = λ j k. go j k (ltb j i) refl;
    behind = λ j k. get_or-set_other lengths i j (get_or values i 0) 0 (λ e. omega arith) ∙ h.behind j (omega arith);
  }
    where
      go : (j : ℕ) → j < i + 1 → (t : Bool) → ltb j i ≡ t → get_or (set lengths i (get_or values i 0)) j 0 ≡ get_or values j 0
      go j k true e =
          let below : j < i = ltb-true j i e in
          get_or-set_other lengths i j (get_or values i 0) 0 (λ q. omega arith) ∙ h.before j below
      go j k false e =
          let same : j ≡ i = omega (arith, ltb-false j i e) in
          rw same (get_or-set_same lengths i (get_or values i 0) 0 (omega (arith, h.size)))

  pub started_all : (i : ℕ) (lengths : List ℕ) → Started i lengths → length values ≤ i → (j : ℕ) → get_or lengths j 0 ≡ get_or values j 0
  started_all i lengths h l j = go (ltb j i) refl
    where
      go : (t : Bool) → ltb j i ≡ t → get_or lengths j 0 ≡ get_or values j 0
      go true e = h.before j (ltb-true j i e)
      go false e =
          let high : i ≤ j = ltb-false j i e in
          h.behind j high ∙ sym (get_or-eq_default values 0 {n = j} (omega arith))

-- Registers of two lists that have the same at each place
pub same-registers : (values lengths : List ℕ) → ((i : ℕ) → get_or lengths i 0 ≡ get_or values i 0)
    → fresh_registers lengths ≡ fresh_registers values
same-registers values lengths same = fun_ext go
  where
    go : (r : ℕ) → fresh_registers lengths r ≡ fresh_registers values r
    go zero = refl
    go (suc i) = fresh-ones lengths i ∙ ap {B = List Symbol} ones (same i) ∙ sym (fresh-ones values i)
