-- What `drain` answers, by which of its tests ends it.
use mathlib.Core.Path.{◌≡◌, refl, sym, ap, ◌∙◌}
use mathlib.Core.Bool.{Bool, true, false, true≢false, ◌&&◌}
use mathlib.Core.List.{List}
use Prim.Native.Nat.{ℕ, ◌*◌, ◌≤◌}
use native.Mathlib.Nat.{zero-mul}
use native.Mathlib.Omega.{arith}
use lib.ListN.{get_or}
use lib.Dec.{eqb, ltb}
use borrow.Author.Tests.{ltb-false}
use Rattle.theory.specs.Machines.{capacity_of}
use Rattle.theory.proofs.Faults.{and_first}
use Rattle.theory.proofs.GoodMemory.{both}
use Rattle.drains.specs.Drains.{loops_back, is_drain, targets, turns_of, poured, turns, lengths_then}
use Rattle.drains.proofs.AtOnce.{turns_drain, turns_none, lengths_none, turns-most}
use Rattle.drains.proofs.Shapes.{drain_cases, drain_back}

-- What a callee answers decides its test
pub granted : {r t : Bool} → r ≡ t → r ≡ true → t ≡ true
granted e h = sym e ∙ h

pub denied : {r t : Bool} → r ≡ t → r ≡ false → t ≡ false
denied e h = sym e ∙ h

module _ (lengths capacities kinds operands : List ℕ) (i n left : ℕ) where
  abbrev pub Answers : ℕ → List ℕ → Type 0
  Answers r after =
      (r ≡ turns lengths capacities kinds operands i n left * n)
      × (after ≡ lengths_then lengths capacities kinds operands i n left)

  abbrev five : Bool
  five = eqb (get_or kinds i 0) 5

  abbrev held : ℕ
  held = capacity_of lengths (get_or operands i 0)

  none : turns lengths capacities kinds operands i n left ≡ 0 → Answers 0 lengths
  none z =
      (rw z (sym (zero-mul n)), sym (lengths_none lengths capacities kinds operands i n left z))

  -- A test that a drain passes fails
  unlike : (t : Bool) → (is_drain kinds operands i n ≡ true → t ≡ true) → t ≡ false → Answers 0 lengths
  unlike t passes fails = none (go (is_drain kinds operands i n) refl)
    where
      go : (d : Bool) → is_drain kinds operands i n ≡ d → turns lengths capacities kinds operands i n left ≡ 0
      go true h = absurd (true≢false (sym (passes h) ∙ fails))
      go false h = turns_none lengths capacities kinds operands i n left h

  pub not_back : loops_back kinds operands i n ≡ false → Answers 0 lengths
  not_back = unlike (loops_back kinds operands i n) (drain_back kinds operands i n)

  -- No cases, or nothing held
  pub not_deletes : (eqb (get_or kinds i 0) 5 && ltb 0 (capacity_of lengths (get_or operands i 0))) ≡ false → Answers 0 lengths
  not_deletes h = none (go (is_drain kinds operands i n) refl)
    where
      empty : (five && ltb 0 held) ≡ false → five ≡ true → held ≡ 0
      empty e f = let past : held ≤ 0 = ltb-false 0 held (rw f at e) in omega arith

      go : (d : Bool) → is_drain kinds operands i n ≡ d → turns lengths capacities kinds operands i n left ≡ 0
      go false e = turns_none lengths capacities kinds operands i n left e
      go true e =
          let z : held ≡ 0 = empty h (drain_cases kinds operands i n e) in
          turns_drain lengths capacities kinds operands i n left e
          ∙ omega (arith, turns-most lengths capacities (get_or operands i 0) (targets operands i n) n left)

  pub all_done : (eqb (get_or kinds i 0) 5 && ltb 0 (capacity_of lengths (get_or operands i 0))) ≡ true
      → loops_back kinds operands i n ≡ true → (r : ℕ) (after : List ℕ)
      → (r ≡ turns_of lengths capacities (get_or operands i 0) (targets operands i n) n left * n)
      × (after ≡ poured (get_or operands i 0) (targets operands i n)
      (turns_of lengths capacities (get_or operands i 0) (targets operands i n) n left) lengths)
      → Answers r after
  unfolding is_drain lengths_then
  all_done deletes back r after done =
      let drain : is_drain kinds operands i n ≡ true =
      both five (loops_back kinds operands i n) (and_first five (ltb 0 held) deletes) back in
      let same = turns_drain lengths capacities kinds operands i n left drain in
      (done.0 ∙ ap (λ m. m * n) (sym same), done.1 ∙ rw same)
