-- A stretch of steps on lengths, between its strides; and whole rounds of one that leads back to where it began.
use mathlib.Core.Path.{◌≡◌, refl, sym, ◌∙◌}
use mathlib.Core.Bool.{Bool, true, false, ◌&&◌, false≢true}
use mathlib.Core.List.{List}
use Prim.Native.Nat.{ℕ, zero, suc, ◌+◌, ◌-◌, ◌*◌, ◌/◌, ◌≤◌, ◌<◌}
use native.Mathlib.Nat.{div-mul-le_self}
use native.Mathlib.Omega.{arith}
use borrow.Author.Tests.{lt-ltb, le-leb, eqb-true}
use lib.Dec.{eqb}
use lib.ListN.{length}
use Rattle.std.specs.Prelude.{Some, None, Ok, Err}
use Rattle.theory.specs.Runs.{Goes, stay, each}
use Rattle.theory.specs.Text.{same}
use Rattle.theory.proofs.Faults.{and_first, and_second}
use Rattle.theory.proofs.Joins.{ends, join}
use Rattle.theory.proofs.Spellings.{same_iff}
use Rattle.rounds.proofs.Around.{goes_round}
use Rattle.countable.specs.Countable.{Countable}
use Rattle.registers.specs.Fresh.{fresh_registers}
use Rattle.underway.specs.Places.{bias, state}
use Rattle.underway.specs.Ends.{goes_on}
use Rattle.underway.specs.Inside.{machine_of}
use Rattle.counts.specs.declared.steps.Stride.{Stride}
use Rattle.counts.specs.Counts.{Counts}
use Rattle.counts.specs.Strides.{Strode, Stretched}

-- A table stays one that can be run on lengths, whatever these become
pub still_countable : {capacities lengths after kinds operands : List ℕ} → Countable capacities lengths kinds operands
    → Counts capacities after (fresh_registers after) → Countable capacities after kinds operands
still_countable c h = record {
  few = c.few;
  paired = h.paired;
  within = h.within;
  no_hash = c.no_hash;
  usable = c.usable;
}

counts_of : {capacities lengths kinds operands : List ℕ} → Countable capacities lengths kinds operands
    → Counts capacities lengths (fresh_registers lengths)
counts_of c = record { are = refl; paired = c.paired; within = c.within }

module _ (capacities lengths₀ kinds operands : List ℕ) (from left : ℕ) where
  -- After k steps the stretch stands here, with these lengths; after none where it began
  pub record Stretching (lengths : List ℕ) (here k : ℕ) : Type 0 where
    pub goes : Goes (machine_of capacities kinds operands).next each (state from (fresh_registers lengths₀)) k
        (state here (fresh_registers lengths))
    pub few : k ≤ left
    pub near : here < 2000000
    pub countable : Countable capacities lengths kinds operands
    pub began : k ≡ 0 → here ≡ from

  pub stretching_start : Countable capacities lengths₀ kinds operands → from ≤ bias + length kinds → Stretching lengths₀ from 0
  stretching_start c b = record {
    goes = stay;
    few = omega arith;
    near = omega (arith, c.usable.count);
    countable = c;
    began = λ e. refl;
  }

  module _ {lengths : List ℕ} {here k : ℕ} (s : Stretching lengths here k) where
    pub stretching_to : 1 ≤ k → Stretched capacities lengths₀ kinds operands from left (Ok (record { there = here; steps = k })) lengths
    stretching_to some = (s.goes, some, s.few, s.near, counts_of s.countable)

    module _ {after : List ℕ} (b : here ≤ bias + length kinds) where
      pub stretching_goes : (m : Stride) → Strode capacities lengths kinds operands here (left - k) (Some m) after
          → Stretching after m.there (k + m.steps)
      stretching_goes m h = record {
        goes = join s.goes h.0;
        few = omega (arith, h.2, s.few);
        near = omega (arith, h.3, s.countable.usable.count);
        countable = still_countable s.countable h.4;
        began = λ e. absurd (omega (arith, h.1));
      }

      pub stretching_full : bias < here → k < left → Strode capacities lengths kinds operands here (left - k) None after
          → Stretched capacities lengths₀ kinds operands from left (Err (record { there = here; steps = k })) after
      stretching_full a l h = rw h.1 (s.goes, l, a, b, counts_of s.countable, h.0)

    -- A stretch that began at an instruction does not end before its first stride
    pub stretching_some : (enough : ℕ) → bias < from → from ≤ bias + length kinds → 1 ≤ enough
        → goes_on here (bias + length kinds) k enough ≡ false → 1 ≤ k
    stretching_some enough a b some over = go k refl
      where
        last : ℕ
        last = bias + length kinds

        go : (n : ℕ) → k ≡ n → 1 ≤ k
        go (suc n) e = omega arith
        go zero e =
            let going : goes_on here last k enough ≡ true =
            rw (s.began e, e, lt-ltb bias from a, le-leb from last b, lt-ltb 0 enough (omega arith)) in
            let z : ◌≡◌ {A = Bool} true false = sym going ∙ over in
            absurd (false≢true (sym z))

-- Whole rounds of a stretch that leads back to where it began
pub all_round : (capacities before after kinds operands : List ℕ) (from left : ℕ) (s : Stride) (more : ℕ)
    → Stretched capacities before kinds operands from left (Ok s) after
    → (eqb s.there from && same after before) ≡ true → more ≡ (left - s.steps) / s.steps * s.steps
    → Stretched capacities before kinds operands from left (Ok (record { there = s.there; steps = s.steps + more })) after
all_round capacities before after kinds operands from left s more h back e =
    let place : s.there ≡ from = eqb-true s.there from (and_first (eqb s.there from) (same after before) back) in
    let lengths : after ≡ before = (same_iff after before).0 (and_second (eqb s.there from) (same after before) back) in
    let once : Goes (machine_of capacities kinds operands).next each (state from (fresh_registers before)) s.steps
    (state from (fresh_registers before)) = rw (place, lengths) at h.0 in
    let again : Goes (machine_of capacities kinds operands).next each (state from (fresh_registers before)) more
    (state from (fresh_registers before)) = ends (sym e) refl (goes_round ((left - s.steps) / s.steps) once) in (
      rw (place, lengths) (join once again),
      omega (arith, h.1),
      omega (arith, h.2, div-mul-le_self (left - s.steps) s.steps),
      h.3,
      h.4,
    )
