-- The clears of registers 2 to K, one after the other.
use mathlib.Core.Path.{◌≡◌, refl, ap}
use mathlib.Core.List.{List, [], ◌++◌}
use Prim.Native.Nat.{ℕ, zero, suc, ◌+◌, ◌-◌, ◌≤◌}
use native.Mathlib.Omega.{arith}
use lib.ListN.{length, length-append}
use Rattle.theory.specs.Word.{spell_entries}
use Rattle.theory.specs.Translation.{clearing}
use Rattle.theory.proofs.Sizes.{weight_append}
use Rattle.tidy.specs.Forms.{clears}
use Rattle.tidy.proofs.Sizes.{clears_short, clears_light}
use Rattle.emit.specs.Pieces.{Written}
use Rattle.emit.proofs.Puts.{written_then}
use Rattle.output.specs.Puts.{most}
use Rattle.output.proofs.Puts.{put_nothing}
use Rattle.lengths.specs.Lengths.{symbols_of, length_of}

clears-more : (r : ℕ) → 1 ≤ r - 1 → clears r ≡ clears (r - 1) ++ clearing r
unfolding clears
clears-more zero l = absurd (omega arith)
clears-more (suc zero) l = absurd (omega arith)
clears-more (suc (suc n)) l = let before : suc (suc n) - 1 ≡ suc n = omega arith in rw before

-- There are none of no variables
pub clears_none : clears 0 ≡ []
unfolding clears
clears_none = refl

-- The clears of registers 2 to r have been passed, of those to K
pub record Passed (K r : ℕ) : Type 0 where
  pub from : 1 ≤ r
  pub to : r - 1 ≤ K - 1

module _ (K : ℕ) where
  passed_none : Passed K 1
  passed_none = record { from = omega arith; to = omega arith }

  passed_more : {r : ℕ} → Passed K (r - 1) → r ≤ K → Passed K r
  passed_more p l = record { from = omega (arith, p.from); to = omega arith }

  passed_all : {r : ℕ} → Passed K r → K ≤ r → clears r ≡ clears K
  unfolding clears
  passed_all {r} p l = go K r p.from p.to l
    where
      go : (K r : ℕ) → 1 ≤ r → r - 1 ≤ K - 1 → K ≤ r → clears r ≡ clears K
      go zero r f t l = let one : r ≡ 1 = omega arith in ap clears one
      go (suc n) r f t l = let same : r ≡ suc n = omega arith in ap clears same

  -- Their length, of those before register r
  pub record Counted (r instructions symbols : ℕ) : Type 0 where
    pub passed : Passed K (r - 1)
    pub instructions_are : instructions ≡ length (clears (r - 1))
    pub symbols_are : symbols ≡ symbols_of (clears (r - 1))

  pub counted_none : Counted 2 0 0
  unfolding clears
  counted_none = record { passed = passed_none; instructions_are = refl; symbols_are = refl }

  pub counted-more : {r n s : ℕ} → Counted r n s → r ≤ K → Counted (r + 1) (n + 3) (s + (r + 16))
  counted-more {r} c l =
      let next : r + 1 - 1 ≡ r = omega arith in
      let more = clears-more r c.passed.from in
      let last = clearing r in
      record {
        passed = rw next (passed_more c.passed l);
        instructions_are = rw next (omega (arith, c.instructions_are, ap length more, length-append (clears (r - 1)) last));
        symbols_are = rw next (omega (arith, c.symbols_are, ap symbols_of more, weight_append (clears (r - 1)) last));
      }

  -- Sums with it do not wrap
  pub counted_short : {r n s : ℕ} → Counted r n s → r - 1 ≤ 255 → (n ≤ 765) × (s ≤ 69360)
  counted_short {r} c l =
      (omega (arith, c.instructions_are, clears_short (r - 1)), omega (arith, c.symbols_are, clears_light 255 (r - 1) l))

  pub counted-all : {r n s : ℕ} → Counted r n s → K ≤ r - 1 → record { instructions = n; symbols = s } ≡ length_of (clears K)
  counted-all c l = rw (c.instructions_are, c.symbols_are, passed_all c.passed l)

  -- Their symbols, of those before register r, written from a place
  pub record Put (place : ℕ) (start out : List ℕ) (r here : ℕ) : Type 0 where
    pub passed : Passed K (r - 1)
    pub written : Written (clears (r - 1)) place start out here

  pub nothing_put : (place : ℕ) (start : List ℕ) → place ≤ most → length start ≤ most → Put place start start 2 place
  unfolding clears spell_entries
  nothing_put place start h k = record { passed = passed_none; written = record { put = put_nothing start place h k } }

  pub one_put : {place : ℕ} {start out out' : List ℕ} {r here end : ℕ} → Put place start out r here → r ≤ K
      → Written (clearing r) here out out' end → Put place start out' (r + 1) end
  one_put {r = r} p l w =
      let next : r + 1 - 1 ≡ r = omega arith in
      record {
        passed = rw next (passed_more p.passed l);
        written = rw (next, clears-more r p.passed.from) (written_then (clears (r - 1)) (clearing r) p.written w);
      }

  pub all-put : {place : ℕ} {start out : List ℕ} {r here : ℕ} → Put place start out r here → K ≤ r - 1
      → Written (clears K) place start out here
  all-put p l = rw (← passed_all p.passed l) p.written
