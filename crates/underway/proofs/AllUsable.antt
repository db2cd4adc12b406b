-- What the search for an entry that the machine cannot do answers; and where it found none, all instructions can be done.
use mathlib.Core.Path.{◌≡◌, refl}
use mathlib.Core.Bool.{Bool, true, false, cond, not, ◌&&◌}
use mathlib.Core.Option.{Option, none, some}
use mathlib.Core.List.{List, [], ◌∷◌}
use Prim.Native.Nat.{ℕ, zero, suc, ◌+◌, ◌≤◌, ◌<◌, max}
use native.Mathlib.Omega.{arith}
use borrow.Author.Tests.{leb-true, ltb-true, ltb-false, not-false}
use lib.Dec.{ltb, leb}
use lib.ListN.{length, get_or, get_or-eq_default}
use Rattle.std.specs.Prelude.{Some, None}
use Rattle.theory.specs.Word.{Entry}
use Rattle.theory.specs.Machines.{is_limited}
use Rattle.theory.specs.TurnedDown.{names_register, first_along, next_entry}
use Rattle.theory.proofs.Faults.{none_first, none_second, given_none, and_first, and_second}
use Rattle.theory.proofs.Words.{entry}
use Rattle.word.specs.Answers.{zipped}
use Rattle.word.proofs.Zipped.{zipped-length, zipped-at}
use Rattle.usable.specs.Usable.{most_operand, unusable, first_unusable, unusable_answer}
use Rattle.underway.specs.Inside.{Usable, Usables}

-- What the search answers, as an option again
pub found : (o : Option ℕ) (i : ℕ) → Some i ≡ unusable_answer o → o ≡ some i
found none i e = let z : ◌≡◌ {A = ℕ} 0 1 = cc in absurd (omega arith)
found (some j) i e = cc

pub found_none : (o : Option ℕ) → None ≡ unusable_answer o → o ≡ none
found_none none e = refl
found_none (some j) e = let z : ◌≡◌ {A = ℕ} 0 1 = cc in absurd (omega arith)

limited : (most n : ℕ) → is_limited most n ≡ true → (1 ≤ n) × (n ≤ most)
limited most n h =
    (leb-true 1 n (and_first (leb 1 n) (leb n most) h), leb-true n most (and_second (leb 1 n) (leb n most) h))

module _ (registers : ℕ) where
  -- An operand within the largest of its kind
  abbrev Can : ℕ → ℕ → Type 0
  Can k n = is_limited (most_operand registers k) n ≡ true

  kind_can : (k n : ℕ) → Can k n → 1 ≤ k
  kind_can zero n h = absurd (omega (arith, limited 0 n h))
  kind_can (suc k) n h = omega arith

  usable_by : (k n : ℕ) → registers ≤ 600000 → Can k n → Usable registers k n
  usable_by k n few h = go (is_limited 5 k) refl
    where
      by : (b : Bool) → names_register k ≡ b → (1 ≤ k) × (k ≤ 5) → is_limited (cond b registers 600000) n ≡ true → Usable registers k n
      by true q kind most =
          let l = limited registers n most in
          record { first = kind.0; last = kind.1; some = l.0; small = omega (arith, l.1); named = λ t. l.1 }
      by false q kind most =
          let l = limited 600000 n most in
          record {
            first = kind.0;
            last = kind.1;
            some = l.0;
            small = l.1;
            named = λ t. let z : ◌≡◌ {A = ℕ} 0 1 = cc in absurd (omega arith);
          }

      go : (b : Bool) → is_limited 5 k ≡ b → Usable registers k n
      go true e = by (names_register k) refl (limited 5 k e) (rw e at h)
      go false e = let none : is_limited 0 n ≡ true = rw e at h in absurd (omega (arith, limited 0 n none))

  -- Entry i of a table whose entries count from n
  each_can : (n : ℕ) (t : List Entry) → first_along next_entry (unusable registers) n t ≡ none → (i : ℕ) → i < length t
      → (n + i < 8192) × Can (get_or t i (entry 0 0)).kind (get_or t i (entry 0 0)).operand
  unfolding first_along
  each_can n [] h i l = absurd (omega arith)
  each_can n (e ∷ t) h zero l =
      let can = is_limited (most_operand registers e.kind) e.operand in
      let both : (ltb n 8192 && can) ≡ true =
      not-false _ (given_none (not (ltb n 8192 && can)) n (none_first (unusable registers n e) _ h)) in
      (omega (arith, ltb-true n 8192 (and_first (ltb n 8192) can both)), and_second (ltb n 8192) can both)
  each_can n (e ∷ t) h (suc i) l =
      let (below, can) = each_can (suc n) t (none_second (unusable registers n e) _ h) i (omega arith) in
      (omega (arith, below), can)

  module _ (ks ns : List ℕ) (h : first_unusable registers (zipped ks ns) ≡ none) where
    at : (i : ℕ) → i < max (length ks) (length ns) → (i < 8192) × Can (get_or ks i 0) (get_or ns i 0)
    at i l =
        let (below, can) = each_can 0 (zipped ks ns) h i (omega (arith, zipped-length ks ns)) in
        (omega (arith, below), rw (zipped-at ks ns i) at can)

    pub all_usable : registers ≤ 600000 → Usables registers ks ns
    all_usable few = record {
      paired = pair;
      count = few_of (length ks) refl;
      each = λ i l. usable_by (get_or ks i 0) (get_or ns i 0) few (at i (omega arith)).1;
    }
      where
        no_kinds : length ks < length ns → ⊥
        no_kinds l =
            let last = at (length ks) (omega arith) in
            let e : get_or ks (length ks) 0 ≡ 0 = get_or-eq_default ks 0 {n = length ks} (omega arith) in
            omega (arith, kind_can (get_or ks (length ks) 0) (get_or ns (length ks) 0) last.1, e)

        no_operands : length ns < length ks → ⊥
        no_operands l =
            let last = at (length ns) (omega arith) in
            let e : get_or ns (length ns) 0 ≡ 0 = get_or-eq_default ns 0 {n = length ns} (omega arith) in
            omega (arith, limited (most_operand registers (get_or ks (length ns) 0)) (get_or ns (length ns) 0) last.1, e)

        pair : length ks ≡ length ns
        pair = go (ltb (length ks) (length ns)) refl (ltb (length ns) (length ks)) refl
          where
            go : (b : Bool) → ltb (length ks) (length ns) ≡ b → (d : Bool) → ltb (length ns) (length ks) ≡ d → length ks ≡ length ns
            go true e d q = absurd (no_kinds (ltb-true (length ks) (length ns) e))
            go false e true q = absurd (no_operands (ltb-true (length ns) (length ks) q))
            go false e false q = omega (arith, ltb-false (length ks) (length ns) e, ltb-false (length ns) (length ks) q)

        few_of : (n : ℕ) → length ks ≡ n → length ks ≤ 8192
        few_of zero e = omega arith
        few_of (suc n) e = omega (arith, (at n (omega arith)).0)
