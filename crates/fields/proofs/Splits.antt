-- Where a field ends, and fields that follow one another.
use mathlib.Core.Path.{◌≡◌, refl, ap, ◌∙◌}
use mathlib.Core.Bool.{Bool, true, false, cond}
use mathlib.Core.List.{List, [], ◌∷◌}
use Prim.Native.Nat.{ℕ, suc, ◌+◌, ◌-◌, ◌≤◌, ◌<◌}
use native.Mathlib.Omega.{arith}
use lib.ListN.{length, take, drop, length-drop}
use lib.Seq.{drop-drop}
use lib.Dec.{eqb, leb, ltb, leb-suc-suc}
use borrow.Author.Tests.{le-leb, lt-leb, lt-ltb, ltb-true, ltb-false}
use Rattle.theory.specs.Text.{Bytes, blank, onto_first, split_blanks, fields}
use Rattle.text.specs.Runs.{leading, is_other, before}
use Rattle.text.proofs.Runs.{leading-within}

pub before-within : (separator : ℕ) (t : Bytes) (i : ℕ) → i ≤ length t → i + before separator (drop i t) ≤ length t
before-within separator = leading-within (is_other separator)

behind_blank : ℕ → Bytes → List Bytes
behind_blank n t = cond (ltb n (length t)) (split_blanks (drop (suc n) t)) []

blanks_first : (t : Bytes) → split_blanks t ≡ take (before blank t) t ∷ behind_blank (before blank t) t
unfolding split_blanks leading behind_blank
blanks_first [] = refl
blanks_first (b ∷ t) = go (eqb b blank) refl (blanks_first t)
  where
    go : (x : Bool) → eqb b blank ≡ x → split_blanks t ≡ take (before blank t) t ∷ behind_blank (before blank t) t
        → split_blanks (b ∷ t) ≡ take (before blank (b ∷ t)) (b ∷ t) ∷ behind_blank (before blank (b ∷ t)) (b ∷ t)
    go true e h = rw (e, lt-ltb 0 (length (b ∷ t)) (omega arith))
    go false e h = rw (e, leb-suc-suc (suc (before blank t)) (length t)) (ap {B = List Bytes} (onto_first b) h)

-- The fields of which the first begins at a byte; none where that is past the end
unfoldable pub fields-from : ℕ → Bytes → List Bytes
fields-from at t = cond (leb at (length t)) (split_blanks (drop at t)) []

pub fields_none : (t : Bytes) → length t ≡ 0 → fields t ≡ fields-from 1 t
unfolding fields-from
fields_none [] h = refl
fields_none (b ∷ t) h = absurd (omega arith)

pub fields-whole : (t : Bytes) → (length t ≡ 0 → ⊥) → fields t ≡ fields-from 0 t
unfolding fields-from
fields-whole [] h = absurd (h refl)
fields-whole (b ∷ t) h = rw (le-leb 0 (length (b ∷ t)) (omega arith))

pub fields_end : (t : Bytes) (at : ℕ) → length t < at → fields-from at t ≡ []
unfolding fields-from
fields_end t at h = rw (lt-leb at (length t) h)

pub fields-next : (t : Bytes) (at : ℕ) → at ≤ length t
    → let n = before blank (drop at t) in
    fields-from at t ≡ take n (drop at t) ∷ fields-from (at + n + 1) t
unfolding fields-from behind_blank
fields-next t at h =
    let first : split_blanks (drop at t) ≡ f ∷ behind_blank n (drop at t) = blanks_first (drop at t) in
    rw (le-leb at (length t) h) (first ∙ ap {B = List Bytes} (λ fs. f ∷ fs) (go (ltb n (length (drop at t))) refl))
  where
    n : ℕ
    n = before blank (drop at t)

    f : Bytes
    f = take n (drop at t)

    left : length (drop at t) ≡ length t - at
    left = length-drop at t

    go : (x : Bool) → ltb n (length (drop at t)) ≡ x → behind_blank n (drop at t) ≡ fields-from (at + n + 1) t
    go true e =
        let place : at + suc n ≡ at + n + 1 = omega arith in
        let more : at + n + 1 ≤ length t = omega (arith, left, ltb-true n (length (drop at t)) e) in
        rw (e, le-leb (at + n + 1) (length t) more) (ap split_blanks (drop-drop (suc n) at t ∙ ap (λ i. drop i t) place))
    go false e =
        let last : length t < at + n + 1 = omega (arith, left, ltb-false n (length (drop at t)) e) in
        rw (e, lt-leb (at + n + 1) (length t) last)
