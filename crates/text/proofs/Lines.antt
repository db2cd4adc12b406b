-- The lines of a text: the first is what stands before the first LF.
use mathlib.Core.Path.{◌≡◌, refl, ◌∙◌}
use mathlib.Core.Bool.{Bool, true, false, cond, not}
use mathlib.Core.List.{[], ◌∷◌}
use Prim.Native.Nat.{ℕ, suc, ◌+◌, ◌-◌, ◌<◌}
use native.Mathlib.Omega.{arith}
use lib.Dec.{eqb}
use lib.ListN.{length, take, drop, length-drop}
use lib.Seq.{drop-drop}
use Rattle.theory.specs.Text.{Bytes, LF, onto_first, split_lines}
use Rattle.text.specs.Runs.{leading, before}

-- A text that is not empty has a first line, and those after its LF
pub first-line : (t : Bytes) → 0 < length t → split_lines t ≡ take (before LF t) t ∷ split_lines (drop (suc (before LF t)) t)
unfolding split_lines leading
first-line [] h = absurd (omega arith)
first-line (b ∷ t) h = go (eqb b LF) t (first-line t)
  where
    go : (x : Bool) (t : Bytes) → (0 < length t → split_lines t ≡ take (before LF t) t ∷ split_lines (drop (suc (before LF t)) t))
        → cond x ([] ∷ split_lines t) (onto_first b (split_lines t))
        ≡ take (cond (not x) (suc (before LF t)) 0) (b ∷ t) ∷ split_lines (drop (suc (cond (not x) (suc (before LF t)) 0)) (b ∷ t))
    go true t r = refl
    go false [] r = refl
    go false (c ∷ t) r = rw (r (omega arith))

-- From a place on, with the place where its line ends
pub next_line : (t : Bytes) (at end : ℕ) → at < length t → end ≡ at + before LF (drop at t)
    → split_lines (drop at t) ≡ take (end - at) (drop at t) ∷ split_lines (drop (end + 1) t)
next_line t at end more e =
    let a : before LF (drop at t) ≡ end - at = omega (arith, e) in
    let b : at + suc (end - at) ≡ end + 1 = omega (arith, e) in
    first-line (drop at t) (omega (arith, length-drop at t)) ∙ rw (a, drop-drop (suc (end - at)) at t, b)
