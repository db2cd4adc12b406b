-- Rule 21 along a list: what is left to test before each line.
use mathlib.Core.Path.{◌≡◌, refl, sym, ◌∙◌}
use mathlib.Core.Bool.{Bool, true, false, ◌&&◌}
use mathlib.Core.List.{List, [], ◌∷◌}
use Prim.Native.Nat.{ℕ, ◌+◌, ◌*◌, ◌≤◌, ◌<◌}
use native.Mathlib.Omega.{arith}
use lib.ListN.{length, get_or, drop, length-drop}
use Rattle.list.proofs.ListCheck.{three_at}
use Rattle.capacities.specs.Room.{line_passes, next_depth, list_passes}

module _ (ok : ℕ → Bool) (K : ℕ) where
  no_line : (d : ℕ) (l : List ℕ) → length l < 3 → list_passes ok K d l ≡ true
  unfolding list_passes
  no_line d [] h = refl
  no_line d (k ∷ []) h = refl
  no_line d (k ∷ i ∷ []) h = refl
  no_line d (k ∷ i ∷ j ∷ l) h = absurd (omega arith)

  -- Before line n + 1, inside d loops: the test of the whole list is that of the lines left
  pub record SoFar (l : List ℕ) (n d : ℕ) : Type 0 where
    pub within : 3 * n ≤ length l
    pub shallow : d ≤ n
    pub rest : list_passes ok K d (drop (3 * n) l) ≡ list_passes ok K 0 l

  pub at_first : (l : List ℕ) → SoFar l 0 0
  at_first l = record { within = omega arith; shallow = omega arith; rest = refl }

  module _ (l : List ℕ) (n d : ℕ) (h : SoFar l n d) where
    pub at_last : length l ≤ 3 * n + 2 → true ≡ list_passes ok K 0 l
    at_last e = sym (no_line d (drop (3 * n) l) (rw length-drop (omega (arith, h.within)))) ∙ h.rest

    module _ (more : 3 * n + 2 < length l) where
      abbrev k : ℕ
      k = get_or l (3 * n) 0

      abbrev test : Bool
      test = line_passes ok K d k (get_or l (3 * n + 1) 0) (get_or l (3 * n + 2) 0)

      split : list_passes ok K d (drop (3 * n) l) ≡ (test && list_passes ok K (next_depth d k) (drop (3 * (n + 1)) l))
      unfolding list_passes
      split = let e : 3 * n + 3 ≡ 3 * (n + 1) = omega arith in rw (three_at l (3 * n) more, e)

      pub fails : test ≡ false → false ≡ list_passes ok K 0 l
      fails e = (rw e at (sym split)) ∙ h.rest

      pub onward : test ≡ true → next_depth d k ≤ n + 1 → SoFar l (n + 1) (next_depth d k)
      onward e s = record { within = omega arith; shallow = s; rest = (rw e at (sym split)) ∙ h.rest }
