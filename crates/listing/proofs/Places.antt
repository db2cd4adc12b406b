-- Where the code of each line of a listing stands in its word.
use mathlib.Core.Path.{◌≡◌, refl, ap, ◌∙◌}
use mathlib.Core.Option.{some, none-ne-some, some-injective}
use mathlib.Core.List.{List, [], ◌∷◌, map}
use Prim.Native.Nat.{ℕ, zero, suc, ◌+◌, ◌-◌}
use native.Mathlib.Omega.{arith}
use lib.ListN.{length, get_elem?, take, length-append}
use lib.Seq.{take-length}
use Rattle.theory.specs.Basics.{at, sum}
use Rattle.theory.specs.Word.{Instruction}
use Rattle.theory.proofs.Cells.{Sits, sits_left, sits_right, sits_later, sits_self}
use Rattle.listing.specs.Listing.{Line, print, scan, size, place, line_code, code, word}

-- A line has as many instructions as its size, and lines as many as their sizes

pub line-length : (l : List Line) (q : ℕ) (c : Line) → length (line_code l q c) ≡ size c
line-length l q (print x n) = refl
line-length l q (scan n e f) = refl

pub code-length : (l : List Line) (q : ℕ) (cs : List Line) → length (code l q cs) ≡ sum (map size cs)
unfolding code
code-length l q [] = refl
code-length l q (c ∷ cs) =
    length-append (line_code l q c) (code l (q + size c) cs) ∙ omega (arith, line-length l q c, code-length l (q + size c) cs)

module _ (l : List Line) where
  -- F1 and the lines before are in front of a line
  pub place_is : (n : ℕ) → place l (suc n) ≡ 2 + sum (map size (take n l))
  unfolding place
  place_is n = let before : suc n - 1 ≡ n = omega arith in rw before

  -- Line 1 is behind F1, and the line after the last is behind the word
  pub place-start : place l 1 ≡ 2
  place-start = place_is 0

  pub place_end : place l (suc (length l)) ≡ suc (length (word l))
  unfolding word
  place_end = place_is (length l) ∙ rw take-length (omega (arith, code-length l 2 l))

  -- A line begins where the one before ends
  pub place-next : (n : ℕ) (c : Line) → at l n ≡ some c → place l (suc n) ≡ place l n + size c
  place-next zero c e = absurd (none-ne-some c e)
  place-next (suc n) c e = omega (arith, place_is n, place_is (suc n), go l n e)
    where
      go : (l : List Line) (n : ℕ) → get_elem? l n ≡ some c → sum (map size (take (suc n) l)) ≡ sum (map size (take n l)) + size c
      go [] n e = absurd (none-ne-some c e)
      go (x ∷ l) zero e = omega (arith, ap size (some-injective x c e))
      go (x ∷ l) (suc n) e = omega (arith, go l n e)

  -- The code of a line stands at its place: first of lines whose code begins at q, then of all
  line_sits : (w : List Instruction) (cs : List Line) (q q' n : ℕ) (c : Line) → Sits w q (code l q cs) → get_elem? cs n ≡ some c
      → q' ≡ q + sum (map size (take n cs)) → Sits w q' (line_code l q' c)
  unfolding code
  line_sits w [] q q' n c h e p = absurd (none-ne-some c e)
  line_sits w (x ∷ cs) q q' zero c h e p =
      let same : q' ≡ q = omega arith in
      rw (same, ← some-injective x c e) (sits_left w q (line_code l q x) (code l (q + size x) cs) h)
  line_sits w (x ∷ cs) q q' (suc n) c h e p =
      let rest : Sits w (q + size x) (code l (q + size x) cs) =
      rw line-length at (sits_right w q (line_code l q x) (code l (q + size x) cs) h) in
      line_sits w cs (q + size x) q' n c rest e (omega arith)

  pub code_at : (n : ℕ) (c : Line) → at l n ≡ some c → Sits (word l) (place l n) (line_code l (place l n) c)
  unfolding word
  code_at zero c e = absurd (none-ne-some c e)
  code_at (suc n) c e =
      let all : List Instruction = code l 2 l in
      line_sits (word l) l 2 (place l (suc n)) n c (sits_later _ all 1 all (sits_self all)) e (place_is n)
