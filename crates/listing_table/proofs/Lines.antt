-- The lines of a list of numbers that passes: what is known of each.
use mathlib.Core.Path.{◌≡◌, refl, sym, ap, subst, ◌∙◌}
use mathlib.Core.Bool.{Bool, true, false, cond}
use mathlib.Core.Option.{Option, some, none-ne-some, some-injective}
use mathlib.Core.List.{List, [], ◌∷◌, map}
use Prim.Native.Nat.{ℕ, zero, suc, ◌≤◌, ◌<◌}
use native.Mathlib.Omega.{arith}
use borrow.Author.Tests.{eqb-true}
use lib.Dec.{eqb}
use lib.ListN.{length, get_or, drop, get_elem?, length-map, get_or-map}
use lib.Seq.{drop-cons}
use Rattle.theory.specs.Basics.{at, given, EachOf}
use Rattle.theory.specs.Word.{one, hash}
use Rattle.theory.proofs.Cells.{each_at}
use Rattle.listing.specs.Listing.{Line, print, scan, size}
use Rattle.listing.specs.Claims.{Targets}
use Rattle.listing.proofs.Texts.{all-present}
use Rattle.listing.proofs.Targets.{lines-targets}
use Rattle.listing_numbers.specs.declared.Numbers.{Numbers}
use Rattle.listing_check.specs.Lined.{line_of, numbers_at, lined, lines_of}
use Rattle.listing_check.proofs.Lines.{lined-length, lined-at}
use Rattle.listing_table.specs.Tables.{kind_size, Passed}

-- The lines that four numbers can be
pub three_kinds : (P : Line → Type 0) (n : Numbers) (c : Line) → line_of n ≡ some c
    → (n.kind ≡ 1 → P (print one n.register))
    → (n.kind ≡ 2 → P (print hash n.register))
    → (n.kind ≡ 5 → P (scan n.register n.one n.hash))
    → P c
unfolding line_of
three_kinds P n c e p q r = first (eqb n.kind 1) refl
  where
    third : (b : Bool) → eqb n.kind 5 ≡ b → given b (scan n.register n.one n.hash) ≡ some c → P c
    third true t g = subst P (some-injective _ c g) (r (eqb-true n.kind 5 t))
    third false t g = absurd (none-ne-some c g)

    second : (b : Bool) → eqb n.kind 2 ≡ b
        → cond b (some (print hash n.register)) (given (eqb n.kind 5) (scan n.register n.one n.hash)) ≡ some c → P c
    second true t g = subst P (some-injective _ c g) (q (eqb-true n.kind 2 t))
    second false t g = third (eqb n.kind 5) refl g

    first : (b : Bool) → eqb n.kind 1 ≡ b → P c
    first true t = subst P (some-injective _ c (rw t at e)) (p (eqb-true n.kind 1 t))
    first false t = second (eqb n.kind 2) refl (rw t at e)

pub kind-most : (n : Numbers) (c : Line) → line_of n ≡ some c → n.kind ≤ 5
kind-most n c e = three_kinds (λ d. n.kind ≤ 5) n c e (λ k. omega arith) (λ k. omega arith) (λ k. omega arith)

pub sized : (n : Numbers) (c : Line) → line_of n ≡ some c → kind_size n.kind ≡ size c
sized n c e = three_kinds (λ d. kind_size n.kind ≡ size d) n c e (λ k. rw k) (λ k. rw k) (λ k. rw k)

pub kind_size-most : (k : ℕ) → kind_size k ≤ 4
kind_size-most k = go (eqb k 5)
  where
    go : (b : Bool) → cond b 4 1 ≤ 4
    go true = omega arith
    go false = omega arith

-- Line i of lines that pass
pub record LineAt (list : List ℕ) (lines i : ℕ) : Type 0 where
  pub line : Line
  pub is : at (lines_of list) (suc i) ≡ some line
  pub numbers : line_of (numbers_at list i) ≡ some line
  pub rest : drop i (lines_of list) ≡ line ∷ drop (suc i) (lines_of list)
  pub targets : Targets lines line

there : {A : Type 0} (l : List A) (i : ℕ) (d : A) → i < length l → get_elem? l i ≡ some (get_or l i d)
there [] i d h = absurd (omega arith)
there (x ∷ l) zero d h = refl
there (x ∷ l) (suc i) d h = there l i d (omega arith)

module _ (list : List ℕ) (lines : ℕ) (p : Passed list lines) where
  all_there : map some (lines_of list) ≡ lined list
  all_there = all-present lines 1 (lined list) p.passes

  pub lines-length : length (lines_of list) ≡ lines
  lines-length = sym (length-map (lines_of list) some) ∙ ap length all_there ∙ lined-length list lines p.whole

  pub line_at : (i : ℕ) → i < lines → LineAt list lines i
  line_at i h =
      let none_there : Line = print one 0 in
      let l : List Line = lines_of list in
      let in_lines : i < length l = omega (arith, lines-length) in
      let is : get_elem? l i ≡ some (get_or l i none_there) = there l i none_there in_lines in
      let in_numbers : i < length (lined list) = omega (arith, lined-length list lines p.whole) in
      let same : get_or (lined list) i (some none_there) ≡ some (get_or l i none_there)
      = sym (ap {B = Option Line} (λ m. get_or m i (some none_there)) all_there) ∙ get_or-map some l i none_there in
      let targets : EachOf (Targets lines) l = lines-targets lines 1 l (rw all_there p.passes) in
      record {
        line = get_or l i none_there;
        is = is;
        numbers = sym (lined-at list i (some none_there) in_numbers) ∙ same;
        rest = drop-cons l i none_there in_lines;
        targets = each_at (Targets lines) l i _ targets is;
      }
