-- The instructions of bodies noted along a block, one line or pair at a time.
use mathlib.Core.Path.{◌≡◌, refl, sym, ap, ◌∙◌}
use mathlib.Core.Logic.{◌⊎◌, inl, inr}
use mathlib.Core.Bool.{Bool, true, false, true≢false}
use mathlib.Core.List.{List}
use Prim.Native.Nat.{ℕ, ◌+◌, ◌≤◌, ◌<◌}
use native.Mathlib.Omega.{arith}
use borrow.Author.Tests.{ltb-true, ltb-false}
use lib.Dec.{ltb}
use lib.ListN.{length, get_or, set, length-set}
use lib.Seq.{get_or-set_same, get_or-set_other}
use Rattle.theory.specs.ProgramText.{Block, empty, single, pair}
use Rattle.theory.specs.Source.{deeper}
use Rattle.theory.specs.Translation.{code}
use Rattle.theory.proofs.Sizes.{length-line, length-pair}
use Rattle.command.specs.declared.Numbers.{Numbers}
use Rattle.translation.specs.Sites.{numbers_at, block_at, goes_on, Note, Noted, Noting}

-- The depth shows in the instructions, and not in their number
pub same_length : (K d e : ℕ) (b : Block) → length (code K d b) ≡ length (code K e b)
unfolding code
same_length K d e empty = refl
same_length K d e (single c b) = omega (arith, length-line K d c b, length-line K e c b, same_length K d e b)
same_length K d e (pair k i body b) =
    omega (
      arith,
      length-pair K d k i body b,
      length-pair K e k i body b,
      same_length K (deeper k d) (deeper k e) body,
      same_length K d e b,
    )

lt_or_le : (a b : ℕ) → (a < b) ⊎ (b ≤ a)
lt_or_le a b = go (ltb a b) refl
  where
    go : (t : Bool) → ltb a b ≡ t → (a < b) ⊎ (b ≤ a)
    go true e = inl (ltb-true a b e)
    go false e = inr (ltb-false a b e)

module _ (list : List ℕ) (K : ℕ) where
  pub noting_none : (n : ℕ) (l : List ℕ) → Noting list K n n l l
  noting_none n l = record { sized = refl; kept = λ n h. refl; notes = λ n h g. absurd (omega arith) }

  pub noting_then : {i j k : ℕ} {l m n : List ℕ} → i ≤ j → Noting list K i j l m → Noting list K j k m n → Noting list K i k l n
  noting_then {i} {j} {k} {l} {m} {n} h f g =
      record {
        sized = g.sized ∙ f.sized;
        kept = λ x e. g.kept x (omega arith) ∙ f.kept x e;
        notes = λ x a b. go x a b (lt_or_le x j);
      }
    where
      go : (x : ℕ) → i ≤ x → x < k → (x < j) ⊎ (j ≤ x) → Note list K n x
      go x a b (inl e) = λ u v d. g.kept x e ∙ f.notes x a e u v d
      go x a b (inr e) = g.notes x e b

  -- A plain line has nothing to note
  pub noting_plain : (n : ℕ) (l : List ℕ) → (numbers_at list n).kind ≤ 3 → Noting list K n (n + 1) l l
  noting_plain n l h =
      record {
        sized = refl;
        kept = λ x e. refl;
        notes = λ x a b u v d.
            let e : x ≡ n = omega arith in
            absurd (omega (arith, ap (λ y. (numbers_at list y).kind) e));
      }

  -- A pair: its body was noted, and then its own line. The line that closes it opens none
  pub noting_pair : (n d next : ℕ) (l m : List ℕ) (x : ℕ) → n < length l → x ≡ length (code K d (block_at list (n + 1))) → n < next
      → goes_on (block_at list next) ≡ false → Noting list K (n + 1) next l m → Noting list K n (next + 1) l (set m n x)
  noting_pair n d next l m x h e w g f =
      record {
        sized = length-set m n x ∙ f.sized;
        kept = λ y b. get_or-set_other m n y x 0 (λ z. omega arith) ∙ f.kept y (omega arith);
        notes = λ y a b. go y (cases y a b);
      }
    where
      cases : (y : ℕ) → n ≤ y → y < next + 1 → (y ≡ n) ⊎ (((n + 1 ≤ y) × (y < next)) ⊎ (y ≡ next))
      cases y a b = one (lt_or_le n y) (lt_or_le y next)
        where
          one : (n < y) ⊎ (y ≤ n) → (y < next) ⊎ (next ≤ y) → (y ≡ n) ⊎ (((n + 1 ≤ y) × (y < next)) ⊎ (y ≡ next))
          one (inr p) q = inl (omega arith)
          one (inl p) (inl q) = inr (inl (omega arith, q))
          one (inl p) (inr q) = inr (inr (omega arith))

      go : (y : ℕ) → (y ≡ n) ⊎ (((n + 1 ≤ y) × (y < next)) ⊎ (y ≡ next)) → Note list K (set m n x) y
      go y (inl z) u v c =
          rw z (get_or-set_same m n x 0 (omega (arith, f.sized)) ∙ (e ∙ same_length K d c (block_at list (n + 1))))
      go y (inr (inl q)) u v c = get_or-set_other m n y x 0 (λ z. omega (arith, q.0)) ∙ f.notes y q.0 q.1 u v c
      go y (inr (inr z)) u v c = absurd (true≢false (sym u ∙ (ap (λ k. goes_on (block_at list k)) z ∙ g)))

  pub noting_whole : (count next : ℕ) (l m : List ℕ) → next ≡ count → count ≤ length l → Noting list K 0 next l m → Noted list K count m
  noting_whole count next l m e h f =
      record { room = omega (arith, f.sized); notes = λ n b. f.notes n (omega arith) (omega arith) }

  -- What is noted of a pair is what its body counts
  pub noted_counts : {count : ℕ} {bodies : List ℕ} → Noted list K count bodies → (at n : ℕ) {l : Numbers} → at < count
      → goes_on (block_at list at) ≡ true → l ≡ numbers_at list at → 3 < l.kind
      → get_or bodies at 0 ≡ length (code K n (block_at list (at + 1)))
  noted_counts b at n h g e k = b.notes at h g (omega (arith, ap (λ x. x.kind) e)) n
