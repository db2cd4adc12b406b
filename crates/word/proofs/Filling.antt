-- What the loop of `fill` keeps: the entries before `at` are `i`, and the lent lists begin with their kinds and operands.
use mathlib.Core.Path.{◌≡◌, ◌∙◌}
use mathlib.Core.List.{List}
use Prim.Native.Nat.{ℕ, ◌+◌, ◌≤◌, ◌<◌}
use native.Mathlib.Omega.{arith}
use lib.ListN.{length, set}
use Rattle.theory.specs.Word.{Entry}
use Rattle.theory.specs.TurnedDown.{word_entries}
use Rattle.word.specs.declared.answers.Item.{Item}
use Rattle.word.specs.Scan.{item_at, Fillable, Filled}
use Rattle.word.proofs.Along.{Along}
use Rattle.word.proofs.Fills.{put_first, put_next, put_all, item-kind, item-operand, item-along}

pub record Filling (w kinds₀ operands₀ kinds operands : List ℕ) (at i : ℕ) : Type 0 where
  pub along : Along w at i
  pub kinds_put : kinds ≡ put_first (λ e. e.kind) kinds₀ (word_entries w) i
  pub operands_put : operands ≡ put_first (λ e. e.operand) operands₀ (word_entries w) i

module _ (w : List ℕ) (count : ℕ) (kinds₀ operands₀ : List ℕ) (p : Fillable w count kinds₀ operands₀)
    (kinds operands : List ℕ) (at i : ℕ) (s : Filling w kinds₀ operands₀ kinds operands at i) where
  abbrev t : List Entry
  t = word_entries w

  abbrev kind_in : Entry → ℕ
  kind_in e = e.kind

  abbrev operand_in : Entry → ℕ
  operand_in e = e.operand

  within : i ≤ count
  within = omega (arith, s.along.passed, p.whole)

  pub filling-next : i < count → (e : Item) → e ≡ item_at w at
      → Filling w kinds₀ operands₀ (set kinds i e.kind) (set operands i e.operand) e.next (i + 1)
  filling-next l e q =
      let m : i < length t = omega (arith, p.whole) in
      let a : Along w at i = s.along in
      record {
        along = rw q (item-along w p.passed at i a m);
        kinds_put =
            rw (q, s.kinds_put)
            (put_next kind_in kinds₀ t i (item_at w at).kind (omega (arith, p.kinds_room)) m (item-kind w p.passed at i a m));
        operands_put =
            rw (q, s.operands_put)
            (put_next operand_in operands₀ t i (item_at w at).operand (omega (arith, p.operands_room)) m (item-operand w p.passed at
            i a m));
      }

  pub filled : count ≤ i → Filled w kinds₀ operands₀ kinds operands
  filled l =
      let all : i ≡ length t = omega (arith, within, p.whole) in
      record {
        kinds_put = s.kinds_put ∙ put_all kind_in kinds₀ t i all;
        operands_put = s.operands_put ∙ put_all operand_in operands₀ t i all;
      }
