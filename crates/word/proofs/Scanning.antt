-- What the loop of `scan` keeps: the entries before `at` are `count`, without a fault of rule 13, and where they are more than a word
-- may have, `extra` is where the first too many starts.
use Rattle.theory.specs.declared.Refusal.{Refusal}
use Rattle.std.specs.Prelude.{Result, Err}
use mathlib.Core.Path.{◌≡◌, ap, ◌∙◌}
use mathlib.Core.Logic.{◌⊎◌, inl, inr}
use mathlib.Core.List.{List}
use Prim.Native.Nat.{ℕ, ◌+◌, ◌-◌, ◌≤◌, ◌<◌, min}
use native.Mathlib.Omega.{arith}
use lib.ListN.{length, take}
use Rattle.theory.specs.TurnedDown.{word_entries, total}
use Rattle.word.specs.declared.answers.Item.{Item}
use Rattle.word.specs.Scan.{Readable, widest, item_at, ones_at, fault_place, scan_answer}
use Rattle.word.proofs.Items.{ones-within, next_past}
use Rattle.word.proofs.Along.{Along, item-next, item_fault}

pub record Scanning (w : List ℕ) (at count extra : ℕ) : Type 0 where
  pub along : Along w at count
  pub fewer : count ≤ at
  pub surplus : 8192 < count → extra ≡ total (take 8192 (word_entries w))

pub operand-within : (w : List ℕ) (at : ℕ) (e : Item) → at ≤ length w → e ≡ item_at w at → at + e.operand ≤ length w
unfolding item_at
operand-within w at e h q =
    let o : e.operand ≡ min (ones_at w at) widest = ap (λ (j : Item). j.operand) q in
    omega (arith, o, ones-within w at h)

module _ (w : List ℕ) (good : Readable w) (at count extra : ℕ) (s : Scanning w at count extra) (h : at < length w) (e : Item) (q : e ≡
    item_at w at) where
  pub faulty : (place : ℕ) (r : Result ℕ Refusal) → (e.operand ≡ 0) ⊎ (e.kind ≡ 0) → place ≡ fault_place at e
      → r ≡ Err (record { number = 13; place = place })
      → r ≡ scan_answer w
  faulty place r f p a = rw (a, p, q) (item_fault w good.known at count s.along h good.short (rw q at f))

  further : at < e.next
  unfolding item_at
  further = rw q (next_past w good.known at h)

  pub nearer : length w - e.next < length w - at
  nearer = omega (arith, further)

  module _ (g : e.operand ≡ 0 → ⊥) (f : e.kind ≡ 0 → ⊥) (extra' : ℕ) where
    surplus_next : ((count ≡ 8192) × (extra' ≡ at)) ⊎ ((count ≡ 8192 → ⊥) × (extra' ≡ extra)) → 8192 < count + 1
        → extra' ≡ total (take 8192 (word_entries w))
    surplus_next (inl y) m = y.1 ∙ s.along.start ∙ ap (λ (j : ℕ). total (take j (word_entries w))) y.0
    surplus_next (inr y) m = y.1 ∙ s.surplus (let no : _ = y.0 in omega arith)

    pub scanning_next : ((count ≡ 8192) × (extra' ≡ at)) ⊎ ((count ≡ 8192 → ⊥) × (extra' ≡ extra))
        → Scanning w e.next (count + 1) extra'
    scanning_next y = record {
      along = rw q (item-next w good.known at count s.along h (rw q at g) (rw q at f));
      fewer = omega (arith, s.fewer, further);
      surplus = surplus_next y;
    }
