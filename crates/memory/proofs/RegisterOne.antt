-- The value that a good memory's registers have: register 1 stands in the first bytes of the store, and the lengths tell what is empty.
use mathlib.Core.Path.{◌≡◌, sym, ap, ◌∙◌}
use mathlib.Core.Bool.{true, false}
use mathlib.Core.List.{List}
use Prim.Native.Nat.{ℕ, suc, ◌+◌, ◌-◌, ◌≤◌, ◌<◌}
use native.Mathlib.Omega.{arith}
use borrow.Author.Tests.{leb-true}
use lib.Dec.{eqb, leb}
use lib.ListN.{length, take, get_or}
use lib.Seq.{take-take}
use Rattle.theory.specs.Basics.{all_below}
use Rattle.theory.specs.Text.{Bytes}
use Rattle.theory.specs.Word.{Symbol, bytes_of}
use Rattle.theory.specs.Machines.{Memory, count, contents, laid, is_memory, place_of, is_tidy}
use Rattle.theory.specs.TurnedDown.{rule_10}
use Rattle.theory.proofs.Faults.{and_first}
use Rattle.theory.proofs.GoodMemory.{Good, memory-is_good, length-contents, contents-laid, contents_fit, take-laid}
use Rattle.theory.proofs.Values.{all_below-same}
use Rattle.std.specs.Prelude.{Option, Some, None, Result, Ok, Err}
use Rattle.theory.specs.declared.Refusal.{Refusal}
use Rattle.memory.specs.Calls.{Valued}
use Rattle.memory.specs.Rest.{rest_empty}

pub value_refused : (m : Memory) → is_memory m ≡ false → Valued m (Err (record { number = 10; place = 0 }))
unfolding rule_10
value_refused m h = record { is = rw h; bytes = λ n e. let z : ◌≡◌ {A = ℕ} 0 1 = cc in absurd (omega arith) }

module _ (m : Memory) (h : is_memory m ≡ true) where
  abbrev g : Good m
  g = memory-is_good m h

  some_register : 0 < count m
  some_register = leb-true 1 (count m) (and_first (leb 1 (count m)) (leb (count m) 64) g.registers)

  pub first-length : 0 < length m.lengths
  first-length = omega (arith, some_register, g.lengths)

  value_length : get_or m.lengths 0 0 ≡ length (contents m 1)
  value_length = sym (length-contents m g 0 some_register)

  value_bytes : take (length (contents m 1)) m.store ≡ bytes_of (contents m 1)
  value_bytes = go (contents m 1) (contents_fit m g 0 some_register) (contents-laid m g 0 some_register)
    where
      capacity : ℕ
      capacity = get_or m.capacities 0 0

      go : (xs : List Symbol) → length xs ≤ capacity → laid capacity xs ≡ place_of m 1 → take (length xs) m.store ≡ bytes_of xs
      go xs fits e =
          sym (take-take (length xs) capacity m.store fits)
          ∙ ap (λ (b : Bytes). take (length xs) b) (sym e)
          ∙ take-laid capacity xs

  tidy_by_lengths : is_tidy (count m) (contents m) ≡ rest_empty m.lengths
  tidy_by_lengths =
      all_below-same (count m - 1) (λ i. eqb (length (contents m (i + 2))) 0) (λ i. eqb (get_or m.lengths (i + 1) 0) 0)
      (λ i l. let two : i + 2 ≡ suc (i + 1) = omega arith in
      ap (λ r. eqb (length (contents m r)) 0) two ∙ ap (λ n. eqb n 0) (length-contents m g (i + 1) (omega arith)))
      ∙ ap (λ n. all_below (n - 1) (λ i. eqb (get_or m.lengths (i + 1) 0) 0)) (sym g.lengths)

  pub value_read : rest_empty m.lengths ≡ true → Valued m (Ok (Some (get_or m.lengths 0 0)))
  unfolding rule_10
  value_read t = record {
    is = rw (h, tidy_by_lengths, t) (ap {B = Result (Option ℕ) Refusal} (λ n. Ok (Some n)) value_length);
    bytes = λ n e. ap (λ (k : ℕ). take k m.store) (same n e) ∙ value_bytes;
  }
    where
      same : (n : ℕ) → ◌≡◌ {A = Result (Option ℕ) Refusal} (Ok (Some (get_or m.lengths 0 0))) (Ok (Some n)) → n ≡ length (contents m 1)
      same n e = let z : get_or m.lengths 0 0 ≡ n = cc in sym z ∙ value_length

  pub value_untidy : rest_empty m.lengths ≡ false → Valued m (Ok None)
  unfolding rule_10
  value_untidy t = record {
    is = rw (h, tidy_by_lengths, t);
    bytes = λ n e. let z : ◌≡◌ {A = ℕ} 0 1 = cc in absurd (omega arith);
  }
