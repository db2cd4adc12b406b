-- A run that says halted stands at a halted place, so that the word has the value of its memory.
use mathlib.Core.Path.{◌≡◌, refl, sym, ap, ◌∙◌}
use mathlib.Core.Option.{Option, some}
use Prim.Native.Nat.{ℕ}
use native.Mathlib.Omega.{arith}
use Rattle.theory.specs.Runs.{Machine, run, within_each}
use Rattle.theory.specs.Word as W
use Rattle.theory.specs.Machines.{count, capacity_of, contents, refilled, run_word, word_state, Value, word_value}
use Rattle.theory.specs.declared.End.{End}
use Rattle.theory.specs.declared.End.TheVariants.{Halted, Spent, Full}
use Rattle.theory.proofs.Budgets.{run_induction}
use Rattle.theory.proofs.GoodMemory.{memory-is_good, contents_beyond, memory_stays_good}
use Rattle.theory.proofs.Values.{value_same, has_value, value_held}
use Rattle.memory.specs.Values.{HaltedValue, ValueOnASet}

not_halted : (e : End) → e ≡ Halted → (e ≡ Spent → ⊥) × (e ≡ Full → ⊥)
not_halted e h = (λ s. let z : ◌≡◌ {A = ℕ} 0 1 = cc in omega arith, λ f. let z : ◌≡◌ {A = ℕ} 0 1 = cc in omega arith)

ends_halted : {S : Type 0} (M : Machine S) (b n : ℕ) (s : S) → (run M b n s).end ≡ Halted → M.ended (run M b n s).state ≡ some Halted
ends_halted {S} M = run_induction M (λ b n s o. o.end ≡ Halted → M.ended o.state ≡ some Halted) (record {
  ended = λ b n s e h t. h ∙ ap {B = Option End} some t;
  spent = λ n s h t. absurd ((not_halted Spent t).0 refl);
  counted = λ b n s h k t. absurd ((not_halted Spent t).0 refl);
  full = λ b n s h k x t. absurd ((not_halted Full t).1 refl);
  step = λ b n s s' o h k x later t. later t;
})

pub halted_value : HaltedValue
unfolding word_value run_word
halted_value w m p budget good lows names t =
    let o = run (W.machine (within_each (capacity_of m.capacities)) w) budget p.steps (word_state m p) in
    let at_end = ends_halted (W.machine (within_each (capacity_of m.capacities)) w) budget p.steps (word_state m p) t in
    let held = (memory_stays_good w m p budget good lows names).1 in
    rw at_end (ap {B = Option Value} some (value_same (count m) o.state.registers (contents (refilled m o.state.registers))
    (λ r l. sym (held r l))))

pub value_on_a_set : ValueOnASet
value_on_a_set m xs good =
    (value_held (count m) (contents m) xs (contents_beyond m (memory-is_good m good)), has_value (count m) (contents m) xs)
