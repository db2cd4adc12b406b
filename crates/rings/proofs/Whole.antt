-- A whole run of instructions that the machine can do: from outside, and from inside.
use mathlib.Core.Path.{◌≡◌, ap, ap₂, ◌∙◌}
use mathlib.Core.Bool.{true}
use mathlib.Core.Option.{some}
use mathlib.Core.List.{List}
use Prim.Native.Nat.{ℕ, ◌+◌, ◌≤◌}
use native.Mathlib.Nat.{add-zero}
use lib.ListN.{length}
use Rattle.theory.specs.Limits.{last_count}
use Rattle.theory.specs.Runs.{Outcome, within_each}
use Rattle.theory.specs.Word as W
use Rattle.theory.specs.Word.{ended_at}
use Rattle.theory.specs.Machines.{capacity_of, contents, is_memory, run_word}
use Rattle.theory.specs.TurnedDown.{instructions}
use Rattle.theory.specs.declared.End.TheVariants.{Strayed}
use Rattle.theory.proofs.Budgets.{run-ended, count-within}
use Rattle.theory.proofs.GoodMemory.{memory-is_good, contents-stored, contents-counted}
use Rattle.memory.specs.declared.answers.Position.{Position}
use Rattle.memory.specs.declared.answers.Run.{Run}
use Rattle.std.specs.Prelude.{Ok}
use Rattle.memory.specs.Calls.{Called, memory, position, handed, ran, stands_outside}
use Rattle.word.specs.Answers.{zipped}
use Rattle.registers.specs.Held.{Held}
use Rattle.underway.specs.declared.Stop.{Stop}
use Rattle.underway.specs.Places.{bias, placed}
use Rattle.underway.specs.Ends.{ran_to}
use Rattle.underway.specs.Inside.{Usables, Stopped}
use Rattle.underway.proofs.Instructions.{instructions-length}
use Rattle.underway.proofs.Entered.{ran_is}
use Rattle.rings.specs.Steps.{run_from}

module _ (capacities store lengths : List ℕ) (good : is_memory (memory capacities store lengths) ≡ true) where
  module _ (kinds operands : List ℕ) (u : Usables (length capacities) kinds operands) (p : Position) (budget : ℕ) where
    abbrev o : Outcome W.State
    o = run_word (instructions (zipped kinds operands)) (memory capacities store lengths) (position p) budget

    pub whole_outside : ended_at (length kinds) p.place ≡ some Strayed → handed (stands_outside p) store lengths ≡ ran
        (memory capacities store lengths) p o
    unfolding run_word
    whole_outside h =
        let g = memory-is_good (memory capacities store lengths) good in
        let w = instructions (zipped kinds operands) in
        let size = instructions-length (length capacities) kinds operands u.paired u.each in
        let e = run-ended (W.machine (within_each (capacity_of capacities)) w) budget p.steps
        (record { place = p.place; registers = contents (memory capacities store lengths) })
        Strayed (ap (λ (L : ℕ). ended_at L p.place) size ∙ h) in
        rw (e, contents-stored (memory capacities store lengths) g, contents-counted (memory capacities store lengths) g, add-zero)

    pub whole_is : (n : ℕ) → placed (bias + n) ≡ p.place
        → run_from kinds operands (memory capacities store lengths) (bias + n) p.steps budget ≡ o
    unfolding run_word
    whole_is n h = rw h

    whole-count : p.steps ≤ last_count → p.steps + o.steps ≤ last_count
    unfolding run_word
    whole-count l = count-within (W.machine (within_each (capacity_of capacities)) (instructions (zipped kinds operands))) budget p.steps
        (record { place = p.place; registers = contents (memory capacities store lengths) }) l

    pub whole_stopped : (s : Stop) (store' lengths' : List ℕ) → Stopped (λ f. Held capacities f store' lengths') o s
        → p.steps ≤ last_count → handed (ran_to p.steps s) store' lengths' ≡ ran (memory capacities store lengths) p o
    whole_stopped s store' lengths' h l =
        let r : Run = record {
          position = record { place = o.state.place; steps = p.steps + o.steps };
          ended = Ok (record { end = o.end; steps = o.steps });
        } in
        rw (ran_is (λ f. Held capacities f store' lengths') o p.steps s h (whole-count l))
        (ap₂ {C = Called} (λ a b. handed r a b) h.held.stored h.held.counted)
