-- Registers of one capacity, as far as a word of an accepted program names them: rule 21 turns nothing down, and no copy lacks room.
use mathlib.Core.Path.{◌≡◌, refl, sym, ◌∙◌}
use mathlib.Core.Logic.{◌≢◌, inl, inr, ⊎_elim, ◌↔◌}
use mathlib.Core.Bool.{Bool, true, false, not, true≢false}
use mathlib.Core.Option.{none}
use mathlib.Core.List.{List, [], ◌∷◌}
use Prim.Native.Nat.{ℕ, zero, suc, ◌+◌, ◌≤◌, ◌<◌}
use native.Mathlib.Omega.{arith}
use lib.ListN.{get_or-replicate}
use borrow.Author.Tests.{le-leb}
use Rattle.theory.specs.Limits
use Rattle.theory.specs.Basics.{all, EachOf}
use Rattle.theory.specs.Runs.{register, Outcome, within_each}
use Rattle.theory.specs.ProgramText.{copy, Command, plain, variables}
use Rattle.theory.specs.Source as S
use Rattle.theory.specs.Word.{Instruction, kind, operand}
use Rattle.theory.specs.Translation.{word_of}
use Rattle.theory.specs.Machines.{fresh_source, capacity_of}
use Rattle.theory.specs.TurnedDown.{names_register, largest, names_above, is_roomy, rule_21}
use Rattle.theory.specs.RunTool.{tool_capacities, source_on, word_on, capacities_fault}
use Rattle.theory.specs.Claims.{Accepted, SourceRun, NamesAtMost, FullAtOneCapacity, ToolHasRoom, FullAsPrinted}
use Rattle.theory.specs.declared.End.TheVariants.{Spent, Full}
use Rattle.theory.proofs.Faults.{or_true}
use Rattle.theory.proofs.Nesting.{few_variables}
use Rattle.theory.proofs.Partners.{named_below}
use Rattle.theory.proofs.Sizes.{words_fit}
use Rattle.theory.proofs.Stops.{Unfinished}
use Rattle.theory.proofs.Together.{source_outcome, word_outcome, within_together}

module _ (capacity : ℕ → ℕ) (c : ℕ) (even : (r : ℕ) → 1 ≤ r → r ≤ 64 → capacity r ≡ c) where
  largest_even : (K : ℕ) → K ≤ 64 → largest capacity K ≤ c
  unfolding largest
  largest_even zero h = omega arith
  largest_even (suc K) h =
      let rest : largest capacity K ≤ c = largest_even K (omega arith) in
      let last : capacity (register K) ≡ c = even (register K) (omega arith) (omega arith) in
      omega arith

  roomy : (K : ℕ) → K + 17 ≤ 64 → (i : Instruction) → 1 ≤ operand i → NamesAtMost (K + 17) i → is_roomy capacity K i ≡ true
  roomy K few i low names = go (names_register (kind i)) refl
    where
      go : (t : Bool) → names_register (kind i) ≡ t → is_roomy capacity K i ≡ true
      go false e = rw e
      go true e =
          let enough : largest capacity K ≤ capacity (operand i) =
          omega (arith, largest_even K (omega arith), even (operand i) low (omega (arith, names e))) in
          or_true (not (names_above K i)) _ (le-leb (largest capacity K) (capacity (operand i)) enough)

  all-roomy : (K : ℕ) → K + 17 ≤ 64 → (w : List Instruction) → EachOf (λ i. 1 ≤ operand i) w → EachOf (NamesAtMost (K + 17)) w
      → all (is_roomy capacity K) w ≡ true
  all-roomy K few [] low names = refl
  all-roomy K few (i ∷ w) low names = rw (roomy K few i low.0 names.0) (all-roomy K few w low.1 names.1)

  module _ (p : List Command) (a : Accepted p) where
    few : variables p ≤ 32
    few = few_variables p a

    even_21 : rule_21 capacity p ≡ none
    unfolding rule_21
    even_21 =
        let sized = (words_fit p a).sized in
        rw (all-roomy (variables p) (omega (arith, few)) (word_of p) sized.operands_from_1 sized.low_registers)

    copy_fits : (e : ℕ) (s : S.State) → Unfinished (within_each capacity) p s e → e ≡ 0
    copy_fits e s (inl (i, x, z)) = z
    copy_fits e s (inr (i, j, m, x, low, high, fits, z)) =
        let named = named_below p s.line (plain (copy i j)) x in
        let same : capacity (register i) ≡ capacity (register j)
        = even (register i) (omega arith) (omega (arith, few)) ∙ sym (even (register j) (omega arith) (omega (arith, few))) in
        absurd (true≢false (sym fits ∙ (rw same at high)))

    even_together : (v : ℕ → ℕ) → ((i : ℕ) → i < variables p → v i ≤ c) → (b b' : ℕ)
        → let s = source_outcome (within_each capacity) v b b' p in
        let t = word_outcome (within_each capacity) v b b' p (word_of p) in
        s.end ≢ Spent → t.end ≢ Spent
        → ((s.end ≡ Full) ↔ (t.end ≡ Full)) × ((n : ℕ) × SourceRun p (fresh_source v) n s.state × (t.steps ≡ 1 + n))
    even_together v fit b b' paid paid' =
        let within : (i : ℕ) → i < variables p → v i ≤ capacity (register i) =
        λ i l. omega (arith, fit i l, even (register i) (omega arith) (omega (arith, few))) in
        let (both, n, e, source, steps, last) = within_together capacity p a v (even_21, within) b b' paid paid' in
        let s : Outcome S.State = source_outcome (within_each capacity) v b b' p in
        let nothing : e ≡ 0 = ⊎_elim (λ z. z.1) (λ z. copy_fits e s.state z.1) last in
        (both, (n, source, omega arith))

pub full_at_one_capacity : FullAtOneCapacity
full_at_one_capacity p a capacity v fit = even_together (λ r. capacity) capacity (λ r low high. refl) p a v fit

-- The run tool's 64 registers

tool_even : (r : ℕ) → 1 ≤ r → r ≤ 64 → capacity_of tool_capacities r ≡ 1024
tool_even zero low high = absurd (omega arith)
tool_even (suc i) low high = get_or-replicate 64 i 1024 0 (omega arith)

pub tool_has_room : ToolHasRoom
unfolding capacities_fault
tool_has_room p a = (refl, even_21 (capacity_of tool_capacities) 1024 tool_even p a)

pub full_as_printed : FullAsPrinted
unfolding source_on word_on
full_as_printed p a v fit =
    even_together (capacity_of tool_capacities) 1024 tool_even p a v fit Limits.tool_source_budget Limits.tool_word_budget
