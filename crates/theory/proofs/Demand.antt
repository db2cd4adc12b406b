-- Demand 3, of blocks and of programs, and the charges as the run tool prints them.
use mathlib.Core.Path.{◌≡◌, refl, sym, ap, ◌∙◌, subst}
use mathlib.Core.Logic.{◌≢◌, ⊎_elim}
use mathlib.Core.Option.{none, none-ne-some, some-injective}
use mathlib.Core.List.{List}
use Prim.Native.Nat.{ℕ, suc, ◌+◌}
use native.Mathlib.Omega.{arith}
use lib.ListN.{length}
use Rattle.theory.specs.Limits
use Rattle.theory.specs.Runs.{Outcome, unlimited}
use Rattle.theory.specs.ProgramText.{variables, Block, lines, block_of}
use Rattle.theory.specs.Source as S
use Rattle.theory.specs.Word as W
use Rattle.theory.specs.Word.{Instruction}
use Rattle.theory.specs.Translation.{word, word_of, charge}
use Rattle.theory.specs.Machines.{fresh_source, fresh_word, capacity_of}
use Rattle.theory.specs.RunTool.{tool_capacities, source_on, word_on, tool_source, tool_word}
use Rattle.theory.specs.Claims.{Ends, SourceRun, WordRun, HoldsValues, Demand3, DemandOfBlocks, DemandOfPrograms, ChargesAsPrinted}
use Rattle.theory.specs.declared.End.{End}
use Rattle.theory.specs.declared.End.TheVariants.{Halted, Strayed, Spent, Full}
use Rattle.theory.proofs.Unlimited.{word_live, source_unlimited, word-unlimited}
use Rattle.theory.proofs.Nesting.{well_nested}
use Rattle.theory.proofs.Joins.{only_end, at_cost}
use Rattle.theory.proofs.Endings.{ended_stops}
use Rattle.theory.proofs.Matching.{Roomy}
use Rattle.theory.proofs.Stops.{here, halted_line, word_halts, stuck_halted}
use Rattle.theory.proofs.Whole.{followed, reached, final_registers}

-- Unlimited registers have the room that the simulation asks for

unlimited-roomy : (K : ℕ) (w : List Instruction) → Roomy unlimited K w
unlimited-roomy K w = record { less = λ r n h. refl; in_named = λ q r i n e l k h. refl }

-- Demand 3

module _ (b : Block) (v : ℕ → ℕ) where
  abbrev R : Roomy unlimited (variables (lines b)) (word b)
  R = unlimited-roomy (variables (lines b)) (word b)

  -- Where the word has ended it has halted, and so has its source
  ended_halted : (m : ℕ) (t : W.State) (e : End) → WordRun (word b) (fresh_word (variables (lines b)) v) m t
      → Ends (W.machine unlimited (word b)) e t
      → (c : ℕ) × (s : S.State) × SourceRun (lines b) (fresh_source v) c s × Ends (S.machine unlimited (lines b)) Halted s × (e ≡ Halted)
  ended_halted m t e g h = ⊎_elim
      (λ y. absurd (none-ne-some e (sym (word_live unlimited (word b) t y.0 y.1) ∙ h)))
      (λ y. ⊎_elim
      (λ z. (y.0, y.1, y.2, z.0, some-injective e Halted (sym h ∙ z.1)))
      (λ z. absurd (none-ne-some e (sym z.1 ∙ h)))
      y.3)
      (reached unlimited b R v (λ i l. refl) m t g)

  halts : (c : ℕ) (s : S.State) → SourceRun (lines b) (fresh_source v) c s → Ends (S.machine unlimited (lines b)) Halted s
      → (t : W.State) × WordRun (word b) (fresh_word (variables (lines b)) v) (1 + c) t × Ends (W.machine unlimited (word b)) Halted t
      × HoldsValues (variables (lines b)) s t
  halts c s g h =
      let f : _ = followed unlimited b R v (λ i l. refl) c s g in
      let line : s.line ≡ suc (length (lines b)) = halted_line unlimited b s h in (
        here unlimited b s f.0,
        f.1,
        word_halts unlimited b s f.0 line,
        final_registers unlimited b R s f.0 f.2 line,
      )

pub demand_of_blocks : DemandOfBlocks
demand_of_blocks b v = record {
  halts = halts b v;
  only = λ m t g h.
      let x : _ = ended_halted b v m t Halted g h in
      let y : _ = halts b v x.0 x.1 x.2 x.3 in
      let ends : (u : W.State) (e : End) → Ends (W.machine unlimited (word b)) e u → W.step unlimited (word b) u ≡ none =
      ended_stops (W.machine unlimited (word b)) (word_live unlimited (word b)) in
      let same : (m ≡ 1 + x.0) × (t ≡ y.0) = only_end g y.1 (ends t Halted h) (ends y.0 Halted y.2) in
      (x.0, x.1, x.2, x.3, same.0, λ r l. ap (λ u. u.registers r) same.1 ∙ y.3 r l);
  goes_on = λ c s g e.
      let f : _ = followed unlimited b (unlimited-roomy (variables (lines b)) (word b)) v (λ i l. refl) c s g in
      stuck_halted unlimited b (λ r n. refl) s f.0 f.2 e;
  stays = λ m t g h. let x : Strayed ≡ Halted = (ended_halted b v m t Strayed g h).4 in let y : ◌≡◌ {A = ℕ} 0 1 = cc in omega arith;
}

-- An accepted program is the lines of its block
pub demand_of_programs : DemandOfPrograms
unfolding word_of
demand_of_programs p a v = subst (λ l. Demand3 l (word (block_of p)) v) (well_nested p a) (demand_of_blocks (block_of p) v)

-- What the run tool prints for both as halted are the unlimited runs, and each is the only one that ends
pub charges_as_printed : ChargesAsPrinted
unfolding source_on word_on
charges_as_printed p a v e e' =
    let w : List Instruction = word_of p in
    let o : Outcome W.State = tool_word p v in
    let ends : (u : W.State) (e : End) → Ends (W.machine unlimited w) e u → W.step unlimited w u ≡ none =
    ended_stops (W.machine unlimited w) (word_live unlimited w) in
    let not_spent : o.end ≢ Spent = λ z. let y : ◌≡◌ {A = ℕ} 0 1 = cc in omega arith in
    let not_full : o.end ≢ Full = λ z. let y : ◌≡◌ {A = ℕ} 0 1 = cc in omega arith in
    let source : _ = source_unlimited p (capacity_of tool_capacities) Limits.tool_source_budget 0 (fresh_source v) in
    let its_word : _ = word-unlimited w (capacity_of tool_capacities) Limits.tool_word_budget 0 (fresh_word (variables p) v) in
    let charged : _ = at_cost (charge p) source.0 in
    let halted : _ = (demand_of_programs p a v).halts charged.0 (tool_source p v).state charged.1 (source.1 e) in
    let same : (o.steps ≡ 1 + charged.0) × (o.state ≡ halted.0) =
    only_end its_word.0 halted.1 (ends o.state o.end (its_word.1 not_spent not_full)) (ends halted.0 Halted halted.2) in
    (charged.0, charged.1, same.0, source.0, λ r l. ap (λ s. s.registers r) same.1 ∙ halted.3 r l)
