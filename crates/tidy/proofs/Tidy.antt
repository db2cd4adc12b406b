-- The tidy word is the plain word of the program with clears after it, so demand 3 tells of it.
use mathlib.Core.Path.{◌≡◌, refl, sym, ap, ◌∙◌, subst}
use mathlib.Core.Bool.{Bool, true, false, cond}
use mathlib.Core.Option.{none}
use mathlib.Core.List.{List, [], ◌∷◌, ◌++◌, append-nil}
use Prim.Native.Nat.{ℕ, zero, suc, pred, ◌+◌, ◌≤◌, ◌<◌}
use native.Mathlib.Omega.{arith}
use lib.ListN.{length, length-append}
use lib.Dec.{ltb}
use borrow.Author.Tests.{eq-eqb, ltb-true}
use Rattle.theory.specs.Runs.{unlimited}
use Rattle.theory.specs.ProgramText.{Command, variables, Block, lines, block_of}
use Rattle.theory.specs.Source as S
use Rattle.theory.specs.Source.{State}
use Rattle.theory.specs.Word as W
use Rattle.theory.specs.Word.{Instruction, forward}
use Rattle.theory.specs.Translation.{code, word, word_of}
use Rattle.theory.specs.Machines.{fresh_source, fresh_word, holding, ones}
use Rattle.theory.specs.Claims.{Accepted, Ends, SourceRun, WordRun, Demand3}
use Rattle.theory.specs.declared.End.{End}
use Rattle.theory.specs.declared.End.TheVariants.{Halted}
use Rattle.theory.proofs.Cells.{Sits, sits_self, sits_right}
use Rattle.theory.proofs.Joins.{join, only_end}
use Rattle.theory.proofs.Unlimited.{source_live, word_live}
use Rattle.theory.proofs.Endings.{ended_stops}
use Rattle.theory.proofs.Nesting.{well_nested}
use Rattle.theory.proofs.Stops.{halted_line}
use Rattle.theory.proofs.Demand.{demand_of_blocks}
use Rattle.tidy.specs.Forms.{clears, tidy_word, tidy_word_of}
use Rattle.tidy.specs.Claims.{Tidied, TidyDemand, TidyDemandOfBlocks, TidyDemandOfPrograms, TidyNothingToClear, clear_charges}
use Rattle.tidy.proofs.Longer.{Stops, runs_on, stops_too}
use Rattle.tidy.proofs.Clears.{followed_by, lines_followed, code_followed, clear_lines, clears-length, variables-same, clears-code}
use Rattle.tidy.proofs.Clears.{Cleared, clears-run}
use Rattle.tidy.proofs.Charges.{none_as_one, tidy_charges_by_values}

-- Where variables 1 to K - 1 are 0, registers from 2 on are empty
others_empty : (K : ℕ) (v : ℕ → ℕ) → ((j : ℕ) → 0 < j → j ≤ pred K → v j ≡ 0) → (r : ℕ) → 1 < r → holding K v r ≡ []
others_empty K v h zero l = absurd (omega arith)
others_empty K v h (suc i) l = go (ltb i K) refl
  where
    go : (t : Bool) → ltb i K ≡ t → cond t (ones (v i)) [] ≡ []
    go true e = let below : i < K = ltb-true i K e in ap ones (h i (omega arith) (omega arith))
    go false e = refl

-- The plain word of a block with its clears after it
pub tidy_as_plain : (b : Block) → word (followed_by b (clear_lines (pred (variables (lines b))))) ≡ tidy_word b
unfolding word tidy_word
tidy_as_plain b =
    let K : ℕ = variables (lines b) in
    let x : Block = clear_lines (pred K) in
    let same : variables (lines (followed_by b x)) ≡ K = ap variables (lines_followed b x) ∙ variables-same (lines b) in
    ap {B = List Instruction} (λ l. forward 1 ∷ l)
    (ap (λ L. code L 0 (followed_by b x)) same ∙ (code_followed K 0 b x ∙ ap (λ l. code K 0 b ++ l) (clears-code K 0 K)))

module _ (b : Block) (v : ℕ → ℕ) where
  abbrev p : List Command
  p = lines b

  abbrev K : ℕ
  K = variables (lines b)

  -- The clears, and the program with them
  abbrev x : Block
  x = clear_lines (pred (variables (lines b)))

  abbrev p⁺ : List Command
  p⁺ = lines b ++ lines (clear_lines (pred (variables (lines b))))

  abbrev w⁺ : List Instruction
  w⁺ = tidy_word b

  abbrev start : W.State
  start = fresh_word (variables (lines b)) v

  abbrev HasHalted : W.State → Type 0
  HasHalted t = Ends (W.machine unlimited (tidy_word b)) Halted t

  demand : Demand3 p⁺ w⁺ v
  demand =
      subst (λ w. Demand3 p⁺ w v) (tidy_as_plain b)
      (subst (λ l. Demand3 l (word (followed_by b x)) v) (lines_followed b x) (demand_of_blocks (followed_by b x) v))

  -- Both programs have the same number of variables, so the same start
  start_is : fresh_word (variables p⁺) v ≡ start
  start_is = ap (λ L. fresh_word L v) (variables-same p)

  there : (m : ℕ) (t : W.State) → WordRun w⁺ start m t → WordRun w⁺ (fresh_word (variables p⁺) v) m t
  there m t = subst (λ s. WordRun w⁺ s m t) (sym start_is)

  back : (m : ℕ) (t : W.State) → WordRun w⁺ (fresh_word (variables p⁺) v) m t → WordRun w⁺ start m t
  back m t = subst (λ s. WordRun w⁺ s m t) start_is

  -- Where the program has halted, the longer one has the clears before it
  source_clears : (s : State) → Ends (S.machine unlimited p) Halted s → Cleared p⁺ (pred K) (suc (length p)) s
  source_clears s h =
      let stands : Sits p⁺ (suc (length p)) (lines x) =
      subst (λ n. Sits p⁺ n (lines x)) (omega arith) (sits_right p⁺ 1 p (lines x) (sits_self p⁺)) in
      clears-run p⁺ (pred K) (suc (length p)) stands s (halted_line unlimited b s h)

  halts : (c : ℕ) (s : State) → SourceRun p (fresh_source v) c s → Ends (S.machine unlimited p) Halted s
      → (m : ℕ) × (t : W.State) × WordRun w⁺ start m t × HasHalted t × Tidied p (word b) v c s m t
  halts c s g h =
      let r : Cleared p⁺ (pred K) (suc (length p)) s = source_clears s h in
      let u : State = r.last in
      let c⁺ : ℕ = c + clear_charges (suc (pred K)) s.values in
      let run : SourceRun p⁺ (fresh_source v) c⁺ u = join (runs_on b (lines x) unlimited g) r.run in
      let last : u.line ≡ suc (length p⁺) = omega (arith, r.there, length-append p (lines x), clears-length (pred K)) in
      let d : _ = demand.halts c⁺ u run (rw (eq-eqb u.line (suc (length p⁺)) last)) in
      let plain : _ = (demand_of_blocks b v).halts c s g h in
      let held : (r : ℕ) → 0 < r → d.0.registers r ≡ holding K u.values r =
      λ r l. d.3 r l ∙ ap (λ L. holding L u.values r) (variables-same p) in (
        1 + c⁺,
        d.0,
        back (1 + c⁺) d.0 d.1,
        d.2,
        record {
          plain_end = plain.0;
          plain_run = plain.1;
          plain_halted = plain.2;
          plain_holds = plain.3;
          steps = omega (arith, tidy_charges_by_values K s plain.0 plain.3, none_as_one K s.values);
          value = (
            held 1 (omega arith) ∙ ap (λ y. cond (ltb 0 K) (ones y) []) r.first,
            λ n l. held n (omega arith) ∙ others_empty K u.values r.empty n (omega arith),
          );
        },
      )

  -- A word halts in one way, so what is so of one run to its end is so of another
  only_one : (c : ℕ) (s : State) (m m' : ℕ) (t t' : W.State) → WordRun w⁺ start m t → WordRun w⁺ start m' t' → HasHalted t → HasHalted t'
      → Tidied p (word b) v c s m' t' → Tidied p (word b) v c s m t
  only_one c s m m' t t' g g' h h' r =
      let stops : (u : W.State) (e : End) → Ends (W.machine unlimited w⁺) e u → W.step unlimited w⁺ u ≡ none =
      ended_stops (W.machine unlimited w⁺) (word_live unlimited w⁺) in
      let same : (m ≡ m') × (t ≡ t') = only_end g g' (stops t Halted h) (stops t' Halted h') in
      subst (λ k. Tidied p (word b) v c s k t) (sym same.0) (subst (Tidied p (word b) v c s m') (sym same.1) r)

  -- Where the tidy word halts the longer program halts, so the program stops, which it does only where it halts
  only : (m : ℕ) (t : W.State) → WordRun w⁺ start m t → HasHalted t
      → (c : ℕ) × (s : State) × SourceRun p (fresh_source v) c s × Ends (S.machine unlimited p) Halted s × Tidied p (word b) v c s m t
  only m t g h =
      let d : _ = demand.only m t (there m t g) h in
      let over : S.step unlimited p⁺ d.1 ≡ none =
      ended_stops (S.machine unlimited p⁺) (source_live unlimited p⁺) d.1 Halted d.3 in
      let r : Stops b (lines x) unlimited (fresh_source v) = stops_too b (lines x) unlimited d.2 over in
      let halted : Ends (S.machine unlimited p) Halted r.1 = (demand_of_blocks b v).goes_on r.0 r.1 r.2 r.3 in
      let y : _ = halts r.0 r.1 r.2 halted in
      (r.0, r.1, r.2, halted, only_one r.0 r.1 m y.0 t y.1 g y.2 h y.3 y.4)

pub tidy_demand_of_blocks : TidyDemandOfBlocks
tidy_demand_of_blocks b v = record {
  halts = halts b v;
  only = only b v;
  stays = λ m t g. (demand b v).stays m t (there b v m t g);
}

pub tidy_demand_of_programs : TidyDemandOfPrograms
unfolding word_of tidy_word_of
tidy_demand_of_programs p a v =
    let b : Block = block_of p in
    subst (λ l. TidyDemand l (word b) (tidy_word b) v) (well_nested p a) (tidy_demand_of_blocks b v)

-- Of an accepted program K is that of its block
pub tidy_word_is : (p : List Command) → Accepted p → tidy_word_of p ≡ word_of p ++ clears (variables p)
unfolding tidy_word_of tidy_word word_of
tidy_word_is p a = ap (λ l. word_of p ++ clears (variables l)) (well_nested p a)

pub tidy_nothing_to_clear : TidyNothingToClear
unfolding clears
tidy_nothing_to_clear p a few = tidy_word_is p a ∙ (ap (λ l. word_of p ++ l) (go (variables p) few) ∙ append-nil (word_of p))
  where
    go : (K : ℕ) → K ≤ 1 → clears K ≡ []
    go zero h = refl
    go (suc zero) h = refl
    go (suc (suc n)) h = absurd (omega arith)
