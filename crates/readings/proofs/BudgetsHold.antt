-- The run tool's budgets, 100,000 and 1,000,000 steps, which are too many to compute: a run that neither ends nor is full is spent after
-- its whole budget, by induction.
use mathlib.Core.Path.{◌≡◌, refl, ap}
use mathlib.Core.Option.{none, some}
use mathlib.Core.List.{List, [], ◌∷◌, ◌++◌}
use Prim.Native.Nat.{ℕ, zero, suc, ◌+◌, ◌≤◌}
use native.Mathlib.Omega.{arith}
use borrow.Author.Tests.{lt-ltb}
use lib.IntN.{pos}
use Rattle.theory.specs.Basics.{put, EachOf}
use Rattle.theory.specs.Limits.{last_count, tool_source_budget, tool_word_budget}
use Rattle.theory.specs.Text as T
use Rattle.theory.specs.Text.{decimal, line_of}
use Rattle.theory.specs.ProgramText as P
use Rattle.theory.specs.ProgramText.{Command, while, opens, closes}
use Rattle.theory.specs.Runs.{Machine, Outcome, run, within_each}
use Rattle.theory.specs.Source as S
use Rattle.theory.specs.Word as W
use Rattle.theory.specs.Word.{Symbol, one}
use Rattle.theory.specs.Translation as X
use Rattle.theory.specs.Translation.{word_of}
use Rattle.theory.specs.Machines.{fresh_source, fresh_word, capacity_of}
use Rattle.theory.specs.RunSheet as H
use Rattle.theory.specs.TurnedDown as D
use Rattle.theory.specs.RunTool as U
use Rattle.theory.specs.RunTool.{tool_capacities, source_on, word_on, tool_source, tool_word, end_name}
use Rattle.theory.specs.declared.End.TheVariants.{Spent}
use Rattle.readings.specs.Example.{Holds}
use Rattle.readings.specs.Results.{budgets}

-- States that a run never leaves, in none of which it ends or is full
record Endless {S : Type 0} (M : Machine S) (Keeps : S → Type 0) : Type 0 where
  goes : (s : S) → Keeps s → M.ended s ≡ none
  next : (s : S) → Keeps s → (s' : S) × (M.next s ≡ some s') × Keeps s'

record Spends {S : Type 0} (Keeps : S → Type 0) (b : ℕ) (o : Outcome S) : Type 0 where
  end : o.end ≡ Spent
  steps : o.steps ≡ b
  state : Keeps o.state

spends : {S : Type 0} (M : Machine S) (Keeps : S → Type 0) → Endless M Keeps → (b n : ℕ) → b + n ≤ last_count → (s : S) → Keeps s
    → Spends Keeps b (run M b n s)
unfolding run
spends M Keeps e zero n le s k = rw (e.goes s k, run) (record { end = refl; steps = refl; state = k })
spends M Keeps e (suc b) n le s k =
    let x = e.next s k in
    let r = spends M Keeps e b (suc n) (omega arith) x.0 x.2 in
    rw (e.goes s k, lt-ltb n last_count (omega arith), x.1, run) (record { end = r.end; steps = ap suc r.steps; state = r.state })

-- `while X0 != 0`, `endwhile X0 != 0`, and X0 at 1
abbrev endless : List Command
endless = opens while 0 ∷ closes while 0 ∷ []

abbrev from : ℕ → ℕ
from = H.start (0 ∷ []) (1 ∷ [])

data SourceKeeps : S.State → Type 0 where
  above : SourceKeeps (fresh_source from)
  below : SourceKeeps (S.go_to (fresh_source from) 2)

source_endless : Endless (S.machine (within_each (capacity_of tool_capacities)) endless) SourceKeeps
unfolding S.step S.closing S.open_at S.opening H.start
source_endless = record { goes = goes; next = next }
  where
    goes : (s : S.State) → SourceKeeps s → (S.machine (within_each (capacity_of tool_capacities)) endless).ended s ≡ none
    goes s above = refl
    goes s below = refl

    next : (s : S.State) → SourceKeeps s
        → (s' : S.State) × (S.step (within_each (capacity_of tool_capacities)) endless s ≡ some s') × SourceKeeps s'
    next s above = (S.go_to (fresh_source from) 2, refl, below)
    next s below = (fresh_source from, refl, above)

source_spends : Spends SourceKeeps 100000 (tool_source endless from)
unfolding source_on
source_spends =
    let M = S.machine (within_each (capacity_of tool_capacities)) endless in
    spends M SourceKeeps source_endless tool_source_budget 0 (omega arith) (fresh_source from) above

-- Its word is F1, C 1, F3, +1, B3
data WordKeeps : W.State → Type 0 where
  first : (f : ℕ → List Symbol) → f 1 ≡ one ∷ [] → WordKeeps (record { place = pos 1; registers = f })
  tests : (f : ℕ → List Symbol) → f 1 ≡ one ∷ [] → WordKeeps (record { place = pos 2; registers = f })
  puts : (f : ℕ → List Symbol) → f 1 ≡ [] → WordKeeps (record { place = pos 4; registers = f })
  returns : (f : ℕ → List Symbol) → f 1 ≡ one ∷ [] → WordKeeps (record { place = pos 5; registers = f })

word_endless : Endless (W.machine (within_each (capacity_of tool_capacities)) (word_of endless)) WordKeeps
unfolding W.step word_of X.word X.code P.block_of P.blocks put
word_endless = record { goes = goes; next = next }
  where
    goes : (s : W.State) → WordKeeps s → (W.machine (within_each (capacity_of tool_capacities)) (word_of endless)).ended s ≡ none
    goes s (first f h) = refl
    goes s (tests f h) = refl
    goes s (puts f h) = refl
    goes s (returns f h) = refl

    next : (s : W.State) → WordKeeps s
        → (s' : W.State) × (W.step (within_each (capacity_of tool_capacities)) (word_of endless) s ≡ some s') × WordKeeps s'
    next s (first f h) = (record { place = pos 2; registers = f }, refl, tests f h)
    next s (tests f h) = (record { place = pos 4; registers = put f 1 [] }, rw h refl, puts (put f 1 []) refl)
    next s (puts f h) = (record { place = pos 5; registers = put f 1 (one ∷ []) }, rw h refl, returns (put f 1 (one ∷ [])) refl)
    next s (returns f h) = (record { place = pos 2; registers = f }, refl, tests f h)

word_spends : Spends WordKeeps 1000000 (tool_word endless from)
unfolding word_on H.start
word_spends =
    let M = W.machine (within_each (capacity_of tool_capacities)) (word_of endless) in
    spends M WordKeeps word_endless tool_word_budget 0 (omega arith) (fresh_word 1 from) (first _ refl)

-- X0 stays 1
stays : (s : S.State) → SourceKeeps s → s.values 0 ≡ 1
unfolding H.start
stays s above = refl
stays s below = refl

line : U.shown (tool_source endless from) (tool_word endless from) ≡ T.bytes "spent 100000 spent 1000000 1\n"
unfolding U.shown T.decimal T.decimal_before
line =
    let x : (tool_source endless from).state.values 0 ≡ 1 = stays (tool_source endless from).state source_spends.state in
    λ i. line_of
    (end_name (source_spends.end i) ∷ decimal (source_spends.steps i) ∷ end_name (word_spends.end i) ∷ decimal (word_spends.steps i)
    ∷ decimal (x i) ∷ [])

pub budgets_hold : EachOf Holds budgets
unfolding budgets T.following T.same T.digits T.value_after T.numeral T.primes T.index T.name T.split_lines T.ends_in_LF T.split_blanks
    P.around P.assigns P.command D.rule_1 D.rule_2 D.rule_3 D.lines_fault_under D.program_fault_under D.text_fault_under D.read_text_under
    H.names H.values D.sheet_size_fault D.within_columns D.rows_fault D.sheet_fault_for W.spell_entries W.spell X.code X.word X.word_of
    X.word_text P.blocks
    P.block_of U.row U.rows D.largest D.rule_21 U.capacities_fault U.report_fault U.report_answer U.report_on
budgets_hold = (ap (λ l. U.header ++ (l ++ [])) line, tt)
