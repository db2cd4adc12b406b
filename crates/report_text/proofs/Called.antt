-- What the runs that this crate calls hand back for a row: the ends and the steps of the definitions' runs.
use mathlib.Core.Path.{subst, ◌≡◌, sym, ap, ◌∙◌}
use mathlib.Core.Option.{none, some, none-ne-some}
use mathlib.Core.List.{List}
use Prim.Native.Nat.{ℕ}
use native.Mathlib.Omega.{arith}
use lib.ListN.{get_or}
use Rattle.theory.specs.Text.{Bytes}
use Rattle.theory.specs.ProgramText.{Command, variables, commands}
use Rattle.theory.specs.Translation.{word_text}
use Rattle.theory.specs.TurnedDown.{done, after, read_list, read_word_for, word_fault, word_entries, run_from}
use Rattle.theory.specs.RunTool.{source_on, word_on}
use Rattle.theory.specs.Claims.{Accepted}
use Rattle.theory.specs.declared.Refusal.{Refusal}
use Rattle.theory.proofs.Faults.{none_first, answer_done}
use Rattle.theory.proofs.Nesting.{reads_accepted}
use Rattle.theory.proofs.Sizes.{words_fit}
use Rattle.word.specs.Answers.{zipped}
use Rattle.source_state.specs.Answers.{source_state, fresh_state, ended_by, state_by, HandsBack}
use Rattle.source_state.specs.declared.Run.{Run}
use Rattle.source_state.specs.declared.State.{State}
use Rattle.capacities.specs.Room.{of_variables}
use Rattle.report_text.specs.Fresh.{values_of, IsSet, Starts}
use Rattle.report_text.specs.Rows.{ended_of, run_ended, row_of, Ready, Tabled, Ran}
use Rattle.theory.specs.declared.Ended.{Ended}
use Rattle.report_text.proofs.Starting.{source_passes, source_runs, source_within, first-within, word-within}

-- The word of an accepted program passes rules 11 to 14
word-passes : (p : List Command) → Accepted p → word_fault (word_text p) ≡ none
unfolding read_word_for
word-passes p accepted = none_first (word_fault (word_text p)) _ (answer_done _ _ _ (words_fit p accepted).read).0

-- The source
module _ (capacities : List ℕ) (set : IsSet capacities) (p : List Command) (values : List ℕ) (h : Starts (variables p) capacities values)
    (list : Bytes) (accepted : read_list list ≡ done p) where
  abbrev start : State
  start = fresh_state (of_variables capacities) values

  source_answer : after (read_list list) (run_from (source_state start) 100000) ≡ done (source_on capacities p (values_of values))
  unfolding run_from
  source_answer = rw (accepted, source_passes capacities set p values h) (ap done (source_runs capacities set p values h))

  module _ (r : Run) (back : HandsBack start (after (read_list list) (run_from (source_state start) 100000)) r) where
    pub source_ends : run_ended r.ended ≡ ended_of (source_on capacities p (values_of values))
    unfolding ended_by
    source_ends = ap {B = Ended} run_ended (back.ended ∙ ap ended_by source_answer)

    pub source_first : get_or r.state.values 0 0 ≡ (source_on capacities p (values_of values)).state.values 0
    unfolding state_by
    source_first = ap (λ s. get_or s.values 0 0) (back.state ∙ ap {B = State} (state_by start) source_answer)

-- The word of an accepted list is not turned down
pub word_unrefused : {list word : Bytes} {K : ℕ} → Ready list word K → {r : Refusal} → word_fault word ≡ some r → ⊥
word_unrefused {list} {word} ready {r} f =
    let accepted : Accepted (commands list) = reads_accepted.1 list (commands list) ready.listed.accepted in
    none-ne-some r (sym (word-passes (commands list) accepted) ∙ rw (← ready.translated) f)

-- Both runs of a row
module _ (capacities : List ℕ) (set : IsSet capacities) (list kinds operands : List ℕ) (K : ℕ) (values : List ℕ)
    (ready : Tabled list kinds operands K) (h : Starts K capacities values) where
  p : List Command
  p = commands list

  v : ℕ → ℕ
  v = values_of values

  pub row-ran : (r : Run)
      → HandsBack (fresh_state (of_variables capacities) values)
      (after (read_list list) (run_from (source_state (fresh_state (of_variables capacities) values)) 100000)) r
      → (source_run word-run : Ended) → source_run ≡ run_ended r.ended
      → ((q : List Command) → Accepted q → zipped kinds operands ≡ word_entries (word_text q) → K ≡ variables q
      → word-run ≡ ended_of (word_on capacities q (values_of values)))
      → Ran capacities (commands list) (values_of values)
      (record { source = source_run; word = word-run; first = get_or r.state.values 0 0 })
  unfolding row_of p v
  row-ran r back source_run word-run e w =
      let starts : Starts (variables p) capacities values = subst (λ k. Starts k capacities values) ready.listed.named h in
      let accepted : Accepted p = reads_accepted.1 list p ready.listed.accepted in
      let source : source_run ≡ ended_of (source_on capacities p v)
      = e ∙ source_ends capacities set p values starts list ready.listed.accepted r back in
      let word : word-run ≡ ended_of (word_on capacities p v) = w p accepted ready.table ready.listed.named in
      let first : get_or r.state.values 0 0 ≡ (source_on capacities p v).state.values 0
      = source_first capacities set p values starts list ready.listed.accepted r back in
      record {
        row = λ i. record { source = source i; word = word i; first = first i };
        within = record {
          source = omega (arith, ap (λ o. o.steps) source, source_within capacities set p values starts);
          word = omega (arith, ap (λ o. o.steps) word, word-within capacities p v);
          first = omega (arith, first, first-within capacities set p values starts accepted);
        };
      }
