-- What a run of a word or a table hands back is packed as the answer for which it stands, and stored where the machine is lent.
use mathlib.Core.Path.{◌≡◌, refl, ap, ◌∙◌}
use mathlib.Core.List.{List}
use Prim.Native.Nat.{ℕ}
use lib.IntN.{ℤ}
use Rattle.theory.specs.Text.{Bytes}
use Rattle.theory.specs.Runs.{Outcome}
use Rattle.theory.specs.Word as W
use Rattle.theory.specs.Word.{Entry}
use Rattle.theory.specs.Machines.{Memory, count}
use Rattle.theory.specs.TurnedDown.{Answer, done, refused, read_word_for, read_table_for, run_on}
use Rattle.memory.specs.Calls.{Called, position, handed, answered, word_called, table_called}
use Rattle.memory.specs.declared.answers.Position.{Position}
use Rattle.memory.specs.declared.answers.Run.{Run}
use Rattle.packing.specs.Packed.{packed, ending}
use Rattle.machine_packing.specs.Answered.{run_ended}
use Rattle.host.specs.Entries.{stands_at, RunsOn}

packs_run : (m : Memory) (at : Position) (a : Answer (Outcome W.State)) → run_ended (answered m at a).run.ended ≡ packed ending a
unfolding packed
packs_run m at (done o) = refl
packs_run m at (refused r) = refl

-- The calls of crate machine, as what was read, run
pub word_is : (m : Memory) (at : Position) (budget : ℕ) (word : Bytes)
    → word_called m at budget word ≡ answered m at (run_on m (position at) budget (read_word_for (count m) word))
unfolding word_called
word_is m at budget word = refl

pub table_is : (m : Memory) (at : Position) (budget : ℕ) (t : List Entry)
    → table_called m at budget t ≡ answered m at (run_on m (position at) budget (read_table_for (count m) t))
unfolding table_called
table_is m at budget t = refl

-- What comes back of a call, packed as n, with its place stored as z
pub runs_on : (m : Memory) (at : Position) (A : Answer (List Entry)) (budget : ℕ)
    (r : Run) (store : Bytes) (lengths : List ℕ) (n : ℕ) (z : ℤ)
    → handed r store lengths ≡ answered m at (run_on m (position at) budget A) → n ≡ run_ended r.ended → z ≡ r.position.place
    → RunsOn m at A budget n store lengths (stands_at z r.position.steps)
runs_on m at A budget r store lengths n z run ended back =
    let a : Answer (Outcome W.State) = run_on m (position at) budget A in
    record {
      result = ended ∙ ap (λ (x : Called). run_ended x.run.ended) run ∙ packs_run m at a;
      store_after = ap (λ (x : Called). x.store) run;
      lengths_after = ap (λ (x : Called). x.lengths) run;
      position_after = ap (λ (z : ℤ). stands_at z r.position.steps) back ∙ ap (λ (x : Called). x.run.position) run;
    }
