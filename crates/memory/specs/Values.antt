-- The value of a word's run, after the call: stated here, proved in proofs/Values.antt.
use Rattle.std.specs.Prelude.{◌≡◌, ◌↔◌, true, List, ℕ, ◌≤◌}
use Rattle.std.proofs.Math.Option.{some}
use Rattle.theory.specs.Basics.{EachOf}
use Rattle.theory.specs.Word.{Symbol, Instruction, operand}
use Rattle.theory.specs.Machines.{Memory, count, Position, contents, refilled, is_memory, run_word}
use Rattle.theory.specs.Machines.{valued, HasValue, value_at, word_value}
use Rattle.theory.specs.Claims.{NamesAtMost}
use Rattle.theory.specs.declared.End.TheVariants.{Halted}

-- Where a run of a word that its machine can do ended as halted, the word's value is the one of the memory handed back, which `value` reads
abbrev pub HaltedValue : Type 0
HaltedValue = (w : List Instruction) (m : Memory) (p : Position) (budget : ℕ) → is_memory m ≡ true → EachOf (λ i. 1 ≤ operand i) w
    → EachOf (NamesAtMost (count m)) w → (run_word w m p budget).end ≡ Halted
    → let o = run_word w m p budget in
    word_value w (count m) o.state ≡ some (value_at (count m) (contents (refilled m o.state.registers)))

-- The test of a machine's registers is the paper's condition, on a machine that has no other registers
abbrev pub ValueOnASet : Type 0
ValueOnASet =
    (m : Memory) (xs : List Symbol) → is_memory m ≡ true → (value_at (count m) (contents m) ≡ valued xs) ↔ HasValue (contents m) xs
