-- `item_at` meets its contract: the two runs are the definition's.
use mathlib.Core.Path.{◌≡◌, ap}
use mathlib.Core.List.{List}
use Prim.Native.Nat.{ℕ, ◌+◌, ◌-◌, min}
use native.Mathlib.Omega.{arith}
use lib.ListN.{drop}
use Rattle.word.specs.declared.answers.Item.{Item}
use Rattle.text.specs.Runs.{run}
use Rattle.word.specs.Scan.{kind_number, widest, item_at, ones_at, hashes_at}
use Rattle.word.proofs.reading.item_at.Goals as goal

the_item : (w : List ℕ) (at kind middle next : ℕ) → middle ≡ at + ones_at w at → next ≡ middle + run 35 (drop middle w)
    → kind ≡ kind_number (next - middle) → (operand : ℕ) → operand ≡ min (middle - at) widest
    → ◌≡◌ {A = Item} (record { kind = kind; operand = operand; next = next }) (item_at w at)
unfolding item_at
the_item w at kind middle next m e k operand o =
    let hs : run 35 (drop middle w) ≡ hashes_at w at = ap (λ (j : ℕ). run 35 (drop j w)) m in
    let ones : middle - at ≡ ones_at w at = omega arith in
    let hashes : next - middle ≡ hashes_at w at = omega arith in
    let end : next ≡ at + ones_at w at + hashes_at w at = omega arith in
    rw (k, hashes, o, ones, end)

pub returns : goal.returns
returns c =
    let a = c.args in
    the_item a.word.now a.at _ _ _ c.run_end-middle.ensures c.run_end-next.ensures c.kind_of.ensures
    c.operand_of.result c.operand_of.ensures
