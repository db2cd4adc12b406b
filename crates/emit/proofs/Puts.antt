-- Instructions put one after the other.
use mathlib.Core.List.{List, ◌++◌}
use mathlib.Core.List as L
use Prim.Native.Nat.{ℕ}
use Rattle.theory.specs.Word.{Instruction, entry_of}
use Rattle.instruction.proofs.Instructions.{spelt_then}
use Rattle.emit.specs.Pieces.{Written}

pub written_then : (u w : List Instruction) {l m n : List ℕ} {i j k : ℕ} → Written u i l m j → Written w j m n k → Written (u ++ w) i l n k
written_then u w p q = rw (L.map-append entry_of u w) (spelt_then p q)
