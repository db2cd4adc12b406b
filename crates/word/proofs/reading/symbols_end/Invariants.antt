-- `symbols_end` meets its contract. The loop's invariant: the symbols from here end where those from the start end.
use mathlib.Core.Path.{◌≡◌}
use Prim.Native.Nat.{◌+◌, ◌≤◌}
use lib.ListN.{length, drop}
use Rattle.word.specs.Scan.{symbols}
use Rattle.word.proofs.reading.symbols_end.Given as goal

abbrev pub invariant-loop-i : goal.invariant-loop-i
invariant-loop-i l = (l.i ≤ length l.word) × (symbols l.word ≡ l.i + symbols (drop l.i l.word))
