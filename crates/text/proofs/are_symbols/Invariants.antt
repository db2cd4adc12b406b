-- `are_symbols` meets its contract: what was seen so far and what the bytes from here on pass decide.
use mathlib.Core.Path.{◌≡◌}
use mathlib.Core.Bool.{◌&&◌}
use Prim.Native.Nat.{◌≤◌}
use lib.ListN.{length, drop}
use Rattle.theory.specs.Basics.{all}
use Rattle.theory.specs.Word.{is_symbol}
use Rattle.text.proofs.are_symbols.Given as goal

abbrev pub invariant-loop-byte : goal.invariant-loop-byte
invariant-loop-byte l = (l.byte-index ≤ length l.bytes) × (all is_symbol l.bytes ≡ (l.ok && all is_symbol (drop l.byte-index l.bytes)))
