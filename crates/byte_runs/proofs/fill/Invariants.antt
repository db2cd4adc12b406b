-- `fill` meets its contract. The loop's invariant: the places passed hold the byte.
use mathlib.Core.Path.{◌≡◌}
use mathlib.Core.List.{◌++◌}
use lib.ListN.{drop, replicate}
use Rattle.byte_runs.proofs.fill.Given as goal

abbrev pub invariant-loop-place : goal.invariant-loop-place
invariant-loop-place l = l.part ≡ replicate l.place-index l.byte ++ drop l.place-index l.initial.part
