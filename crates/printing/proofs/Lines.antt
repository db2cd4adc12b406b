-- Bounds on what is put, and the parts of a line.
use mathlib.Core.Path.{◌≡◌}
use mathlib.Core.List.{◌++◌, append_assoc}
use Prim.Native.Nat.{ℕ, ◌+◌, ◌≤◌}
use native.Mathlib.Omega.{arith}
use lib.ListN.{length}
use Rattle.theory.specs.Text.{Bytes, bytes, blank, LF}
use Rattle.theory.specs.declared.Refusal.{Refusal}
use Rattle.output.specs.Puts.{Put}
use Rattle.output.proofs.Puts.{put_then}
use Rattle.printing.specs.Lines.{Few, field, ended, row_line, refusal_line}
use Rattle.printing.specs.declared.Row.{Row}

-- A short text after a short text
pub few_then : {a b most : ℕ} {u v : Bytes} {i j k : ℕ} {l m n : Bytes} → a + b ≤ most
    → Few a u i l m j → Few b v j m n k → Few most (u ++ v) i l n k
few_then h f g = record { put = put_then f.put g.put; few = omega (arith, f.few, g.few) }

pub few_text : {most i k : ℕ} {u l n : Bytes} → Put u i l n k → length u ≤ most → Few most u i l n k
few_text p h = record { put = p; few = omega (arith, p.next) }

-- The line of a row, and of a refusal, by what is put one after another
pub row_parts : (r : Row) → row_line r ≡ ended r.source ++ (ended r.word ++ field r.first LF)
unfolding row_line
row_parts r = simp append_assoc

pub refusal_parts : (r : Refusal) → refusal_line r ≡ bytes "refused " ++ (field r.number blank ++ field r.place LF)
unfolding refusal_line
refusal_parts r = simp append_assoc
