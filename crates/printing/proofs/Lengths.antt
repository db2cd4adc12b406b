-- How long the parts of the report may be: a number, the name of an end, the line of a row.
use mathlib.Core.Path.{◌≡◌, refl}
use mathlib.Core.Bool.{Bool, true, false}
use mathlib.Core.List.{[], ◌∷◌}
use Prim.Native.Nat.{ℕ, zero, suc, ◌+◌, ◌/◌, ◌%◌, ◌^◌, ◌≤◌, ◌<◌}
use native.Mathlib.Nat.{div-lt_iff_lt-mul, pow-suc}
use native.Mathlib.Omega.{arith}
use lib.Dec.{ltb}
use lib.ListN.{length, length-append}
use borrow.Author.Tests.{ltb-true, ltb-false}
use Rattle.theory.specs.Text.{decimal}
use Rattle.theory.specs.RunTool.{end_name}
use Rattle.theory.specs.declared.End.{End}
use Rattle.theory.specs.declared.End.TheVariants.{Halted, Strayed, Spent, Full}
use Rattle.printing.specs.declared.Row.{Row}
use Rattle.printing.specs.Lines.{row_line, Within}
use Rattle.theory.proofs.Numerals.{decimal_small, decimal_large}

pub decimal_short : (k n : ℕ) → n < 10 ^ suc k → length (decimal n) ≤ suc k
decimal_short zero n h = rw (decimal_small n h) (omega arith)
decimal_short (suc k) n h =
    let tenth : n / 10 < 10 ^ suc k = (div-lt_iff_lt-mul {k = 10} {x = n} {y = 10 ^ suc k} (omega arith)).1 (rw (pow-suc 10 (suc k)) at h) in
    go (ltb n 10) refl (decimal_short k (n / 10) tenth)
  where
    go : (t : Bool) → ltb n 10 ≡ t → length (decimal (n / 10)) ≤ suc k → length (decimal n) ≤ suc (suc k)
    go true e f = rw (decimal_small n (ltb-true n 10 e)) (omega arith)
    go false e f = rw (decimal_large n (ltb-false n 10 e), length-append (decimal (n / 10)) ((48 + n % 10) ∷ [])) (omega arith)

-- "the steps", an X0 and a place are numbers of 64 bits at most
pub decimal_fits : (n : ℕ) → n < 2 ^ 64 → length (decimal n) ≤ 20
decimal_fits n h = decimal_short 19 n (omega arith)

pub end_short : (e : End) → length (end_name e) ≤ 7
end_short Halted = omega arith
end_short Strayed = omega arith
end_short Spent = omega arith
end_short Full = omega arith

pub row_short : (r : Row) → Within r → length (row_line r) ≤ 36
unfolding row_line
row_short r h =
    let source : length (decimal r.source.steps) ≤ 6 = decimal_short 5 r.source.steps (omega (arith, h.source)) in
    let word : length (decimal r.word.steps) ≤ 7 = decimal_short 6 r.word.steps (omega (arith, h.word)) in
    let first : length (decimal r.first) ≤ 4 = decimal_short 3 r.first (omega (arith, h.first)) in
    simp length-append (omega (arith, end_short r.source.end, end_short r.word.end))
