-- A register's place, by its parts.
use mathlib.Core.Path.{◌≡◌}
use mathlib.Core.Bool.{true, false}
use mathlib.Core.List.{List}
use Prim.Native.Nat.{ℕ, ◌-◌, ◌≤◌, ◌<◌}
use native.Mathlib.Omega.{arith}
use borrow.Author.Tests.{le-leb, lt-leb}
use lib.Dec.{eqb}
use lib.ListN.{length, take, drop, length-drop}
use lib.Seq.{take_all}
use Rattle.theory.specs.Basics.{all}
use Rattle.theory.specs.Word.{is_symbol}
use Rattle.theory.specs.Machines.{is_laid}

-- A place of n symbols
module _ (p : List ℕ) (n : ℕ) where
  pub laid_short : length p < n → is_laid (length p) n p ≡ false
  laid_short h = rw (lt-leb n (length p) h)

  pub laid_other : n ≤ length p → all is_symbol (take n p) ≡ false → is_laid (length p) n p ≡ false
  laid_other h t = rw (le-leb n (length p) h, t)

  pub laid-rest : n ≤ length p → all is_symbol (take n p) ≡ true
      → is_laid (length p) n p ≡ all (eqb 0) (take (length p - n) (drop n p))
  laid-rest h t = rw (le-leb n (length p) h, t, take_all (length p - n) (drop n p) (omega (arith, length-drop n p)))
