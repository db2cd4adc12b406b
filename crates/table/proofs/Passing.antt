-- Tables of numbers that plainly pass: what the tests of each number come to.
use mathlib.Core.Path.{◌≡◌}
use mathlib.Core.Bool.{true}
use mathlib.Core.List.{List, [], ◌∷◌}
use Prim.Native.Nat.{ℕ, suc, ◌+◌, ◌*◌, ◌≤◌, ◌<◌}
use native.Mathlib.Omega.{arith}
use borrow.Author.Tests.{le-leb, leb-true, ne_eqb}
use lib.Dec.{leb}
use lib.ListN.{length, get_or}
use Rattle.theory.specs.Basics.{sum}
use Rattle.theory.specs.Machines.{is_limited}
use Rattle.theory.proofs.Faults.{and_first, and_second}
use Rattle.theory.proofs.Words.{entry}
use Rattle.word.specs.Answers.{zipped}
use Rattle.tally.specs.Tallies.{is_good}
use Rattle.table.specs.Tables.{IsKind, AllGood}
use Rattle.text.proofs.Runs.{leading_pass, leading_nil}

pub kind-limits : (k : ℕ) → is_limited 5 k ≡ true → IsKind k
kind-limits k h = record { first = leb-true 1 k (and_first _ _ h); last = leb-true k 5 (and_second (leb 1 k) _ h) }

good_entry : (k n : ℕ) → IsKind k → 1 ≤ n → is_good (entry n k) ≡ true
good_entry k n h l = rw (le-leb 1 k h.first, le-leb k 5 h.last, ne_eqb n 0 (λ e. omega (arith, e, l)))

pub numbers_good : (ks ns : List ℕ) → length ks ≡ length ns → ((j : ℕ) → j < length ks → IsKind (get_or ks j 0))
    → ((j : ℕ) → j < length ns → 1 ≤ get_or ns j 0) → AllGood (sum ns + 5 * length ks) (zipped ks ns)
unfolding zipped
numbers_good [] [] e k n = record { each = leading_nil is_good; symbols = omega arith }
numbers_good [] (m ∷ ns) e k n = absurd (omega arith)
numbers_good (x ∷ ks) [] e k n = absurd (omega arith)
numbers_good (x ∷ ks) (m ∷ ns) e k n =
    let first : IsKind x = k 0 (omega arith) in
    let rest = numbers_good ks ns (omega arith) (λ j l. k (suc j) (omega arith)) (λ j l. n (suc j) (omega arith)) in
    record {
      each = omega (arith, leading_pass is_good (entry m x) (zipped ks ns) (good_entry x m first (n 0 (omega arith))), rest.each);
      symbols = omega (arith, first.last, rest.symbols);
    }
