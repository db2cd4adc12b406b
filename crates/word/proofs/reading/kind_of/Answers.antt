-- `kind_of` meets its contract: each of its ways out is a case of the definition.
use mathlib.Core.Path.{◌≡◌, refl}
use Prim.Native.Nat.{ℕ, zero, suc, ◌≤◌, ◌<◌}
use native.Mathlib.Omega.{arith}
use borrow.Author.Tests.{le-leb, lt-leb}
use Rattle.word.specs.Scan.{kind_number}
use Rattle.word.proofs.reading.kind_of.Goals as goal

few : (k : ℕ) → k ≤ 5 → k ≡ kind_number k
unfolding kind_number
few zero h = refl
few (suc k) h = rw (le-leb 1 (suc k) (omega arith), le-leb (suc k) 5 h)

many : (k : ℕ) → 5 < k → 0 ≡ kind_number k
unfolding kind_number
many k h = rw (le-leb 1 k (omega arith), lt-leb k 5 h)

pub returns-then-hashes : goal.returns-then-hashes
returns-then-hashes c = few c.args.hashes c.if-hashes.true

pub returns : goal.returns
returns c = many c.args.hashes c.if-hashes.false
