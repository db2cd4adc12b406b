-- `primes` meets its contract: the run of primes is counted.
use native.Mathlib.Omega.{arith}
use Rattle.numerals.proofs.Numbers.{primes_found}
use Rattle.numerals.proofs.primes.Goals as goal

pub returns : goal.returns
returns c = let a = c.args in
    rw c.run_end-end.ensures (primes_found a.text.now a.at a.most (omega arith) (omega arith))
