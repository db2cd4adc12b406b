-- `spelling::put_around` meets its contract: three writes in a row.
use native.Mathlib.Omega.{arith}
use Rattle.output.proofs.Puts.{put_then}
use Rattle.spelling.proofs.put_around.Goals as goal

pub returns : goal.returns
returns c =
    let named = c.put-named.ensures in
    let rest = c.put_name-rest.ensures in
    let end = c.put.ensures in
    (put_then named.0 (put_then rest.0 end.0), omega (arith, named.1, rest.1, end.1))
