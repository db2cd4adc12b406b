-- What a `?` hands on where a rule applied: the same refusal.
use Rattle.std.specs.Prelude.{◌≡◌, Result, Err, IsErr, IsErrAnd}
use Rattle.std.proofs.lemmas.Result.{err_from_is_err_and}

pub passed_on : {T E : Type 0} (r : Result T E) {x : E} → IsErr r × IsErrAnd r (λ y. y ≡ x) → r ≡ Err x
passed_on r h = let p = err_from_is_err_and r h.1 in rw (p.1, p.2)
