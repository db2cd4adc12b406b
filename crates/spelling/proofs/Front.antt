-- What stands at the front of an output after a write there.
use mathlib.Core.Path.{◌≡◌}
use Prim.Native.Nat.{ℕ, ◌<◌, ◌≤◌}
use native.Mathlib.Omega.{arith}
use lib.ListN.{length, take, drop}
use lib.Seq.{take-append_seam}
use Rattle.theory.specs.Text.{Bytes}
use Rattle.output.specs.Puts.{most, Put}
use Rattle.output.proofs.Puts.{sets-front}

-- Bytes put at the front of an output that has room for them are its first
pub put_front : {u l m : Bytes} {j : ℕ} → Put u 0 l m j → j ≤ length l → j < most → take j m ≡ u
put_front {u} {l} {m} {j} p h k =
    let all : j ≡ length u = omega (arith, p.next) in
    rw (all, p.wrote, sets-front l u (omega arith)) (take-append_seam u (drop (length u) l))
