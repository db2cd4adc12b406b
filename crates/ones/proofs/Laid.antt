-- Places laid anew: a run of bytes written in a place, and one place after the other.
use mathlib.Core.Path.{◌≡◌, refl, ◌∙◌}
use mathlib.Core.List.{List, [], ◌∷◌, ◌++◌, append-nil}
use Prim.Native.Nat.{ℕ, ◌-◌, ◌≤◌, min}
use native.Mathlib.Omega.{arith}
use borrow.Rule.Slice.PartMut.{put_mid}
use lib.ListN.{length, take, drop, replicate}
use lib.Seq.{sets, length-sets}
use Rattle.theory.specs.Text.{Bytes}
use Rattle.output.specs.Puts.{most, starting}
use Rattle.output.proofs.Puts.{put_part, put_past}
use Rattle.ones.specs.Ones.{relaid_place, relaid}

-- A run of one byte, from one byte of a place on and before another
module _ (l : Bytes) (from to byte : ℕ) where
  abbrev run : Bytes
  run = replicate (to - from) byte

  pub run_none : to ≤ from → l ≡ sets l from run
  run_none h = let none : to - from ≡ 0 = omega arith in rw none

  pub run_past : length l ≤ most → length l ≤ from → l ≡ sets l from run
  run_past h past = (put_past {u = run} h refl past).wrote

  pub run_part : length l ≤ most → (k : ℕ) {part : Bytes} → length l - from ≤ k
      → part ≡ starting (run ++ replicate 0 0) (take k (drop from l)) → put_mid from k l part ≡ sets l from run
  run_part h k end written = (put_part {u = run} h refl k end (rw (append-nil run) at written)).wrote

-- One place
module _ (before after : ℕ) (place : Bytes) where
  pub relaid_by : {old new : ℕ} {first second : Bytes} → old ≡ before → new ≡ after
      → first ≡ sets place old (replicate (new - old) 49) → second ≡ sets first new (replicate (old - new) 0)
      → second ≡ relaid_place before after place
  unfolding relaid_place
  relaid_by p q e f = rw (e, p, q) at f

  pub relaid-length : length (relaid_place before after place) ≡ length place
  unfolding relaid_place
  relaid-length =
      length-sets (sets place before (replicate (after - before) 49)) after (replicate (before - after) 0)
      ∙ length-sets place before (replicate (after - before) 49)

-- One place after the other, while there are a capacity and lengths of both kinds
pub relaid_end : (cs bs ns : List ℕ) → min (length cs) (min (length bs) (length ns)) ≡ 0 → (store : Bytes) → relaid cs bs ns store ≡ store
unfolding relaid
relaid_end [] bs ns h store = refl
relaid_end (c ∷ cs) [] ns h store = refl
relaid_end (c ∷ cs) (b ∷ bs) [] h store = refl
relaid_end (c ∷ cs) (b ∷ bs) (a ∷ ns) h store = absurd (omega arith)

pub relaid_goes : {cs bs ns cs' bs' ns' : List ℕ} {c b a : ℕ} → cs ≡ c ∷ cs' → bs ≡ b ∷ bs' → ns ≡ a ∷ ns' → (store : Bytes)
    → relaid cs bs ns store ≡ relaid_place b a (take c store) ++ relaid cs' bs' ns' (drop c store)
unfolding relaid
relaid_goes e f g store = rw (e, f, g)
