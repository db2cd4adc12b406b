-- An answer of one count is packed as the answer for which it stands: a list, by its length.
use Rattle.std.specs.Prelude.{Result, Ok, Err}
use mathlib.Core.Path.{◌≡◌}
use mathlib.Core.List.{List}
use Prim.Native.Nat.{ℕ}
use lib.ListN.{length}
use Rattle.theory.specs.TurnedDown.{Answer, done, refused}
use Rattle.theory.specs.declared.Refusal.{Refusal}
use Rattle.packing.specs.Packed.{packed, count, counted}

pub packs_counted : {A : Type 0} (f : Answer (List A) → Result ℕ Refusal) → ((l : List A) → f (done l) ≡ Ok (length l))
    → ((r : Refusal) → f (refused r) ≡ Err r) → (a : Answer (List A)) → counted (f a) ≡ packed count a
unfolding packed
packs_counted f on_done on_refused (done l) = rw (on_done l)
packs_counted f on_done on_refused (refused r) = rw (on_refused r)
