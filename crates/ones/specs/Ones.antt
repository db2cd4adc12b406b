-- Registers that hold 1s alone, each of which is its length: whether a memory has only such, and its store laid anew from the lengths.
use Rattle.std.specs.Prelude.{Bool, ◌&&◌, List, [], ◌∷◌, ◌++◌, ℕ, suc, ◌-◌, eqb, get_or, take, drop, replicate}
use Rattle.std.proofs.lemmas.List.Edits.{sets}
use Rattle.theory.specs.Basics.{all, all_below}
use Rattle.theory.specs.Text.{Bytes}
use Rattle.theory.specs.Word.{one, byte_of}
use Rattle.theory.specs.Machines.{Memory, count, place_of, is_memory}

-- Every symbol of register i + 1 is a 1
abbrev pub is_ones : Memory → ℕ → Bool
is_ones m i = all (eqb (byte_of one)) (take (get_or m.lengths i 0) (place_of m (suc i)))

-- Every symbol of every register is
unfoldable pub only_ones : Memory → Bool
only_ones m = all_below (count m) (is_ones m)

unfoldable pub holds_ones : Memory → Bool
holds_ones m = is_memory m && only_ones m

-- A place of a register that held as many 1s as `before` and now holds as many as `after`: 1s where it grew, byte 0 where it fell. What
-- lies past the end of the place is not written
unfoldable pub relaid_place : ℕ → ℕ → Bytes → Bytes
relaid_place before after place = sets (sets place before (replicate (after - before) (byte_of one))) after (replicate (before - after) 0)

-- The places of a store, each of as many bytes as its capacity, as many as there are capacities and lengths of both kinds. What stands past
-- them stays as it is
unfoldable pub relaid : List ℕ → List ℕ → List ℕ → Bytes → Bytes
relaid [] before after store = store
relaid (c ∷ capacities) [] after store = store
relaid (c ∷ capacities) (b ∷ before) [] store = store
relaid (c ∷ capacities) (b ∷ before) (a ∷ after) store =
    relaid_place b a (take c store) ++ relaid capacities before after (drop c store)
