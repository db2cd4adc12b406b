-- A drain: a loop of a word that each turn deletes a 1 of one register and appends a 1 to others. On registers that hold 1s alone, each of
-- which is then its length: how many turns can be done at once, and the lengths then.
use Rattle.std.specs.Prelude.{Bool, cond, not, ◌&&◌, List, [], ◌∷◌, ℕ, suc, ◌+◌, ◌-◌, ◌*◌, ◌/◌, min, eqb, leb, length, get_or, take, drop}
use Rattle.theory.specs.Basics.{all, cells}
use Rattle.theory.specs.Machines.{capacity_of}

-- From index i + 2 of a table of kinds and operands on: appends of 1, and at index i + n the step n back. Past the end of a list stands 0,
-- which is no kind and no such distance
unfoldable pub loops_back : List ℕ → List ℕ → ℕ → ℕ → Bool
loops_back kinds operands i n =
    leb 2 n
    && eqb (get_or kinds (i + n) 0) 4
    && eqb (get_or operands (i + n) 0) n
    && all (eqb 1) (take (n - 2) (drop (i + 2) kinds))

-- A drain: cases on a register at index i, then an instruction, any, that a 1 goes past, and then the appends, and back
unfoldable pub is_drain : List ℕ → List ℕ → ℕ → ℕ → Bool
is_drain kinds operands i n = eqb (get_or kinds i 0) 5 && loops_back kinds operands i n

-- The registers that it appends to, each as often as it does
abbrev pub targets : List ℕ → ℕ → ℕ → List ℕ
targets operands i n = take (n - 2) (drop (i + 2) operands)

-- How many 1s more register b may take: none where there is no such register, or it is register a, from which the loop deletes
unfoldable pub room_in : List ℕ → List ℕ → ℕ → ℕ → ℕ
room_in lengths capacities a b =
    cond (not (eqb b a) && leb b (length lengths)) (capacity_of capacities b - capacity_of lengths b) 0

-- m turns of k appends each, or as many as there is room for in each register of bs
unfoldable pub with_room : List ℕ → List ℕ → ℕ → ℕ → List ℕ → ℕ → ℕ
with_room lengths capacities a k [] m = m
with_room lengths capacities a k (b ∷ bs) m = with_room lengths capacities a k bs (min (room_in lengths capacities a b / k) m)

-- Turns of n steps each of a loop that deletes from register a and appends to bs: as many as a has 1s, as there are steps left for, and as
-- there is room for
unfoldable pub turns_of : List ℕ → List ℕ → ℕ → List ℕ → ℕ → ℕ → ℕ
turns_of lengths capacities a bs n left =
    with_room lengths capacities a (length bs) bs (min (capacity_of lengths a) (left / n))

-- How often r stands in bs
unfoldable pub times : ℕ → List ℕ → ℕ
times r [] = 0
times r (b ∷ bs) = cond (eqb r b) (suc (times r bs)) (times r bs)

-- The lengths after m turns: register a has m less, and every other m more for each time that bs names it
unfoldable pub poured : ℕ → List ℕ → ℕ → List ℕ → List ℕ
poured a bs m lengths =
    cells (length lengths) (λ i. cond (eqb (suc i) a) (get_or lengths i 0 - m) (get_or lengths i 0 + m * times (suc i) bs))

-- The turns that are done at once from index i on, none where no drain stands there; and the lengths then
unfoldable pub turns : List ℕ → List ℕ → List ℕ → List ℕ → ℕ → ℕ → ℕ → ℕ
turns lengths capacities kinds operands i n left =
    cond (is_drain kinds operands i n) (turns_of lengths capacities (get_or operands i 0) (targets operands i n) n left) 0

unfoldable pub lengths_then : List ℕ → List ℕ → List ℕ → List ℕ → ℕ → ℕ → ℕ → List ℕ
lengths_then lengths capacities kinds operands i n left =
    poured (get_or operands i 0) (targets operands i n) (turns lengths capacities kinds operands i n left) lengths
