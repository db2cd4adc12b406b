-- Registers of 1s alone: a memory that has only such holds what its lengths give, and its store laid anew is that of the new lengths.
use mathlib.Core.Path.{◌≡◌, refl, sym, ap, ◌∙◌, fun_ext}
use mathlib.Core.Bool.{Bool, true, false}
use mathlib.Core.List.{List, [], ◌∷◌, ◌++◌, map, append_assoc, append-nil}
use Prim.Native.Nat.{ℕ, zero, suc, ◌+◌, ◌-◌, ◌≤◌, ◌<◌}
use native.Mathlib.Omega.{arith}
use borrow.Author.Tests.{ltb-true, ltb-false, eqb-true}
use lib.Dec.{eqb, ltb}
use lib.ListN.{length, take, drop, get_or, replicate, length-append, length-replicate, length-map, replicate-append-replicate}
use lib.ListN.{get_or-eq_default}
use lib.Seq.{sets, sets-eq, take_at, drop_at, ext_get_or}
use Rattle.theory.specs.Basics.{all}
use Rattle.theory.specs.Text.{Bytes}
use Rattle.theory.specs.Word.{Symbol, one, symbol_of}
use Rattle.theory.specs.Machines.{Memory, count, ones, laid, store_of, lengths_of, place_of, contents, is_memory}
use Rattle.theory.proofs.Faults.{and_first, and_second}
use Rattle.theory.proofs.GoodMemory.{Good, memory-is_good, all_below-at, length-laid, length-cells, get_or-cells}
use Rattle.theory.proofs.GoodMemory.{length-contents, contents_beyond}
use Rattle.registers.specs.Fresh.{fresh_registers}
use Rattle.registers.proofs.Filling.{one_bytes, length-ones, fresh-ones, fresh-length}
use Rattle.ones.specs.Ones.{is_ones, only_ones, holds_ones, relaid_place, relaid}

-- The lengths of registers of 1s are the lengths that give them
pub ones-counted : (l : List ℕ) → lengths_of (length l) (fresh_registers l) ≡ l
ones-counted l = ext_get_or 0 (lengths_of (length l) (fresh_registers l)) l size λ i h.
    get_or-cells (length l) (λ j. length (fresh_registers l (suc j))) 0 i (rw (← size) h) ∙ fresh-length l i
  where
    size : length (lengths_of (length l) (fresh_registers l)) ≡ length l
    size = length-cells (length l) λ j. length (fresh_registers l (suc j))

-- Bytes that are all 1s
read-ones : (b : Bytes) → all (eqb 49) b ≡ true → map symbol_of b ≡ ones (length b)
read-ones [] h = refl
read-ones (x ∷ b) h =
    let first : 49 ≡ x = eqb-true 49 x (and_first (eqb 49 x) (all (eqb 49) b) h) in
    rw (← first) (ap {B = List Symbol} (λ l. one ∷ l) (read-ones b (and_second (eqb 49 x) (all (eqb 49) b) h)))

-- A memory that holds 1s alone holds what its lengths give
module _ (m : Memory) (h : holds_ones m ≡ true) where
  ones_are : is_memory m ≡ true
  unfolding holds_ones
  ones_are = and_first (is_memory m) (only_ones m) h

  register-ones : (i : ℕ) → i < count m → is_ones m i ≡ true
  unfolding holds_ones only_ones
  register-ones = all_below-at (count m) (is_ones m) (and_second (is_memory m) (only_ones m) h)

  register_is : (i : ℕ) → contents m (suc i) ≡ fresh_registers m.lengths (suc i)
  register_is i = go (ltb i (count m)) refl
    where
      good : Good m
      good = memory-is_good m ones_are

      go : (t : Bool) → ltb i (count m) ≡ t → contents m (suc i) ≡ fresh_registers m.lengths (suc i)
      go true e =
          let below : i < count m = ltb-true i (count m) e in
          let place : Bytes = take (get_or m.lengths i 0) (place_of m (suc i)) in
          let size : length place ≡ get_or m.lengths i 0 = sym (length-map place symbol_of) ∙ length-contents m good i below in
          read-ones place (register-ones i below) ∙ ap {B = List Symbol} ones size ∙ sym (fresh-ones m.lengths i)
      go false e =
          let past : count m ≤ i = ltb-false i (count m) e in
          let none : get_or m.lengths i 0 ≡ 0 = get_or-eq_default m.lengths 0 {n = i} (rw good.lengths past) in
          contents_beyond m good i past ∙ sym (fresh-ones m.lengths i ∙ ap {B = List Symbol} ones none)

  all-registers : (r : ℕ) → contents m r ≡ fresh_registers m.lengths r
  all-registers zero = refl
  all-registers (suc i) = register_is i

pub ones-memory : (m : Memory) → holds_ones m ≡ true → (is_memory m ≡ true) × (contents m ≡ fresh_registers m.lengths)
ones-memory m h = (ones_are m h, fun_ext (all-registers m h))

-- A place of 1s, laid anew
laid-ones : (c n : ℕ) → laid c (ones n) ≡ replicate n 49 ++ replicate (c - n) 0
laid-ones c n = rw (one_bytes n, length-ones n)

-- A run written over the bytes between others
over : (front middle back new : Bytes) (n : ℕ) → length front ≡ n → length new ≡ length middle
    → sets (front ++ (middle ++ back)) n new ≡ front ++ (new ++ back)
over front middle back new n h k =
    let l : Bytes = front ++ (middle ++ back) in
    let size : length l ≡ n + (length middle + length back) =
    length-append front (middle ++ back) ∙ omega (arith, length-append middle back) in
    let end : length (front ++ middle) ≡ n + length new = length-append front middle ∙ omega arith in
    let past : drop (n + length new) l ≡ back =
    ap (drop (n + length new)) (sym (append_assoc front middle back)) ∙ drop_at (front ++ middle) back (n + length new) end in
    sets-eq new l n (omega arith) ∙ rw (take_at front (middle ++ back) n h, past) (append_assoc front new back)

-- Runs of one byte, cut in two
run_cut : (n k b : ℕ) → k ≤ n → replicate n b ≡ replicate k b ++ replicate (n - k) b
run_cut n k b h =
    let all : k + (n - k) ≡ n = omega arith in
    sym (replicate-append-replicate k (n - k) b ∙ ap (λ (m : ℕ). replicate m b) all)

module _ (c b a : ℕ) (few : b ≤ c) (few' : a ≤ c) where
  grown : b ≤ a → relaid_place b a (laid c (ones b)) ≡ laid c (ones a)
  unfolding relaid_place
  grown h =
      let none : b - a ≡ 0 = omega arith in
      let rest : c - b - (a - b) ≡ c - a = omega arith in
      let zeros : replicate {A = ℕ} (c - b) 0 ≡ replicate (a - b) 0 ++ replicate (c - a) 0
      = run_cut (c - b) (a - b) 0 (omega arith) ∙ rw rest in
      let same : length (replicate {A = ℕ} (a - b) 49) ≡ length (replicate {A = ℕ} (a - b) 0)
      = length-replicate {A = ℕ} (a - b) 49 ∙ sym (length-replicate {A = ℕ} (a - b) 0) in
      rw (none, laid-ones c b, laid-ones c a, zeros, run_cut a b 49 h)
      (over (replicate b 49) (replicate (a - b) 0) (replicate (c - a) 0) (replicate (a - b) 49) b (length-replicate {A = ℕ} b 49) same
      ∙ sym (append_assoc (replicate b 49) (replicate (a - b) 49) (replicate (c - a) 0)))

  fallen : a ≤ b → relaid_place b a (laid c (ones b)) ≡ laid c (ones a)
  unfolding relaid_place
  fallen h =
      let none : a - b ≡ 0 = omega arith in
      let rest : c - a - (b - a) ≡ c - b = omega arith in
      let zeros : replicate {A = ℕ} (c - a) 0 ≡ replicate (b - a) 0 ++ replicate (c - b) 0
      = run_cut (c - a) (b - a) 0 (omega arith) ∙ rw rest in
      let same : length (replicate {A = ℕ} (b - a) 0) ≡ length (replicate {A = ℕ} (b - a) 49)
      = length-replicate {A = ℕ} (b - a) 0 ∙ sym (length-replicate {A = ℕ} (b - a) 49) in
      rw (none, laid-ones c b, laid-ones c a, zeros, run_cut b a 49 h)
      (rw (append_assoc {A = ℕ} (replicate a 49) (replicate (b - a) 49) (replicate (c - b) 0))
      (over (replicate a 49) (replicate (b - a) 49) (replicate (c - b) 0) (replicate (b - a) 0) a (length-replicate {A = ℕ} a 49) same))

  place-relaid : relaid_place b a (laid c (ones b)) ≡ laid c (ones a)
  place-relaid = go (ltb b a) refl
    where
      go : (t : Bool) → ltb b a ≡ t → relaid_place b a (laid c (ones b)) ≡ laid c (ones a)
      go true e = let h : b < a = ltb-true b a e in grown (omega arith)
      go false e = fallen (ltb-false b a e)

-- A store of registers of 1s, from the first register on
store_first : (c : ℕ) (cs : List ℕ) (b : ℕ) (bs : List ℕ) (n : ℕ)
    → store_of (c ∷ cs) (suc n) (fresh_registers (b ∷ bs)) ≡ laid c (ones b) ++ store_of cs n (fresh_registers bs)
unfolding store_of
store_first c cs b bs zero = rw (fresh-ones (b ∷ bs) 0) (sym (append-nil (laid c (ones b))))
store_first c cs b bs (suc n) =
    rw (fresh-ones (b ∷ bs) (suc n), fresh-ones bs n, store_first c cs b bs n)
    (append_assoc (laid c (ones b)) (store_of cs n (fresh_registers bs)) (laid (get_or cs n 0) (ones (get_or bs n 0))))

pub ones-relaid : (capacities before after : List ℕ) → length before ≡ length capacities → length after ≡ length capacities
    → ((i : ℕ) → i < length capacities → (get_or before i 0 ≤ get_or capacities i 0) × (get_or after i 0 ≤ get_or capacities i 0))
    → relaid capacities before after (store_of capacities (length capacities) (fresh_registers before))
    ≡ store_of capacities (length capacities) (fresh_registers after)
unfolding relaid store_of
ones-relaid [] before after h k fits = refl
ones-relaid (c ∷ cs) [] after h k fits = absurd (omega arith)
ones-relaid (c ∷ cs) (b ∷ bs) [] h k fits = absurd (omega arith)
ones-relaid (c ∷ cs) (b ∷ bs) (a ∷ new) h k fits =
    let n : ℕ = length cs in
    let here = fits 0 (omega arith) in
    let place : Bytes = laid c (ones b) in
    let later : Bytes = store_of cs n (fresh_registers bs) in
    let size : length place ≡ c = length-laid c (ones b) (rw (length-ones b) here.0) in
    let rest = ones-relaid cs bs new (omega arith) (omega arith) (λ i l. fits (suc i) (omega arith)) in
    rw (store_first c cs b bs n, store_first c cs a new n, take_at place later c size, drop_at place later c size, rest)
    (ap {B = Bytes} (λ p. p ++ store_of cs n (fresh_registers new)) (place-relaid c b a here.0 here.1))
