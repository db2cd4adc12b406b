-- One register's place: a symbol appended to what is laid out in it, the first one deleted; and the places that a store holds.
use mathlib.Core.Path.{◌≡◌, refl, sym, ap, ap₂, ◌∙◌}
use mathlib.Core.List.{List, [], ◌∷◌, ◌++◌, append_assoc}
use Prim.Native.Nat.{ℕ, zero, suc, ◌+◌, ◌-◌, ◌<◌}
use native.Mathlib.Omega.{arith}
use lib.ListN.{length, take, drop, get_or, set, replicate, length-append, length-map, length-replicate}
use lib.Seq.{set_at, take-add, append_snoc, get_or-take, get_or-drop, get_or-append_seam, take-append_seam}
use Rattle.theory.specs.Text.{Bytes}
use Rattle.theory.specs.Word.{Symbol, byte_of, bytes_of}
use Rattle.theory.specs.Machines as M
use Rattle.theory.specs.Machines.{offset, laid}
use Rattle.theory.proofs.GoodMemory.{place_in_store}
use Rattle.theory.proofs.Offsets.{offset-next}
use Rattle.registers.specs.Held.{Held}

-- One place

bytes-append : (xs ys : List Symbol) → bytes_of (xs ++ ys) ≡ bytes_of xs ++ bytes_of ys
bytes-append [] ys = refl
bytes-append (x ∷ xs) ys = ap {B = Bytes} (λ l. byte_of x ∷ l) (bytes-append xs ys)

pub laid-append : (capacity : ℕ) (xs : List Symbol) (x : Symbol) → length xs < capacity
    → set (laid capacity xs) (length xs) (byte_of x) ≡ laid capacity (xs ++ (x ∷ []))
laid-append capacity xs x h =
    let zeros : Bytes = replicate (capacity - suc (length xs)) 0 in
    let e : capacity - length xs ≡ suc (capacity - suc (length xs)) = omega arith in
    let d : capacity - length (xs ++ (x ∷ [])) ≡ capacity - suc (length xs) = omega (arith, length-append xs (x ∷ [])) in
    rw (e, d, bytes-append xs (x ∷ []), append_snoc (bytes_of xs) (byte_of x) zeros)
    (set_at (bytes_of xs) 0 zeros (byte_of x) (length xs) (length-map xs byte_of))

zeros_snoc : (n : ℕ) → replicate {A = ℕ} (suc n) 0 ≡ replicate {A = ℕ} n 0 ++ (0 ∷ [])
zeros_snoc zero = refl
zeros_snoc (suc n) = ap {B = Bytes} (λ l. 0 ∷ l) (zeros_snoc n)

pub get_d_front : (xs ys : Bytes) (k : ℕ) → k < length xs → get_or (xs ++ ys) k 0 ≡ get_or xs k 0
get_d_front xs ys k h =
    sym (get_or-take (length xs) (xs ++ ys) k 0 h) ∙ ap (λ (l : Bytes). get_or l k 0) (take-append_seam xs ys)

-- Without its first symbol: every byte one place further down, and byte 0 at the end
module _ (capacity : ℕ) (x : Symbol) (xs : List Symbol) (h : length xs < capacity) where
  rest : Bytes
  rest = bytes_of xs ++ replicate (capacity - suc (length xs)) 0

  rest-length : length rest ≡ capacity - 1
  unfolding rest
  rest-length = simp (length-append, length-map, length-replicate) (omega arith)

  shorter : laid capacity xs ≡ rest ++ (0 ∷ [])
  unfolding rest
  shorter =
      let e : capacity - length xs ≡ suc (capacity - suc (length xs)) = omega arith in
      rw (e, zeros_snoc (capacity - suc (length xs))) (sym (append_assoc (bytes_of xs) (replicate (capacity - suc (length xs)) 0) (0 ∷ [])))

  pub laid_next : (k : ℕ) → k + 1 < capacity → get_or (laid capacity (x ∷ xs)) (suc k) 0 ≡ get_or (laid capacity xs) k 0
  unfolding rest
  laid_next k l = sym (ap (λ (b : Bytes). get_or b k 0) shorter ∙ get_d_front rest (0 ∷ []) k (omega (arith, rest-length)))

  pub laid_last : get_or (laid capacity xs) (capacity - 1) 0 ≡ 0
  laid_last =
      ap (λ (b : Bytes). get_or b (capacity - 1) 0) shorter ∙ ap (λ (k : ℕ). get_or (rest ++ (0 ∷ [])) k 0) (sym rest-length)
      ∙ get_or-append_seam rest 0 [] 0

-- A store that holds registers, at register i, counted from 0
pub held_byte : {capacities : List ℕ} {f : ℕ → List Symbol} {store lengths : List ℕ} → Held capacities f store lengths
    → (i : ℕ) → i < length capacities → (k : ℕ) → k < get_or capacities i 0
    → get_or store (offset capacities (suc i) + k) 0 ≡ get_or (laid (get_or capacities i 0) (f (suc i))) k 0
held_byte {capacities} {f} {store} {lengths} h i l k m =
    let capacity : ℕ = get_or capacities i 0 in
    let from : ℕ = offset capacities (suc i) in
    sym (get_or-take capacity (drop from store) k 0 m ∙ get_or-drop from store k 0)
    ∙ ap (λ (s : Bytes). get_or (take capacity (drop from s)) k 0) h.stored
    ∙ ap (λ (p : Bytes). get_or p k 0) (place_in_store capacities f (length capacities) h.fits i l)

-- A store whose places are laid out is that of the registers
pub places-stored : (capacities : List ℕ) (f : ℕ → List Symbol) (store : Bytes) (n : ℕ)
    → ((i : ℕ) → i < n → take (get_or capacities i 0) (drop (offset capacities (suc i)) store) ≡ laid (get_or capacities i 0) (f (suc i)))
    → M.store_of capacities n f ≡ take (offset capacities (suc n)) store
unfolding M.store_of
places-stored capacities f store zero h = refl
places-stored capacities f store (suc n) h =
    ap₂ {C = Bytes} ◌++◌ (places-stored capacities f store n λ i l. h i (omega arith)) (sym (h n (omega arith)))
    ∙ rw (offset-next capacities n) (sym (take-add (offset capacities (suc n)) (get_or capacities n 0) store))
