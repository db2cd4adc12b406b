-- Instructions as numbers: each entry that can be done is an instruction, and the word has one for each.
use mathlib.Core.Path.{◌≡◌, refl, ap}
use mathlib.Core.Option.{Option, some}
use mathlib.Core.List.{List, [], ◌∷◌}
use Prim.Native.Nat.{ℕ, zero, suc, ◌<◌}
use native.Mathlib.Omega.{arith}
use lib.ListN.{length, get_or, get_elem?}
use Rattle.theory.specs.Word as W
use Rattle.theory.specs.Word.{Entry, Instruction, instruction_of}
use Rattle.theory.specs.TurnedDown.{instructions}
use Rattle.theory.proofs.Words.{instruction_formed}
use Rattle.word.specs.Answers.{zipped}
use Rattle.underway.specs.Inside.{Usable}

-- An instruction of these numbers
abbrev pub Spelt : ℕ → ℕ → Option Instruction → Type 0
Spelt k n o = (i : Instruction) × (o ≡ some i) × (W.kind i ≡ k) × (W.operand i ≡ n)

usable_is : (registers k n : ℕ) → Usable registers k n → Spelt k n (instruction_of (record { kind = k; operand = n }))
usable_is registers k n u =
    let (i, is, same) = instruction_formed (record { kind = k; operand = n })
    (record { operand = u.some; kind = u.first; at_most = u.last }) in
    (i, is, ap (λ (e : Entry). e.kind) same, ap (λ (e : Entry). e.operand) same)

module _ (registers : ℕ) where
  -- each entry of the two lists can be done
  Each : List ℕ → List ℕ → Type 0
  Each ks ns = (i : ℕ) → i < length ks → Usable registers (get_or ks i 0) (get_or ns i 0)

  later : (k n : ℕ) (ks ns : List ℕ) → Each (k ∷ ks) (n ∷ ns) → Each ks ns
  unfolding Each
  later k n ks ns h i l = h (suc i) (omega arith)

  pub instructions-length : (ks ns : List ℕ) → length ks ≡ length ns
      → ((i : ℕ) → i < length ks → Usable registers (get_or ks i 0) (get_or ns i 0)) → length (instructions (zipped ks ns)) ≡ length ks
  unfolding zipped Each
  instructions-length [] [] e h = refl
  instructions-length [] (n ∷ ns) e h = absurd (omega arith)
  instructions-length (k ∷ ks) [] e h = absurd (omega arith)
  instructions-length (k ∷ ks) (n ∷ ns) e h =
      let (i, same, _, _) = usable_is registers k n (h 0 (omega arith)) in
      rw same (ap suc (instructions-length ks ns (omega arith) (later k n ks ns h)))

  pub instructions-at : (ks ns : List ℕ) → length ks ≡ length ns
      → ((i : ℕ) → i < length ks → Usable registers (get_or ks i 0) (get_or ns i 0))
      → (i : ℕ) → i < length ks → Spelt (get_or ks i 0) (get_or ns i 0) (get_elem? (instructions (zipped ks ns)) i)
  unfolding zipped Each
  instructions-at [] ns e h i l = absurd (omega arith)
  instructions-at (k ∷ ks) [] e h i l = absurd (omega arith)
  instructions-at (k ∷ ks) (n ∷ ns) e h zero l =
      let (i, same, is-k, is-n) = usable_is registers k n (h 0 (omega arith)) in
      rw same (i, refl, is-k, is-n)
  instructions-at (k ∷ ks) (n ∷ ns) e h (suc j) l =
      let (i, same, _, _) = usable_is registers k n (h 0 (omega arith)) in
      rw same (instructions-at ks ns (omega arith) (later k n ks ns h) j (omega arith))
