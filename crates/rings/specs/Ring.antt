-- What the crate's own functions promise each other: registers as rings, inside a run, and put in order at its end.
use Rattle.std.specs.Prelude.{◌≡◌, Bool, true, false, cond, List, [], ◌∷◌, ◌++◌, ℕ, suc, ◌+◌, ◌-◌, ◌≤◌, ◌<◌, ltb, length, get_or}
use Rattle.theory.specs.Basics.{sum, put}
use Rattle.theory.specs.Text.{Bytes}
use Rattle.theory.specs.Word.{Symbol, byte_of}
use Rattle.theory.specs.Machines.{offset, laid, lengths_of}

-- A place in a ring of so many bytes, counted on past its end
unfoldable pub wrapped : ℕ → ℕ → ℕ
wrapped size k = cond (ltb k size) k (k - size)

-- From which byte each register has its place, as looked up in a list
pub record Offsets (capacities offsets : List ℕ) : Type 0 where
  pub enough : length capacities ≤ length offsets
  pub each : (i : ℕ) → i < length capacities → get_or offsets i 0 ≡ offset capacities (suc i)

-- The registers f, one for each capacity: each one's place, read as a ring from its start on, is laid out
pub record Ring (capacities : List ℕ) (f : ℕ → List Symbol) (store : Bytes) (lengths starts : List ℕ) : Type 0 where
  pub room : length store ≡ sum capacities
  pub enough : length capacities ≤ length starts
  pub counted : lengths ≡ lengths_of (length capacities) f
  pub fits : (i : ℕ) → i < length capacities → length (f (suc i)) ≤ get_or capacities i 0
  pub begins : (i : ℕ) → i < length capacities → get_or starts i 0 < get_or capacities i 0
  pub stored : (i : ℕ) → i < length capacities → (k : ℕ) → k < get_or capacities i 0
      → get_or store (offset capacities (suc i) + wrapped (get_or capacities i 0) (get_or starts i 0 + k)) 0
      ≡ get_or (laid (get_or capacities i 0) (f (suc i))) k 0

abbrev pub Ringed : List ℕ → Bytes → List ℕ → List ℕ → Type 0
Ringed capacities store lengths starts = (f : ℕ → List Symbol) × Ring capacities f store lengths starts

-- A call that appends x to register r, counted from 0, answers whether there was room
abbrev pub Appended : List ℕ → (ℕ → List Symbol) → ℕ → Symbol → Bool → Bytes → List ℕ → List ℕ → Type 0
Appended capacities f r x true store lengths starts =
    (length (f (suc r)) < get_or capacities r 0) × Ring capacities (put f (suc r) (f (suc r) ++ (x ∷ []))) store lengths starts
Appended capacities f r x false store lengths starts =
    (get_or capacities r 0 ≤ length (f (suc r))) × Ring capacities f store lengths starts

-- A call that deletes the first symbol of register r, counted from 0, which holds xs, answers its byte, or 0 where there is none
abbrev pub Deleted : List ℕ → (ℕ → List Symbol) → ℕ → List Symbol → ℕ → Bytes → List ℕ → List ℕ → Type 0
Deleted capacities f r [] b store lengths starts = (b ≡ 0) × Ring capacities f store lengths starts
Deleted capacities f r (x ∷ xs) b store lengths starts = (b ≡ byte_of x) × Ring capacities (put f (suc r) xs) store lengths starts

-- All starts are 0
pub record Zeros (registers : ℕ) (starts : List ℕ) : Type 0 where
  pub enough : registers ≤ length starts
  pub each : (i : ℕ) → i < registers → get_or starts i 0 ≡ 0
