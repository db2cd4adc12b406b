-- How far a text goes on in one way: up to a byte, or along a run of one.
use Rattle.std.specs.Prelude.{Bool, cond, not, List, [], ◌∷◌, ℕ, suc, eqb}
use Rattle.theory.specs.Text.{Bytes}

-- How many stand at the front that pass the test
unfoldable pub leading : {A : Type 0} → (A → Bool) → List A → ℕ
leading f [] = 0
leading f (b ∷ l) = cond (f b) (suc (leading f l)) 0

abbrev pub is_byte : ℕ → ℕ → Bool
is_byte byte b = eqb b byte

abbrev pub is_other : ℕ → ℕ → Bool
is_other byte b = not (eqb b byte)

abbrev pub run : ℕ → Bytes → ℕ
run byte = leading (is_byte byte)

-- The bytes before the first that is a separator
abbrev pub before : ℕ → Bytes → ℕ
before separator = leading (is_other separator)
