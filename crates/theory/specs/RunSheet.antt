-- Document 01, "Run sheet and run tool": the lines of a run sheet. What the run tool prints is in RunTool, after the rules.
use Rattle.std.specs.Prelude.{Bool, true, false, cond, not, ◌&&◌, ◌||◌, List, [], ◌∷◌, map, ℕ, eqb}
use Rattle.std.proofs.Math.Option.{Option, none, some}
use Rattle.theory.specs.Basics.{and_then, every}
use Rattle.theory.specs.Text.{Bytes, Found, numeral, name, fields}

-- What is exactly one thing, with nothing after it
abbrev pub whole : Option (Found ℕ) → Option ℕ
whole o = and_then o λ f. elim f.rest [ [] ↦ some f.value | b ∷ t ↦ none ]

-- "a line of names (`X1 X2`)"; "lines of values in that order, single blanks, no leading zeros". None where a line has the wrong shape
unfoldable pub names : Bytes → Option (List ℕ)
names l = every (map (λ f. whole (name f)) (fields l))

unfoldable pub values : Bytes → Option (List ℕ)
values l = every (map (λ f. whole (numeral f)) (fields l))

abbrev pub occurs : ℕ → List ℕ → Bool
occurs i [] = false
occurs i (j ∷ l) = eqb i j || occurs i l

abbrev pub distinct : List ℕ → Bool
distinct [] = true
distinct (i ∷ l) = not (occurs i l) && distinct l

-- The values that a line starts its run at: "Unnamed variables start at 0"
unfoldable pub start : List ℕ → List ℕ → ℕ → ℕ
start [] vs i = 0
start (n ∷ ns) [] i = 0
start (n ∷ ns) (v ∷ vs) i = cond (eqb i n) v (start ns vs i)
