-- The numbers of a text's lines, as they are read into a list.
use Rattle.std.specs.Prelude.{◌≡◌, List, [], ◌∷◌, ℕ, ◌+◌, ◌*◌, ◌≤◌, length, take}
use Rattle.std.proofs.lemmas.List.Edits.{sets}
use Rattle.theory.specs.Text.{Bytes, split_lines}
use Rattle.theory.specs.ProgramText.{command}
use Rattle.command.specs.Lines.{numbered}
use Rattle.command.specs.declared.Numbers.{Numbers}

-- The numbers of lines, three a line
unfoldable pub all_numbers : List Bytes → List ℕ
all_numbers [] = []
all_numbers (l ∷ ls) = let n = numbered (command l) in n.kind ∷ n.index ∷ n.source ∷ all_numbers ls

-- Three numbers stand at a place of a list, where it has room for them
abbrev pub Stored : Numbers → ℕ → List ℕ → List ℕ → Type 0
Stored n at before after = at + 3 ≤ length before → after ≡ sets before at (n.kind ∷ n.index ∷ n.source ∷ [])

-- A text has r lines, and the numbers of all stand at the front of a list, where they are few enough for it
pub record Lined (t l : List ℕ) (r : ℕ) : Type 0 where
  pub count : r ≡ length (split_lines t)
  pub size : length l ≡ 1536
  pub numbers : r ≤ 512 → take (3 * r) l ≡ all_numbers (split_lines t)
