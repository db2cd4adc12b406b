-- Where a block stands in an accepted list, what its code counts, and that it was written.
use Rattle.std.specs.Prelude.{◌≡◌, Bool, true, false, List, [], ◌∷◌, ◌++◌, ℕ, suc, ◌+◌, ◌*◌, ◌≤◌, ◌<◌, max, length, drop, get_or}
use Rattle.theory.specs.Limits
use Rattle.theory.specs.ProgramText.{Command, numbers, variables, Block, empty, single, pair, lines, blocks, commands}
use Rattle.theory.specs.Word.{Instruction}
use Rattle.theory.specs.Translation.{code}
use Rattle.theory.specs.TurnedDown.{done, read_list}
use Rattle.command.specs.declared.Numbers.{Numbers}
use Rattle.emit.specs.Pieces.{Written}
use Rattle.lengths.specs.Lengths.{length_of}
use Rattle.lengths.specs.declared.Length.{Length}
use Rattle.translation.specs.declared.sizes.Extent.{Extent}
use Rattle.translation.specs.declared.writing.Spot.{Spot}

-- The three numbers of line n of a list, from 0
abbrev pub numbers_at : List ℕ → ℕ → Numbers
numbers_at list n = record { kind = get_or list (3 * n) 0; index = get_or list (3 * n + 1) 0; source = get_or list (3 * n + 2) 0 }

-- They are those of a command
abbrev pub Says : Numbers → Command → Type 0
Says l c = numbers c ≡ l.kind ∷ l.index ∷ l.source ∷ []

-- The block that begins at line n of a list's program, from 0
unfoldable pub block_at : List ℕ → ℕ → Block
block_at list n = (blocks (drop n (commands list))).first

-- Whether a block has a first line or pair; that alone; and what follows it
abbrev pub goes_on : Block → Bool
goes_on empty = false
goes_on (single c b) = true
goes_on (pair k i body b) = true

abbrev pub first : Block → Block
first empty = empty
first (single c b) = single c empty
first (pair k i body b) = pair k i body empty

abbrev pub rest : Block → Block
rest empty = empty
rest (single c b) = b
rest (pair k i body b) = b

-- How many pairs are open together inside a block, at most
abbrev pub pairs_deep : Block → ℕ
pairs_deep empty = 0
pairs_deep (single c b) = pairs_deep b
pairs_deep (pair k i body b) = max (suc (pairs_deep body)) (pairs_deep b)

-- An accepted list of so many lines
pub record Accepts (list : List ℕ) (count : ℕ) : Type 0 where
  pub read : read_list list ≡ done (commands list)
  pub counts : count ≡ length (commands list)

-- And of so many variables
pub record Known (list : List ℕ) (count K : ℕ) : Type 0 where
  pub accepts : Accepts list count
  pub names : K ≡ variables (commands list)

-- A block of such a list begins at line `at`, inside d loops, in a program of K variables. After it the list ends or a pair closes
pub record Site (list : List ℕ) (count K d at : ℕ) : Type 0 where
  pub known : Known list count K
  pub within : at ≤ count
  pub later : List Command
  pub split : drop at (commands list) ≡ lines (block_at list at) ++ later
  pub stops : (blocks later).first ≡ empty
  pub room : d + pairs_deep (block_at list at) ≤ Limits.most_open

-- The length of some instructions, up to a line
pub record Counted (w : List Instruction) (next : ℕ) (e : Extent) : Type 0 where
  pub size : e.size ≡ length_of w
  pub ended : e.next ≡ next

-- So is that of the code of a block that begins at line `at`, inside d loops
abbrev pub Counts : ℕ → ℕ → ℕ → Block → Extent → Type 0
Counts K d at b e = Counted (code K d b) (at + length (lines b)) e

-- One after the other
abbrev pub join : Length → Length → Length
join a b = record { instructions = a.instructions + b.instructions; symbols = a.symbols + b.symbols }

-- The instructions of the body of the pair that opens at line n are noted in `bodies`, if a pair does
abbrev pub Note : List ℕ → ℕ → List ℕ → ℕ → Type 0
Note list K bodies n =
    goes_on (block_at list n) ≡ true → 3 < (numbers_at list n).kind → (d : ℕ) → get_or bodies n 0 ≡ length (code K d (block_at list (n + 1)))

-- So they are at every one of so many lines
pub record Noted (list : List ℕ) (K count : ℕ) (bodies : List ℕ) : Type 0 where
  pub room : count ≤ length bodies
  pub notes : (n : ℕ) → n < count → Note list K bodies n

-- They were noted from one line to another, in `before`, which is then `after`; those before them are as they were
pub record Noting (list : List ℕ) (K from to : ℕ) (before after : List ℕ) : Type 0 where
  pub sized : length after ≡ length before
  pub kept : (n : ℕ) → n < from → get_or after n 0 ≡ get_or before n 0
  pub notes : (n : ℕ) → from ≤ n → n < to → Note list K after n

-- Some instructions were written, up to a line
pub record Wrote (w : List Instruction) (next place : ℕ) (before after : List ℕ) (s : Spot) : Type 0 where
  pub written : Written w place before after s.place
  pub ended : s.next ≡ next

-- So was the code of a block that begins at line `at`, inside d loops
abbrev pub Writes : ℕ → ℕ → ℕ → Block → ℕ → List ℕ → List ℕ → Spot → Type 0
Writes K d at b place before after s = Wrote (code K d b) (at + length (lines b)) place before after s
