-- Document 01, "The program text": commands, K, their spellings, the list of three numbers a command, pairs that are open, and blocks.
use Rattle.std.specs.Prelude.{cond, List, [], ◌∷◌, ◌++◌, ℕ, suc, max, eqb}
use Rattle.std.proofs.Math.Option.{Option, none, some, map}
use Rattle.theory.specs.Basics.{given, or_else, and_then, present}
use Rattle.theory.specs.Text.{Bytes, bytes, LF, following, same, name, Notation, by_digits, name_by}

-- Commands

-- `clear i` is `Xi <- 0`, `increment i` is `Xi <- Xi + 1`, `copy i j` is `Xi <- Xj`
pub data Plain : Type 0 where
  clear : ℕ → Plain
  increment : ℕ → Plain
  copy : ℕ → ℕ → Plain

pub data Kind : Type 0 where
  loop while : Kind

-- A line: a plain command, or the opening or closing line of a pair on a variable
pub data Command : Type 0 where
  plain : Plain → Command
  opens : Kind → ℕ → Command
  closes : Kind → ℕ → Command

-- The indices that a command names. "Increment names one variable twice": it is one index
abbrev pub indices : Command → List ℕ
indices (plain (clear i)) = i ∷ []
indices (plain (increment i)) = i ∷ []
indices (plain (copy i j)) = i ∷ j ∷ []
indices (opens k i) = i ∷ []
indices (closes k i) = i ∷ []

-- The highest plus 1, or 0
abbrev pub above : List ℕ → ℕ
above [] = 0
above (i ∷ l) = max (suc i) (above l)

-- "K is the highest index named plus 1, or 0": the number of variables
abbrev pub variables : List Command → ℕ
variables [] = 0
variables (c ∷ p) = max (above (indices c)) (variables p)

-- "The spellings, single blanks only", by the notation of each name (document 02): "One line … may spell their variable both ways"
abbrev pub spelling_by : Notation → Notation → Command → Bytes
spelling_by v w (plain (clear i)) = name_by v i ++ bytes " <- 0"
spelling_by v w (plain (increment i)) = name_by v i ++ (bytes " <- " ++ (name_by w i ++ bytes " + 1"))
spelling_by v w (plain (copy i j)) = name_by v i ++ (bytes " <- " ++ name_by w j)
spelling_by v w (opens loop i) = bytes "loop " ++ name_by v i
spelling_by v w (closes loop i) = bytes "endloop " ++ name_by v i
spelling_by v w (opens while i) = bytes "while " ++ (name_by v i ++ bytes " != 0")
spelling_by v w (closes while i) = bytes "endwhile " ++ (name_by v i ++ bytes " != 0")

-- Writing: "The writer always uses digits"
unfoldable pub spelling : Command → Bytes
spelling c = spelling_by by_digits by_digits c

-- A program as text: "Each line is one command and ends in LF"
unfoldable pub text_of : List Command → Bytes
text_of [] = []
text_of (c ∷ p) = spelling c ++ (LF ∷ text_of p)

-- Reading: a line that is exactly a name between two given texts; one that is exactly two names around " <- ", and a given text
unfoldable pub around : Bytes → Bytes → Bytes → Option ℕ
around front back t = and_then (following front t) λ u. and_then (name u) λ f. given (same back f.rest) f.value

unfoldable pub assigns : Bytes → Bytes → Option (ℕ × ℕ)
assigns back t =
    and_then (name t) λ f.
    and_then (following (bytes " <- ") f.rest) λ u.
    and_then (name u) λ g.
    given (same back g.rest) (f.value, g.value)

-- The command that a line spells, its indices of any size; none where it is none of the spellings (rule 4)
unfoldable pub command : Bytes → Option Command
command t =
    or_else (map (λ i. plain (clear i)) (around (bytes "") (bytes " <- 0") t))
    (or_else (and_then (assigns (bytes " + 1") t) λ ij. given (eqb ij.0 ij.1) (plain (increment ij.0)))
    (or_else (map (λ ij. plain (copy ij.0 ij.1)) (assigns (bytes "") t))
    (or_else (map (opens loop) (around (bytes "loop ") (bytes "") t))
    (or_else (map (closes loop) (around (bytes "endloop ") (bytes "") t))
    (or_else (map (opens while) (around (bytes "while ") (bytes " != 0") t))
    (map (closes while) (around (bytes "endwhile ") (bytes " != 0") t)))))))

-- The list: "three numbers a command: kind 1 to 7 in the order of the spellings, index, and a copy's source index (else 0)"
abbrev pub numbers : Command → List ℕ
numbers (plain (clear i)) = 1 ∷ i ∷ 0 ∷ []
numbers (plain (increment i)) = 2 ∷ i ∷ 0 ∷ []
numbers (plain (copy i j)) = 3 ∷ i ∷ j ∷ []
numbers (opens loop i) = 4 ∷ i ∷ 0 ∷ []
numbers (closes loop i) = 5 ∷ i ∷ 0 ∷ []
numbers (opens while i) = 6 ∷ i ∷ 0 ∷ []
numbers (closes while i) = 7 ∷ i ∷ 0 ∷ []

unfoldable pub list_of : List Command → List ℕ
list_of [] = []
list_of (c ∷ p) = numbers c ++ list_of p

-- "a wrong kind, a nonzero third number where none belongs": none
abbrev pub command_of_kind : ℕ → ℕ → Option Command
command_of_kind k i =
    cond (eqb k 1) (some (plain (clear i)))
    (cond (eqb k 2) (some (plain (increment i)))
    (cond (eqb k 4) (some (opens loop i))
    (cond (eqb k 5) (some (closes loop i))
    (cond (eqb k 6) (some (opens while i))
    (cond (eqb k 7) (some (closes while i)) none)))))

unfoldable pub command_of : ℕ → ℕ → ℕ → Option Command
command_of k i j = cond (eqb k 3) (some (plain (copy i j))) (cond (eqb j 0) (command_of_kind k i) none)

-- The commands of a list; "a last command cut short (still counted)" is none. Of a list that is accepted they are its program
unfoldable pub listed : List ℕ → List (Option Command)
listed [] = []
listed (k ∷ []) = none ∷ []
listed (k ∷ i ∷ []) = none ∷ []
listed (k ∷ i ∷ j ∷ l) = command_of k i j ∷ listed l

unfoldable pub commands : List ℕ → List Command
commands l = present (listed l)

-- Pairs that are open, the innermost first: the line that opened each, its kind and its variable
pub record Opening : Type 0 where
  pub line : ℕ
  pub kind : Kind
  pub index : ℕ

-- The pairs open after line n, by those open before it
abbrev pub open_next : ℕ → List Opening → Command → List Opening
open_next n os (plain c) = os
open_next n os (opens k i) = record { line = n; kind = k; index = i } ∷ os
open_next n [] (closes k i) = []
open_next n (o ∷ os) (closes k i) = os

-- "A block is lines and pairs; a pair holds a block, which may be empty": nothing; a plain line and the rest; a pair with its body, and
-- the rest
pub data Block : Type 0 where
  empty : Block
  single : Plain → Block → Block
  pair : Kind → ℕ → Block → Block → Block

abbrev pub lines : Block → List Command
lines empty = []
lines (single c b) = plain c ∷ lines b
lines (pair k i body b) = opens k i ∷ (lines body ++ (closes k i ∷ lines b))

-- A program's blocks, read from its last line to its first: the block that begins here, and those that follow each pair open here. So of
--   loop X0          first: a pair of the block of line 2, and nothing after it    later: none
--   X1 <- X1 + 1     first: the increment                                          later: the empty block after the pair
--   endloop X0       first: the empty block, that ends the body                    later: the empty block after the pair
pub record Blocks : Type 0 where
  pub first : Block
  pub later : List Block

abbrev pub opened_by : Kind → ℕ → Block → List Block → Blocks
opened_by k i b [] = record { first = pair k i b empty; later = [] }
opened_by k i b (b' ∷ bs) = record { first = pair k i b b'; later = bs }

unfoldable pub blocks : List Command → Blocks
blocks [] = record { first = empty; later = [] }
blocks (plain c ∷ p) = let r = blocks p in record { first = single c r.first; later = r.later }
blocks (opens k i ∷ p) = let r = blocks p in opened_by k i r.first r.later
blocks (closes k i ∷ p) = let r = blocks p in record { first = empty; later = r.first ∷ r.later }

-- The block of a program; of one that is well-nested `lines` gives the program again
unfoldable pub block_of : List Command → Block
block_of p = (blocks p).first
