-- Document 01, "Translation": the word of a program, and the charges on its source's steps.
use Rattle.std.specs.Prelude.{cond, List, [], ◌∷◌, ◌++◌, ℕ, zero, suc, ◌+◌, ◌*◌, length, eqb}
use Rattle.std.proofs.Math.Option.{map}
use Rattle.theory.specs.Basics.{at, default}
use Rattle.theory.specs.Text.{Bytes}
use Rattle.theory.specs.ProgramText.{Plain, clear, increment, copy, Kind, loop, while, Command, plain, opens, closes, variables}
use Rattle.theory.specs.ProgramText.{Block, empty, single, pair, lines, block_of}
use Rattle.theory.specs.Runs.{register}
use Rattle.theory.specs.Source.{State, deeper, passes_after}
use Rattle.theory.specs.Word.{one, Instruction, append, forward, backward, cases, spell, bytes_of}

-- "Scratch t is register K+1. A loop inside d enclosing loops (WHILEs not counted) has counter c = K+2+d"
abbrev pub scratch : ℕ → ℕ
scratch K = K + 1

abbrev pub counter : ℕ → ℕ → ℕ
counter K d = K + 2 + d

-- "Clear: C a, F2, B2"
abbrev pub clearing : ℕ → List Instruction
clearing a = cases a ∷ forward 2 ∷ backward 2 ∷ []

-- C a, F4, +b, +t, B4: the 1s of a go to b and to t
abbrev pub sharing : ℕ → ℕ → ℕ → List Instruction
sharing a b t = cases a ∷ forward 4 ∷ append one b ∷ append one t ∷ backward 4 ∷ []

-- C t, F3, +a, B3: the 1s of t go back to a
abbrev pub returning : ℕ → ℕ → List Instruction
returning t a = cases t ∷ forward 3 ∷ append one a ∷ backward 3 ∷ []

-- "Copy of a into itself: C a, F2, +a"
abbrev pub touching : ℕ → List Instruction
touching a = cases a ∷ forward 2 ∷ append one a ∷ []

-- "Copy into b from a, different: C b, F2, B2, C a, F4, +b, +t, B4, C t, F3, +a, B3"
abbrev pub copying : ℕ → ℕ → ℕ → List Instruction
copying a b t = clearing b ++ (sharing a b t ++ returning t a)

-- A plain line of a program of K variables. "Increment: +a"
abbrev pub plain_code : ℕ → Plain → List Instruction
plain_code K (clear i) = clearing (register i)
plain_code K (increment i) = append one (register i) ∷ []
plain_code K (copy i j) = cond (eqb i j) (touching (register j)) (copying (register j) (register i) (scratch K))

-- What stands before and after a pair's body of m instructions, inside d loops.
-- "LOOP: C a, F4, +c, +t, B4, C t, F3, +a, B3, C c, F(m+2), body, B(m+2). WHILE: C a, F(m+3), +a, body, B(m+3)"
abbrev pub before_body : ℕ → ℕ → Kind → ℕ → ℕ → List Instruction
before_body K d loop i m =
    sharing (register i) (counter K d) (scratch K) ++ (returning (scratch K) (register i) ++ (cases (counter K d) ∷ forward (m + 2) ∷ []))
before_body K d while i m = cases (register i) ∷ forward (m + 3) ∷ append one (register i) ∷ []

abbrev pub after_body : Kind → ℕ → Instruction
after_body loop m = backward (m + 2)
after_body while m = backward (m + 3)

-- A block that stands inside d loops
unfoldable pub code : ℕ → ℕ → Block → List Instruction
code K d empty = []
code K d (single c b) = plain_code K c ++ code K d b
code K d (pair k i body b) =
    let inner = code K (deeper k d) body in
    before_body K d k i (length inner) ++ (inner ++ (after_body k (length inner) ∷ code K d b))

-- "The word starts with F1, and the program's lines and pairs follow in their order"
unfoldable pub word : Block → List Instruction
word b = forward 1 ∷ code (variables (lines b)) 0 b

unfoldable pub word_of : List Command → List Instruction
word_of p = word (block_of p)

unfoldable pub word_text : List Command → Bytes
word_text p = bytes_of (spell (word_of p))

-- Charges: "Each goes by the values before its step, `endloop` by the passes left after the fall"

-- "`loop` 7k+5, or 6 if k is 0"
abbrev pub loop_charge : ℕ → ℕ
loop_charge zero = 6
loop_charge (suc k) = 7 * suc k + 5

-- "`endloop` 2 if passes remain, else 3"
abbrev pub endloop_charge : ℕ → ℕ
endloop_charge zero = 3
endloop_charge (suc k) = 2

-- "increment 1; clear of y 2y+2; copy of x over y 2y+7x+6; copy to itself 2; … `while` 2; `endwhile` 1"
abbrev pub command_charge : List Command → State → Command → ℕ
command_charge p s (plain (clear i)) = 2 * s.values i + 2
command_charge p s (plain (increment i)) = 1
command_charge p s (plain (copy i j)) = cond (eqb i j) 2 (2 * s.values i + 7 * s.values j + 6)
command_charge p s (opens loop i) = loop_charge (s.values i)
command_charge p s (closes loop i) = endloop_charge (passes_after p s)
command_charge p s (opens while i) = 2
command_charge p s (closes while i) = 1

-- The charge of the step that a state is about to do
unfoldable pub charge : List Command → State → ℕ
charge p s = default 0 (map (command_charge p s) (at p s.line))
