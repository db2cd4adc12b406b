-- Document 02, request 7, "No shared labels": a word read from its left, by which its commands come out in their order. It reads the word
-- of every program; of instructions that are no program's word nothing is said.
use Rattle.std.specs.Prelude.{Bool, cond, not, ◌&&◌, List, [], ◌∷◌, ℕ, zero, suc, pred, length, drop, eqb}
use Rattle.std.proofs.Math.Option.{Option, none, some, map}
use Rattle.theory.specs.Basics.{at, default}
use Rattle.theory.specs.ProgramText.{Plain, clear, increment, copy, loop, while, Command, plain, opens, closes, Opening, open_next}
use Rattle.theory.specs.Word.{one, hash, Instruction, append, forward, backward, cases, kind, operand}
use Rattle.theory.specs.Translation.{plain_code, before_body}

-- The kind and the operand of the instruction at a place, 0 where there is none
abbrev pub kind_at : List Instruction → ℕ → ℕ
kind_at w n = default 0 (map kind (at w n))

abbrev pub operand_at : List Instruction → ℕ → ℕ
operand_at w n = default 0 (map operand (at w n))

-- "Variable i is register i+1"
abbrev pub variable : ℕ → ℕ
variable r = pred r

-- A line or a pair is known by how its code begins. K, which would tell variables from scratch and counters, is not asked:
--   increment             +a
--   copy into itself      C a, F2, +a
--   copy of two           C b, F2, B2, C a, F4, +b       a is not b
--   clear                 C a, F2, B2
--   LOOP                  C a, F4, +c                    c is not a, since a counter is no variable's register
--   WHILE                 C a, F(m+3), +a                m+3 is not 2
--   the end of a pair     B(m+2) or B(m+3)
-- A clear of b is never taken for a copy into b: what follows it may begin with C a, F4 and another a, but not with +b behind, since a LOOP
-- appends to its counter there, and a WHILE to its own a

-- What stands behind C b, F2, B2 goes on as a copy into b
abbrev pub shares : ℕ → List Instruction → Bool
shares b w = eqb (kind_at w 1) 5 && (eqb (operand_at w 2) 4 && (eqb (operand_at w 3) b && not (eqb (operand_at w 1) b)))

-- The line whose code is C a, F2 and what w has behind these
abbrev pub assignment : ℕ → List Instruction → Plain
assignment a w =
    cond (eqb (kind_at w 1) 1) (copy (variable a) (variable a))
    (cond (shares a (drop 1 w)) (copy (variable a) (variable (operand_at w 2))) (clear (variable a)))

-- The command whose code is C a and what w has behind it
abbrev pub of_cases : ℕ → List Instruction → Command
of_cases a w =
    cond (eqb (operand_at w 1) 2)
    (plain (assignment a (drop 1 w)))
    (opens (cond (eqb (operand_at w 2) a) while loop) (variable a))

-- The command whose code begins here, inside the pairs os; none where no code does
unfoldable pub next : List Opening → List Instruction → Option Command
next os [] = none
next os (append one a ∷ w) = some (plain (increment (variable a)))
next os (append hash a ∷ w) = none
next os (forward n ∷ w) = none
next [] (backward n ∷ w) = none
next (o ∷ os) (backward n ∷ w) = some (closes o.kind o.index)
next os (cases a ∷ w) = some (of_cases a w)

-- How many instructions of its code follow the first, by Translation: as many for every K, depth and body
abbrev pub more : Command → ℕ
more (plain c) = pred (length (plain_code 0 c))
more (opens k i) = pred (length (before_body 0 0 k i 0))
more (closes k i) = 0

-- The commands of what stands behind the next n instructions, inside the pairs os. Which line opened a pair is not asked: 0
unfoldable pub commands_after : ℕ → List Opening → List Instruction → List Command
commands_after n os [] = []
commands_after (suc n) os (i ∷ w) = commands_after n os w
commands_after zero os (i ∷ w) =
    elim (next os (i ∷ w)) [ none ↦ [] | some c ↦ c ∷ commands_after (more c) (open_next 0 os c) w ]

-- The commands of a word: "The word starts with F1, and the program's lines and pairs follow in their order"
unfoldable pub program_of : List Instruction → List Command
program_of w = commands_after 1 [] w
