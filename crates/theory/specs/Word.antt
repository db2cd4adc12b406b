-- Document 01, "The word" (the language 1# of source documents 000 and 003): symbols, instructions, their spelling, and the machine's step.
use Rattle.std.specs.Prelude.{Bool, true, cond, ◌&&◌, List, [], ◌∷◌, ◌++◌, map, ℕ, suc, ◌+◌, ℤ, pos, negsuc, ◌+ℤ◌, ◌-ℤ◌, length, replicate, eqb, leb}
use Rattle.std.proofs.Math.Option.{Option, none, some}
use Rattle.theory.specs.Basics.{at, put, given, and_then}
use Rattle.theory.specs.Text.{Bytes}
use Rattle.theory.specs.Runs.{Room, Machine}
use Rattle.theory.specs.declared.End.{End}
use Rattle.theory.specs.declared.End.TheVariants.{Halted, Strayed}

pub data Symbol : Type 0 where
  one hash : Symbol

-- `1` is byte 49, `#` byte 35
abbrev pub byte_of : Symbol → ℕ
byte_of one = 49
byte_of hash = 35

abbrev pub is_symbol : ℕ → Bool
is_symbol b = cond (eqb b 49) true (eqb b 35)

abbrev pub symbol_of : ℕ → Symbol
symbol_of b = cond (eqb b 49) one hash

pub data Instruction : Type 0 where
  append : Symbol → ℕ → Instruction
  forward : ℕ → Instruction
  backward : ℕ → Instruction
  cases : ℕ → Instruction

-- "The number of # in an instruction, 1 to 5, decides its effect"; its operand is the number of 1s
abbrev pub kind : Instruction → ℕ
kind (append one n) = 1
kind (append hash n) = 2
kind (forward n) = 3
kind (backward n) = 4
kind (cases n) = 5

abbrev pub operand : Instruction → ℕ
operand (append x n) = n
operand (forward n) = n
operand (backward n) = n
operand (cases n) = n

-- An entry of an instruction table: so many 1s, the operand, and then so many #, the kind
pub record Entry : Type 0 where
  pub kind : ℕ
  pub operand : ℕ

abbrev pub entry_of : Instruction → Entry
entry_of i = record { kind = kind i; operand = operand i }

abbrev pub table_of : List Instruction → List Entry
table_of = map entry_of

abbrev pub instruction_of_kind : ℕ → ℕ → Option Instruction
instruction_of_kind k n =
    cond (eqb k 1) (some (append one n))
    (cond (eqb k 2) (some (append hash n))
    (cond (eqb k 3) (some (forward n))
    (cond (eqb k 4) (some (backward n))
    (cond (eqb k 5) (some (cases n)) none))))

-- "n ones (n at least 1) and then 1 to 5 #"
unfoldable pub instruction_of : Entry → Option Instruction
instruction_of e = cond (eqb e.operand 0) none (instruction_of_kind e.kind e.operand)

-- Writing

unfoldable pub spell_entries : List Entry → List Symbol
spell_entries [] = []
spell_entries (e ∷ t) = replicate e.operand one ++ (replicate e.kind hash ++ spell_entries t)

unfoldable pub spell : List Instruction → List Symbol
spell w = spell_entries (table_of w)

abbrev pub bytes_of : List Symbol → Bytes
bytes_of = map byte_of

-- Reading: a word's entries, each the 1s that stand together and the # behind them, from the last symbol to the first. So `1##1` has two:
-- operand 1 and kind 2, and operand 1 and kind 0, since no # follows. What is no instruction has an operand of 0, which only the first
-- entry can have, a kind of 0, only the last, or a kind above 5
abbrev pub one_before : List Entry → List Entry
one_before [] = record { kind = 0; operand = 1 } ∷ []
one_before (e ∷ t) = record { kind = e.kind; operand = suc e.operand } ∷ t

abbrev pub hash_before : List Entry → List Entry
hash_before [] = record { kind = 1; operand = 0 } ∷ []
hash_before (e ∷ t) =
    cond (eqb e.operand 0)
    (record { kind = suc e.kind; operand = 0 } ∷ t)
    (record { kind = 1; operand = 0 } ∷ e ∷ t)

unfoldable pub entries : List Symbol → List Entry
entries [] = []
entries (one ∷ s) = one_before (entries s)
entries (hash ∷ s) = hash_before (entries s)

-- The machine

-- Every number from 1 names a register; which of them a machine of the set has is said in Machines
pub record State : Type 0 where
  pub place : ℤ
  pub registers : ℕ → List Symbol

-- "Places count from 1"
abbrev pub fetch : List Instruction → ℤ → Option Instruction
fetch w (pos n) = at w n
fetch w (negsuc n) = none

-- "cases on register n", which holds xs: "If empty, go forward 1; else delete the first symbol and go forward 2 if it was 1, 3 if it was #"
abbrev pub branch : ℕ → State → List Symbol → State
branch n s [] = record { place = s.place +ℤ pos 1; registers = s.registers }
branch n s (one ∷ xs) = record { place = s.place +ℤ pos 2; registers = put s.registers n xs }
branch n s (hash ∷ xs) = record { place = s.place +ℤ pos 3; registers = put s.registers n xs }

-- "Appends then go forward 1"
abbrev pub appended : ℕ → State → Symbol → State
appended n s x = record { place = s.place +ℤ pos 1; registers = put s.registers n (s.registers n ++ (x ∷ [])) }

-- "1: append 1 to register n. 2: append # to register n. 3: go forward n places. 4: go backward n places. 5: cases on register n"; none
-- where there is no room for what is appended
abbrev pub perform : Room → State → Instruction → Option State
perform room s (append x n) = given (room n (suc (length (s.registers n)))) (appended n s x)
perform room s (forward n) = some (record { place = s.place +ℤ pos n; registers = s.registers })
perform room s (backward n) = some (record { place = s.place -ℤ pos n; registers = s.registers })
perform room s (cases n) = some (branch n s (s.registers n))

-- One step; none where the state is full, or at no instruction
unfoldable pub step : Room → List Instruction → State → Option State
step room w s = and_then (fetch w s.place) (perform room s)

-- "With L instructions, place L+1 is halted; any other place outside 1 to L+1 is strayed and is reported as a signed number": by the
-- state's place
abbrev pub ended_at : ℕ → ℤ → Option End
ended_at L (pos n) = cond (eqb n (suc L)) (some Halted) (cond (leb 1 n && leb n L) none (some Strayed))
ended_at L (negsuc n) = some Strayed

abbrev pub machine : Room → List Instruction → Machine State
machine room w = record { ended = λ s. ended_at (length w) s.place; next = step room w }
