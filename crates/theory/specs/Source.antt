-- Document 01, "The program text", the source steps (the meaning of source document 001). Lines count from 1.
use Rattle.std.specs.Prelude.{cond, List, [], ◌∷◌, ℕ, zero, suc, ◌+◌, pred, length, take, drop, eqb, ltb}
use Rattle.std.proofs.Math.Option.{Option, some}
use Rattle.theory.specs.Basics.{at, put, given, and_then}
use Rattle.theory.specs.Runs.{register, Room, Machine}
use Rattle.theory.specs.ProgramText.{clear, increment, copy, Kind, loop, while, Command, plain, opens, closes, Opening, open_next}
use Rattle.theory.specs.declared.End.TheVariants.{Halted}

-- Partner lines

-- How many lines stand before the one that closes the innermost pair open, `n` pairs having been opened since
abbrev pub ahead : List Command → ℕ → ℕ
ahead [] n = 0
ahead (plain c ∷ l) n = suc (ahead l n)
ahead (opens k i ∷ l) n = suc (ahead l (suc n))
ahead (closes k i ∷ l) zero = 0
ahead (closes k i ∷ l) (suc n) = suc (ahead l n)

-- The line that closes the pair which line n opens: so many lines after those up to n
unfoldable pub closing : List Command → ℕ → ℕ
closing p n = suc n + ahead (drop n p) 0

-- The pairs open after some lines, the first of them line n
abbrev pub open_after : List Command → ℕ → List Opening → List Opening
open_after [] n os = os
open_after (c ∷ l) n os = open_after l (suc n) (open_next n os c)

-- The pairs whose body or closing line holds line n
unfoldable pub open_at : List Command → ℕ → List Opening
open_at p n = open_after (take (pred n) p) 1 []

abbrev pub innermost : List Opening → ℕ
innermost [] = 0
innermost (o ∷ os) = o.line

-- The line that opens the pair which line n closes
unfoldable pub opening : List Command → ℕ → ℕ
opening p n = innermost (open_at p n)

-- "WHILEs not counted"
abbrev pub deeper : Kind → ℕ → ℕ
deeper loop n = suc n
deeper while n = n

abbrev pub loops : List Opening → ℕ
loops [] = 0
loops (o ∷ os) = deeper o.kind (loops os)

-- The variable of the loop inside d others, of pairs of which more than d are loops; the pairs stand innermost first
abbrev pub loop_variable : List Opening → ℕ → ℕ
loop_variable [] d = 0
loop_variable (o ∷ os) d = cond (ltb d (loops os)) (loop_variable os d) o.index

-- The number of loops whose body or `endloop` holds line n. At a loop's `loop` line that is its d, the number of loops enclosing it
unfoldable pub depth : List Command → ℕ → ℕ
depth p n = loops (open_at p n)

-- At its `endloop`, which the loop holds too, its d is one less
abbrev pub depth_closing : List Command → ℕ → ℕ
depth_closing p n = pred (depth p n)

-- The step

-- `passes d` are the passes left of the loop inside d enclosing loops
pub record State : Type 0 where
  pub line : ℕ
  pub values : ℕ → ℕ
  pub passes : ℕ → ℕ

abbrev pub go_to : State → ℕ → State
go_to s n = record { line = n; values = s.values; passes = s.passes }

-- variable i becomes x, and the next line is next
abbrev pub set_variable : State → ℕ → ℕ → State
set_variable s i x = record { line = suc s.line; values = put s.values i x; passes = s.passes }

-- the passes left of the loop inside d enclosing loops become k, and line n is next
abbrev pub set_passes : State → ℕ → ℕ → ℕ → State
set_passes s d k n = record { line = n; values = s.values; passes = put s.passes d k }

-- `loop`: "takes the value k as passes left; 0 goes past its `endloop`"
abbrev pub begin_loop : List Command → State → ℕ → State
begin_loop p s zero = go_to s (suc (closing p s.line))
begin_loop p s (suc k) = set_passes s (depth p s.line) (suc k) (suc s.line)

-- the passes left of the loop that the line closes, after they "fall by 1"
abbrev pub passes_after : List Command → State → ℕ
passes_after p s = pred (s.passes (depth_closing p s.line))

-- `endloop`, with that many passes left: "goes to the first line of the body, or past if 0"
abbrev pub end_loop : List Command → State → ℕ → State
end_loop p s zero = set_passes s (depth_closing p s.line) 0 (suc s.line)
end_loop p s (suc k) = set_passes s (depth_closing p s.line) (suc k) (suc (opening p s.line))

-- `while`: "0 goes past its `endwhile`"
abbrev pub begin_while : List Command → State → ℕ → State
begin_while p s zero = go_to s (suc (closing p s.line))
begin_while p s (suc k) = go_to s (suc s.line)

-- A command at the state's line; none where it would put more into a variable than there is room for in its register. `endwhile` "goes to
-- its `while`"
abbrev pub perform : Room → List Command → State → Command → Option State
perform room p s (plain (clear i)) = some (set_variable s i 0)
perform room p s (plain (increment i)) = given (room (register i) (suc (s.values i))) (set_variable s i (suc (s.values i)))
perform room p s (plain (copy i j)) = given (room (register i) (s.values j)) (set_variable s i (s.values j))
perform room p s (opens loop i) = some (begin_loop p s (s.values i))
perform room p s (closes loop i) = some (end_loop p s (passes_after p s))
perform room p s (opens while i) = some (begin_while p s (s.values i))
perform room p s (closes while i) = some (go_to s (opening p s.line))

-- One step; none where the state is full, or at no line of the program
unfoldable pub step : Room → List Command → State → Option State
step room p s = and_then (at p s.line) (perform room p s)

-- The source "halts at the line after its last"
abbrev pub machine : Room → List Command → Machine State
machine room p = record { ended = λ s. given (eqb s.line (suc (length p))) Halted; next = step room p }
