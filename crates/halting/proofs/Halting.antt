-- LOOP programs halt, and so do their words: first of blocks, then of the programs that are accepted under the setting.
use mathlib.Core.Path.{◌≡◌, refl, sym, subst}
use mathlib.Core.List.{List, [], ◌∷◌, ◌++◌}
use Prim.Native.Nat.{ℕ, suc, ◌+◌}
use native.Mathlib.Omega.{arith}
use lib.ListN.{length}
use borrow.Author.Tests.{eq-eqb}
use Rattle.theory.specs.Basics.{EachOf}
use Rattle.theory.specs.Runs.{unlimited}
use Rattle.theory.specs.ProgramText.{Command, closes, Block, empty, single, pair, lines, block_of}
use Rattle.theory.specs.Source as S
use Rattle.theory.specs.Translation.{word, word_of}
use Rattle.theory.specs.Machines.{fresh_source}
use Rattle.theory.specs.Claims.{Accepted, Ends}
use Rattle.theory.specs.declared.End.TheVariants.{Halted}
use Rattle.theory.proofs.Cells.{sits_self}
use Rattle.theory.proofs.Nesting.{reads_accepted, well_nested}
use Rattle.theory.proofs.Demand.{demand_of_blocks}
use Rattle.halting.specs.Claims.{NoWhile, LoopLines, Loops, Halts, LoopBlocksHalt, LoopProgramsHalt}
use Rattle.halting.proofs.Passes.{Comes, comes}
use Rattle.halting.proofs.LoopLines.{loop_programs_read}

-- The source comes to the line after its last, and demand 3 says that its word halts too
pub loop_blocks_halt : LoopBlocksHalt
loop_blocks_halt b h v =
    let p : List Command = lines b in
    let r : Comes p 1 (fresh_source v) (1 + length p) = comes p b h 1 (sits_self p) (fresh_source v) refl in
    let last : r.last.line ≡ suc (length p) = omega (arith, r.there) in
    let halted : Ends (S.machine unlimited p) Halted r.last = rw (eq-eqb r.last.line (suc (length p)) last) in
    let w : _ = (demand_of_blocks b v).halts r.cost r.last r.goes halted in
    ((r.cost, r.last, r.goes, halted), (1 + r.cost, w.0, w.1, w.2))

-- A program without `while` lines is a block without `while` pairs
each_parts : {A : Type 0} (P : A → Type 0) (u w : List A) → EachOf P (u ++ w) → EachOf P u × EachOf P w
each_parts P [] w h = (tt, h)
each_parts P (x ∷ u) w h = let r : _ = each_parts P u w h.1 in ((h.0, r.0), r.1)

loops_of : (b : Block) → LoopLines (lines b) → Loops b
loops_of empty h = tt
loops_of (single c b) h = loops_of b h.1
loops_of (pair k i body b) h =
    let r : _ = each_parts NoWhile (lines body) (closes k i ∷ lines b) h.1 in
    (h.0, loops_of body r.0, loops_of b r.1.1)

program_halts : (p : List Command) → Accepted p → LoopLines p → (v : ℕ → ℕ) → Halts p (word_of p) v
unfolding word_of
program_halts p a h v =
    let b : Block = block_of p in
    let same : lines b ≡ p = well_nested p a in
    subst (λ l. Halts l (word b) v) same (loop_blocks_halt b (loops_of b (subst LoopLines (sym same) h)) v)

pub loop_programs_halt : LoopProgramsHalt
loop_programs_halt = (
  λ t p e. let r : _ = (loop_programs_read.text_accepted t p).0 e in program_halts p (reads_accepted.0 t p r.0) r.1,
  λ l p e. let r : _ = (loop_programs_read.list_accepted l p).0 e in program_halts p (reads_accepted.1 l p r.0) r.1,
)
