-- The target of each line of a pair is right by its kind, and what is on the stack when a pair closes is before the line. In a turn the
-- line is one of the program, and the table has room for it.
use mathlib.Core.Path.{◌≡◌}
use mathlib.Core.Logic.{inl, inr, ◌⊎◌}
use mathlib.Core.List.{List}
use Prim.Native.Nat.{ℕ, ◌<◌, ◌-◌}
use native.Mathlib.Omega.{arith}
use borrow.Author.Rules.{rules}
use lib.ListN.{length, length-set, get_or}
use Rattle.theory.specs.ProgramText.{loop, while, Kind, opens, commands}
use Rattle.source.specs.Lines.{command_at}
use Rattle.source.proofs.Program.{few_lines, numbers-length}
use Rattle.source.proofs.Stepping.{kind_at, first-at, of_kind}
use Rattle.source.proofs.Targets.{Linking, linking_start, linking_end, linking_plain, linking_opens, stack_room}
use Rattle.source.proofs.Targets.{linking_endloop, linking_endwhile, plain_line, stack_open, first-before}
use Rattle.source.proofs.lines.fill_targets.Goals as goal
use Rattle.source.proofs.lines.fill_targets.Goals.{in-4, in-5, in-7, in_default}

-- An opening line, of either kind
opening-line : (l : List ℕ) (n : ℕ) → (kind_at l n ≡ 4) ⊎ (kind_at l n ≡ 6) → (k : Kind) × (command_at l n ≡ opens k (first-at l n))
opening-line l n (inl e) = (loop, of_kind l n 4 e)
opening-line l n (inr e) = (while, of_kind l n 6 e)

pub loop-n-init : goal.loop-n-init
loop-n-init c = (search rules, omega arith, linking_start _ _ _)

pub bounds-list-n : goal.bounds-list-n
bounds-list-n c = omega (arith, numbers-length c.args.list.now c.requires.holds)

pub bounds-stack-deep : goal.bounds-stack-deep
bounds-stack-deep c =
    let inside : c.loop-n.n < length (commands c.args.list.now) = omega arith in
    let line : _ = opening-line c.args.list.now c.loop-n.n c.in-4.is in
    stack_room _ c.requires.holds _ inside _ _ _ c.loop-n.invariant.2 line.0 _ line.1

pub overflow_sub-deep : goal.overflow_sub-deep
overflow_sub-deep c =
    let inside : c.loop-n.n < length (commands c.args.list.now) = omega arith in
    stack_open _ c.requires.holds _ inside _ _ _ c.loop-n.invariant.2 loop _ (of_kind _ _ 5 c.in-5.is)

pub link-requires : goal.link-requires
link-requires c =
    let inside : c.loop-n.n < length (commands c.args.list.now) = omega arith in
    let few : c.loop-n.n < 512 = omega (arith, few_lines c.args.list.now c.requires.holds) in
    let less : get_or c.loop-n.stack (c.loop-n.deep - 1) 0 < c.loop-n.n =
    first-before _ c.requires.holds _ inside _ _ _ c.loop-n.invariant.2 loop _ (of_kind _ _ 5 c.in-5.is) in
    (omega arith, few, omega arith, omega arith, omega arith)

pub overflow_sub-deep-in-7 : goal.overflow_sub-deep-in-7
overflow_sub-deep-in-7 c =
    let inside : c.loop-n.n < length (commands c.args.list.now) = omega arith in
    stack_open _ c.requires.holds _ inside _ _ _ c.loop-n.invariant.2 while _ (of_kind _ _ 7 c.in-7.is)

pub link-requires-in-7 : goal.link-requires-in-7
link-requires-in-7 c =
    let inside : c.loop-n.n < length (commands c.args.list.now) = omega arith in
    let few : c.loop-n.n < 512 = omega (arith, few_lines c.args.list.now c.requires.holds) in
    let less : get_or c.loop-n.stack (c.loop-n.deep - 1) 0 < c.loop-n.n =
    first-before _ c.requires.holds _ inside _ _ _ c.loop-n.invariant.2 while _ (of_kind _ _ 7 c.in-7.is) in
    (omega arith, few, omega arith, omega arith, omega arith)

pub loop-n-preserved : goal.loop-n-preserved
loop-n-preserved c =
    let inside : c.loop-n.n < length (commands c.args.list.now) = omega arith in
    let room : c.loop-n.n < length c.loop-n.targets = omega arith in
    elim c.match-list-n.branch [
      | in-4 w ↦
          let line : _ = opening-line c.args.list.now c.loop-n.n w.in-4.is in
          let less : c.loop-n.deep < 16 = stack_room _ c.requires.holds _ inside _ _ _ c.loop-n.invariant.2 line.0 _ line.1 in
          let in_stack : c.loop-n.deep < length c.loop-n.stack = omega arith in
          rw (w.deep-is, w.stack-is, w.targets-is) (
            simp length-set c.loop-n.invariant.0,
            omega arith,
            linking_opens _ c.requires.holds _ inside _ _ _ c.loop-n.invariant.2 line.0 _ line.1 in_stack,
          )
      | in-5 w ↦
          let linked : _ = linking_endloop _ c.requires.holds _ inside _ _ _ c.loop-n.invariant.2 _ (of_kind _ _ 5 w.in-5.is) room in
          rw (w.deep-is, w.stack-is, w.targets-is) (c.loop-n.invariant.0, omega arith, rw w.link.ensures linked)
      | in-7 w ↦
          let linked : _ = linking_endwhile _ c.requires.holds _ inside _ _ _ c.loop-n.invariant.2 _ (of_kind _ _ 7 w.in-7.is) room in
          rw (w.deep-is, w.stack-is, w.targets-is) (c.loop-n.invariant.0, omega arith, rw w.link-in-7.ensures linked)
      | in_default w ↦
          let none_opens : (kind_at c.args.list.now c.loop-n.n ≡ 4) ⊎ (kind_at c.args.list.now c.loop-n.n ≡ 6) → ⊥ = search rules in
          let line : _ = plain_line _ c.requires.holds _ inside _ _ _ c.loop-n.invariant.2
          (λ e. none_opens (inl e)) (omega arith) (λ e. none_opens (inr e)) (omega arith) in
          rw (w.deep-is, w.stack-is, w.targets-is) (
            c.loop-n.invariant.0,
            c.loop-n.invariant.1,
            linking_plain _ c.requires.holds _ inside _ _ _ c.loop-n.invariant.2 line.0 line.1,
          )
    ]

pub returns : goal.returns
returns c =
    let all : c.loop-n.n ≡ length (commands c.args.list.now) = omega arith in
    let at_end : Linking c.args.list.now (length (commands c.args.list.now)) c.loop-n.deep c.loop-n.stack c.loop-n.targets =
    rw (← all) c.loop-n.invariant.2 in
    linking_end c.args.list.now c.requires.holds c.loop-n.deep c.loop-n.stack c.loop-n.targets at_end
