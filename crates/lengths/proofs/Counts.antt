-- The length of some instructions, by its two numbers; and the two ends of a pair, by its kind.
use mathlib.Core.Path.{◌≡◌}
use mathlib.Core.List.{List, [], ◌∷◌, ◌++◌}
use Prim.Native.Nat.{ℕ}
use lib.ListN.{length}
use borrow.Author.Tests.{eq-eqb, ne_eqb}
use Rattle.theory.specs.ProgramText.{Kind, loop, while}
use Rattle.theory.specs.Word.{Instruction}
use Rattle.theory.specs.Translation.{before_body, after_body}
use Rattle.command.specs.declared.Numbers.{Numbers}
use Rattle.emit.specs.Pieces.{front, back}
use Rattle.lengths.specs.Lengths.{symbols_of, length_of}

pub counts : {v w : List Instruction} {i s : ℕ} → v ≡ w → i ≡ length w → s ≡ symbols_of w
    → record { instructions = i; symbols = s } ≡ length_of v
counts h e f = rw (h, e, f)

module _ (K d : ℕ) (l : Numbers) (m : ℕ) where
  abbrev ends : Kind → List Instruction
  ends k = before_body K d k l.index m ++ (after_body k m ∷ [])

  pub loops : l.kind ≡ 4 → front K d l m ++ back l.kind m ≡ ends loop
  loops e = rw (eq-eqb l.kind 4 e)

  pub whiles : (l.kind ≡ 4 → ⊥) → front K d l m ++ back l.kind m ≡ ends while
  whiles n = rw (ne_eqb l.kind 4 n)
