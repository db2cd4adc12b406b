-- A loop that counts up to a number, in a function whose MIR is walked by hand: what is to be shown of a turn, and the loop from its turns.
use Prim.Native.Nat.{ℕ, ◌<◌, ◌≤◌, ◌-◌}
use mathlib.Core.Logic.{◌⊎◌, inl, inr}
use mathlib.Core.WellFounded.InvImage
use mathlib.Core.WellFounded.{WellFounded}
use mathlib.Core.List.{List}
use lib.WfN.{lt-wf_rel}
use seplogic.Ra.Ura.{Ura}
use mir.Syntax.{Body, seq, block, loop}
use mir.Val.{Val}
use base.Logic.{SProp}
use prog.Wp.{Env, after_seq, after_block, after_turn, Wp, at_return, Tables}
use types.Logic.{Logic}
use types.Kit.{Item, runs, any_q, at_ret, Sq, ◌$◌, ! }
use types.Run.{first, blocks, Below, loops}
use Rattle.word.proofs.Fills.{lt_or_le}

module _ (n : ℕ) (Known : ℕ → Type 0) where
  -- A turn's number, with what is known of it
  abbrev pub Upto : Type 0
  Upto = (i : ℕ) × ((i ≤ n) × Known i)

  abbrev pub Nearer : Upto → Upto → Type 0
  Nearer j i = n - j.0 < n - i.0

  nearer_wf : WellFounded Nearer
  nearer_wf = InvImage.wf (λ (i : Upto). n - i.0) lt-wf_rel.wf

  -- At holds before each turn, and `rest` runs behind the loop
  module _ {M : Type 1} {𝓤 : Ura M} (𝓛 : Logic 𝓤) (𝓣 : Tables 𝓤 𝓛.H) (En : Env 𝓤 𝓛.H) (turn rest : Body)
      (Post : Val → SProp 𝓤) (At : Upto → List (Item 𝓤)) where
    open 𝓛 use {H}

    abbrev pub Turn : Upto → Type 1
    Turn i = Sq 𝓛 (At i) (runs 𝓣.C 𝓣.Λ En turn (any_q (after_turn 𝓤 H (Below 𝓛 Nearer At i) (after_block 𝓤 H (after_seq 𝓤 H
        (Wp 𝓤 H 𝓣.C 𝓣.Λ En rest (at_return 𝓤 H En Post)) (at_return 𝓤 H En Post))))))

    module _ (more : (i : Upto) → i.0 < n → Turn i) (ends : (i : Upto) → n ≤ i.0 → Turn i) where
      turns : (i : Upto) → (i.0 < n) ⊎ (n ≤ i.0) → Turn i
      turns i (inl l) = more i l
      turns i (inr over) = ends i over

      pub looped : (i : Upto) → Sq 𝓛 (At i) (runs 𝓣.C 𝓣.Λ En (seq (block (loop turn)) rest) (at_ret En Post))
      looped i = first ! $ blocks ! $ loops ! 𝓣 Nearer nearer_wf At (λ j. turns j (lt_or_le j.0 n)) i
