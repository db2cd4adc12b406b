-- Document 01, "Machines of the set": what both machines share. Room, a machine that steps, a run with a budget, and unlimited runs with
-- their cost.
use Rattle.std.specs.Prelude.{◌≡◌, Bool, true, false, ℕ, zero, suc, ◌+◌, leb, ltb}
use Rattle.std.proofs.Math.Option.{Option, none, some}
use Rattle.theory.specs.Limits.{last_count}
use Rattle.theory.specs.declared.End.{End}
use Rattle.theory.specs.declared.End.TheVariants.{Spent, Full}

-- "Variable i is register i+1"
abbrev pub register : ℕ → ℕ
register i = i + 1

-- `room r n`: register r may hold n symbols. A variable has the room of its register
abbrev pub Room : Type 0
Room = ℕ → ℕ → Bool

-- "registers, variables and passes-left hold any amount"
abbrev pub unlimited : Room
unlimited r n = true

-- "Each register gets its own capacity", and "A variable's capacity is that of its register" (document 02, request 5)
abbrev pub within_each : (ℕ → ℕ) → Room
within_each capacity r n = leb n (capacity r)

-- registers "all of one capacity"
abbrev pub within : ℕ → Room
within capacity = within_each (λ r. capacity)

-- How a state has ended (halted or strayed), if it has; and the step, none where it would need more than there is room for (full)
pub record Machine (S : Type 0) : Type 0 where
  pub ended : S → Option End
  pub next : S → Option S

-- What a run hands back: how it ended, "the steps taken", and the state
pub record Outcome (S : Type 0) : Type 0 where
  pub end : End
  pub steps : ℕ
  pub state : S

module _ {S : Type 0} (M : Machine S) where
  abbrev pub stop : End → S → Outcome S
  stop e s = record { end = e; steps = 0; state = s }

  abbrev pub stepped : Outcome S → Outcome S
  stepped o = record { end = o.end; steps = suc o.steps; state = o.state }

  -- A run with a budget, from a state whose count of steps is n. "Checked before each step: halted or strayed, then spent, then full"; "a
  -- run whose count stands at 4,294,967,295 ends as spent"; a step that is full "is neither done nor counted"
  unfoldable pub run : ℕ → ℕ → S → Outcome S
  run zero n s = elim (M.ended s) [ some e ↦ stop e s | none ↦ stop Spent s ]
  run (suc budget) n s =
      elim (M.ended s) [
        | some e ↦ stop e s
        | none ↦ elim (ltb n last_count) [
          | false ↦ stop Spent s
          | true ↦ elim (M.next s) [ none ↦ stop Full s | some s' ↦ stepped (run budget (suc n) s') ]
        ]
      ]

-- Unlimited runs: from s, by steps of `next`, each paid by the `cost` of the state before it, to t, for m in all
pub data Goes {S : Type 0} (next : S → Option S) (cost : S → ℕ) : S → ℕ → S → Type 0 where
  stay : {s : S} → Goes next cost s 0 s
  move : {s s' t : S} {m : ℕ} → next s ≡ some s' → Goes next cost s' m t → Goes next cost s (cost s + m) t

-- "steps are counted": every step costs one
abbrev pub each : {S : Type 0} → S → ℕ
each s = 1
