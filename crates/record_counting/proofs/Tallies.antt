-- The tally of a table of records after so many turns.
use mathlib.Core.Path.{◌≡◌, sym, ap}
use mathlib.Core.List.{List, [], ◌∷◌, ◌++◌}
use Prim.Native.Nat.{ℕ, suc, ◌+◌, ◌<◌}
use native.Mathlib.Numerals.{add-one}
use native.Mathlib.Omega.{arith}
use lib.ListN.{length, take, get_or, length-map, get_or-map}
use lib.Seq.{length-take-le, take-suc, take_all}
use Rattle.theory.specs.Word.{Entry}
use Rattle.theory.proofs.Words.{entry}
use Rattle.word.specs.declared.answers.Instruction.{Instruction}
use Rattle.tally.specs.declared.Tally.{Tally}
use Rattle.word.specs.Answers.{entry_of, entries_of}
use Rattle.tally.specs.Tallies.{longest, tally_of, noted}
use Rattle.record_counting.specs.Counted.{no_tally}
use Rattle.tally.proofs.Counts.{tally_none, tally_more}

abbrev pub no_record : Instruction
no_record = record { kind = 0; operand = 0 }

unfoldable pub tally_at : List Instruction → ℕ → Tally
tally_at t j = tally_of (take j (entries_of t))

pub tally_start : (t : List Instruction) → no_tally ≡ tally_at t 0
unfolding tally_at
tally_start t = sym tally_none

pub tally_end : (t : List Instruction) → tally_at t (length t) ≡ tally_of (entries_of t)
unfolding tally_at
tally_end t = ap tally_of (take_all (length t) (entries_of t) (omega (arith, length-map t entry_of)))

module _ (t : List Instruction) (j : ℕ) (h : j < length t) where
  pub tally_next : j < longest → (d : Tally) → d ≡ noted (tally_at t j) (entry_of (get_or t j no_record)) → d ≡ tally_at t (j + 1)
  unfolding tally_at
  tally_next few d q =
      let e : List Entry = entries_of t in
      let l : j < length e = omega (arith, length-map t entry_of) in
      let taken : take (suc j) e ≡ take j e ++ (get_or e j (entry 0 0) ∷ []) = take-suc e j (entry 0 0) l in
      let short : length (take j e) < longest = omega (arith, length-take-le j e (omega arith), few) in
      rw (q, add-one j, taken, get_or-map entry_of t j no_record) (tally_more (take j e) (entry_of (get_or t j no_record)) short)
