-- Instructions put at a place, and one after the other.
use mathlib.Core.Path.{◌≡◌}
use mathlib.Core.List.{List, [], ◌∷◌, ◌++◌}
use Prim.Native.Nat.{ℕ, ◌+◌, ◌-◌, ◌<◌, ◌≤◌}
use native.Mathlib.Numerals.{add-one}
use native.Mathlib.Omega.{arith}
use lib.ListN.{length, take, drop, get_or}
use lib.Seq.{take-suc}
use borrow.Rule.Slice.PartMut.{put_mid}
use Rattle.theory.specs.Text.{Bytes}
use Rattle.theory.specs.Word.{Entry, spell_entries}
use Rattle.theory.proofs.Entries.{bytes-append}
use Rattle.theory.proofs.Words.{word-length}
use Rattle.output.specs.Puts.{most, place, starting}
use Rattle.output.proofs.Puts.{put_nothing, put_then, put_part, put_past}
use Rattle.instruction.specs.Instructions.{text, Spelt}

-- One, written into the part that begins at its place, or put at a place past the end
module _ (e : Entry) {l : Bytes} {i j : ℕ} (h : length l ≤ most) (n : j ≡ place (i + (e.operand + e.kind))) where
  pub spelt_part : {part : Bytes} → part ≡ starting (text (e ∷ [])) (take (length l - i) (drop i l))
      → Spelt (e ∷ []) i l (put_mid i (length l - i) l part) j
  spelt_part f = record { put = put_part h (omega (arith, word-length (e ∷ []))) (length l - i) (omega arith) f }

  pub spelt_past : length l ≤ i → Spelt (e ∷ []) i l l j
  spelt_past past = record { put = put_past h (omega (arith, word-length (e ∷ []))) past }

-- None
pub spelt_none : (l : Bytes) (i : ℕ) → i ≤ most → length l ≤ most → Spelt [] i l l i
unfolding spell_entries
spelt_none l i h k = record { put = put_nothing l i h k }

-- Some, and then others
pub spelt_then : {s t : List Entry} {l m n : Bytes} {i j k : ℕ} → Spelt s i l m j → Spelt t j m n k → Spelt (s ++ t) i l n k
spelt_then {s} {t} p q = record { put = rw (bytes-append s t) (put_then p.put q.put) }

-- Of a table, one more
pub spelt_more : (t : List Entry) (j : ℕ) (d : Entry) → j < length t → {l m n : Bytes} {i k o : ℕ} → Spelt (take j t) i l m k
    → Spelt (get_or t j d ∷ []) k m n o → Spelt (take (j + 1) t) i l n o
spelt_more t j d h p q = rw (add-one j, take-suc t j d h) (spelt_then p q)
