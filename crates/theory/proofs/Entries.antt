-- The bytes of a word's entries: of some after others, and of one, which are two runs.
use mathlib.Core.Path.{◌≡◌, refl, ap, ap₂, ◌∙◌}
use mathlib.Core.List.{List, [], ◌∷◌, ◌++◌, map, append-nil, map-append}
use Prim.Native.Nat.{ℕ, zero, suc}
use lib.ListN.{replicate}
use Rattle.theory.specs.Text.{Bytes}
use Rattle.theory.specs.Word.{byte_of, bytes_of, one, hash, Entry, spell_entries}
use Rattle.theory.proofs.Sizes.{spell_entries-append}

pub bytes-append : (s t : List Entry) → bytes_of (spell_entries (s ++ t)) ≡ bytes_of (spell_entries s) ++ bytes_of (spell_entries t)
bytes-append s t = ap (map byte_of) (spell_entries-append s t) ∙ map-append byte_of (spell_entries s) (spell_entries t)

map-replicate : {A B : Type 0} (f : A → B) (n : ℕ) (a : A) → map f (replicate n a) ≡ replicate n (f a)
map-replicate f zero a = refl
map-replicate {B = B} f (suc n) a = ap {B = List B} (λ r. f a ∷ r) (map-replicate f n a)

pub entry_runs : (e : Entry) → bytes_of (spell_entries (e ∷ [])) ≡ replicate e.operand 49 ++ replicate e.kind 35
unfolding spell_entries
entry_runs e =
    rw append-nil
    (map-append byte_of (replicate e.operand one) (replicate e.kind hash)
    ∙ ap₂ {C = Bytes} ◌++◌ (map-replicate byte_of e.operand one) (map-replicate byte_of e.kind hash))
