-- What a listing's translation hands back: the answers of document 02, request 6, as values of the types in crate `instruction`.
use Rattle.theory.specs.declared.Refusal.{Refusal}
use Rattle.std.specs.Prelude.{◌≡◌, List, ℕ, length, Result, Ok, Err}
use Rattle.theory.specs.Text.{Bytes}
use Rattle.theory.specs.Word.{Entry, table_of}
use Rattle.theory.specs.TurnedDown.{Answer, done, refused, mapped, lent_after, write_word_into}
use Rattle.listing.specs.Listing.{Line, word, word_text}
use Rattle.instruction.specs.declared.Size.{Size}

abbrev pub size_of : List Line → Size
size_of l = record { symbols = length (word_text l); instructions = length (word l) }

abbrev pub translated : Answer (List Line) → Result Size Refusal
translated (done l) = Ok (size_of l)
translated (refused r) = Err r

-- The output afterwards: the word and what was there, or as it was
abbrev pub output : Bytes → Answer (List Line) → Bytes
output lent a = lent_after lent (mapped word_text a)

-- Both
abbrev pub Answers : Answer (List Line) → (lent : Bytes) → Result Size Refusal → (out : Bytes) → Type 0
Answers a lent r out = (r ≡ translated a) × (out ≡ output lent a)

-- A table of so many entries, written: its rules, then 19
abbrev pub sized : ℕ → Answer Bytes → Result Size Refusal
sized n (done w) = Ok (record { symbols = length w; instructions = n })
sized n (refused r) = Err r

abbrev pub Sized : ℕ → List Entry → (lent : Bytes) → Result Size Refusal → (out : Bytes) → Type 0
Sized n t lent r out = (r ≡ sized n (write_word_into lent t)) × (out ≡ lent_after lent (write_word_into lent t))

-- The table of a listing's word, written: its rules, then 19
abbrev pub written : Bytes → List Line → Answer (List Line)
written lent l = mapped (λ w. l) (write_word_into lent (table_of (word l)))
