-- What the entries of this crate hand back: the answers of document 01, with their numbers and places, as values of the types in crate
-- `instruction`.
use Rattle.theory.specs.declared.Refusal.{Refusal}
use Rattle.std.specs.Prelude.{◌≡◌, List, ℕ, length, Result, Ok, Err}
use Rattle.theory.specs.ProgramText.{Command}
use Rattle.theory.specs.TurnedDown.{Answer, done, refused, mapped, lent_after, translate_into}
use Rattle.tidy.specs.declared.Form.{Form}
use Rattle.tidy.specs.Forms.{word_in, text_in}
use Rattle.instruction.specs.declared.Size.{Size}

abbrev pub size_in : Form → List Command → Size
size_in form p = record { symbols = length (text_in form p); instructions = length (word_in form p) }

abbrev pub size_answer : Form → Answer (List Command) → Result Size Refusal
size_answer form (done p) = Ok (size_in form p)
size_answer form (refused r) = Err r

-- The answer, of a program handed in as A
abbrev pub translated : Form → List ℕ → Answer (List Command) → Result Size Refusal
translated form lent A = size_answer form (translate_into (text_in form) lent A)

-- The output afterwards: the word and what was there, or as it was
abbrev pub output : Form → List ℕ → Answer (List Command) → List ℕ
output form lent A = lent_after lent (mapped (text_in form) (translate_into (text_in form) lent A))

-- Both
pub record Answered (form : Form) (A : Answer (List Command)) (entry exit : List ℕ) (r : Result Size Refusal) : Type 0 where
  pub answers : r ≡ translated form entry A
  pub writes : exit ≡ output form entry A
