-- Document 02, request 7, "No shared labels": what is claimed. The proofs are in proofs/.
use Rattle.std.specs.Prelude.{◌≡◌, ◌↔◌, true, List, ℕ}
use Rattle.theory.specs.Text.{Bytes, in_digits}
use Rattle.theory.specs.ProgramText.{Command, Block, lines}
use Rattle.theory.specs.Translation.{word}
use Rattle.theory.specs.TurnedDown.{done, text_lines, read_text_under, read_list_under}
use Rattle.theory.specs.Claims.{Accepted}
use Rattle.theory.specs.declared.Setting.{Setting}
use Rattle.tidy.specs.Forms.{text_in}
use Rattle.tidy.specs.declared.Form.{Form}
use Rattle.labels.specs.Reading.{program_of}

-- 1. Words, of blocks of any length, depth and index

-- The reading undoes words
abbrev pub WordsRead : Type 0
WordsRead = (b : Block) → program_of (word b) ≡ lines b

-- so no two blocks have one word
abbrev pub WordsDiffer : Type 0
WordsDiffer = (b b' : Block) → word b ≡ word b' → b ≡ b'

-- 2. Labels: words as they are printed, of accepted programs. The request is about the plain form; of the tidy form the same is so

-- "two accepted programs have equal plain words only if they have the same commands in the same order"
abbrev pub NoSharedLabels : Type 0
NoSharedLabels = (form : Form) (p q : List Command) → Accepted p → Accepted q → text_in form p ≡ text_in form q → p ≡ q

-- Two texts, each read under whatever setting, have equal labels exactly where they spell the same commands, line by line
abbrev pub TextsOfOneLabel : Type 0
TextsOfOneLabel =
    (form : Form) (σ τ : Setting) (t u : Bytes) (p q : List Command) → read_text_under σ t ≡ done p → read_text_under τ u ≡ done q
    → (text_in form p ≡ text_in form q) ↔ (text_lines t ≡ text_lines u)

-- and where both are in digits, exactly where they are the same bytes
abbrev pub DigitsOfOneLabel : Type 0
DigitsOfOneLabel =
    (form : Form) (σ τ : Setting) (t u : Bytes) (p q : List Command) → read_text_under σ t ≡ done p → read_text_under τ u ≡ done q
    → in_digits t ≡ true → in_digits u ≡ true → (text_in form p ≡ text_in form q) ↔ (t ≡ u)

-- Two lists exactly where they are the same numbers
abbrev pub ListsOfOneLabel : Type 0
ListsOfOneLabel =
    (form : Form) (σ τ : Setting) (l m : List ℕ) (p q : List Command) → read_list_under σ l ≡ done p → read_list_under τ m ≡ done q
    → (text_in form p ≡ text_in form q) ↔ (l ≡ m)
