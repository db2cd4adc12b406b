-- The numbers that tell a setting and a form, and the one number that each entry hands back: what came of the call, with its counts, or
-- with a refusal's number and place.
use Rattle.std.specs.Prelude.{cond, List, ℕ, ◌+◌, ◌*◌, ◌%◌, ◌^◌, eqb, length, Result, Ok, Err}
use Rattle.theory.specs.ProgramText.{Command, variables}
use Rattle.theory.specs.Runs.{Outcome}
use Rattle.theory.specs.Machines.{Value, valued, untidy}
use Rattle.theory.specs.TurnedDown.{Answer, done, refused}
use Rattle.theory.specs.declared.Refusal.{Refusal}
use Rattle.theory.specs.declared.End.{End}
use Rattle.theory.specs.declared.End.TheVariants.{Halted, Strayed, Spent, Full}
use Rattle.theory.specs.declared.Setting.{Setting}
use Rattle.theory.specs.declared.Setting.TheVariants.{Any, LoopOnly}
use Rattle.tidy.specs.declared.Form.{Form}
use Rattle.tidy.specs.declared.Form.TheVariants.{Plain, Tidy}
use Rattle.tidy.specs.Forms.{word_in, text_in}
use Rattle.listing.specs.Listing.{Line, word, word_text}

-- 0 is outside the LOOP-only setting; 1, and any number that is not known, is under it
abbrev pub setting_of : ℕ → Setting
setting_of n = cond (eqb n 0) Any LoopOnly

-- 1 is the tidy form; 0, and any number that is not known, the plain one
abbrev pub form_of : ℕ → Form
form_of n = cond (eqb n 1) Tidy Plain

-- Bits 56 to 63 say what came of the call, bits 32 to 47 hold one count and bits 0 to 31 another
unfoldable pub pack : ℕ → ℕ → ℕ → ℕ
pack what high low = what * 2 ^ 56 + (high % 2 ^ 16) * 2 ^ 32 + low % 2 ^ 32

-- What came of the call: 0, it is done; 1 to 4, a run ended so; 5, the registers are untidy; 255, it was turned down
abbrev pub end_number : End → ℕ
end_number Halted = 1
end_number Strayed = 2
end_number Spent = 3
end_number Full = 4

-- A refusal: the rule's number and the place
abbrev pub refusal : Refusal → ℕ
refusal r = pack 255 r.number r.place

-- An answer of one count, as code hands it back
abbrev pub counted : Result ℕ Refusal → ℕ
counted (Ok n) = pack 0 0 n
counted (Err r) = refusal r

-- A result, packed by f, or the refusal
unfoldable pub packed : {A : Type 0} → (A → ℕ) → Answer A → ℕ
packed f (done a) = f a
packed f (refused r) = refusal r

-- A program: its variables and its commands
abbrev pub commands : List Command → ℕ
commands p = pack 0 (variables p) (length p)

-- Its word in a form: the instructions and the symbols
abbrev pub sizes : Form → List Command → ℕ
sizes form p = pack 0 (length (word_in form p)) (length (text_in form p))

-- A listing's word: the same
abbrev pub listing_sizes : List Line → ℕ
listing_sizes l = pack 0 (length (word l)) (length (word_text l))

-- A list: its length
abbrev pub count : {A : Type 0} → List A → ℕ
count l = pack 0 0 (length l)

-- A run: how it ended, and the steps taken
abbrev pub ending : {S : Type 0} → Outcome S → ℕ
ending o = pack (end_number o.end) 0 o.steps

-- A value: its symbols; or untidy
abbrev pub symbols : Value → ℕ
symbols (valued xs) = pack 0 0 (length xs)
symbols untidy = pack 5 0 0
