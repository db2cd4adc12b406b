-- Document 02, request 2: "Translation gains a tidy form: clears of registers 2 to K follow in rising order".
use Rattle.std.specs.Prelude.{List, [], ◌++◌, ℕ, zero, suc, ◌+◌, ◌*◌, length}
use Rattle.theory.specs.Text.{Bytes}
use Rattle.theory.specs.ProgramText.{Command, variables, Block, lines, block_of}
use Rattle.theory.specs.Word.{Symbol, Instruction, spell, bytes_of}
use Rattle.theory.specs.Translation.{clearing, word, word_of, word_text}
use Rattle.tidy.specs.declared.Form.{Form}
use Rattle.tidy.specs.declared.Form.TheVariants.{Plain, Tidy}

-- The clears of registers 2 to K, in rising order; none where K is 0 or 1
unfoldable pub clears : ℕ → List Instruction
clears zero = []
clears (suc zero) = []
clears (suc (suc n)) = clears (suc n) ++ clearing (suc (suc n))

unfoldable pub tidy_word : Block → List Instruction
tidy_word b = word b ++ clears (variables (lines b))

unfoldable pub tidy_word_of : List Command → List Instruction
tidy_word_of p = tidy_word (block_of p)

unfoldable pub tidy_text : List Command → Bytes
tidy_text p = bytes_of (spell (tidy_word_of p))

-- "each charged 2v+2 for its content v": for registers 2 to K, of the contents f that the plain word left
unfoldable pub tidy_charges : ℕ → (ℕ → List Symbol) → ℕ
tidy_charges zero f = 0
tidy_charges (suc zero) f = 0
tidy_charges (suc (suc n)) f = tidy_charges (suc n) f + (2 * length (f (suc (suc n))) + 2)

-- "The plain form is still compared with document 01's translation, the tidy form with this one"
abbrev pub word_in : Form → List Command → List Instruction
word_in Plain p = word_of p
word_in Tidy p = tidy_word_of p

abbrev pub text_in : Form → List Command → Bytes
text_in Plain p = word_text p
text_in Tidy p = tidy_text p
