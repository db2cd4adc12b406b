-- Document 02, request 7: words that begin alike, as they are read; and labels that are equal where a premise of the claims is missing. The
-- proof, by computation, is in proofs/Computed.
use Rattle.std.specs.Prelude.{◌≡◌, List, [], ◌∷◌}
use Prim.Native.String.{String}
use Rattle.theory.specs.Basics.{EachOf}
use Rattle.theory.specs.Text.{bytes}
use Rattle.theory.specs.ProgramText.{loop, Command, opens, closes, text_of}
use Rattle.theory.specs.Translation.{word_text}
use Rattle.theory.specs.TurnedDown.{done, mapped, read_text, word_entries, instructions}
use Rattle.tidy.specs.Forms.{text_in}
use Rattle.tidy.specs.declared.Form.{Form}
use Rattle.tidy.specs.declared.Form.TheVariants.{Plain, Tidy}
use Rattle.labels.specs.Reading.{program_of}

pub data Example : Type 0 where
  -- the plain word of a text in digits, which is read as that text's commands
  labels : String → String → Example
  -- two texts, each with a form, that have this label
  one_label : Form → String → Form → String → String → Example
  -- commands that no rule has let pass, and have one word
  one_word : List Command → List Command → Example

abbrev pub Holds : Example → Type 0
Holds (labels t w) =
    (mapped word_text (read_text (bytes t)) ≡ done (bytes w)) × (text_of (program_of (instructions (word_entries (bytes w)))) ≡ bytes t)
Holds (one_label f t g u w) =
    (mapped (text_in f) (read_text (bytes t)) ≡ done (bytes w)) × (mapped (text_in g) (read_text (bytes u)) ≡ done (bytes w))
Holds (one_word p q) = word_text p ≡ word_text q

unfoldable pub words : List Example
words =
    labels "" "1###"
    ∷ labels "loop X1\nX0 <- X0 + 1\nendloop X1\n"
    "1###11#####1111###1111#111#1111####111#####111###11#111####1111#####111###1#111####"
    ∷ labels "X2 <- X2\n" "1###111#####11###111#"
    ∷ labels "X1 <- X0\n" "1###11#####11###11####1#####1111###11#111#1111####111#####111###1#111####"
    ∷ labels "X0 <- X2\n" "1###1#####11###11####111#####1111###1#1111#1111####1111#####111###111#111####"
    ∷ labels "while X1 != 0\nloop X0\nendloop X0\nendwhile X1 != 0\n"
    "1###11#####111111111111111###11#1#####1111###1111#111#1111####111#####111###1#111####1111#####11###11####111111111111111####"
    ∷ []

-- A clear of b, and behind it what begins much as the rest of a copy into b does
unfoldable pub clears : List Example
clears =
    -- C a, F4, but no +b: of a LOOP, and of a WHILE whose body is one instruction, with a above b and below it
    labels "X0 <- 0\nloop X1\nendloop X1\n"
    "1###1#####11###11####11#####1111###1111#111#1111####111#####111###11#111####1111#####11###11####"
    ∷ labels "X0 <- 0\nwhile X1 != 0\nX0 <- X0 + 1\nendwhile X1 != 0\n" "1###1#####11###11####11#####1111###11#1#1111####"
    ∷ labels "X1 <- 0\nwhile X0 != 0\nX0 <- X0 + 1\nendwhile X0 != 0\n" "1###11#####11###11####1#####1111###1#1#1111####"
    -- C b, F4, +b: a copy is of two variables
    ∷ labels "X0 <- 0\nwhile X0 != 0\nX1 <- X1 + 1\nendwhile X0 != 0\n" "1###1#####11###11####1#####1111###1#11#1111####"
    -- C a, F2, B2 where b is 2
    ∷ labels "X1 <- 0\nX0 <- 0\n" "1###11#####11###11####1#####11###11####"
    -- the end of a pair, +4, +b
    ∷ labels "while X1 != 0\nX0 <- 0\nendwhile X1 != 0\nX3 <- X3 + 1\nX0 <- X0 + 1\n"
    "1###11#####111111###11#1#####11###11####111111####1111#1#"
    ∷ []

-- What the claims do not say, since it is not so
unfoldable pub shared : List Example
shared =
    one_label Plain "X1 <- 0\n" Plain "X' <- 0\n" "1###11#####11###11####"  -- texts that are not in digits are not the same bytes
    ∷ one_label Tidy "X1 <- X1 + 1\n" Plain "X1 <- X1 + 1\nX1 <- 0\n" "1###11#11#####11###11####"  -- labels of two forms
    ∷ one_word [] (closes loop 0 ∷ [])  -- programs that are not accepted
    ∷ one_word (opens loop 0 ∷ []) (opens loop 0 ∷ closes loop 0 ∷ [])
    ∷ []

abbrev pub ExamplesHold : Type 0
ExamplesHold = EachOf Holds words × (EachOf Holds clears × EachOf Holds shared)
