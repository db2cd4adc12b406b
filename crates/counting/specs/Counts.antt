-- How many instructions a word has by rules 12 and 13 of document 01, and what is seen of a whole word at once.
use Rattle.std.specs.Prelude.{Bool, true, cond, ◌&&◌, List, [], ◌∷◌, ℕ, ◌+◌, length, ltb, leb}
use Rattle.theory.specs.Basics.{or_else}
use Rattle.theory.specs.Text.{Bytes}
use Rattle.theory.specs.Word.{Entry}
use Rattle.theory.specs.TurnedDown.{Answer, done, refused, answer, rule_12, rule_13, next_byte, entry_fault, word_entries}
use Rattle.text.specs.Runs.{run}

abbrev pub count_of : Answer (List Entry) → ℕ
count_of (done t) = length t
count_of (refused r) = 0

-- The number of instructions of a word that rules 12 and 13 let pass, and else 0
unfoldable pub instruction_count : Bytes → ℕ
instruction_count w = count_of (answer (or_else (rule_12 w) (rule_13 next_byte entry_fault (word_entries w))) (word_entries w))

-- No six # stand together
unfoldable pub is_sixless : Bytes → Bool
is_sixless [] = true
is_sixless (b ∷ w) = leb (run 35 (b ∷ w)) 5 && is_sixless w

-- How many are larger than the one before them
unfoldable pub rises : List ℕ → ℕ
rises [] = 0
rises (a ∷ []) = 0
rises (a ∷ b ∷ l) = cond (ltb a b) 1 0 + rises (b ∷ l)
