-- What entries on words and tables hand back, by the definitions of crate theory: tables, as two lists of numbers or as a list of records,
-- and answers.
use Rattle.theory.specs.declared.Refusal.{Refusal}
use Rattle.std.specs.Prelude.{◌≡◌, List, [], ◌∷◌, map, ℕ, length, Result, Ok, Err}
use Rattle.theory.specs.Word.{Entry}
use Rattle.theory.specs.TurnedDown.{Answer, done, refused, mapped, lent_after, read_word_into, write_word_into}
use Rattle.word.specs.declared.answers.Instruction.{Instruction}

-- Tables of numbers

abbrev pub kinds_of : List Entry → List ℕ
kinds_of = map (λ e. e.kind)

abbrev pub operands_of : List Entry → List ℕ
operands_of = map (λ e. e.operand)

-- The table of two lists, as long as the longer. A number that is missing counts as 0, so that its entry is turned down by rule 13
unfoldable pub zipped : List ℕ → List ℕ → List Entry
zipped [] [] = []
zipped [] (n ∷ ns) = record { kind = 0; operand = n } ∷ zipped [] ns
zipped (k ∷ ks) [] = record { kind = k; operand = 0 } ∷ zipped ks []
zipped (k ∷ ks) (n ∷ ns) = record { kind = k; operand = n } ∷ zipped ks ns

-- Tables of records: "an instruction table, a lent slice of records of kind and operand"

abbrev pub entry_of : Instruction → Entry
entry_of i = record { kind = i.kind; operand = i.operand }

abbrev pub entries_of : List Instruction → List Entry
entries_of = map entry_of

abbrev pub record_of : Entry → Instruction
record_of e = record { kind = e.kind; operand = e.operand }

abbrev pub records_of : List Entry → List Instruction
records_of = map record_of

-- Answers: the number of instructions, or of symbols, or the refusal

abbrev pub read_answer : Answer (List Entry) → Result ℕ Refusal
read_answer (done t) = Ok (length t)
read_answer (refused r) = Err r

abbrev pub written_answer : Answer (List ℕ) → Result ℕ Refusal
written_answer (done w) = Ok (length w)
written_answer (refused r) = Err r

-- What is handed back, and the lent lists then
abbrev pub Reads : (word kinds operands : List ℕ) → Result ℕ Refusal → (kinds' operands' : List ℕ) → Type 0
Reads word kinds operands r kinds' operands' =
    (r ≡ read_answer (read_word_into kinds operands word))
    × (kinds' ≡ lent_after kinds (mapped kinds_of (read_word_into kinds operands word)))
    × (operands' ≡ lent_after operands (mapped operands_of (read_word_into kinds operands word)))

-- A table written as a word into a lent list of bytes: rules 11, 13 and 14 as for tables, then 19
abbrev pub WritesInto : (table : List Entry) (word : List ℕ) → Result ℕ Refusal → (word' : List ℕ) → Type 0
WritesInto table word r word' = (r ≡ written_answer (write_word_into word table)) × (word' ≡ lent_after word (write_word_into word table))
