-- Every number tells a setting and a form, and nothing is cut where an answer is packed into one number: stated here, proved in
-- proofs/Unpacked.antt and proofs/Fitting.antt.
use Rattle.std.specs.Prelude.{◌≡◌, ◌≢◌, List, ℕ, suc, ◌/◌, ◌%◌, ◌^◌, ◌<◌, length}
use Rattle.theory.specs.Text.{Bytes}
use Rattle.theory.specs.ProgramText.{Command, variables}
use Rattle.theory.specs.Runs.{Outcome}
use Rattle.theory.specs.Word.{Entry}
use Rattle.theory.specs.Machines as M
use Rattle.theory.specs.Machines.{SourceState, Memory, Position, Value, valued, untidy}
use Rattle.theory.specs.TurnedDown.{Answer, done, refused, read_text_under, read_list_under, read_word_for, read_table_for}
use Rattle.theory.specs.TurnedDown.{read_program_into, write_program_into, translate_into, run_program}
use Rattle.theory.specs.TurnedDown.{read_word_into, write_word_into, run_on, lend}
use Rattle.theory.specs.RunTool.{report_on}
use Rattle.theory.specs.declared.Setting.{Setting}
use Rattle.theory.specs.declared.Setting.TheVariants.{Any, LoopOnly}
use Rattle.tidy.specs.declared.Form.{Form}
use Rattle.tidy.specs.declared.Form.TheVariants.{Plain, Tidy}
use Rattle.tidy.specs.Forms.{word_in, text_in}
use Rattle.listing.specs.Listing.{Line, word, word_text}
use Rattle.listing.specs.Refused.{translate_listing}
use Rattle.memory.specs.Calls.{value_of}
use Rattle.packing.specs.Packed.{setting_of, form_of, pack, end_number, packed, commands, sizes, listing_sizes, count, ending, symbols}

-- 0 is outside the LOOP-only setting, and every other number is under it
abbrev pub SettingsTold : Type 0
SettingsTold = (setting_of 0 ≡ Any) × ((n : ℕ) → setting_of (suc n) ≡ LoopOnly)

-- 1 is the tidy form, and every other number the plain one
abbrev pub FormsTold : Type 0
FormsTold = (form_of 1 ≡ Tidy) × ((n : ℕ) → n ≢ 1 → form_of n ≡ Plain)

-- What a number says, field by field, as the header reads it: bits 56 to 63, bits 32 to 47, bits 0 to 31
pub record Fields : Type 0 where
  pub what : ℕ
  pub high : ℕ
  pub low : ℕ

unfoldable pub unpack : ℕ → Fields
unpack n = record { what = n / 2 ^ 56; high = n / 2 ^ 32 % 2 ^ 16; low = n % 2 ^ 32 }

-- Numbers that their bits have room for
pub record Fit (f : Fields) : Type 0 where
  pub what : f.what < 2 ^ 8
  pub high : f.high < 2 ^ 16
  pub low : f.low < 2 ^ 32

-- Numbers that fit are read back as they were packed
abbrev pub NothingCut : Type 0
NothingCut = (f : Fields) → Fit f → unpack (pack f.what f.high f.low) ≡ f

-- What is packed of an answer
abbrev pub fields : {A : Type 0} → (A → Fields) → Answer A → Fields
fields f (done a) = f a
fields f (refused r) = record { what = 255; high = r.number; low = r.place }

abbrev pub program_fields : List Command → Fields
program_fields p = record { what = 0; high = variables p; low = length p }

abbrev pub word_fields : Form → List Command → Fields
word_fields form p = record { what = 0; high = length (word_in form p); low = length (text_in form p) }

abbrev pub listing_fields : List Line → Fields
listing_fields l = record { what = 0; high = length (word l); low = length (word_text l) }

abbrev pub count_fields : {A : Type 0} → List A → Fields
count_fields l = record { what = 0; high = 0; low = length l }

abbrev pub end_fields : {S : Type 0} → Outcome S → Fields
end_fields o = record { what = end_number o.end; high = 0; low = o.steps }

abbrev pub value_fields : Value → Fields
value_fields (valued xs) = record { what = 0; high = 0; low = length xs }
value_fields untidy = record { what = 5; high = 0; low = 0 }

-- An answer that fits is read back from its number
pub record ReadsBack : Type 1 where
  pub program : (a : Answer (List Command)) → Fit (fields program_fields a) → unpack (packed commands a) ≡ fields program_fields a
  pub word : (form : Form) (a : Answer (List Command)) → Fit (fields (word_fields form) a)
      → unpack (packed (sizes form) a) ≡ fields (word_fields form) a
  pub listing : (a : Answer (List Line)) → Fit (fields listing_fields a) → unpack (packed listing_sizes a) ≡ fields listing_fields a
  pub list : {A : Type 0} (a : Answer (List A)) → Fit (fields count_fields a) → unpack (packed count a) ≡ fields count_fields a
  pub run : {S : Type 0} (a : Answer (Outcome S)) → Fit (fields end_fields a) → unpack (packed ending a) ≡ fields end_fields a
  pub value : (a : Answer Value) → Fit (fields value_fields a) → unpack (packed symbols a) ≡ fields value_fields a

-- Every answer of an entry fits: of programs handed in as text or as list under a setting, in a form where they are translated, of
-- listings, of words and tables, of runs whose budget has 32 bits, of values, and of reports for an output whose length has 32 bits
pub record AnswersFit : Type 0 where
  pub read_program : (σ : Setting) (list text : Bytes) → Fit (fields program_fields (read_program_into σ list text))
  pub write_program : (σ : Setting) (text list : Bytes) → Fit (fields count_fields (write_program_into σ text list))
  pub translate : (σ : Setting) (form : Form) (word text : Bytes)
      → Fit (fields (word_fields form) (translate_into (text_in form) word (read_text_under σ text)))
  pub translate_list : (σ : Setting) (form : Form) (word list : Bytes)
      → Fit (fields (word_fields form) (translate_into (text_in form) word (read_list_under σ list)))
  pub translate_listing : (word text : Bytes) → Fit (fields listing_fields (translate_listing word text))
  pub runs_text : (σ : Setting) (s : SourceState) (budget : ℕ) → budget < 2 ^ 32 → (text : Bytes)
      → Fit (fields end_fields (run_program (read_text_under σ text) s budget))
  pub runs_list : (σ : Setting) (s : SourceState) (budget : ℕ) → budget < 2 ^ 32 → (list : Bytes)
      → Fit (fields end_fields (run_program (read_list_under σ list) s budget))
  pub read_word : (kinds operands : List ℕ) (word : Bytes) → Fit (fields count_fields (read_word_into kinds operands word))
  pub write_word : (word : Bytes) (table : List Entry) → Fit (fields count_fields (write_word_into word table))
  pub runs_word : (m : Memory) (p : Position) (budget : ℕ) → budget < 2 ^ 32 → (word : Bytes)
      → Fit (fields end_fields (run_on m p budget (read_word_for (M.count m) word)))
  pub runs_table : (m : Memory) (p : Position) (budget : ℕ) → budget < 2 ^ 32 → (table : List Entry)
      → Fit (fields end_fields (run_on m p budget (read_table_for (M.count m) table)))
  pub value : (m : Memory) → Fit (fields value_fields (value_of m))
  pub report : (lent : Bytes) → length lent < 2 ^ 32 → (capacities : List ℕ) (text sheet : Bytes)
      → Fit (fields count_fields (lend lent (done (report_on capacities text sheet))))
