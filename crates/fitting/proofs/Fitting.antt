-- Every answer of an entry fits its bits.
use mathlib.Core.Path.{◌≡◌, refl, ap, ◌∙◌}
use mathlib.Core.Bool.{Bool, true, false, cond}
use mathlib.Core.Option.{Option, none, some}
use mathlib.Core.List.{List, map}
use Prim.Native.Nat.{ℕ, ◌≤◌, ◌<◌, ◌^◌}
use native.Mathlib.Omega.{arith}
use lib.Dec.{leb}
use borrow.Author.Tests.{leb-true}
use lib.ListN.{length, length-map}
use Rattle.theory.specs.Text.{Bytes}
use Rattle.theory.specs.ProgramText.{Command, variables, text_of, list_of, listed, commands}
use Rattle.theory.specs.Runs.{Outcome}
use Rattle.theory.specs.Source as S
use Rattle.theory.specs.Word as W
use Rattle.theory.specs.Word.{Entry, byte_of, bytes_of, spell, spell_entries}
use Rattle.theory.specs.Machines.{SourceState, Memory, count, Position, contents, is_sized, is_memory, run_source, run_word}
use Rattle.theory.specs.Machines.{valued, untidy, is_tidy, value_at}
use Rattle.theory.specs.TurnedDown.{Answer, done, refused, unless, answer, after, mapped, lend, is_source}
use Rattle.theory.specs.TurnedDown.{rule_9, rule_10, rule_15, rule_19}
use Rattle.theory.specs.TurnedDown.{text_fault_under, text_lines, program_fault_under, word_fault, word_entries, table_fault, instructions}
use Rattle.theory.specs.TurnedDown.{next_byte, next_entry, read_text_under, read_list_under, read_word, read_table, read_word_for}
use Rattle.theory.specs.TurnedDown.{read_table_for}
use Rattle.theory.specs.TurnedDown.{read_program_into, write_program_into, translate_into, run_from}
use Rattle.theory.specs.TurnedDown.{read_word_into, write_word_into, run_on}
use Rattle.theory.specs.RunTool.{report_on}
use Rattle.theory.specs.Basics.{or_else, present}
use Rattle.theory.specs.Claims.{Accepted, FitsASet}
use Rattle.theory.specs.declared.End.{End}
use Rattle.theory.specs.declared.End.TheVariants.{Halted, Strayed, Spent, Full}
use Rattle.theory.specs.declared.Refusal.{Refusal}
use Rattle.theory.specs.declared.Setting.{Setting}
use Rattle.theory.proofs.Settings.{read_text_outside, read_list_outside}
use Rattle.theory.proofs.Budgets.{steps_within}
use Rattle.theory.proofs.Nesting.{reads_accepted}
use Rattle.theory.proofs.Sizes.{words_fit}
use Rattle.theory.proofs.Texts.{text_accepted}
use Rattle.theory.proofs.Words.{table_good, total-length}
use Rattle.theory.proofs.Faults.{and_first, unless_none}
use Rattle.theory.proofs.GoodMemory.{memory-is_good, contents_fit}
use Rattle.tidy.specs.declared.Form.{Form}
use Rattle.tidy.specs.declared.Form.TheVariants.{Plain, Tidy}
use Rattle.tidy.specs.Forms.{word_in, text_in}
use Rattle.tidy.proofs.Sizes.{tidy_words_fit}
use Rattle.forms.proofs.Words.{text-spelled}
use Rattle.listing.specs.Listing.{Line, word, word_text}
use Rattle.listing.specs.Refused as R
use Rattle.listing.specs.Refused.{read_listing, translate_listing}
use Rattle.listing.specs.Claims as L
use Rattle.listing.specs.Claims.{ListingFits}
use Rattle.listing.proofs.Fits.{listing_words_fit}
use Rattle.listing.proofs.Texts.{listings_read}
use Rattle.memory.specs.Calls.{value_of}
use Rattle.rule10.proofs.Sizes.{are_sized}
use Rattle.packing.specs.Packed.{end_number}
use Rattle.fitting.specs.Claims.{Fields, Fit, fields, program_fields, word_fields, listing_fields, count_fields, end_fields}
use Rattle.fitting.specs.Claims.{value_fields, AnswersFit}
use Rattle.fitting.proofs.Bounds.{Low, low_unless, low_or, few_lines, program_low, few_bytes, text_low, listing_low}
use Rattle.fitting.proofs.Bounds.{few_instructions, word_low, word_for_low, table_low, table_for_low}

fit_refused : {A : Type 0} (f : A → Fields) (r : Refusal) → Low (some r) → Fit (fields f (refused r))
fit_refused f r l = let h = l r refl in record { what = omega arith; high = omega (arith, h.0); low = omega (arith, h.1) }

fit_answer : {A : Type 0} (f : A → Fields) (o : Option Refusal) (a : A) → Low o → (o ≡ none → Fit (f a)) → Fit (fields f (answer o a))
fit_answer f none a l h = h refl
fit_answer f (some r) a l h = fit_refused f r l

fit_after : {A B : Type 0} (f : B → Fields) (o : Option Refusal) (a : A) (g : A → Answer B) → Low o → (o ≡ none → Fit (fields f (g a)))
    → Fit (fields f (after (answer o a) g))
fit_after f none a g l h = h refl
fit_after f (some r) a g l h = fit_refused f r l

no_room_low : {A B : Type 0} (lent : List A) (l : List B) → Low (rule_19 lent l)
unfolding rule_19
no_room_low lent l = low_unless (leb (length l) (length lent)) 19 0 (omega arith) (omega arith)

-- Lists that are written
fit_lent : {A : Type 0} (o : Option Refusal) (a : A) (g : A → List ℕ) (lent : List ℕ) → Low o → (o ≡ none → length (g a) ≤ 600000)
    → Fit (fields count_fields (lend lent (mapped g (answer o a))))
fit_lent none a g lent l h =
    fit_answer count_fields (rule_19 lent (g a)) (g a) (no_room_low lent (g a))
    (λ e. record { what = omega arith; high = omega arith; low = omega (arith, h refl) })
fit_lent (some r) a g lent l h = fit_refused (count_fields {A = ℕ}) r l

-- Programs
module _ (p : List Command) (accepted : Accepted p) where
  program_fit : Fit (program_fields p)
  program_fit =
      record {
        what = omega arith;
        high = omega (arith, (words_fit p accepted).sized.few_variables);
        low = omega (arith, few_lines (map some p) accepted, length-map p some);
      }

  -- its word in a form fits a set
  form_fits : (form : Form) → FitsASet (variables p) (word_in form p) (text_in form p)
  form_fits Plain = words_fit p accepted
  form_fits Tidy = tidy_words_fit p accepted

  word_fit : (form : Form) → Fit (word_fields form p)
  word_fit form =
      let sized = (form_fits form).sized in
      let symbols = ap length (text-spelled form p) ∙ length-map (spell (word_in form p)) byte_of in
      record { what = omega arith; high = omega (arith, sized.few_instructions); low = omega (arith, sized.few_symbols, symbols) }

text_program : (σ : Setting) (t : Bytes) → text_fault_under σ t ≡ none → Accepted (present (text_lines t))
unfolding read_text_under
text_program σ t e = reads_accepted.0 t (present (text_lines t)) (read_text_outside σ t (present (text_lines t)) (rw e))

list_program : (σ : Setting) (l : Bytes) → program_fault_under σ (listed l) ≡ none → Accepted (present (listed l))
unfolding read_list_under commands
list_program σ l e = reads_accepted.1 l (present (listed l)) (read_list_outside σ l (present (listed l)) (rw e))

read_program_fits : (σ : Setting) (list text : Bytes) → Fit (fields program_fields (read_program_into σ list text))
unfolding read_program_into read_text_under
read_program_fits σ list text =
    let p = present (text_lines text) in
    fit_after program_fields (text_fault_under σ text) p (λ q. answer (rule_19 list (list_of q)) q) (text_low σ text)
    (λ e. fit_answer program_fields (rule_19 list (list_of p)) p (no_room_low list (list_of p))
    (λ f. program_fit p (text_program σ text e)))

write_program_fits : (σ : Setting) (text list : Bytes) → Fit (fields count_fields (write_program_into σ text list))
unfolding write_program_into read_list_under commands
write_program_fits σ text list =
    let p = present (listed list) in
    fit_lent (program_fault_under σ (listed list)) p text_of text (program_low σ (listed list))
    (λ e. omega (arith, few_bytes (text_of p) (text_accepted p (list_program σ list e))))

module _ (σ : Setting) (form : Form) (word : Bytes) where
  -- a program that a fault turns down, or that is accepted
  translated_fits : (o : Option Refusal) (p : List Command) → Low o → (o ≡ none → Accepted p)
      → Fit (fields (word_fields form) (translate_into (text_in form) word (answer o p)))
  unfolding translate_into
  translated_fits o p low ok =
      let room = rule_19 word (text_in form p) in
      fit_after (word_fields form) o p (λ q. answer (rule_19 word (text_in form q)) q) low
      (λ e. fit_answer (word_fields form) room p (no_room_low word (text_in form p)) (λ f. word_fit p (ok e) form))

  translate_fits : (text : Bytes) → Fit (fields (word_fields form) (translate_into (text_in form) word (read_text_under σ text)))
  unfolding read_text_under
  translate_fits text = translated_fits (text_fault_under σ text) (present (text_lines text)) (text_low σ text) (text_program σ text)

  translate_list_fits : (list : Bytes) → Fit (fields (word_fields form) (translate_into (text_in form) word (read_list_under σ list)))
  unfolding read_list_under commands
  translate_list_fits list =
      translated_fits (program_fault_under σ (listed list)) (present (listed list)) (program_low σ (listed list)) (list_program σ list)

-- Listings
listing_fit : (l : List Line) → L.Accepted l → Fit (listing_fields l)
unfolding word_text
listing_fit l accepted =
    let fits : ListingFits l = listing_words_fit l accepted in
    record {
      what = omega arith;
      high = omega (arith, fits.few_instructions);
      low = omega (arith, fits.few_symbols, length-map (spell (word l)) byte_of);
    }

translate_listing_fits : (word text : Bytes) → Fit (fields listing_fields (translate_listing word text))
unfolding translate_into read_listing
translate_listing_fits word text =
    let l : List Line = present (R.text_lines text) in
    let accepted : R.text_fault text ≡ none → L.Accepted l = λ e. (listings_read.accepted text l (rw e)).0 in
    fit_after listing_fields (R.text_fault text) l (λ m. answer (rule_19 word (word_text m)) m) (listing_low text)
    (λ e. fit_answer listing_fields (rule_19 word (word_text l)) l (no_room_low word (word_text l))
    (λ f. listing_fit l (accepted e)))

-- Runs
end_small : (e : End) → end_number e < 2 ^ 8
end_small Halted = omega arith
end_small Strayed = omega arith
end_small Spent = omega arith
end_small Full = omega arith

end_fit : {S : Type 0} (o : Outcome S) (budget : ℕ) → budget < 2 ^ 32 → o.steps ≤ budget → Fit (end_fields o)
end_fit o budget b h = record { what = end_small o.end; high = omega arith; low = omega (arith, b, h) }

source_steps : (p : List Command) (s : SourceState) (budget : ℕ) → (run_source p s budget).steps ≤ budget
unfolding run_source
source_steps p s budget = steps_within _ budget s.steps s.state

word_steps : (w : List W.Instruction) (m : Memory) (p : Position) (budget : ℕ) → (run_word w m p budget).steps ≤ budget
unfolding run_word
word_steps w m p budget = steps_within _ budget p.steps _

from_fits : (s : SourceState) (budget : ℕ) → budget < 2 ^ 32 → (p : List Command) → Fit (fields end_fields (run_from s budget p))
unfolding run_from rule_9
from_fits s budget b p =
    fit_answer end_fields (rule_9 p s) (run_source p s budget)
    (low_unless (is_source p s) 9 0 (omega arith) (omega arith))
    (λ e. end_fit (run_source p s budget) budget b (source_steps p s budget))

-- Words and tables
read_word_fits : (kinds operands : List ℕ) (word : Bytes) → Fit (fields count_fields (read_word_into kinds operands word))
unfolding read_word_into read_word
read_word_fits kinds operands word =
    let t = word_entries word in
    fit_after count_fields (word_fault word) t (λ u. answer (or_else (rule_19 kinds u) (rule_19 operands u)) u) (word_low word)
    (λ e. fit_answer count_fields (or_else (rule_19 kinds t) (rule_19 operands t)) t
    (low_or _ _ (no_room_low kinds t) (λ f. no_room_low operands t))
    (λ f. record { what = omega arith; high = omega arith; low = omega (arith, few_instructions word e) }))

write_word_fits : (word : Bytes) (table : List Entry) → Fit (fields count_fields (write_word_into word table))
unfolding write_word_into read_table
write_word_fits word table =
    fit_lent (table_fault table) table (λ u. bytes_of (spell_entries u)) word (table_low table)
    (λ e. omega (arith, (table_good table e).symbols, total-length table, length-map (spell_entries table) byte_of))

-- A run of what was read, after rule 10
run_fits : (m : Memory) (p : Position) (budget : ℕ) → budget < 2 ^ 32 → (o : Option Refusal) (t : List Entry) → Low o
    → Fit (fields end_fields (run_on m p budget (answer o t)))
unfolding rule_10
run_fits m p budget b o t l = go (is_memory m) o l
  where
    go : (x : Bool) (o : Option Refusal) → Low o
        → Fit (fields (end_fields {S = W.State}) (mapped (λ u. run_word (instructions u) m p budget) (after (answer (unless x 10 0)
        m) (λ n. answer o t))))
    go false o l = record { what = omega arith; high = omega arith; low = omega arith }
    go true none l = end_fit (run_word (instructions t) m p budget) budget b (word_steps (instructions t) m p budget)
    go true (some r) l = fit_refused (end_fields {S = W.State}) r l

-- Values
symbols_fit : (m : Memory) → is_memory m ≡ true → length (contents m 1) ≤ 1024
unfolding is_memory
symbols_fit m e =
    let good = memory-is_good m e in
    let some_register = leb-true 1 (count m) (and_first (leb 1 (count m)) (leb (count m) 64) good.registers) in
    let small = (are_sized m (and_first (is_sized m) _ e)).symbols 0 in
    omega (arith, contents_fit m good 0 some_register, small)

value_fits : (m : Memory) → Fit (fields value_fields (value_of m))
unfolding rule_10
value_fits m = go (is_memory m) refl
  where
    go : (t : Bool) → is_memory m ≡ t
        → Fit (fields value_fields (mapped (λ n. value_at (count n) (contents n)) (answer (unless t 10 0) m)))
    go true e = by_tidy (is_tidy (count m) (contents m))
      where
        by_tidy : (t : Bool) → Fit (value_fields (cond t (valued (contents m 1)) untidy))
        by_tidy true = record { what = omega arith; high = omega arith; low = omega (arith, symbols_fit m e) }
        by_tidy false = record { what = omega arith; high = omega arith; low = omega arith }
    go false e = record { what = omega arith; high = omega arith; low = omega arith }

-- A text for a lent output
text_fits : (lent text : Bytes) → length lent < 2 ^ 32 → Fit (fields count_fields (lend lent (done text)))
unfolding rule_19
text_fits lent text h =
    fit_answer count_fields (rule_19 lent text) text (no_room_low lent text)
    (λ e. let room = leb-true (length text) (length lent) (unless_none (leb (length text) (length lent)) 19 0 e) in
    record { what = omega arith; high = omega arith; low = omega (arith, h, room) })

pub answers_fit : AnswersFit
unfolding read_text_under read_list_under commands read_word_for read_table_for
answers_fit =
    record {
      read_program = read_program_fits;
      write_program = write_program_fits;
      translate = translate_fits;
      translate_list = translate_list_fits;
      translate_listing = translate_listing_fits;
      runs_text = λ σ s budget b text. fit_after end_fields (text_fault_under σ text) (present (text_lines text)) (run_from s budget)
          (text_low σ text) (λ e. from_fits s budget b (present (text_lines text)));
      runs_list = λ σ s budget b list. fit_after end_fields (program_fault_under σ (listed list)) (present (listed list))
          (run_from s budget) (program_low σ (listed list)) (λ e. from_fits s budget b (present (listed list)));
      read_word = read_word_fits;
      write_word = write_word_fits;
      runs_word = λ m p budget b word. run_fits m p budget b (or_else (word_fault word) (rule_15 next_byte (count m) (word_entries word)))
          (word_entries word) (word_for_low (count m) word);
      runs_table = λ m p budget b t. run_fits m p budget b (or_else (table_fault t) (rule_15 next_entry (count m) t)) t
          (table_for_low (count m) t);
      value = value_fits;
      report = λ lent h capacities text sheet. text_fits lent (report_on capacities text sheet) h;
    }
