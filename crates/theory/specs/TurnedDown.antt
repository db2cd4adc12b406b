-- Document 01, "What is turned down": rules 1 to 19, rule 20 of document 02's request 1 and rule 21 of its request 5, and the
-- order in which each call checks them.
use Rattle.std.specs.Prelude.{Bool, true, false, cond, not, ◌&&◌, ◌||◌, List, [], ◌∷◌, ◌++◌, map, ℕ, zero, suc, ◌+◌, max, length, take, drop, eqb, ltb, leb}
use Rattle.std.proofs.Math.Option.{Option, none, some}
use Rattle.theory.specs.Limits
use Rattle.theory.specs.Basics.{given, or_else, and_then, default, present, all, all_below}
use Rattle.theory.specs.Text.{Bytes, split_lines, ends_in_LF}
use Rattle.theory.specs.ProgramText.{Kind, loop, while, Command, plain, opens, closes, indices, above, variables, command, commands}
use Rattle.theory.specs.ProgramText.{listed, list_of, text_of, Opening, open_next}
use Rattle.theory.specs.Runs.{register, Outcome}
use Rattle.theory.specs.Source as S
use Rattle.theory.specs.Word as W
use Rattle.theory.specs.Word.{Entry, Instruction, kind, operand, is_symbol, symbol_of, entries, instruction_of}
use Rattle.theory.specs.Word.{spell_entries, bytes_of}
use Rattle.theory.specs.Translation.{word_of}
use Rattle.theory.specs.Machines.{SourceState, run_source, Memory, Position, run_word, is_memory, is_limited, capacity_of}
use Rattle.theory.specs.RunSheet.{names, values, distinct}
use Rattle.theory.specs.declared.Refusal.{Refusal}
use Rattle.theory.specs.declared.Setting.{Setting}
use Rattle.theory.specs.declared.Setting.TheVariants.{Any, LoopOnly}

-- "Each answer is number and place"
abbrev pub refuse : ℕ → ℕ → Option Refusal
refuse number place = some (record { number = number; place = place })

abbrev pub unless : Bool → ℕ → ℕ → Option Refusal
unless true number place = none
unless false number place = refuse number place

-- What a call hands back: its result, or the first refusal that applies
pub data Answer (A : Type 0) : Type 0 where
  done : A → Answer A
  refused : Refusal → Answer A

abbrev pub answer : {A : Type 0} → Option Refusal → A → Answer A
answer none a = done a
answer (some r) a = refused r

-- What a call does with what another handed back
abbrev pub after : {A B : Type 0} → Answer A → (A → Answer B) → Answer B
after (done a) f = f a
after (refused r) f = refused r

abbrev pub mapped : {A B : Type 0} → (A → B) → Answer A → Answer B
mapped f (done a) = done (f a)
mapped f (refused r) = refused r

-- Programs: rules 1 to 8 and 20. Each name that ends in `-under` is told the setting of the lesson; the name without it is the case outside
-- the LOOP-only setting

-- "The text is over 16,384 bytes (place 0)"
unfoldable pub rule_1 : Bytes → Option Refusal
rule_1 t = unless (leb (length t) Limits.most_bytes) 1 0

-- "The text has bytes and its last isn't LF (place the last line)"
unfoldable pub rule_2 : Bytes → Option Refusal
rule_2 t = unless (eqb (length t) 0 || ends_in_LF t) 2 (length (split_lines t))

-- "There are more than 512 lines (place 513)"
unfoldable pub rule_3 : {A : Type 0} → List A → Option Refusal
rule_3 l = unless (leb (length l) Limits.most_lines) 3 (suc Limits.most_lines)

abbrev pub same_kind : Kind → Kind → Bool
same_kind loop loop = true
same_kind loop while = false
same_kind while loop = false
same_kind while while = true

-- 6, "A pair opens with 16 open"; 7, "A closing line doesn't match the innermost open pair in kind and index, or none is open"
abbrev pub pair_fault : ℕ → List Opening → Command → Option Refusal
pair_fault n os (plain c) = none
pair_fault n os (opens k i) = unless (ltb (length os) Limits.most_open) 6 n
pair_fault n [] (closes k i) = refuse 7 n
pair_fault n (o ∷ os) (closes k i) = unless (same_kind k o.kind && eqb i o.index) 7 n

-- 20, "a `while` or `endwhile` line under the setting"
abbrev pub rule_20 : Setting → ℕ → Command → Option Refusal
rule_20 Any n c = none
rule_20 LoopOnly n (plain c) = none
rule_20 LoopOnly n (opens loop i) = none
rule_20 LoopOnly n (opens while i) = refuse 20 n
rule_20 LoopOnly n (closes loop i) = none
rule_20 LoopOnly n (closes while i) = refuse 20 n

-- Line n, under the pairs open there: 4, "A line is none of the spellings"; 5, "An index is above 31"; 20, which "stands after 5 and before
-- 6"; then 6 and 7
abbrev pub line_fault_under : Setting → ℕ → List Opening → Option Command → Option Refusal
line_fault_under σ n os none = refuse 4 n
line_fault_under σ n os (some c) =
    or_else (unless (leb (above (indices c)) (suc Limits.most_index)) 5 n)
    (or_else (rule_20 σ n c) (pair_fault n os c))

abbrev pub line_fault : ℕ → List Opening → Option Command → Option Refusal
line_fault = line_fault_under Any

-- The pairs open after it
abbrev pub open_past : ℕ → List Opening → Option Command → List Opening
open_past n os none = os
open_past n os (some c) = open_next n os c

-- "rules 4 to 7 go line by line, first faulty line first", 20 with them; then 8, "A pair is left open (place the innermost opening line)"
unfoldable pub lines_fault_under : Setting → ℕ → List Opening → List (Option Command) → Option Refusal
lines_fault_under σ n [] [] = none
lines_fault_under σ n (o ∷ os) [] = refuse 8 o.line
lines_fault_under σ n os (c ∷ p) = or_else (line_fault_under σ n os c) (lines_fault_under σ (suc n) (open_past n os c) p)

abbrev pub lines_fault : ℕ → List Opening → List (Option Command) → Option Refusal
lines_fault = lines_fault_under Any

-- Rules 3 to 8, of the lines of a text or the commands of a list
unfoldable pub program_fault_under : Setting → List (Option Command) → Option Refusal
program_fault_under σ p = or_else (rule_3 p) (lines_fault_under σ 1 [] p)

abbrev pub program_fault : List (Option Command) → Option Refusal
program_fault = program_fault_under Any

abbrev pub text_lines : Bytes → List (Option Command)
text_lines t = map command (split_lines t)

unfoldable pub text_fault_under : Setting → Bytes → Option Refusal
text_fault_under σ t = or_else (rule_1 t) (or_else (rule_2 t) (program_fault_under σ (text_lines t)))

abbrev pub text_fault : Bytes → Option Refusal
text_fault = text_fault_under Any

-- A program handed in as text, rules 1 to 8; as a list of numbers, rules 3 to 8: "A call skips the numbers of things it isn't given"
unfoldable pub read_text_under : Setting → Bytes → Answer (List Command)
read_text_under σ t = answer (text_fault_under σ t) (present (text_lines t))

abbrev pub read_text : Bytes → Answer (List Command)
read_text = read_text_under Any

unfoldable pub read_list_under : Setting → List ℕ → Answer (List Command)
read_list_under σ l = answer (program_fault_under σ (listed l)) (commands l)

abbrev pub read_list : List ℕ → Answer (List Command)
read_list = read_list_under Any

-- Source states: rule 9

-- "Rules 9, 10 and 18 read each capacity, 9 only those of variables below K": these are 1 to 1,024
abbrev pub are_capacities : ℕ → List ℕ → Bool
are_capacities K capacities = all_below K (λ i. is_limited Limits.most_capacity (capacity_of capacities (register i)))

-- A value is at most its variable's capacity, and 0 "at index K or higher"
abbrev pub is_value : List ℕ → ℕ → ℕ → ℕ → Bool
is_value capacities K i v = cond (ltb i K) (leb v (capacity_of capacities (register i))) (eqb v 0)

-- Passes left of the loop inside d loops: 1 to capacity "for a loop whose body or `endloop` holds its line", 0 "for any other". The pairs
-- that hold the line are given; "for a passes-left" the capacity is "that of its loop's variable"
abbrev pub is_passes : List ℕ → List Opening → ℕ → ℕ → Bool
is_passes capacities os d k =
    cond (ltb d (S.loops os)) (is_limited (capacity_of capacities (register (S.loop_variable os d))) k) (eqb k 0)

-- "a capacity outside 1 to 1,024, a line outside 1 to the line after the last", a value or a passes-left that is not as above
unfoldable pub is_source : List Command → SourceState → Bool
is_source p s =
    are_capacities (variables p) s.capacities
    && is_limited (suc (length p)) s.state.line
    && all_below Limits.state_values (λ i. is_value s.capacities (variables p) i (s.state.values i))
    && all_below Limits.state_passes (λ d. is_passes s.capacities (S.open_at p s.state.line) d (s.state.passes d))

-- "A source state has …": what `is_source` tests (place 0)
unfoldable pub rule_9 : List Command → SourceState → Option Refusal
rule_9 p s = unless (is_source p s) 9 0

-- "A machine's sizes are outside the limits or its store or lengths aren't as laid down above (place 0)"
unfoldable pub rule_10 : Memory → Option Refusal
rule_10 m = unless (is_memory m) 10 0

-- Words: rules 11 to 15. Places are byte offsets from 0

-- "The word is empty or above 600,000 bytes (place 0)"
unfoldable pub rule_11 : Bytes → Option Refusal
rule_11 w = unless (is_limited Limits.most_symbols (length w)) 11 0

-- The place of the first byte from n on that fails a test
unfoldable pub first_failing : (ℕ → Bool) → ℕ → List ℕ → Option ℕ
first_failing f n [] = none
first_failing f n (b ∷ l) = cond (f b) (first_failing f (suc n) l) (some n)

-- "A byte is neither 1 nor # (place the first such)"
unfoldable pub rule_12 : Bytes → Option Refusal
rule_12 w = and_then (first_failing is_symbol 0 w) (refuse 12)

abbrev pub entry_size : Entry → ℕ
entry_size e = e.operand + e.kind

abbrev pub total : List Entry → ℕ
total [] = 0
total (e ∷ t) = entry_size e + total t

-- Where the next entry stands, after one that stands at n: in a word by bytes, in a table by entries
abbrev pub next_byte : ℕ → Entry → ℕ
next_byte n e = n + entry_size e

abbrev pub next_entry : ℕ → Entry → ℕ
next_entry n e = suc n

-- The first answer, of entries that follow one another from n
unfoldable pub first_along : (ℕ → Entry → ℕ) → (ℕ → Entry → Option ℕ) → ℕ → List Entry → Option ℕ
first_along next f n [] = none
first_along next f n (e ∷ t) = or_else (f n e) (first_along next f (next n e) t)

-- "The word starts with #, has a sixth # running, or ends in 1 (place 0, that #, or the length; the least)": in the entry that starts at n,
-- 0 only in the first and the length only in the last, so the first faulty entry has the least place
abbrev pub entry_fault : ℕ → Entry → Option ℕ
entry_fault n e =
    or_else (given (eqb e.operand 0) n)
    (or_else (given (ltb 5 e.kind) (n + e.operand + 5))
    (given (eqb e.kind 0) (n + e.operand)))

-- In a table, "a kind outside 1 to 5 or an operand of 0": at the entry itself
abbrev pub bad_entry : ℕ → Entry → Option ℕ
bad_entry n e = given (not (is_limited 5 e.kind) || eqb e.operand 0) n

-- By where entries stand, and by what is a fault there
unfoldable pub rule_13 : (ℕ → Entry → ℕ) → (ℕ → Entry → Option ℕ) → List Entry → Option Refusal
rule_13 next fault t = and_then (first_along next fault 0 t) (refuse 13)

-- "There are more than 8,192 instructions (place the next one's start)", told that place
unfoldable pub rule_14 : ℕ → List Entry → Option Refusal
rule_14 place t = unless (leb (length t) Limits.most_instructions) 14 place

-- "An add or cases names a register the machine lacks (place the start of the first such)"; kinds 1, 2 and 5 name a register
abbrev pub names_register : ℕ → Bool
names_register k = ltb k 3 || eqb k 5

abbrev pub lacks : ℕ → ℕ → Entry → Option ℕ
lacks registers n e = given (names_register e.kind && ltb registers e.operand) n

unfoldable pub rule_15 : (ℕ → Entry → ℕ) → ℕ → List Entry → Option Refusal
rule_15 next registers t = and_then (first_along next (lacks registers) 0 t) (refuse 15)

abbrev pub word_entries : Bytes → List Entry
word_entries w = entries (map symbol_of w)

-- Rules 13 and 14, of a word's entries
abbrev pub entries_fault : List Entry → Option Refusal
entries_fault t = or_else (rule_13 next_byte entry_fault t) (rule_14 (total (take Limits.most_instructions t)) t)

unfoldable pub word_fault : Bytes → Option Refusal
word_fault w = or_else (rule_11 w) (or_else (rule_12 w) (entries_fault (word_entries w)))

-- "For a table in place of a word, places are entries from 0: 11 is no entries or kinds and operands summing above 600,000, 13 a kind
-- outside 1 to 5 or an operand of 0, 14 and 15 as for words"
unfoldable pub table_rule_11 : List Entry → Option Refusal
table_rule_11 t = unless (leb 1 (length t) && leb (total t) Limits.most_symbols) 11 0

unfoldable pub table_fault : List Entry → Option Refusal
table_fault t = or_else (table_rule_11 t) (or_else (rule_13 next_entry bad_entry t) (rule_14 Limits.most_instructions t))

-- A word read, rules 11 to 14, and a table handed in, rules 11, 13 and 14; on a machine, then 15
unfoldable pub read_word : Bytes → Answer (List Entry)
read_word w = answer (word_fault w) (word_entries w)

unfoldable pub read_table : List Entry → Answer (List Entry)
read_table t = answer (table_fault t) t

unfoldable pub read_word_for : ℕ → Bytes → Answer (List Entry)
read_word_for registers w = answer (or_else (word_fault w) (rule_15 next_byte registers (word_entries w))) (word_entries w)

unfoldable pub read_table_for : ℕ → List Entry → Answer (List Entry)
read_table_for registers t = answer (or_else (table_fault t) (rule_15 next_entry registers t)) t

-- The instructions of an accepted table
abbrev pub instructions : List Entry → List Instruction
instructions t = present (map instruction_of t)

-- Capacities: rule 21, of a program of K variables whose word is run on registers of these capacities

-- "the largest of a variable": of registers 1 to K, named or not
unfoldable pub largest : (ℕ → ℕ) → ℕ → ℕ
largest capacity zero = 0
largest capacity (suc K) = max (largest capacity K) (capacity (register K))

-- An instruction names "a scratch or counter register": one above K
abbrev pub names_above : ℕ → Instruction → Bool
names_above K i = names_register (kind i) && ltb K (operand i)

-- It names none, or none "of less capacity than the largest of a variable"
abbrev pub is_roomy : (ℕ → ℕ) → ℕ → Instruction → Bool
is_roomy capacity K i = not (names_above K i) || leb (largest capacity K) (capacity (operand i))

-- "in a call that is given a program and runs its word, a scratch or counter register that the word names, of less capacity than the
-- largest of a variable (place 0)"
unfoldable pub rule_21 : (ℕ → ℕ) → List Command → Option Refusal
rule_21 capacity p = unless (all (is_roomy capacity (variables p)) (word_of p)) 21 0

-- Sheets: rules 16 to 18, of a program of K variables, with the capacities of its registers

-- "The sheet is empty, too long, or doesn't end in LF (place 0)"
unfoldable pub sheet_size_fault : Bytes → Option Refusal
sheet_size_fault t = unless (leb (length t) Limits.most_sheet_bytes && ends_in_LF t) 16 0

-- The names line: 16, "a line has the wrong shape"; 17, "A name isn't below K or comes twice"
abbrev pub names_fault : ℕ → Option (List ℕ) → Option Refusal
names_fault K none = refuse 16 1
names_fault K (some ns) = unless (leb (above ns) K && distinct ns) 17 1

-- Each value is at most the capacity of the variable that its column names: "A variable's capacity is that of its register"
unfoldable pub within_columns : List ℕ → List ℕ → List ℕ → Bool
within_columns capacities [] vs = true
within_columns capacities (n ∷ ns) [] = true
within_columns capacities (n ∷ ns) (v ∷ vs) = leb v (capacity_of capacities (register n)) && within_columns capacities ns vs

-- Line n of values, for the names ns: 16, "a line has the wrong shape or count"; 18, "A value is above the capacity"
abbrev pub values_fault : List ℕ → List ℕ → ℕ → Option (List ℕ) → Option Refusal
values_fault capacities ns n none = refuse 16 n
values_fault capacities ns n (some vs) =
    or_else (unless (eqb (length vs) (length ns)) 16 n) (unless (within_columns capacities ns vs) 18 n)

unfoldable pub rows_fault : List ℕ → List ℕ → ℕ → List Bytes → Option Refusal
rows_fault capacities ns n [] = none
rows_fault capacities ns n (l ∷ ls) = or_else (values_fault capacities ns n (values l)) (rows_fault capacities ns (suc n) ls)

-- The names of a sheet, in order
abbrev pub names_of : List Bytes → List ℕ
names_of [] = []
names_of (l ∷ ls) = default [] (names l)

abbrev pub sheet_lines_fault : ℕ → List ℕ → List Bytes → Option Refusal
sheet_lines_fault K capacities [] = none
sheet_lines_fault K capacities (l ∷ ls) = or_else (names_fault K (names l)) (rows_fault capacities (names_of (l ∷ ls)) 2 ls)

-- "16 to 18 [go line by line] after the size rules of 16"
unfoldable pub sheet_fault_for : ℕ → List ℕ → Bytes → Option Refusal
sheet_fault_for K capacities t = or_else (sheet_size_fault t) (sheet_lines_fault K capacities (split_lines t))

abbrev pub sheet_fault : List Command → List ℕ → Bytes → Option Refusal
sheet_fault p capacities t = sheet_fault_for (variables p) capacities t

-- Lent outputs

-- "A lent output is shorter than the result (place 0)"
unfoldable pub rule_19 : {A B : Type 0} → List A → List B → Option Refusal
rule_19 lent result = unless (leb (length result) (length lent)) 19 0

-- A result for a lent output, checked last
abbrev pub lend : {A B : Type 0} → List A → Answer (List B) → Answer (List B)
lend lent r = after r λ l. answer (rule_19 lent l) l

-- The lent output afterwards: it begins with the result, and "bytes past any result" are "untouched"; on a refusal "Nothing lent changes"
unfoldable pub lent_after : {A : Type 0} → List A → Answer (List A) → List A
lent_after lent (done l) = l ++ drop (length l) lent
lent_after lent (refused r) = lent

-- Calls: the order in which each checks what it is given, and then what it does. "Lower numbers are checked first"; "A call skips the
-- numbers of things it isn't given". `read_text_under`, `read_list_under`, `read_word`, `read_table` and `sheet_fault` above are calls too

-- A text read into a lent list: 1 to 8, 19
unfoldable pub read_program_into : Setting → List ℕ → Bytes → Answer (List Command)
read_program_into σ lent t = after (read_text_under σ t) λ p. answer (rule_19 lent (list_of p)) p

-- A list written into a lent text: 3 to 8, 19
unfoldable pub write_program_into : Setting → Bytes → List ℕ → Answer Bytes
write_program_into σ lent l = lend lent (mapped text_of (read_list_under σ l))

-- A program, handed in as text (1 to 8) or list (3 to 8), translated into a lent output as the word that `text` writes: its rules, 19. What
-- is translated so may be a listing too (document 02, request 6)
unfoldable pub translate_into : {P : Type 0} → (P → Bytes) → Bytes → Answer P → Answer P
translate_into text lent program = after program λ p. answer (rule_19 lent (text p)) p

-- A program, handed in so, run from a state: its rules, 9, the run
unfoldable pub run_from : SourceState → ℕ → List Command → Answer (Outcome S.State)
run_from s budget p = answer (rule_9 p s) (run_source p s budget)

abbrev pub run_program : Answer (List Command) → SourceState → ℕ → Answer (Outcome S.State)
run_program program s budget = after program (run_from s budget)

-- A word read into lent lists of kinds and operands: 11 to 14, 19 for either list
unfoldable pub read_word_into : List ℕ → List ℕ → Bytes → Answer (List Entry)
read_word_into kinds operands w = after (read_word w) λ t. answer (or_else (rule_19 kinds t) (rule_19 operands t)) t

-- A table written into a lent word: 11, 13, 14, 19
unfoldable pub write_word_into : Bytes → List Entry → Answer Bytes
write_word_into lent t = lend lent (mapped (λ u. bytes_of (spell_entries u)) (read_table t))

-- A word, handed in as bytes (11 to 15) or as a table (11, 13, 14, 15), run on a machine: 10, its rules, the run
abbrev pub for_machine : Memory → Answer (List Entry) → Answer (List Entry)
for_machine m word = after (answer (rule_10 m) m) λ n. word

abbrev pub run_on : Memory → Position → ℕ → Answer (List Entry) → Answer (Outcome W.State)
run_on m p budget word = mapped (λ t. run_word (instructions t) m p budget) (for_machine m word)
