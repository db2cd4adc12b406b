-- Rules 3 to 8 as facts about a program: what is read is accepted; an accepted program keeps the limits, line by line, and is the lines of
-- its block.
use mathlib.Core.Path.{◌≡◌, refl, sym, ap, ap₂, ◌∙◌}
use mathlib.Core.Bool.{Bool, true, ◌&&◌, false≢true}
use mathlib.Core.Option.{Option, none, some, none-ne-some}
use mathlib.Core.List.{List, [], ◌∷◌, ◌++◌, map, append_assoc, append-nil}
use Prim.Native.Nat.{ℕ, suc, ◌+◌, ◌≤◌, ◌<◌, max}
use native.Mathlib.Omega.{arith}
use lib.ListN.{length, length-map}
use lib.Dec.{eqb, ltb, leb}
use borrow.Author.Tests.{eqb-true, ltb-true, leb-true, le-leb}
use Rattle.theory.specs.Limits
use Rattle.theory.specs.Basics.{or_else, present, EachOf}
use Rattle.theory.specs.Text.{Bytes}
use Rattle.theory.specs.ProgramText.{Plain, Kind, loop, while, Command, plain, opens, closes, indices, above, variables, listed}
use Rattle.theory.specs.ProgramText.{Block, empty, single, pair, lines, Blocks, opened_by, blocks, block_of, Opening}
use Rattle.theory.specs.TurnedDown.{done, unless, rule_1, rule_2, rule_3, same_kind, pair_fault, line_fault, open_past}
use Rattle.theory.specs.TurnedDown.{lines_fault, program_fault, text_lines, text_fault, read_text, read_list}
use Rattle.theory.specs.TurnedDown.{lines_fault_under, program_fault_under, text_fault_under, read_text_under, read_list_under}
use Rattle.theory.specs.Claims.{Accepted, ReadsAccepted, WellNested}
use Rattle.theory.specs.declared.Refusal.{Refusal}
use Rattle.theory.specs.ProgramText.{commands}
use Rattle.theory.proofs.Faults.{none_first, none_second, neither, answer_done, unless_none, and_first, and_second}

kinds : (k l : Kind) → same_kind k l ≡ true → k ≡ l
kinds loop loop e = refl
kinds loop while e = absurd (false≢true e)
kinds while loop e = absurd (false≢true e)
kinds while while e = refl

-- Rules 4 to 7, of one line

pub indexed : (n : ℕ) (os : List Opening) (c : Command) → line_fault n os (some c) ≡ none → above (indices c) ≤ suc Limits.most_index
indexed n os c e =
    let t : Bool = leb (above (indices c)) (suc Limits.most_index) in
    leb-true (above (indices c)) (suc Limits.most_index) (unless_none t 5 n (none_first (unless t 5 n) (pair_fault n os c) e))

pub paired : (n : ℕ) (os : List Opening) (c : Command) → line_fault n os (some c) ≡ none → pair_fault n os c ≡ none
paired n os c e = none_second (unless (leb (above (indices c)) (suc Limits.most_index)) 5 n) (pair_fault n os c) e

pub few_open : (n : ℕ) (os : List Opening) (k : Kind) (i : ℕ) → line_fault n os (some (opens k i)) ≡ none → length os < Limits.most_open
few_open n os k i e =
    ltb-true (length os) Limits.most_open (unless_none (ltb (length os) Limits.most_open) 6 n (paired n os (opens k i) e))

pub one_open : (n : ℕ) (k : Kind) (i : ℕ) → line_fault n [] (some (closes k i)) ≡ none → ⊥
one_open n k i e = none-ne-some _ (sym (paired n [] (closes k i) e))

pub matching : (n : ℕ) (o : Opening) (os : List Opening) (k : Kind) (i : ℕ) → line_fault n (o ∷ os) (some (closes k i)) ≡ none
    → (k ≡ o.kind) × (i ≡ o.index)
matching n o os k i e =
    let t : Bool = same_kind k o.kind && eqb i o.index in
    let h : t ≡ true = unless_none t 7 n (paired n (o ∷ os) (closes k i) e) in
    (kinds k o.kind (and_first (same_kind k o.kind) _ h), eqb-true i o.index (and_second (same_kind k o.kind) _ h))

-- The first line has no fault, and the others have none under the pairs that are then open
pub first-line : (n : ℕ) (os : List Opening) (c : Option Command) (l : List (Option Command)) → lines_fault n os (c ∷ l) ≡ none
    → line_fault n os c ≡ none
unfolding lines_fault_under
first-line n os c l e = none_first (line_fault n os c) (lines_fault (suc n) (open_past n os c) l) e

pub next-lines : (n : ℕ) (os : List Opening) (c : Option Command) (l : List (Option Command)) → lines_fault n os (c ∷ l) ≡ none
    → lines_fault (suc n) (open_past n os c) l ≡ none
unfolding lines_fault_under
next-lines n os c l e = none_second (line_fault n os c) (lines_fault (suc n) (open_past n os c) l) e

-- Rules 3 to 8 are rule 3 and the lines' rules
pub faultless : (l : List (Option Command)) → program_fault l ≡ none → (length l ≤ Limits.most_lines) × (lines_fault 1 [] l ≡ none)
unfolding program_fault_under rule_3
faultless l e =
    let few : Bool = leb (length l) Limits.most_lines in
    let t : few ≡ true = unless_none few 3 (suc Limits.most_lines) (none_first (rule_3 l) (lines_fault 1 [] l) e) in
    (leb-true (length l) Limits.most_lines t, none_second (rule_3 l) (lines_fault 1 [] l) e)

-- An accepted program, rule by rule
pub short : (p : List Command) → Accepted p → length p ≤ Limits.most_lines
short p a = omega (arith, (faultless (map some p) a).0, length-map p some)

pub sound : (p : List Command) → Accepted p → lines_fault 1 [] (map some p) ≡ none
sound p a = (faultless (map some p) a).1

pub accepts : (p : List Command) → length p ≤ Limits.most_lines → lines_fault 1 [] (map some p) ≡ none → Accepted p
unfolding program_fault_under rule_3
accepts p l e =
    let few : length (map some p) ≤ Limits.most_lines = omega (arith, length-map p some) in
    neither (rule_3 (map some p)) (lines_fault 1 [] (map some p)) (rw (le-leb (length (map some p)) Limits.most_lines few)) e

-- Line by line: no rule turns a line down, under the pairs open there
abbrev pub LinesSound : ℕ → List Opening → List Command → Type 0
LinesSound n os [] = Unit {0}
LinesSound n os (c ∷ p) = (line_fault n os (some c) ≡ none) × LinesSound (suc n) (open_past n os (some c)) p

pub lines_sound : (p : List Command) (n : ℕ) (os : List Opening) → lines_fault n os (map some p) ≡ none → LinesSound n os p
lines_sound [] n os e = tt
lines_sound (c ∷ p) n os e =
    let l : List (Option Command) = map some p in
    (first-line n os (some c) l e, lines_sound p (suc n) (open_past n os (some c)) (next-lines n os (some c) l e))

abbrev pub LowIndices : Command → Type 0
LowIndices c = above (indices c) ≤ suc Limits.most_index

low_indices : (p : List Command) (n : ℕ) (os : List Opening) → LinesSound n os p → EachOf LowIndices p
low_indices [] n os s = tt
low_indices (c ∷ p) n os s = (indexed n os c s.0, low_indices p (suc n) (open_past n os (some c)) s.1)

pub low : (p : List Command) → Accepted p → EachOf LowIndices p
low p a = low_indices p 1 [] (lines_sound p 1 [] (sound p a))

few_named : (p : List Command) → EachOf LowIndices p → variables p ≤ suc Limits.most_index
few_named [] e = omega arith
few_named (c ∷ p) e =
    let x : above (indices c) ≤ suc Limits.most_index = e.0 in
    omega (arith, few_named p e.1)

pub few_variables : (p : List Command) → Accepted p → variables p ≤ suc Limits.most_index
few_variables p a = few_named p (low p a)

-- What is read is accepted: no line of it is missing
all-present : (l : List (Option Command)) (n : ℕ) (os : List Opening) → lines_fault n os l ≡ none → map some (present l) ≡ l
all-present [] n os e = refl
all-present (none ∷ l) n os e = absurd (none-ne-some _ (sym (first-line n os none l e)))
all-present (some c ∷ l) n os e =
    ap {B = List (Option Command)} (λ r. some c ∷ r) (all-present l (suc n) (open_past n os (some c)) (next-lines n os (some c) l e))

pub nothing_missing : (l : List (Option Command)) → program_fault l ≡ none → map some (present l) ≡ l
nothing_missing l e = all-present l 1 [] (faultless l e).1

present_accepted : (l : List (Option Command)) (p : List Command) → program_fault l ≡ none → present l ≡ p → Accepted p
present_accepted l p e h = rw (← h, nothing_missing l e) e

-- What a text or a list is read as, and that its lines have no fault
pub text-read : (t : Bytes) (p : List Command) → read_text t ≡ done p → (text_fault t ≡ none) × (present (text_lines t) ≡ p)
unfolding read_text_under
text-read t p e = answer_done (text_fault t) (present (text_lines t)) p e

pub list_read : (l : List ℕ) (p : List Command) → read_list l ≡ done p → (program_fault (listed l) ≡ none) × (present (listed l) ≡ p)
unfolding read_list_under commands
list_read l p e = answer_done (program_fault (listed l)) (present (listed l)) p e

pub text_sound : (t : Bytes) → text_fault t ≡ none → program_fault (text_lines t) ≡ none
unfolding text_fault_under
text_sound t e =
    let rest : Option Refusal = program_fault (text_lines t) in
    none_second (rule_2 t) rest (none_second (rule_1 t) (or_else (rule_2 t) rest) e)

pub reads_accepted : ReadsAccepted
reads_accepted = (of_text, of_list)
  where
    of_text : (t : Bytes) (p : List Command) → read_text t ≡ done p → Accepted p
    of_text t p e = present_accepted (text_lines t) p (text_sound t (text-read t p e).0) (text-read t p e).1

    of_list : (l : List ℕ) (p : List Command) → read_list l ≡ done p → Accepted p
    of_list l p e = present_accepted (listed l) p (list_read l p e).0 (list_read l p e).1

-- An accepted program is the lines of its block

-- The lines of a block, and of those after each pair open
joined : List Opening → Block → List Block → List Command
joined [] b bs = lines b
joined (o ∷ os) b [] = lines b
joined (o ∷ os) b (b' ∷ bs) = lines b ++ (closes o.kind o.index ∷ joined os b' bs)

joined_line : (os : List Opening) (c : Plain) (b : Block) (bs : List Block) → joined os (single c b) bs ≡ plain c ∷ joined os b bs
unfolding joined
joined_line [] c b bs = refl
joined_line (o ∷ os) c b [] = refl
joined_line (o ∷ os) c b (b' ∷ bs) = refl

joined-pair : (os : List Opening) (k : Kind) (i : ℕ) (b b' : Block) (bs : List Block)
    → joined os (pair k i b b') bs ≡ opens k i ∷ (lines b ++ (closes k i ∷ joined os b' bs))
unfolding joined
joined-pair [] k i b b' bs = refl
joined-pair (o ∷ os) k i b b' [] = refl
joined-pair (o ∷ os) k i b b' (x ∷ bs) = rw append_assoc

-- As many blocks as pairs open, and their lines are the program's
Joins : List Opening → List Command → Blocks → Type 0
Joins os p r = (length r.later ≡ length os) × (joined os r.first r.later ≡ p)

joins_open : (k : Kind) (i n : ℕ) (p : List Command) (os : List Opening) (b : Block) (bs : List Block)
    → length bs ≡ suc (length os) → joined (record { line = n; kind = k; index = i } ∷ os) b bs ≡ p
    → Joins os (opens k i ∷ p) (opened_by k i b bs)
unfolding Joins joined
joins_open k i n p os b [] l e = absurd (omega arith)
joins_open k i n p os b (b' ∷ bs) l e = (omega arith, joined-pair os k i b b' bs ∙ ap {B = List Command} (λ r. opens k i ∷ r) e)

joins : (p : List Command) (n : ℕ) (os : List Opening) → lines_fault n os (map some p) ≡ none → Joins os p (blocks p)
unfolding Joins joined blocks lines_fault_under
joins [] n [] e = (refl, refl)
joins [] n (o ∷ os) e = absurd (none-ne-some _ (sym e))
joins (plain c ∷ p) n os e =
    let r : Joins os p (blocks p) = joins p (suc n) os (next-lines n os (some (plain c)) (map some p) e) in
    (r.0, joined_line os c (blocks p).first (blocks p).later ∙ ap {B = List Command} (λ l. plain c ∷ l) r.1)
joins (opens k i ∷ p) n os e =
    let os' : List Opening = record { line = n; kind = k; index = i } ∷ os in
    let r : Joins os' p (blocks p) = joins p (suc n) os' (next-lines n os (some (opens k i)) (map some p) e) in
    joins_open k i n p os (blocks p).first (blocks p).later r.0 r.1
joins (closes k i ∷ p) n [] e = absurd (one_open n k i (first-line n [] (some (closes k i)) (map some p) e))
joins (closes k i ∷ p) n (o ∷ os) e =
    let r : Joins os p (blocks p) = joins p (suc n) os (next-lines n (o ∷ os) (some (closes k i)) (map some p) e) in
    let m : _ = matching n o os k i (first-line n (o ∷ os) (some (closes k i)) (map some p) e) in
    (ap suc r.0, ap₂ {C = List Command} (λ c l. c ∷ l) (ap₂ closes (sym m.0) (sym m.1)) r.1)

pub well_nested : WellNested
unfolding block_of Joins joined
well_nested p a = (joins p 1 [] (sound p a)).1

-- At most 16 pairs within pairs

abbrev pub nest : Block → ℕ
nest empty = 0
nest (single c b) = nest b
nest (pair k i body b) = max (suc (nest body)) (nest b)

-- A block's lines, under some pairs open, and more lines after it: its pairs have room, and the lines after it stand under the same pairs
nested : (b : Block) (n : ℕ) (os : List Opening) (p : List Command)
    → lines_fault n os (map some (lines b ++ p)) ≡ none → length os ≤ Limits.most_open
    → (nest b + length os ≤ Limits.most_open) × ((n' : ℕ) × (lines_fault n' os (map some p) ≡ none))
nested empty n os p e l = (omega arith, (n, e))
nested (single c b) n os p e l = nested b (suc n) os p (next-lines n os (some (plain c)) (map some (lines b ++ p)) e) l
nested (pair k i body b) n os p e l =
    let c : Option Command = some (opens k i) in
    let r : List Command = (lines body ++ (closes k i ∷ lines b)) ++ p in
    let os' : List Opening = record { line = n; kind = k; index = i } ∷ os in
    let few : length os < Limits.most_open = few_open n os k i (first-line n os c (map some r) e) in
    let f : lines_fault (suc n) os' (map some (lines body ++ (closes k i ∷ (lines b ++ p)))) ≡ none =
    rw append_assoc at (next-lines n os c (map some r) e) in
    let x : _ = nested body (suc n) os' (closes k i ∷ (lines b ++ p)) f (omega arith) in
    let g : _ = next-lines x.1.0 os' (some (closes k i)) (map some (lines b ++ p)) x.1.1 in
    let y : _ = nested b (suc x.1.0) os p g l in
    let inner : nest body + suc (length os) ≤ Limits.most_open = x.0 in
    let rest : nest b + length os ≤ Limits.most_open = y.0 in
    (omega arith, y.1)

pub shallow : (p : List Command) → Accepted p → nest (block_of p) ≤ Limits.most_open
shallow p a =
    let b : Block = block_of p in
    let e : lines_fault 1 [] (map some (lines b ++ [])) ≡ none = rw (append-nil (lines b), well_nested p a) (sound p a) in
    let x : nest b + 0 ≤ Limits.most_open = (nested b 1 [] [] e (omega arith)).0 in
    omega arith
