-- The word of an accepted program on a row's values is run on lengths alone, and that run is the definition's.
use mathlib.Core.Path.{◌≡◌, refl, sym, ap, ap₂, subst, ◌∙◌}
use mathlib.Core.Bool.{Bool, true, false, cond}
use mathlib.Core.Option.{none}
use mathlib.Core.List.{List, [], ◌∷◌, ◌++◌}
use Prim.Native.Nat.{ℕ, suc, ◌+◌, ◌≤◌}
use native.Mathlib.Omega.{arith}
use borrow.Author.Tests.{lt-ltb, le-leb}
use lib.Dec.{eqb}
use lib.IntN.{pos}
use lib.ListN.{length, get_or}
use Rattle.std.specs.Prelude.{Option, Some, None}
use Rattle.theory.specs.Basics.{all, EachOf}
use Rattle.theory.specs.ProgramText.{Plain, clear, increment, copy, Kind, loop, while, Command, variables, Block, empty, single, pair}
use Rattle.theory.specs.ProgramText.{lines, block_of}
use Rattle.theory.specs.Source.{deeper}
use Rattle.theory.specs.Word as W
use Rattle.theory.specs.Word.{Instruction, append, one, hash, forward, backward, cases, kind, operand, Entry, table_of, spell}
use Rattle.theory.specs.Runs.{Outcome, run, register, within_each}
use Rattle.theory.specs.Machines.{capacity_of, holding, is_limited}
use Rattle.theory.specs.Translation.{scratch, touching, copying, plain_code, before_body, after_body, code, word, word_of, word_text}
use Rattle.theory.specs.TurnedDown.{first_along, next_entry, word_entries, instructions}
use Rattle.theory.specs.RunTool.{word_on}
use Rattle.theory.specs.Claims.{Accepted}
use Rattle.theory.proofs.GoodMemory.{both, all_below-from}
use Rattle.theory.proofs.Nesting.{few_variables}
use Rattle.theory.proofs.Sizes.{each_append, Fits, weight, word_fits, word-limits, words_fit}
use Rattle.theory.proofs.Words.{entries_of-word, formed_of_instructions}
use Rattle.word.specs.Answers.{zipped}
use Rattle.memory.specs.declared.answers.Position.{Position}
use Rattle.memory.specs.declared.answers.Run.{Run}
use Rattle.registers.specs.Fresh.{fresh_registers, values_within}
use Rattle.usable.specs.Usable.{most_operand, unusable, first_unusable}
use Rattle.countable.specs.Countable.{no_2, is_countable}
use Rattle.counts.specs.Counts.{counted_outcome, CountsTo}
use Rattle.countable.proofs.Tested.{by_kinds, by_search}
use Rattle.theory.specs.declared.Ended.{Ended}
use Rattle.report_text.specs.Fresh.{values_of, IsSet, Starts}
use Rattle.report_text.specs.Rows.{ended_of, run_ended}
use Rattle.report_text.proofs.Sets.{registers}
use Rattle.report_text.proofs.Fresh.{same-registers}

-- No instruction of a word appends #

abbrev NoHash : Instruction → Type 0
NoHash i = no_2 (kind i) ≡ true

plain_no_hash : (K : ℕ) (c : Plain) → EachOf NoHash (plain_code K c)
plain_no_hash K (clear i) = (refl, (refl, (refl, tt)))
plain_no_hash K (increment i) = (refl, tt)
plain_no_hash K (copy i j) = go (eqb i j)
  where
    go : (t : Bool) → EachOf NoHash (cond t (touching (register j)) (copying (register j) (register i) (scratch K)))
    go true = (refl, (refl, (refl, tt)))
    go false = (refl, (refl, (refl, (refl, (refl, (refl, (refl, (refl, (refl, (refl, (refl, (refl, tt))))))))))))

before_no_hash : (K d : ℕ) (k : Kind) (i m : ℕ) → EachOf NoHash (before_body K d k i m)
before_no_hash K d loop i m = (refl, (refl, (refl, (refl, (refl, (refl, (refl, (refl, (refl, (refl, (refl, tt)))))))))))
before_no_hash K d while i m = (refl, (refl, (refl, tt)))

after_no_hash : (k : Kind) (m : ℕ) → NoHash (after_body k m)
after_no_hash loop m = refl
after_no_hash while m = refl

code_no_hash : (K d : ℕ) (b : Block) → EachOf NoHash (code K d b)
unfolding code
code_no_hash K d empty = tt
code_no_hash K d (single c b) = each_append NoHash (plain_code K c) (code K d b) (plain_no_hash K c) (code_no_hash K d b)
code_no_hash K d (pair k i body b) =
    let inner : List Instruction = code K (deeper k d) body in
    let m : ℕ = length inner in
    let after : List Instruction = after_body k m ∷ code K d b in
    each_append NoHash (before_body K d k i m) (inner ++ after) (before_no_hash K d k i m)
    (each_append NoHash inner after (code_no_hash K (deeper k d) body) (after_no_hash k m, code_no_hash K d b))

pub word_no_hash : (p : List Command) → EachOf NoHash (word_of p)
unfolding word_of word
word_no_hash p = (refl, code_no_hash (variables (lines (block_of p))) 0 (block_of p))

-- The same of its entries, and of their kinds

abbrev NoHashEntry : Entry → Type 0
NoHashEntry e = no_2 e.kind ≡ true

table_no_hash : (w : List Instruction) → EachOf NoHash w → EachOf NoHashEntry (table_of w)
table_no_hash [] h = tt
table_no_hash (i ∷ w) h = (h.0, table_no_hash w h.1)

kinds_no_hash : (ks ns : List ℕ) → EachOf NoHashEntry (zipped ks ns) → all no_2 ks ≡ true
unfolding zipped
kinds_no_hash [] ns h = refl
kinds_no_hash (k ∷ ks) [] h = both (no_2 k) (all no_2 ks) h.0 (kinds_no_hash ks [] h.1)
kinds_no_hash (k ∷ ks) (n ∷ ns) h = both (no_2 k) (all no_2 ks) h.0 (kinds_no_hash ks ns h.1)

-- A machine of 64 registers can do every instruction of a word that fits it

can : (most : ℕ) → most ≤ 64 → (i : Instruction) → Fits most i → operand i ≤ 600000
    → is_limited (most_operand 64 (kind i)) (operand i) ≡ true
can most few (append one r) f s = rw (le-leb 1 r f.operand, le-leb r 64 (omega (arith, f.register refl)))
can most few (append hash r) f s = rw (le-leb 1 r f.operand, le-leb r 64 (omega (arith, f.register refl)))
can most few (forward n) f s = rw (le-leb 1 n f.operand, le-leb n 600000 s)
can most few (backward n) f s = rw (le-leb 1 n f.operand, le-leb n 600000 s)
can most few (cases r) f s = rw (le-leb 1 r f.operand, le-leb r 64 (omega (arith, f.register refl)))

usable_from : (most : ℕ) → most ≤ 64 → (n : ℕ) (w : List Instruction) → EachOf (Fits most) w → n + length w ≤ 8192 → weight w ≤ 600000
    → first_along next_entry (unusable 64) n (table_of w) ≡ none
unfolding first_along
usable_from most few n [] f l s = refl
usable_from most few n (i ∷ w) f l s =
    rw (
      lt-ltb n 8192 (omega arith),
      can most few i f.0 (omega arith),
      usable_from most few (suc n) w f.1 (omega arith) (omega arith),
    )

same-run : (s t : Run) → ◌≡◌ {A = Option Run} (Some s) (Some t) → s ≡ t
same-run s t e = cc

some_not_none : (s : Run) → ◌≡◌ {A = Option Run} (Some s) None → ⊥
some_not_none s e = let z : ◌≡◌ {A = ℕ} 0 1 = cc in absurd (omega arith)

-- The word of an accepted program

module _ (p : List Command) (accepted : Accepted p) where
  entries_are : word_entries (word_text p) ≡ table_of (word_of p)
  unfolding word_text spell
  entries_are =
      entries_of-word (table_of (word_of p)) (formed_of_instructions (word_of p) (words_fit p accepted).sized.operands_from_1)

  usable : first_unusable 64 (table_of (word_of p)) ≡ none
  usable =
      let limits = word-limits p accepted in
      usable_from (variables p + 17) (omega (arith, few_variables p accepted)) 0 (word_of p) (word_fits p accepted)
      (omega (arith, limits.1)) (omega (arith, limits.0))

  module _ (kinds operands : List ℕ) (table : zipped kinds operands ≡ word_entries (word_text p)) where
    is_table : zipped kinds operands ≡ table_of (word_of p)
    is_table = table ∙ entries_are

    no_hashes : all no_2 kinds ≡ true
    no_hashes = kinds_no_hash kinds operands
        (subst (EachOf NoHashEntry) (sym is_table) (table_no_hash (word_of p) (word_no_hash p)))

    module _ (capacities : List ℕ) (set : IsSet capacities) (values : List ℕ) (h : Starts (length values) capacities values)
        (lengths : List ℕ) (size : length lengths ≡ 64) (same : (i : ℕ) → get_or lengths i 0 ≡ values_of values i) where
      within : values_within capacities lengths ≡ true
      unfolding values_within
      within = all_below-from (length lengths) _ λ i e. rw (same i) (le-leb (get_or values i 0) (get_or capacities i 0) (h.within i))

      pub row_countable : is_countable capacities lengths kinds operands ≡ true
      row_countable =
          let sixty_four : length capacities ≡ 64 = registers capacities set in
          let counts = by_kinds capacities lengths kinds (omega (arith, sixty_four)) (size ∙ sym sixty_four) within ∙ no_hashes in
          by_search capacities lengths kinds operands counts ∙ rw (sixty_four, is_table, usable)

      abbrev start : Position
      start = record { place = pos 1; steps = 0 }

      row-counted : length values ≡ variables p
          → counted_outcome capacities lengths start kinds operands 1000000 ≡ word_on capacities p (values_of values)
      unfolding word_on
      row-counted named =
          let from : (ℕ → List W.Symbol) → W.State = λ f. record { place = pos 1; registers = f } in
          let runs : List Instruction → (ℕ → List W.Symbol) → Outcome W.State =
          λ w f. run (W.machine (within_each (capacity_of capacities)) w) 1000000 0 (from f) in
          let word : instructions (zipped kinds operands) ≡ word_of p = ap instructions is_table ∙ (words_fit p accepted).same in
          let held : fresh_registers lengths ≡ holding (variables p) (values_of values) =
          same-registers values lengths same ∙ ap {B = ℕ → List W.Symbol} (λ n. holding n (values_of values)) named in
          ap₂ {C = Outcome W.State} runs word held

      -- What the run on lengths hands back is the definition's, and there is such a run
      module _ (named : length values ≡ variables p) (at : Position) (begins : at ≡ record { place = pos 1; steps = 0 }) (r : Option Run)
          (after : List ℕ) (counts : CountsTo (is_countable capacities lengths kinds operands) capacities lengths at
          (counted_outcome capacities lengths at kinds operands 1000000) r after) where
        ran : CountsTo true capacities lengths at (counted_outcome capacities lengths at kinds operands 1000000) r after
        ran = rw row_countable at counts

        pub counted-ends : (s : Run) → r ≡ Some s → run_ended s.ended ≡ ended_of (word_on capacities p (values_of values))
        counted-ends s e =
            let is_run : ran.0 ≡ s = same-run ran.0 s (sym ran.1 ∙ e) in
            let same_start : counted_outcome capacities lengths at kinds operands 1000000 ≡ word_on capacities p (values_of values) =
            ap {B = Outcome W.State} (λ z. counted_outcome capacities lengths z kinds operands 1000000) begins ∙ row-counted named in
            ap {B = Ended} (λ z. run_ended z.ended) (sym is_run ∙ ran.2.is) ∙ ap {B = Ended} ended_of same_start

        pub never_none : r ≡ None → ⊥
        never_none e = some_not_none ran.0 (sym ran.1 ∙ e)
