-- The word of a whole list: F1 and the code of the block that begins at its first line.
use mathlib.Core.Path.{◌≡◌, sym, ap, ◌∙◌}
use mathlib.Core.List.{List, [], ◌∷◌, ◌++◌}
use Prim.Native.Nat.{ℕ, ◌+◌, ◌/◌, ◌≤◌}
use native.Mathlib.Omega.{arith}
use lib.ListN.{length, length-append}
use Rattle.theory.specs.ProgramText.{Command, variables, lines, block_of, commands}
use Rattle.theory.specs.Word.{Instruction, forward, spell}
use Rattle.theory.specs.Translation.{code, word, word_of}
use Rattle.theory.specs.TurnedDown.{done, lent_after}
use Rattle.theory.proofs.Nesting.{well_nested}
use Rattle.theory.proofs.Sizes.{bytes-length, weight_append}
use Rattle.tidy.specs.declared.Form.{Form}
use Rattle.tidy.specs.Forms.{word_in, text_in}
use Rattle.forms.specs.Added.{added}
use Rattle.forms.proofs.Words.{word-added, text-spelled}
use Rattle.translation.specs.Answers.{size_in}
use Rattle.emit.specs.Pieces.{Written}
use Rattle.emit.proofs.Puts.{written_then}
use Rattle.lengths.specs.Lengths.{symbols_of, length_of}
use Rattle.lengths.specs.declared.Length.{Length}
use Rattle.translation.specs.Sites.{block_at, Known, Site, Noted, Counts, Writes}
use Rattle.translation.specs.declared.sizes.Extent.{Extent}
use Rattle.translation.specs.declared.writing.Spot.{Spot}
use Rattle.translation.proofs.Sites.{accepted, numbers-count, Stands, whole_site, Bounds, bounds}
use Rattle.output.proofs.Puts.{sets-front}

-- A list has a third as many lines as numbers
module _ (list : List ℕ) (count K : ℕ) (k : Known list count K) where
  thirds : count ≡ length list / 3
  thirds = omega (arith, numbers-count list count k.accepts)

  pub known_thirds : Known list (length list / 3) K
  known_thirds = rw thirds at k

  pub noted_thirds : (bodies : List ℕ) → Noted list K count bodies → Noted list K (length list / 3) bodies
  noted_thirds bodies n = rw thirds at n

module _ (list : List ℕ) (count K : ℕ) (k : Known list count K) where
  stands : Stands list count K 0 0 (block_of (commands list))
  stands = whole_site list count K k

  pub site : Site list count K 0 0
  site = stands.site

  pub small : Bounds list count K 0 0
  small = bounds list count K 0 0 site

  -- Its block has all of its lines
  pub whole-lines : 0 + length (lines (block_at list 0)) ≡ count
  whole-lines =
      let all : length (lines (block_of (commands list))) ≡ length (commands list) =
      ap length (well_nested (commands list) (accepted list count k.accepts)) in
      omega (arith, ap (λ b. length (lines b)) stands.block, all, k.accepts.counts)

  word_is : word_of (commands list) ≡ forward 1 ∷ code K 0 (block_at list 0)
  unfolding word_of word
  word_is =
      let p : List Command = commands list in
      let KIs : variables (lines (block_of p)) ≡ K = ap variables (well_nested p (accepted list count k.accepts)) ∙ sym k.names in
      ap {B = List Instruction} (λ w. forward 1 ∷ w) (rw (KIs, stands.block))

  -- The word of a form
  module _ (form : Form) where
    abbrev p : List Command
    p = commands list

    -- the code of its block, and what the form adds
    abbrev rest : List Instruction
    rest = code K 0 (block_at list 0) ++ added form K

    form_is : word_in form p ≡ forward 1 ∷ rest
    form_is =
        word-added form p (accepted list count k.accepts)
        ∙ (ap (λ n. word_of p ++ added form n) (sym k.names) ∙ ap (λ w. w ++ added form K) word_is)

    symbols_are : length (text_in form p) ≡ symbols_of (word_in form p)
    symbols_are = ap length (text-spelled form p) ∙ bytes-length (word_in form p)

    pub size_is : (e : Extent) → Counts K 0 0 (block_at list 0) e → (a : Length) → a ≡ length_of (added form K)
        → record { symbols = 4 + e.size.symbols + a.symbols; instructions = 1 + e.size.instructions + a.instructions }
        ≡ size_in form p
    size_is e c a f =
        let body : List Instruction = code K 0 (block_at list 0) in
        let s : 4 + e.size.symbols + a.symbols ≡ length (text_in form p) =
        omega (
          arith,
          ap (λ z. z.symbols) c.size,
          ap (λ z. z.symbols) f,
          symbols_are,
          ap symbols_of form_is,
          weight_append body (added form K),
        ) in
        let i : 1 + e.size.instructions + a.instructions ≡ length (word_in form p) =
        omega (
          arith,
          ap (λ z. z.instructions) c.size,
          ap (λ z. z.instructions) f,
          ap length form_is,
          length-append body (added form K),
        ) in
        rw (s, i)

    -- Its first instruction, its block's code and what the form adds, written one after the other
    pub word-put : {out out' out'' out''' : List ℕ} {place end : ℕ} {s : Spot} → length (text_in form p) ≤ length out
        → Written (forward 1 ∷ []) 0 out out' place → Writes K 0 0 (block_at list 0) place out' out'' s
        → Written (added form K) s.place out'' out''' end → out''' ≡ lent_after out (done (text_in form p))
    unfolding spell lent_after
    word-put {out} {out''' = out'''} {end = end} r f w a =
        let body : List Instruction = code K 0 (block_at list 0) in
        let whole : Written (word_in form p) 0 out out''' end =
        rw form_is (written_then (forward 1 ∷ []) rest f (written_then body (added form K) w.written a)) in
        whole.put.wrote ∙ (rw (← text-spelled form p) (sets-front out (text_in form p) r))
