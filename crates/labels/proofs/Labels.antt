-- No two programs share a label: from equal labels the same instructions are read, and from these the same commands.
use mathlib.Core.Path.{◌≡◌, refl, sym, ap, ap₂, ◌∙◌}
use mathlib.Core.Option.{some}
use mathlib.Core.List.{List, [], ◌∷◌, ◌++◌, map, append_assoc, append-nil}
use Prim.Native.Nat.{ℕ, pred}
use native.Mathlib.Omega.{arith}
use lib.ListN.{length, take, length-append}
use lib.Seq.{take-append_seam}
use Rattle.theory.specs.Limits
use Rattle.theory.specs.Basics.{present}
use Rattle.theory.specs.Text.{Bytes}
use Rattle.theory.specs.ProgramText.{Command, closes, variables, text_of, list_of, commands}
use Rattle.theory.specs.ProgramText.{Block, empty, single, pair, lines, Blocks, opened_by, blocks, block_of}
use Rattle.theory.specs.Word.{Instruction, Entry}
use Rattle.theory.specs.Translation.{word_of}
use Rattle.theory.specs.TurnedDown.{Answer, done, refused, text_lines, read_text, read_list, read_word_for, instructions}
use Rattle.theory.specs.Claims.{Accepted, FitsASet}
use Rattle.theory.proofs.Nesting.{reads_accepted, well_nested}
use Rattle.theory.proofs.Settings.{read_text_outside, read_list_outside}
use Rattle.theory.proofs.Sizes.{words_fit}
use Rattle.theory.proofs.Lists.{present_some, commands_list, lists_round_trip}
use Rattle.theory.proofs.Texts.{lines_of-read, text_round_trip}
use Rattle.tidy.specs.Forms.{tidy_word_of, text_in}
use Rattle.tidy.specs.declared.Form.TheVariants.{Plain, Tidy}
use Rattle.tidy.proofs.Clears.{followed_by, lines_followed, clear_lines, variables-same}
use Rattle.tidy.proofs.Tidy.{tidy_as_plain}
use Rattle.tidy.proofs.Sizes.{tidy_words_fit}
use Rattle.labels.specs.Reading.{program_of}
use Rattle.labels.specs.Claims.{WordsDiffer, NoSharedLabels, TextsOfOneLabel, DigitsOfOneLabel, ListsOfOneLabel}
use Rattle.labels.proofs.Undone.{words-read}

-- A block is that of its lines

nothing_after : (b : Block) → followed_by b empty ≡ b
nothing_after empty = refl
nothing_after (single c b) = ap (single c) (nothing_after b)
nothing_after (pair k i body b) = ap (pair k i body) (nothing_after b)

blocks-lines : (b : Block) (p : List Command)
    → blocks (lines b ++ p) ≡ record { first = followed_by b (blocks p).first; later = (blocks p).later }
unfolding blocks
blocks-lines empty p = refl
blocks-lines (single c b) p = ap {B = Blocks} (λ r. record { first = single c r.first; later = r.later }) (blocks-lines b p)
blocks-lines (pair k i body b) p =
    ap (λ r. opened_by k i r.first r.later)
    (ap blocks (append_assoc (lines body) (closes k i ∷ lines b) p)
    ∙ (blocks-lines body (closes k i ∷ (lines b ++ p))
    ∙ ap₂ {C = Blocks} (λ x r. record { first = x; later = r.first ∷ r.later }) (nothing_after body) (blocks-lines b p)))

block_of-lines : (b : Block) → block_of (lines b) ≡ b
unfolding block_of blocks
block_of-lines b =
    ap block_of (sym (append-nil (lines b))) ∙ (ap (λ r. r.first) (blocks-lines b []) ∙ nothing_after b)

pub words_differ : WordsDiffer
words_differ b b' e =
    let same : lines b ≡ lines b' = sym (words-read b) ∙ (ap program_of e ∙ words-read b') in
    sym (block_of-lines b) ∙ (ap block_of same ∙ block_of-lines b')

-- A plain word is read as the commands of its program, a tidy word as these and the clears

with_clears : List Command → List Command
with_clears p = p ++ lines (clear_lines (pred (variables p)))

plain_read : (p : List Command) → Accepted p → program_of (word_of p) ≡ p
unfolding word_of
plain_read p a = words-read (block_of p) ∙ well_nested p a

tidy-read : (p : List Command) → Accepted p → program_of (tidy_word_of p) ≡ with_clears p
unfolding tidy_word_of with_clears
tidy-read p a =
    let b : Block = block_of p in
    let x : Block = clear_lines (pred (variables (lines b))) in
    ap program_of (sym (tidy_as_plain b)) ∙ (words-read (followed_by b x) ∙ (lines_followed b x ∙ ap with_clears (well_nested p a)))

-- The clears are as many as the variables tell, which they don't change
front : (p q r : List Command) → p ++ r ≡ q ++ r → p ≡ q
front p q r e =
    let long : length p ≡ length q = omega (arith, ap length e, length-append p r, length-append q r) in
    sym (take-append_seam p r) ∙ (ap₂ take long e ∙ take-append_seam q r)

without_clears : (p q : List Command) → with_clears p ≡ with_clears q → p ≡ q
unfolding with_clears
without_clears p q e =
    let K : variables p ≡ variables q = sym (variables-same p) ∙ (ap variables e ∙ variables-same q) in
    front p q (lines (clear_lines (pred (variables q)))) (ap (λ n. p ++ lines (clear_lines (pred n))) (sym K) ∙ e)

-- The instructions of a label
read_off : Answer (List Entry) → List Instruction
read_off (done t) = instructions t
read_off (refused r) = []

one_word : {K K' : ℕ} {w w' : List Instruction} {t t' : Bytes} → FitsASet K w t → FitsASet K' w' t' → t ≡ t' → w ≡ w'
unfolding read_off
one_word f f' e =
    sym f.same
    ∙ (ap read_off (sym f.read ∙ (ap (read_word_for Limits.most_registers) e ∙ f'.read)) ∙ f'.same)

pub no_shared_labels : NoSharedLabels
no_shared_labels Plain p q a a' e =
    sym (plain_read p a) ∙ (ap program_of (one_word (words_fit p a) (words_fit q a') e) ∙ plain_read q a')
no_shared_labels Tidy p q a a' e =
    without_clears p q
    (sym (tidy-read p a) ∙ (ap program_of (one_word (tidy_words_fit p a) (tidy_words_fit q a') e) ∙ tidy-read q a'))

pub texts_of_one_label : TextsOfOneLabel
texts_of_one_label form σ τ t u p q e f =
    let e' : read_text t ≡ done p = read_text_outside σ t p e in
    let f' : read_text u ≡ done q = read_text_outside τ u q f in
    let here : map some p ≡ text_lines t = (lines_of-read t p e').0 in
    let there : map some q ≡ text_lines u = (lines_of-read u q f').0 in (
      λ h. sym here ∙ (ap (map some) (no_shared_labels form p q (reads_accepted.0 t p e') (reads_accepted.0 u q f') h) ∙ there),
      λ h. ap (text_in form) (sym (present_some p) ∙ (ap present (here ∙ (h ∙ sym there)) ∙ present_some q)),
    )

pub digits_of_one_label : DigitsOfOneLabel
digits_of_one_label form σ τ t u p q e f d d' =
    let e' : read_text t ≡ done p = read_text_outside σ t p e in
    let f' : read_text u ≡ done q = read_text_outside τ u q f in
    let written : text_of p ≡ t = text_round_trip.written t p e' d in
    let written' : text_of q ≡ u = text_round_trip.written u q f' d' in (
      λ h. sym written ∙ (ap text_of (no_shared_labels form p q (reads_accepted.0 t p e') (reads_accepted.0 u q f') h) ∙ written'),
      λ h. (texts_of_one_label form σ τ t u p q e f).1 (ap text_lines h),
    )

pub lists_of_one_label : ListsOfOneLabel
lists_of_one_label form σ τ l m p q e f =
    let e' : read_list l ≡ done p = read_list_outside σ l p e in
    let f' : read_list m ≡ done q = read_list_outside τ m q f in
    let written : list_of p ≡ l = lists_round_trip.1 l p e' in
    let written' : list_of q ≡ m = lists_round_trip.1 m q f' in (
      λ h. sym written ∙ (ap list_of (no_shared_labels form p q (reads_accepted.1 l p e') (reads_accepted.1 m q f') h) ∙ written'),
      λ h. ap (text_in form) (sym (commands_list p) ∙ (ap commands (written ∙ (h ∙ sym written')) ∙ commands_list q)),
    )
