-- The label in a buffer that has room for every word: rule 19 does not come, so that a refusal is one of the text's.
use Rattle.std.specs.Prelude.{Result, Ok, Err}
use mathlib.Core.Path.{◌≡◌, refl, sym, ap, ◌∙◌}
use mathlib.Core.List.{List, [], ◌∷◌, ◌++◌}
use Prim.Native.Nat.{ℕ, ◌≤◌}
use native.Mathlib.Omega.{arith}
use lib.ListN.{length, drop, length-map}
use lib.Seq.{sets}
use borrow.Author.Tests.{le-leb}
use Rattle.theory.specs.Text.{Bytes, LF}
use Rattle.theory.specs.ProgramText.{Command}
use Rattle.theory.specs.Word.{spell, byte_of}
use Rattle.theory.specs.Translation.{word_of, word_text}
use Rattle.theory.specs.TurnedDown.{Answer, done, refused, read_text, rule_19, lent_after, mapped, translate_into}
use Rattle.theory.specs.declared.Refusal.{Refusal}
use Rattle.theory.proofs.Nesting.{reads_accepted}
use Rattle.theory.proofs.Sizes.{words_fit}
use Rattle.output.specs.Puts.{Put}
use Rattle.printing.specs.Lines.{Few, refusal_line}
use Rattle.output.proofs.Puts.{put_then, sets-front}
use Rattle.tidy.specs.declared.Form.TheVariants.{Plain}
use Rattle.translation.specs.Answers.{size_in, size_answer, translated, output}
use Rattle.instruction.specs.declared.Size.{Size}
use Rattle.label_tool.specs.Label.{label}

module _ (lent t : Bytes) (size : length lent ≡ 600001) where
  word_fits : (p : List Command) → read_text t ≡ done p → length (word_text p) ≤ 600000
  unfolding word_text
  word_fits p e = omega (arith, (words_fit p (reads_accepted.0 t p e)).sized.few_symbols, length-map (spell (word_of p)) byte_of)

  translates : (p : List Command) → read_text t ≡ done p → translate_into word_text lent (read_text t) ≡ done p
  unfolding translate_into rule_19
  translates p e =
      let fits : length (word_text p) ≤ length lent = omega (arith, word_fits p e) in
      rw (e, le-leb (length (word_text p)) (length lent) fits)

  turned_down : (r : Refusal) → read_text t ≡ refused r → translate_into word_text lent (read_text t) ≡ refused r
  unfolding translate_into
  turned_down r e = rw e

  -- The buffer is as it was, and the refusal that is put is the text's
  pub refused_put : (r : Refusal) (out after : Bytes) (k : ℕ) → Err r ≡ translated Plain lent (read_text t)
      → out ≡ output Plain lent (read_text t) → Few 50 (refusal_line r) 0 out after k
      → Put (label t) 0 lent after k × (k ≤ 600001)
  unfolding label lent_after refusal_line
  refused_put r out after k h writes few = go (read_text t) refl
    where
      go : (a : Answer (List Command)) → read_text t ≡ a → Put (label t) 0 lent after k × (k ≤ 600001)
      go (refused s) e =
          let same : ◌≡◌ {A = Result Size Refusal} (Err r) (Err s) = h ∙ ap (size_answer Plain) (turned_down s e) in
          let is : s ≡ r = cc in
          let kept : out ≡ lent = writes ∙ ap {B = Bytes} (λ b. lent_after lent (mapped word_text b)) (turned_down s e) in
          (rw (e, is, ← kept) few.put, omega (arith, few.few))
      go (done p) e =
          let other : ◌≡◌ {A = Result Size Refusal} (Err r) (Ok (size_in Plain p)) = h ∙ ap (size_answer Plain) (translates p e) in
          absurd (let z : ◌≡◌ {A = ℕ} 0 1 = cc in omega arith)

  -- The word is in the buffer, and LF is put behind it: all of it has its place
  pub word-put : (n : Size) (out after : Bytes) (k : ℕ) → Ok n ≡ translated Plain lent (read_text t)
      → out ≡ output Plain lent (read_text t) → Put (LF ∷ []) n.symbols out after k → Put (label t) 0 lent after k × (k ≤ 600001)
  unfolding label lent_after
  word-put n out after k h writes put = go (read_text t) refl
    where
      go : (a : Answer (List Command)) → read_text t ≡ a → Put (label t) 0 lent after k × (k ≤ 600001)
      go (refused s) e =
          let other : ◌≡◌ {A = Result Size Refusal} (Ok n) (Err s) = h ∙ ap (size_answer Plain) (turned_down s e) in
          absurd (let z : ◌≡◌ {A = ℕ} 0 1 = cc in omega arith)
      go (done p) e =
          let same : ◌≡◌ {A = Result Size Refusal} (Ok n) (Ok (size_in Plain p)) = h ∙ ap (size_answer Plain) (translates p e) in
          let known : n ≡ size_in Plain p = cc in
          let symbols : n.symbols ≡ length (word_text p) = ap (λ m. m.symbols) known in
          let fits : length (word_text p) ≤ length lent = omega (arith, word_fits p e) in
          let whole : out ≡ word_text p ++ drop (length (word_text p)) lent
          = writes ∙ ap {B = Bytes} (λ b. lent_after lent (mapped word_text b)) (translates p e) in
          let front : out ≡ sets lent 0 (word_text p) = whole ∙ sym (sets-front lent (word_text p) fits) in
          let word : Put (word_text p) 0 lent out n.symbols
          = record { next = omega (arith, word_fits p e); wrote = front; sized = omega arith } in
          (rw e (put_then word put), omega (arith, put.next, word_fits p e))
