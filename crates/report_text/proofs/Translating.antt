-- A program translated into the tool's word buffer: rule 19 where the word is longer, and else the word at the buffer's front.
use Rattle.std.specs.Prelude.{Ok, Err}
use mathlib.Core.Path.{◌≡◌, refl, ap, ◌∙◌}
use mathlib.Core.Bool.{Bool, true, false}
use mathlib.Core.List.{List, ◌++◌}
use Prim.Native.Nat.{ℕ, ◌≤◌, ◌<◌}
use native.Mathlib.Omega.{arith}
use lib.Dec.{leb}
use lib.ListN.{length, take, drop}
use lib.Seq.{take_at}
use borrow.Author.Tests.{leb-true, leb-false, le-leb, lt-leb}
use Rattle.theory.specs.Text.{Bytes}
use Rattle.theory.specs.ProgramText.{Command}
use Rattle.theory.specs.Translation.{word_text}
use Rattle.theory.specs.TurnedDown.{Answer, done, refused, rule_19, lent_after, mapped, translate_into}
use Rattle.theory.specs.declared.Refusal.{Refusal}
use Rattle.tidy.specs.declared.Form.TheVariants.{Plain}
use Rattle.translation.specs.Answers.{size_in, size_answer, translated}
use Rattle.instruction.specs.declared.Size.{Size}

-- A word that is in the buffer, of so many symbols
pub record InBuffer (p : List Command) (out : Bytes) (symbols : ℕ) : Type 0 where
  pub fits : length (word_text p) ≤ 65536
  pub counted : symbols ≡ length (word_text p)
  pub front : take symbols out ≡ word_text p

module _ (lent : Bytes) (size : length lent ≡ 65536) (p : List Command) where
  short : length (word_text p) ≤ 65536 → translate_into word_text lent (done p) ≡ done p
  unfolding translate_into rule_19
  short h = let fits : length (word_text p) ≤ length lent = omega arith in rw (le-leb (length (word_text p)) (length lent) fits)

  long : 65536 < length (word_text p) → translate_into word_text lent (done p) ≡ refused (record { number = 19; place = 0 })
  unfolding translate_into rule_19
  long h = let over : length lent < length (word_text p) = omega arith in rw (lt-leb (length (word_text p)) (length lent) over)

  module _ (a : Answer (List Command)) (accepted : a ≡ done p) where
    into : translate_into word_text lent a ≡ translate_into word_text lent (done p)
    into = ap (translate_into word_text lent) accepted

    pub word_too_long : (r : Refusal) → Err r ≡ translated Plain lent a
        → (65536 < length (word_text p)) × (r ≡ record { number = 19; place = 0 })
    word_too_long r e = go (leb (length (word_text p)) 65536) refl
      where
        go : (t : Bool) → leb (length (word_text p)) 65536 ≡ t → (65536 < length (word_text p)) × (r ≡ record { number = 19; place = 0 })
        go true k =
            let fits = short (leb-true (length (word_text p)) 65536 k) in
            let done_then : Err r ≡ Ok (size_in Plain p) = e ∙ ap (size_answer Plain) (into ∙ fits) in
            absurd (let z : ◌≡◌ {A = ℕ} 0 1 = cc in omega arith)
        go false k =
            let over : 65536 < length (word_text p) = leb-false (length (word_text p)) 65536 k in
            let same : Err r ≡ Err (record { number = 19; place = 0 }) = e ∙ ap (size_answer Plain) (into ∙ long over) in
            (over, cc)

    pub word_in_buffer : (n : Size) (out : Bytes) → Ok n ≡ translated Plain lent a
        → out ≡ lent_after lent (mapped word_text (translate_into word_text lent a)) → InBuffer p out n.symbols
    unfolding lent_after
    word_in_buffer n out e h = go (leb (length (word_text p)) 65536) refl
      where
        go : (t : Bool) → leb (length (word_text p)) 65536 ≡ t → InBuffer p out n.symbols
        go true k =
            let fits : length (word_text p) ≤ 65536 = leb-true (length (word_text p)) 65536 k in
            let same : Ok n ≡ Ok (size_in Plain p) = e ∙ ap (size_answer Plain) (into ∙ short fits) in
            let known : n ≡ size_in Plain p = cc in
            let symbols : n.symbols ≡ length (word_text p) = ap (λ m. m.symbols) known in
            let whole : out ≡ word_text p ++ drop (length (word_text p)) lent
            = h ∙ ap {B = Bytes} (λ b. lent_after lent (mapped word_text b)) (into ∙ short fits) in
            record {
              fits = fits;
              counted = symbols;
              front = rw (whole, symbols) (take_at (word_text p) (drop (length (word_text p)) lent) (length (word_text p)) refl);
            }
        go false k =
            let over = long (leb-false (length (word_text p)) 65536 k) in
            let refused_then : Ok n ≡ Err (record { number = 19; place = 0 }) = e ∙ ap (size_answer Plain) (into ∙ over) in
            absurd (let z : ◌≡◌ {A = ℕ} 0 1 = cc in omega arith)
