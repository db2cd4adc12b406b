-- The word of a form is the plain word and what the form adds.
use mathlib.Core.Path.{◌≡◌, refl, sym}
use mathlib.Core.List.{List, ◌++◌, append-nil}
use Prim.Native.Nat.{ℕ, ◌≤◌}
use native.Mathlib.Omega.{arith}
use Rattle.theory.specs.ProgramText.{Command, variables}
use Rattle.theory.specs.Word.{spell, bytes_of}
use Rattle.theory.specs.Translation.{word_of, word_text}
use Rattle.theory.specs.Claims.{Accepted}
use Rattle.tidy.specs.declared.Form.{Form}
use Rattle.tidy.specs.declared.Form.TheVariants.{Plain, Tidy}
use Rattle.tidy.specs.Forms.{tidy_text, word_in, text_in}
use Rattle.tidy.proofs.Sizes.{clears_light}
use Rattle.tidy.proofs.Tidy.{tidy_word_is}
use Rattle.lengths.specs.Lengths.{symbols_of}
use Rattle.forms.specs.Added.{added}

pub word-added : (form : Form) (p : List Command) → Accepted p → word_in form p ≡ word_of p ++ added form (variables p)
word-added Plain p ok = sym (append-nil (word_of p))
word-added Tidy p ok = tidy_word_is p ok

pub text-spelled : (form : Form) (p : List Command) → text_in form p ≡ bytes_of (spell (word_in form p))
unfolding word_text tidy_text
text-spelled Plain p = refl
text-spelled Tidy p = refl

-- It is short, so that sums with it do not wrap
pub added_light : (form : Form) (K : ℕ) → K ≤ 255 → symbols_of (added form K) ≤ 69360
added_light Plain K h = omega arith
added_light Tidy K h = omega (arith, clears_light 255 K h)
