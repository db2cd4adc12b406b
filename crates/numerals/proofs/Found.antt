-- A number that was found in a text, or not: what a reader found, from its answer's places.
use mathlib.Core.Path.{◌≡◌, refl, sym, ap, ◌∙◌}
use mathlib.Core.Option.{Option, none, some}
use mathlib.Core.List.{◌++◌, append_assoc}
use Prim.Native.Nat.{ℕ, ◌-◌, ◌≤◌, min}
use native.Mathlib.Omega.{arith}
use lib.ListN.{length, take, drop, length-append, take-append-drop}
use lib.Seq.{drop-append_seam}
use Rattle.std.specs.Prelude as code
use Rattle.std.specs.Prelude.{None, Some}
use Rattle.theory.specs.Text.{Bytes, Found}
use Rattle.theory.proofs.Numerals.{found}
use Rattle.numerals.specs.declared.Number.{Number}
use Rattle.numerals.specs.Numbers.{found_in}

-- In the text s, up to `end`
pub record FoundTo (s : Bytes) (most : ℕ) (o : Option (Found ℕ)) (end number : ℕ) : Type 0 where
  pub value : ℕ
  pub is : o ≡ some (found value (drop end s))
  pub kept : number ≡ min value most
  pub within : end ≤ length s

pub found_missing : (n most : ℕ) (o : Option (Found ℕ)) {v : code.Option Number} → v ≡ found_in n most o → v ≡ None → o ≡ none
found_missing n most o e f = go o (sym e ∙ f)
  where
    go : (o : Option (Found ℕ)) → found_in n most o ≡ None → o ≡ none
    go none g = refl
    go (some x) g = cc

-- What follows it is an end of what stands at the place where it was looked for
pub found_there : (s : Bytes) (at most : ℕ) (o : Option (Found ℕ)) {x : Number} {v : code.Option Number}
    → ((f : Found ℕ) → o ≡ some f → (a : Bytes) × (a ++ f.rest ≡ drop at s)) → v ≡ found_in (length s) most o → v ≡ Some x
    → FoundTo s most o x.end x.value
found_there s at most o {x} suffix e f = go o refl (sym e ∙ f)
  where
    go : (p : Option (Found ℕ)) → o ≡ p → found_in (length s) most p ≡ Some x → FoundTo s most o x.end x.value
    go none g k = cc
    go (some f) g k =
        let is : (record { end = length s - length f.rest; value = min f.value most }) ≡ x = cc in
        let a : _ = suffix f g in
        let front : Bytes = take at s ++ a.0 in
        let whole : front ++ f.rest ≡ s = append_assoc (take at s) a.0 f.rest ∙ rw a.1 (take-append-drop at s) in
        let last : length s - length f.rest ≡ x.end = cc in
        let long : length front ≡ x.end = omega (arith, last, ap length whole, length-append front f.rest) in
        let rest : f.rest ≡ drop x.end s =
        sym (drop-append_seam front f.rest) ∙ ap (drop (length front)) whole ∙ ap (λ m. drop m s) long in
        record { value = f.value; is = g ∙ rw (← rest); kept = cc; within = omega arith }
