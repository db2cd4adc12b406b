-- Laws of what is read of a line: a numeral after a word, a register, targets.
use mathlib.Core.Path.{◌≡◌, refl, sym, ap, ap₂, ◌∙◌}
use mathlib.Core.Bool.{Bool, true, false}
use mathlib.Core.Option.{Option, none, some, none-ne-some}
use mathlib.Core.List.{List, [], ◌∷◌, ◌++◌, append_assoc}
use Prim.Native.Nat.{ℕ, ◌+◌, ◌<◌, ◌≤◌, min}
use native.Mathlib.Omega.{arith}
use lib.Dec.{leb}
use borrow.Author.Tests.{leb-true, leb-false, le-leb, lt-leb}
use lib.ListN.{length, drop, length-drop}
use lib.Seq.{drop-drop}
use Rattle.std.specs.Prelude as code
use Rattle.std.specs.Prelude.{None, Some, MatchOption, option_map, unwrap_or}
use Rattle.theory.specs.Limits.{most_registers}
use Rattle.theory.specs.Basics.{given, or_else, and_then}
use Rattle.theory.specs.Text.{Bytes, Found, bytes, following, same, numeral, decimal}
use Rattle.theory.specs.Word.{Symbol, one, hash}
use Rattle.theory.specs.Machines.{is_limited}
use Rattle.theory.proofs.Numerals.{found, numeral-spelled}
use Rattle.theory.proofs.Spellings.{following_some}
use Rattle.theory.proofs.GoodSource.{limited as register-limits}
use Rattle.numerals.specs.declared.Number.{Number}
use Rattle.numerals.specs.Numbers.{found_in}
use Rattle.text.specs.Words.{is_some}
use Rattle.text.proofs.Words.{after-not, after_is, none_left, some_left}
use Rattle.numerals.proofs.Found.{FoundTo, found_missing, found_there}
use Rattle.listing.specs.Listing.{Line, print, scan, print_name, in_range, register_number, prints, scans, line}
use Rattle.listing_numbers.specs.declared.Numbers.{Numbers}
use Rattle.listing_numbers.specs.Numbers.{most_target, numbers}
use Rattle.listing_numbers.specs.Lines.{in_order, numbers_if, after, IsPrint, Prints, with_targets}

-- What is read of no line
abbrev pub no_numbers : Numbers
no_numbers = record { kind = 0; register = 0; one = 0; hash = 0 }

-- A numeral after a word

abbrev pub NumberAt : (s : Bytes) (at : ℕ) (w : Bytes) (end number : ℕ) → Type 0
NumberAt s at w = FoundTo s most_target (after w (drop at s))

module _ (s : Bytes) (at : ℕ) (w : Bytes) where
  module _ (e : is_some (following w (drop at s)) ≡ true) where
    -- The place behind the word is inside, or no further than the place before it
    pub word_fits : (most : ℕ) → at ≤ most → length s ≤ most → at + length w ≤ most
    word_fits most h k = omega (arith, (after_is w (drop at s) e).1, length-drop at s)

    pub word_there : numeral (drop (at + length w) s) ≡ after w (drop at s)
    word_there = rw ((after_is w (drop at s) e).0, drop-drop (length w) at s)

  pub word_missing : is_some (following w (drop at s)) ≡ false → after w (drop at s) ≡ none
  word_missing e = rw (after-not w (drop at s) e)

  written : (f : Found ℕ) → after w (drop at s) ≡ some f → (a : Bytes) × (a ++ f.rest ≡ drop at s)
  written f e = go (following w (drop at s)) refl e
    where
      go : (o : Option Bytes) → following w (drop at s) ≡ o → and_then o numeral ≡ some f → (a : Bytes) × (a ++ f.rest ≡ drop at s)
      go none g h = absurd (none-ne-some f h)
      go (some u) g h = (
        w ++ decimal f.value,
        append_assoc w (decimal f.value) f.rest ∙ rw (numeral-spelled u f h).whole (following_some w (drop at s) u g),
      )

  pub number_there : {x : Number} {v : code.Option Number} → v ≡ found_in (length s) most_target (after w (drop at s)) → v ≡ Some x
      → NumberAt s at w x.end x.value
  number_there = found_there s at most_target (after w (drop at s)) written

  pub number_missing : {v : code.Option Number} → v ≡ found_in (length s) most_target (after w (drop at s)) → v ≡ None
      → after w (drop at s) ≡ none
  number_missing = found_missing (length s) most_target (after w (drop at s))

-- One reading after the other
in_turn : {A B C : Type 0} (o : Option A) (f : A → Option B) (g : B → Option C)
    → and_then (and_then o f) g ≡ and_then o (λ x. and_then (f x) g)
in_turn none f g = refl
in_turn (some x) f g = refl

-- A register after a word that begins a line

limit_kept : (v : ℕ) → is_limited most_registers (min v most_target) ≡ is_limited most_registers v
limit_kept v = go (leb v most_target) refl
  where
    go : (b : Bool) → leb v most_target ≡ b → is_limited most_registers (min v most_target) ≡ is_limited most_registers v
    go true e = let f : min v most_target ≡ v = omega (arith, leb-true v most_target e) in rw f
    go false e =
        let f : min v most_target ≡ most_target = omega (arith, leb-false v most_target e) in
        let large : most_target < v = leb-false v most_target e in
        rw (f, le-leb 1 v (omega arith), lt-leb v most_registers (omega arith))

module _ (s w : Bytes) {A : Type 0} (g : Found ℕ → Option A) where
  abbrev register_then : Option A
  register_then = and_then (following w s) λ u. and_then (register_number u) g

  by_number : register_then ≡ and_then (after w s) λ n. and_then (in_range n) g
  unfolding register_number
  by_number = go (following w s)
    where
      go : (o : Option Bytes) → and_then o (λ u. and_then (and_then (numeral u) in_range) g)
          ≡ and_then (and_then o numeral) (λ n. and_then (in_range n) g)
      go none = refl
      go (some u) = in_turn (numeral u) in_range g

  register_none : after w s ≡ none → register_then ≡ none
  register_none e = by_number ∙ rw e

  module _ {end number : ℕ} (n : NumberAt s 0 w end number) where
    limited : is_limited most_registers n.value ≡ is_limited most_registers number
    limited = rw n.kept (sym (limit_kept n.value))

    register_out : is_limited most_registers number ≡ false → register_then ≡ none
    register_out e = by_number ∙ rw (n.is, limited ∙ e)

    register_in : is_limited most_registers number ≡ true → register_then ≡ g (found number (drop end s))
    register_in e =
        let small : number ≤ most_registers = (register-limits most_registers number e).1 in
        let is : n.value ≡ number = omega (arith, n.kept) in
        by_number ∙ rw (n.is, limited ∙ e, is)

-- P lines

module _ (kind : ℕ) (name s : Bytes) where
  abbrev ended : Symbol → Found ℕ → Option Line
  ended x n = given (same (bytes "") n.rest) (print x n.value)

  print_read : (x : Symbol) → name ≡ print_name x → prints x s ≡ register_then s name (ended x)
  unfolding prints
  print_read x e = rw e

  no_print : ((x : Symbol) → name ≡ print_name x → prints x s ≡ none) → Prints kind name s None
  no_print e x p = rw (e x p.named)

  pub print_no_number : after name s ≡ none → Prints kind name s None
  print_no_number e = no_print λ x f. print_read x f ∙ register_none s name (ended x) e

  module _ {end number : ℕ} (n : NumberAt s 0 name end number) where
    pub print_no_register : is_limited most_registers number ≡ false → Prints kind name s None
    print_no_register e = no_print λ x f. print_read x f ∙ register_out s name (ended x) n e

    module _ (e : is_limited most_registers number ≡ true) where
      pub print_more : end < length s → Prints kind name s None
      print_more h = no_print λ x f. print_read x f ∙ register_in s name (ended x) n e ∙ rw (some_left s end h)

      pub print_whole : length s ≤ end → Prints kind name s (Some (record { kind = kind; register = number; one = 0; hash = 0 }))
      print_whole h x p =
          let is : prints x s ≡ some (print x number) =
          print_read x p.named ∙ register_in s name (ended x) n e ∙ rw (none_left s end h) in
          rw is (ap (λ (l : List ℕ). Some l) (sym (p.numbered number)))

-- The targets of an `Scd`

module _ (s : Bytes) (at register : ℕ) where
  abbrev targeted : code.Option (List ℕ)
  targeted = numbers_if (with_targets register (drop at s))

  pub no_first_target : after (bytes " ") (drop at s) ≡ none → None ≡ targeted
  unfolding with_targets
  no_first_target e = rw e

  module _ {middle e : ℕ} (n : NumberAt s at (bytes " ") middle e) where
    module _ {v : code.Option Number} (h : v ≡ found_in (length s) most_target (after (bytes " ") (drop middle s))) where
      pub no_second_target : v ≡ None → None ≡ targeted
      unfolding with_targets
      no_second_target k = rw (n.is, number_missing s middle (bytes " ") h k)

      pub second_target : {x : Number} → v ≡ Some x → NumberAt s middle (bytes " ") x.end x.value
      second_target = number_there s middle (bytes " ") h

    module _ {end f : ℕ} (m : NumberAt s middle (bytes " ") end f) where
      pub targets-more : end < length s → None ≡ targeted
      unfolding with_targets
      targets-more h = rw (n.is, m.is, some_left s end h)

      pub targets-whole : length s ≤ end → Some (5 ∷ register ∷ e ∷ f ∷ []) ≡ targeted
      unfolding with_targets
      targets-whole h =
          rw (n.is, m.is, none_left s end h) (ap₂ {C = code.Option (List ℕ)} (λ a b. Some (5 ∷ register ∷ a ∷ b ∷ [])) n.kept m.kept)

-- An `Scd`

abbrev scan_end : Found ℕ → Option Line
scan_end n =
    and_then (following (bytes " ") n.rest) λ v.
    and_then (numeral v) λ e.
    and_then (following (bytes " ") e.rest) λ w.
    and_then (numeral w) λ f.
    given (same (bytes "") f.rest) (scan n.value e.value f.value)

targets_in_turn : (n : ℕ) (t : Bytes) → scan_end (found n t) ≡ with_targets n t
unfolding with_targets
targets_in_turn n t = go (following (bytes " ") t)
  where
    last : (e : Found ℕ) → Found ℕ → Option Line
    last e f = given (same (bytes "") f.rest) (scan n e.value f.value)

    second : (o : Option (Found ℕ)) → and_then o (λ e. and_then (following (bytes " ") e.rest) λ w. and_then (numeral w) (last e))
        ≡ and_then o (λ e. and_then (after (bytes " ") e.rest) (last e))
    second none = refl
    second (some e) = sym (in_turn (following (bytes " ") e.rest) numeral (last e))

    go : (o : Option Bytes)
        → and_then o (λ v. and_then (numeral v) λ e. and_then (following (bytes " ") e.rest) λ w. and_then (numeral w) (last e))
        ≡ and_then (and_then o numeral) (λ e. and_then (after (bytes " ") e.rest) (last e))
    go none = refl
    go (some v) = second (numeral v)

module _ (s : Bytes) where
  scan_read : scans s ≡ register_then s (bytes "Scd ") scan_end
  unfolding scans
  scan_read = refl

  no_scan : scans s ≡ none → None ≡ numbers_if (scans s)
  no_scan e = rw e

  pub scan_no_number : after (bytes "Scd ") s ≡ none → None ≡ numbers_if (scans s)
  scan_no_number e = no_scan (scan_read ∙ register_none s (bytes "Scd ") scan_end e)

  module _ {end number : ℕ} (n : NumberAt s 0 (bytes "Scd ") end number) where
    pub scan_no_register : is_limited most_registers number ≡ false → None ≡ numbers_if (scans s)
    scan_no_register e = no_scan (scan_read ∙ register_out s (bytes "Scd ") scan_end n e)

    pub scan_targets : is_limited most_registers number ≡ true → with_targets number (drop end s) ≡ scans s
    scan_targets e = sym (scan_read ∙ register_in s (bytes "Scd ") scan_end n e ∙ targets_in_turn number (drop end s))

-- The spellings, one following the other

-- The first of two, where it is found, else the second
numbers-next : (o p : Option Line) (v r : code.Option Numbers) (P : Type 0) → option_map in_order v ≡ numbers_if o
    → (P → option_map in_order r ≡ numbers_if p) → MatchOption v P (λ x. r ≡ Some x) → option_map in_order r ≡ numbers_if (or_else o p)
numbers-next none p None r P e f h = f h
numbers-next none p (Some x) r P e f h = cc
numbers-next (some l) p None r P e f h = cc
numbers-next (some l) p (Some x) r P e f h = rw h e

numbers-last : (o : Option Line) (v : code.Option Numbers) → option_map in_order v ≡ numbers_if o
    → in_order (unwrap_or v no_numbers) ≡ numbers o
numbers-last none None e = refl
numbers-last none (Some x) e = cc
numbers-last (some l) None e = cc
numbers-last (some l) (Some x) e = cc

one_by_one : (a b c : Option Line) → or_else (or_else a b) c ≡ or_else a (or_else b c)
one_by_one none b c = refl
one_by_one (some a) b c = refl

-- The names and kinds of the two P lines
is_one : IsPrint 1 (bytes "P1 ") one
is_one = record { named = refl; numbered = λ n. refl }

is_hash : IsPrint 2 (bytes "P# ") hash
is_hash = record { named = refl; numbered = λ n. refl }

abbrev printed : Bytes → Option Line
printed s = or_else (prints one s) (prints hash s)

module _ (s : Bytes) (v r : code.Option Numbers) (P : Type 0) where
  pub numbers_printed : Prints 1 (bytes "P1 ") s v → (P → Prints 2 (bytes "P# ") s r) → MatchOption v P (λ x. r ≡ Some x)
      → option_map in_order r ≡ numbers_if (printed s)
  numbers_printed e f = numbers-next (prints one s) (prints hash s) v r P (e one is_one) (λ h. f h hash is_hash)

  pub numbers_read : option_map in_order v ≡ numbers_if (printed s) → (P → option_map in_order r ≡ numbers_if (scans s))
      → MatchOption v P (λ x. r ≡ Some x) → in_order (unwrap_or r no_numbers) ≡ numbers (line s)
  unfolding line
  numbers_read e f h =
      numbers-last (or_else (printed s) (scans s)) r (numbers-next (printed s) (scans s) v r P e f h)
      ∙ ap numbers (one_by_one (prints one s) (prints hash s) (scans s))
