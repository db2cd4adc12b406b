-- Lines of a program: a command is read from each of its spellings and from nothing else, and one of them is in digits, the writer's.
use mathlib.Core.Path.{◌≡◌, refl, sym, ap, ap₂, ◌∙◌, subst}
use mathlib.Core.Logic.{◌↔◌}
use mathlib.Core.Bool.{Bool, true, false, not, ◌&&◌, ◌||◌, and_assoc, false≢true}
use mathlib.Core.Option.{Option, none, some, map, some-injective, none-ne-some}
use mathlib.Core.List.{[], ◌∷◌, ◌++◌, append-nil}
use Prim.Native.Nat.{ℕ, zero, suc, ◌≤◌}
use native.Mathlib.Omega.{arith}
use lib.Dec.{eqb}
use borrow.Author.Tests.{eqb-true, eq-eqb, ne_eqb}
use Rattle.theory.specs.Basics.{given, or_else, and_then, all}
use Rattle.theory.specs.Text.{Bytes, bytes, following, same, is_digit, digit_first, name, in_digits, decimal, name_of}
use Rattle.theory.specs.Text.{Notation, by_digits, by_primes, name_by}
use Rattle.theory.specs.ProgramText.{clear, increment, copy, loop, while, Command, plain, opens, closes}
use Rattle.theory.specs.ProgramText.{spelling_by, spelling, around, assigns, command}
use Rattle.theory.proofs.Faults.{and_then_some, given_some, and_first, and_second}
use Rattle.theory.proofs.Numerals.{found, name-name_by, name-written, digit_most, decimal-digits, decimal-first}

-- Given texts

pub following-append : (w t : Bytes) → following w (w ++ t) ≡ some t
unfolding following
following-append [] t = refl
following-append (b ∷ w) t = rw (eq-eqb b b refl) (following-append w t)

pub following_some : (w t u : Bytes) → following w t ≡ some u → w ++ u ≡ t
unfolding following
following_some [] t u h = sym (some-injective t u h)
following_some (b ∷ w) [] u h = absurd (none-ne-some u h)
following_some (b ∷ w) (c ∷ t) u h = go (eqb b c) refl (following_some w t u)
  where
    go : (x : Bool) → eqb b c ≡ x → (following w t ≡ some u → w ++ u ≡ t) → b ∷ (w ++ u) ≡ c ∷ t
    go true e rest = ap₂ {C = Bytes} ◌∷◌ (eqb-true b c e) (rest (rw e at h))
    go false e rest = absurd (none-ne-some u (rw e at h))

pub same_iff : (a b : Bytes) → same a b ≡ true ↔ (a ≡ b)
unfolding same
same_iff a b = (equal a b, λ e. rw (← e) (itself a))
  where
    equal : (a b : Bytes) → same a b ≡ true → a ≡ b
    equal [] [] h = refl
    equal [] (c ∷ b) h = cc
    equal (c ∷ a) [] h = cc
    equal (c ∷ a) (d ∷ b) h = ap₂ {C = Bytes} ◌∷◌ (eqb-true c d (and_first (eqb c d) _ h)) (equal a b (and_second (eqb c d) _ h))

    itself : (a : Bytes) → same a a ≡ true
    itself [] = refl
    itself (c ∷ a) = rw (eq-eqb c c refl) (itself a)

-- Names between given texts

-- What is read as some indices is written so, the names in one notation or the other
abbrev Between : Bytes → Bytes → Bytes → ℕ → Type 0
Between front back t i = (v : Notation) × (front ++ (name_by v i ++ back) ≡ t)

pub around_some : (front back t : Bytes) (i : ℕ) → around front back t ≡ some i → Between front back t i
unfolding around
around_some front back t i h =
    let u : _ = and_then_some (following front t) _ i h in
    let f : _ = and_then_some (name u.0) _ i u.2 in
    let g : _ = given_some (same back f.0.rest) f.0.value i f.2 in
    let written : _ = name-written u.0 f.0 f.1 in
    let v : Notation = written.0 in
    let behind : back ≡ f.0.rest = (same_iff back f.0.rest).0 g.0 in (
      v,
      ap₂ (λ j r. front ++ (name_by v j ++ r)) (sym g.1) behind
          ∙ ap (λ r. front ++ r) written.1
          ∙ following_some front t u.0 u.1,
    )

abbrev pub arrow : Bytes
arrow = bytes " <- "

abbrev AroundArrow : Bytes → Bytes → ℕ → ℕ → Type 0
AroundArrow back t i j = (v : Notation) × (w : Notation) × (name_by v i ++ (arrow ++ (name_by w j ++ back)) ≡ t)

pub assigns_some : (back t : Bytes) (i j : ℕ) → assigns back t ≡ some (i, j) → AroundArrow back t i j
unfolding assigns
assigns_some back t i j h =
    let f : _ = and_then_some (name t) _ (i, j) h in
    let u : _ = and_then_some (following arrow f.0.rest) _ (i, j) f.2 in
    let g : _ = and_then_some (name u.0) _ (i, j) u.2 in
    let read : ℕ × ℕ = (f.0.value, g.0.value) in
    let s : _ = given_some (same back g.0.rest) read (i, j) g.2 in
    let first : _ = name-written t f.0 f.1 in
    let second : _ = name-written u.0 g.0 g.1 in
    let v : Notation = first.0 in
    let w : Notation = second.0 in
    let behind : back ≡ g.0.rest = (same_iff back g.0.rest).0 s.0 in
    let i_read : i ≡ f.0.value = ap (λ (p : ℕ × ℕ). p.0) (sym s.1) in
    let j_read : j ≡ g.0.value = ap (λ (p : ℕ × ℕ). p.1) (sym s.1) in
    let source : name_by w j ++ back ≡ u.0 = ap₂ (λ n r. name_by w n ++ r) j_read behind ∙ second.1 in
    let behind_arrow : arrow ++ u.0 ≡ f.0.rest = following_some arrow f.0.rest u.0 u.1 in
    let right : arrow ++ (name_by w j ++ back) ≡ f.0.rest = ap (λ r. arrow ++ r) source ∙ behind_arrow in
    (v, w, ap₂ (λ n r. name_by v n ++ r) i_read right ∙ first.1)

-- Commands

pub name_alone : (v : Notation) (i : ℕ) → name (name_by v i) ≡ some (found i [])
name_alone v i = rw (append-nil (name_by v i)) at (name-name_by v i [] tt)

-- The ways to read a line that are tried before the one that fits fail at its first bytes, or at what follows a name
pub command_of-spelling : (v w : Notation) (c : Command) → command (spelling_by v w c) ≡ some c
unfolding command around assigns following same name name_of
command_of-spelling v w (plain (clear i)) = rw (name-name_by v i (bytes " <- 0") refl)
command_of-spelling v by_digits (plain (increment i)) =
    rw (name-name_by v i (arrow ++ (name_of i ++ bytes " + 1")) refl, name-name_by by_digits i (bytes " + 1") refl, eq-eqb i i refl)
command_of-spelling v by_primes (plain (increment i)) =
    let second : Bytes = name_by by_primes i ++ bytes " + 1" in
    rw (name-name_by v i (arrow ++ second) refl, name-name_by by_primes i (bytes " + 1") refl, eq-eqb i i refl)
command_of-spelling v by_digits (plain (copy i j)) = rw (name-name_by v i (arrow ++ name_of j) refl, name_alone by_digits j)
command_of-spelling v by_primes (plain (copy i j)) = rw (name-name_by v i (arrow ++ name_by by_primes j) refl, name_alone by_primes j)
command_of-spelling v w (opens loop i) = rw (name_alone v i)
command_of-spelling v w (closes loop i) = rw (name_alone v i)
command_of-spelling v w (opens while i) = rw (name-name_by v i (bytes " != 0") refl)
command_of-spelling v w (closes while i) = rw (name-name_by v i (bytes " != 0") refl)

-- A line that is read as a command spells it: of each way to read one, and so of the first that fits
abbrev pub Spells : Bytes → Command → Type 0
Spells t c = (v : Notation) × (w : Notation) × (spelling_by v w c ≡ t)

abbrev SpellsAll : Bytes → Option Command → Type 0
SpellsAll t x = (c : Command) → x ≡ some c → Spells t c

spells_or : (t : Bytes) (x y : Option Command) → SpellsAll t x → SpellsAll t y → SpellsAll t (or_else x y)
spells_or t none y f g = g
spells_or t (some c) y f g = f

spells_mapped : {A : Type 0} (t : Bytes) (f : A → Command) (x : Option A)
    → ((a : A) → x ≡ some a → Spells t (f a)) → SpellsAll t (map f x)
spells_mapped t f none h c e = absurd (none-ne-some c e)
spells_mapped t f (some a) h c e = subst (Spells t) (some-injective (f a) c e) (h a refl)

spells_around : (t front back : Bytes) (f : ℕ → Command)
    → ((v : Notation) (i : ℕ) → spelling_by v v (f i) ≡ front ++ (name_by v i ++ back))
    → SpellsAll t (map f (around front back t))
spells_around t front back f s = spells_mapped t f (around front back t) go
  where
    go : (i : ℕ) → around front back t ≡ some i → Spells t (f i)
    go i h =
        let b : Between front back t i = around_some front back t i h in
        (b.0, b.0, s b.0 i ∙ b.1)

spells_increment : (t : Bytes)
    → SpellsAll t (and_then (assigns (bytes " + 1") t) λ ij. given (eqb ij.0 ij.1) (plain (increment ij.0)))
spells_increment t c h =
    let a : _ = and_then_some (assigns (bytes " + 1") t) _ c h in
    let i : ℕ = a.0.0 in
    let j : ℕ = a.0.1 in
    let g : _ = given_some (eqb i j) (plain (increment i)) c a.2 in
    let twice : i ≡ j = eqb-true i j g.0 in
    let line : AroundArrow (bytes " + 1") t i j = assigns_some (bytes " + 1") t i j a.1 in
    let v : Notation = line.0 in
    let w : Notation = line.1 in
    let one : spelling_by v w (plain (increment i)) ≡ t =
    ap (λ n. name_by v i ++ (arrow ++ (name_by w n ++ bytes " + 1"))) twice ∙ line.2 in
    subst (Spells t) g.1 (v, w, one)

pub spelling_of_command : (t : Bytes) (c : Command) → command t ≡ some c → Spells t c
unfolding command
spelling_of_command t =
    spells_or t _ _ (spells_around t [] (bytes " <- 0") (λ i. plain (clear i)) (λ v i. refl))
    (spells_or t _ _ (spells_increment t)
    (spells_or t _ _ (spells_mapped t _ (assigns [] t) of_copy)
    (spells_or t _ _ (spells_around t (bytes "loop ") [] (opens loop) (λ v i. alone (bytes "loop ") v i))
    (spells_or t _ _ (spells_around t (bytes "endloop ") [] (closes loop) (λ v i. alone (bytes "endloop ") v i))
    (spells_or t _ _ (spells_around t (bytes "while ") (bytes " != 0") (opens while) (λ v i. refl))
    (spells_around t (bytes "endwhile ") (bytes " != 0") (closes while) (λ v i. refl)))))))
  where
    alone : (front : Bytes) (v : Notation) (i : ℕ) → front ++ name_by v i ≡ front ++ (name_by v i ++ [])
    alone front v i = ap {B = Bytes} (λ r. front ++ r) (sym (append-nil (name_by v i)))

    of_copy : (a : ℕ × ℕ) → assigns [] t ≡ some a → Spells t (plain (copy a.0 a.1))
    of_copy a h =
        let l : AroundArrow [] t a.0 a.1 = assigns_some [] t a.0 a.1 h in
        (l.0, l.1, ap {B = Bytes} (λ r. name_by l.0 a.0 ++ r) (alone arrow l.1 a.1) ∙ l.2)

-- Texts in digits

first-append : (a r : Bytes) → digit_first r ≡ false → digit_first (a ++ r) ≡ digit_first a
first-append [] r h = h
first-append (b ∷ a) r h = refl

-- Of two parts, where no digit stands behind the first
pub in_digits-append : (a r : Bytes) → digit_first r ≡ false → in_digits (a ++ r) ≡ (in_digits a && in_digits r)
unfolding in_digits
in_digits-append [] r h = refl
in_digits-append (b ∷ a) r h =
    rw (first-append a r h, in_digits-append a r h) (sym (and_assoc (not (eqb b 88) || digit_first a) (in_digits a) (in_digits r)))

digits-in_digits : (d : Bytes) → all is_digit d ≡ true → in_digits d ≡ true
unfolding in_digits
digits-in_digits [] h = refl
digits-in_digits (b ∷ d) h =
    let most : b ≤ 57 = digit_most b (and_first (is_digit b) _ h) in
    rw (ne_eqb b 88 (λ e. omega arith)) (digits-in_digits d (and_second (is_digit b) _ h))

abbrev is_by_digits : Notation → Bool
is_by_digits by_digits = true
is_by_digits by_primes = false

name-in_digits : (v : Notation) (i : ℕ) → in_digits (name_by v i) ≡ is_by_digits v
unfolding in_digits name_of
name-in_digits by_digits i =
    let first : digit_first (decimal i) ≡ true = rw (append-nil (decimal i)) at (decimal-first i []) in
    rw first (digits-in_digits (decimal i) (decimal-digits i))
name-in_digits by_primes zero = refl
name-in_digits by_primes (suc i) = refl

named-in_digits : (v : Notation) (i : ℕ) (r : Bytes) → digit_first r ≡ false
    → in_digits (name_by v i ++ r) ≡ (is_by_digits v && in_digits r)
named-in_digits v i r h = rw (in_digits-append (name_by v i) r h, name-in_digits v i)

-- The writer's spellings are in digits
pub spelling-in_digits : (c : Command) → in_digits (spelling c) ≡ true
unfolding in_digits spelling
spelling-in_digits (plain (clear i)) = named-in_digits by_digits i (bytes " <- 0") refl
spelling-in_digits (plain (increment i)) =
    named-in_digits by_digits i (arrow ++ (name_of i ++ bytes " + 1")) refl ∙ named-in_digits by_digits i (bytes " + 1") refl
spelling-in_digits (plain (copy i j)) = named-in_digits by_digits i (arrow ++ name_of j) refl ∙ name-in_digits by_digits j
spelling-in_digits (opens loop i) = name-in_digits by_digits i
spelling-in_digits (closes loop i) = name-in_digits by_digits i
spelling-in_digits (opens while i) = named-in_digits by_digits i (bytes " != 0") refl
spelling-in_digits (closes while i) = named-in_digits by_digits i (bytes " != 0") refl

-- and no other spelling is
written_alone : (v : Notation) (i : ℕ) → in_digits (name_by v i) ≡ true → name_by v i ≡ name_of i
written_alone by_digits i h = refl
written_alone by_primes i h = absurd (false≢true (sym (name-in_digits by_primes i) ∙ h))

written-before : (v : Notation) (i : ℕ) (r : Bytes) → digit_first r ≡ false → in_digits (name_by v i ++ r) ≡ true
    → (name_by v i ≡ name_of i) × (in_digits r ≡ true)
written-before v i r h e =
    let both : (is_by_digits v && in_digits r) ≡ true = sym (named-in_digits v i r h) ∙ e in
    (written_alone v i (name-in_digits v i ∙ and_first (is_by_digits v) _ both), and_second (is_by_digits v) _ both)

only_writer : (v w : Notation) (c : Command) → in_digits (spelling_by v w c) ≡ true → spelling c ≡ spelling_by v w c
unfolding in_digits spelling
only_writer v w (plain (clear i)) h = rw (written-before v i (bytes " <- 0") refl h).0
only_writer v w (plain (increment i)) h =
    let first : _ = written-before v i (arrow ++ (name_by w i ++ bytes " + 1")) refl h in
    rw (first.0, (written-before w i (bytes " + 1") refl first.1).0)
only_writer v w (plain (copy i j)) h =
    let first : _ = written-before v i (arrow ++ name_by w j) refl h in
    rw (first.0, written_alone w j first.1)
only_writer v w (opens loop i) h = rw (written_alone v i h)
only_writer v w (closes loop i) h = rw (written_alone v i h)
only_writer v w (opens while i) h = rw (written-before v i (bytes " != 0") refl h).0
only_writer v w (closes while i) h = rw (written-before v i (bytes " != 0") refl h).0

pub spelling_of_digits : (t : Bytes) (c : Command) → command t ≡ some c → in_digits t ≡ true → spelling c ≡ t
spelling_of_digits t c h d =
    let s : Spells t c = spelling_of_command t c h in
    only_writer s.0 s.1 c (rw s.2 d) ∙ s.2
