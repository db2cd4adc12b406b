-- Laws of the numbers of a line: what the reader found at its places, as the definitions' command.
use mathlib.Core.Path.{◌≡◌, refl, sym, ap, ◌∙◌}
use mathlib.Core.Logic.{◌≢◌}
use mathlib.Core.Bool.{Bool, true, false, cond}
use mathlib.Core.Option.{Option, none, some, map, some-injective}
use mathlib.Core.List.{[]}
use Prim.Native.Nat.{ℕ, ◌+◌, ◌-◌, ◌<◌, ◌≤◌, min}
use native.Mathlib.Omega.{arith}
use lib.Dec.{eqb, ltb}
use borrow.Author.Tests.{eqb-true, eqb-false, eq-eqb, ne_eqb, ltb-true, ltb-false}
use lib.ListN.{length, take, drop, length-append, length-drop, length-replicate, drop_of_length-le}
use lib.Seq.{take-append_seam, take-add, drop_at, length-take-le, drop-drop}
use Rattle.std.specs.Prelude as code
use Rattle.std.specs.Prelude.{None, Some, MatchOption, unwrap_or}
use Rattle.theory.specs.Text.{Bytes, bytes, Found, following, same, prime, name, name_of, Notation, by_digits, by_primes, name_by}
use Rattle.theory.specs.Basics.{or_else}
use Rattle.theory.specs.ProgramText.{loop, while, Command, opens, closes, around, assigns, command}
use Rattle.theory.proofs.Numerals.{found, name-written}
use Rattle.theory.proofs.Spellings.{same_iff, name_alone}
use Rattle.numerals.specs.Numbers.{found_in}
use Rattle.numerals.specs.declared.Number.{Number}
use Rattle.text.specs.Words.{is_some}
use Rattle.text.proofs.Words.{after-not, after_is, some_left}
use Rattle.numerals.proofs.Found.{FoundTo, found_missing, found_there}
use Rattle.command.specs.declared.Numbers.{Numbers}
use Rattle.command.specs.Lines.{limited, no_numbers, numbers_as, of_kind, numbered, numbered_if, from_name, most, alike}
use Rattle.command.specs.Lines.{clears, increments, copies, assignment, loops, endloops, whiles, endwhiles, pair}

-- What follows a word

after_nothing : (u : Bytes) → following [] u ≡ some u
unfolding following
after_nothing u = refl

-- A name that was found

abbrev pub NameAt : (s : Bytes) (at end number : ℕ) → Type 0
NameAt s at = FoundTo s most (name (drop at s))

pub name_there : (s : Bytes) (at : ℕ) {x : Number} {v : code.Option Number} → v ≡ found_in (length s) most (name (drop at s)) → v ≡ Some x
    → NameAt s at x.end x.value
name_there s at =
    found_there s at most (name (drop at s)) λ f e. let w : _ = name-written (drop at s) f e in
    (name_by w.0 f.value, w.1)

-- The one that begins the line
abbrev pub name-first : (s : Bytes) (end : ℕ) {number : ℕ} (i : ℕ) → end ≤ length s → name s ≡ some (found i (drop end s))
    → number ≡ min i most → NameAt s 0 end number
name-first s end i h e f = record { value = i; is = e; kept = f; within = h }

-- Its bytes, cut out of the line: in one notation or the other
pub record CutOut (s : Bytes) (at end i : ℕ) : Type 0 where
  pub notation : Notation
  pub size : at + length (name_by notation i) ≡ end
  pub same : drop at (take end s) ≡ name_by notation i

pub cut_out : {s : Bytes} {at end number : ℕ} → at ≤ length s → (n : NameAt s at end number) → CutOut s at end n.value
cut_out {s} {at} {end} h n =
    let written : _ = name-written (drop at s) _ n.is in
    let a : Bytes = name_by written.0 n.value in
    let long : length a + (length s - end) ≡ length s - at =
    ap (λ m. length a + m) (sym (length-drop end s)) ∙ sym (length-append a (drop end s)) ∙ ap length written.1 ∙ length-drop at s in
    let at_end : at + length a ≡ end = omega (arith, n.within) in
    let front : take (length a) (drop at s) ≡ a = ap (take (length a)) (sym written.1) ∙ take-append_seam a (drop end s) in
    record {
      notation = written.0;
      size = at_end;
      same = ap (λ m. drop at (take m s)) (sym at_end) ∙ ap (drop at) (take-add at (length a) s)
          ∙ drop_at (take at s) (take (length a) (drop at s)) at (length-take-le at s h) ∙ front;
    }

pub name_room : {s : Bytes} {at end number : ℕ} → at ≤ length s → NameAt s at end number → at ≤ end
name_room h n = omega (arith, (cut_out h n).size)

-- A number that is kept is told from others up to the largest, and in a byte up to 32
low_enough : (i : ℕ) → limited (min i most) ≡ limited i
low_enough i = omega arith

numbers_kept : (k i j : ℕ) {m n : ℕ} → m ≡ min i most → n ≡ min j most
    → ◌≡◌ {A = code.Option Numbers} (Some (numbers_as k m n)) (Some (numbers_as k i j))
numbers_kept k i j e f = rw (e, f, low_enough i, low_enough j)

not_same : (a b : Bytes) → (a ≡ b → ⊥) → same a b ≡ false
not_same a b n = go (same a b) refl
  where
    go : (x : Bool) → same a b ≡ x → x ≡ false
    go true e = absurd (n ((same_iff a b).0 e))
    go false e = refl

-- A name between two words

module _ (k : ℕ) (front back s : Bytes) where
  pub pair_no_front : is_some (following front s) ≡ false → None ≡ of_kind k (around front back s)
  unfolding around
  pair_no_front e = rw (after-not front s e)

  module _ (e : is_some (following front s) ≡ true) where
    pub pair_no_name : {v : code.Option Number} → v ≡ found_in (length s) most (name (drop (length front) s)) → v ≡ None
        → None ≡ of_kind k (around front back s)
    unfolding around
    pair_no_name f g = rw ((after_is front s e).0, found_missing (length s) most (name (drop (length front) s)) f g)

    module _ {end number : ℕ} (n : NameAt s (length front) end number) where
      pub pair-back : same back (drop end s) ≡ true → Some (numbers_as k number 0) ≡ of_kind k (around front back s)
      unfolding around
      pair-back f = rw ((after_is front s e).0, n.is, f) (numbers_kept k n.value 0 n.kept refl)

      pub pair_no_back : same back (drop end s) ≡ false → None ≡ of_kind k (around front back s)
      unfolding around
      pair_no_back f = rw ((after_is front s e).0, n.is, f)

-- Two names, of one variable or not

-- Numbers above the largest that is kept are in digits, since no line has as many primes
large_in_digits : {s : Bytes} {at end i : ℕ} → end ≤ length s → length s ≤ most → most ≤ i → (c : CutOut s at end i)
    → drop at (take end s) ≡ name_of i
large_in_digits {s} {at} {end} {i} h l m c = go c.notation c.size c.same
  where
    go : (v : Notation) → at + length (name_by v i) ≡ end → drop at (take end s) ≡ name_by v i → drop at (take end s) ≡ name_of i
    go by_digits e f = f
    go by_primes e f = absurd (omega (arith, length-replicate i prime))

-- The same bytes are read as the same number
one_name : (v w : Notation) (i j : ℕ) → name_by v i ≡ name_by w j → i ≡ j
one_name v w i j e =
    let f : some (found i []) ≡ some (found j []) = sym (name_alone v i) ∙ ap name e ∙ name_alone w j in
    ap (λ (x : Found ℕ). x.value) (some-injective (found i []) (found j []) f)

module _ {s : Bytes} {end number at last source : ℕ} (f : NameAt s 0 end number) (n : NameAt s at last source) where
  pub alike-values : at ≤ length s → length s ≤ most → alike s end number at last source ≡ eqb f.value n.value
  alike-values h l = go (ltb number most) (eqb f.value n.value) refl refl
    where
      a : CutOut s 0 end f.value
      a = cut_out (omega arith) f

      b : CutOut s at last n.value
      b = cut_out h n

      go : (x y : Bool) → ltb number most ≡ x → eqb f.value n.value ≡ y
          → cond x (eqb number source) (same (take end s) (drop at (take last s))) ≡ y
      go true true p q =
          eq-eqb number source (f.kept ∙ ap (λ i. min i most) (eqb-true f.value n.value q) ∙ sym n.kept)
      go true false p q =
          let m : number < most = ltb-true number most p in
          let d : f.value ≢ n.value = eqb-false f.value n.value q in
          ne_eqb number source (λ e. d (omega (arith, f.kept, n.kept)))
      go false true p q =
          let e : f.value ≡ n.value = eqb-true f.value n.value q in
          let m : most ≤ f.value = omega (arith, ltb-false number most p, f.kept) in
          let first : take end s ≡ name_of f.value = large_in_digits f.within l m a in
          let second : drop at (take last s) ≡ name_of n.value = large_in_digits n.within l (omega (arith, e)) b in
          (same_iff _ _).1 (first ∙ ap name_of e ∙ sym second)
      go false false p q = not_same (take end s) (drop at (take last s))
          (λ e. eqb-false f.value n.value q
          (one_name a.notation b.notation f.value n.value (sym a.same ∙ e ∙ b.same)))

-- Increments and copies

module _ {s : Bytes} {end number : ℕ} (f : NameAt s 0 end number) where
  abbrev from : code.Option Numbers
  from = numbered_if (from_name f.value (drop (end + 4) s))

  pub assigned_no_name : {v : code.Option Number} → v ≡ found_in (length s) most (name (drop (end + 4) s)) → v ≡ None → None ≡ from
  unfolding from_name
  assigned_no_name e g = rw (found_missing (length s) most (name (drop (end + 4) s)) e g)

  module _ {last source : ℕ} (n : NameAt s (end + 4) last source) where
    pub assigned_copy : length s ≤ last → Some (numbers_as 3 number source) ≡ from
    unfolding from_name same
    assigned_copy l = rw (n.is, drop_of_length-le s l) (numbers_kept 3 f.value n.value f.kept n.kept)

    module _ (l : last < length s) where
      pub assigned_no_back : same (bytes " + 1") (drop last s) ≡ false → None ≡ from
      unfolding from_name
      assigned_no_back e = rw (n.is, e, some_left s last l)

      module _ (h : end + 4 ≤ length s) (m : length s ≤ most) (e : same (bytes " + 1") (drop last s) ≡ true) where
        pub assigned_increment : alike s end number (end + 4) last source ≡ true → Some (numbers_as 2 number 0) ≡ from
        unfolding from_name
        assigned_increment g = rw (n.is, e, sym (alike-values f n h m) ∙ g) (numbers_kept 2 f.value 0 f.kept refl)

        pub assigned_other : alike s end number (end + 4) last source ≡ false → None ≡ from
        unfolding from_name
        assigned_other g = rw (n.is, e, sym (alike-values f n h m) ∙ g, some_left s last l)

-- A line that begins with a name, or does not

module _ (s : Bytes) where
  pub assignment_no_name : {v : code.Option Number} → v ≡ found_in (length s) most (name s) → v ≡ None → None ≡ numbered_if (assignment s)
  unfolding assignment around assigns following
  assignment_no_name f g = rw (found_missing (length s) most (name s) f g)

  module _ {end number : ℕ} (n : NameAt s 0 end number) where
    pub assignment_clear : same (bytes " <- 0") (drop end s) ≡ true → Some (numbers_as 1 number 0) ≡ numbered_if (assignment s)
    unfolding assignment around following
    assignment_clear e = rw (n.is, e) (numbers_kept 1 n.value 0 n.kept refl)

    module _ (c : same (bytes " <- 0") (drop end s) ≡ false) where
      pub assignment_no_arrow : is_some (following (bytes " <- ") (drop end s)) ≡ false → None ≡ numbered_if (assignment s)
      unfolding assignment around assigns
      assignment_no_arrow e = rw (after_nothing s, n.is, c, after-not (bytes " <- ") (drop end s) e)

      pub assignment_room : is_some (following (bytes " <- ") (drop end s)) ≡ true → end + 4 ≤ length s
      assignment_room e = omega (arith, (after_is (bytes " <- ") (drop end s) e).1, length-drop end s, n.within)

      pub assignment-from : is_some (following (bytes " <- ") (drop end s)) ≡ true
          → numbered_if (from_name n.value (drop (end + 4) s)) ≡ numbered_if (assignment s)
      unfolding assignment around assigns from_name
      assignment-from e = rw (after_nothing s, n.is, c, (after_is (bytes " <- ") (drop end s) e).0, drop-drop 4 end s)

-- The spellings, one following the other

one_by_one : (a b c : Option Command) → or_else (or_else a b) c ≡ or_else a (or_else b c)
one_by_one none b c = refl
one_by_one (some a) b c = refl

mapped : (k : ℕ) (f : ℕ → Command) (o : Option ℕ) → ((i : ℕ) → numbers_as k i 0 ≡ numbered (some (f i)))
    → of_kind k o ≡ numbered_if (map f o)
mapped k f none h = refl
mapped k f (some i) h = ap (λ (n : Numbers). Some n) (h i)

-- The first of two, where it is found, else the second
numbers-next : (o p : Option Command) {v r : code.Option Numbers} (P : Type 0) → v ≡ numbered_if o → (P → r ≡ numbered_if p)
    → MatchOption v P (λ x. r ≡ Some x) → r ≡ numbered_if (or_else o p)
numbers-next none p P e f h = f (rw e at h)
numbers-next (some c) p P e f h = rw e at h

numbers-last : (o : Option Command) → unwrap_or (numbered_if o) no_numbers ≡ numbered o
numbers-last none = refl
numbers-last (some c) = refl

-- The first three, and the other four
spellings : (s : Bytes) → command s ≡ or_else (assignment s) (pair s)
unfolding command assignment pair
spellings s =
    let rest : Option Command = or_else (loops s) (or_else (endloops s) (or_else (whiles s) (endwhiles s))) in
    sym (one_by_one (clears s) (or_else (increments s) (copies s)) rest
    ∙ ap (or_else (clears s)) (one_by_one (increments s) (copies s) rest))

module _ (s : Bytes) where
  abbrev two : Option Command
  two = or_else (loops s) (endloops s)

  abbrev three : Option Command
  three = or_else two (whiles s)

  module _ {v r : code.Option Numbers} {P : Type 0} where
    pub pairs_2 : v ≡ of_kind 4 (around (bytes "loop ") (bytes "") s) → (P → r ≡ of_kind 5 (around (bytes "endloop ") (bytes "") s))
        → MatchOption v P (λ x. r ≡ Some x) → r ≡ numbered_if two
    pairs_2 e f =
        numbers-next (loops s) (endloops s) _ (e ∙ mapped 4 (opens loop) (around (bytes "loop ") (bytes "") s) (λ i. refl))
        (λ h. f h ∙ mapped 5 (closes loop) (around (bytes "endloop ") (bytes "") s) (λ i. refl))

    pub pairs_3 : v ≡ numbered_if two → (P → r ≡ of_kind 6 (around (bytes "while ") (bytes " != 0") s))
        → MatchOption v P (λ x. r ≡ Some x) → r ≡ numbered_if three
    pairs_3 e f =
        numbers-next two (whiles s) _ e (λ h. f h ∙ mapped 6 (opens while) (around (bytes "while ") (bytes " != 0") s) (λ i. refl))

    pub pairs_4 : v ≡ numbered_if three → (P → r ≡ of_kind 7 (around (bytes "endwhile ") (bytes " != 0") s))
        → MatchOption v P (λ x. r ≡ Some x) → r ≡ numbered_if (pair s)
    unfolding pair
    pairs_4 e f h =
        numbers-next three (endwhiles s) _ e
        (λ g. f g ∙ mapped 7 (closes while) (around (bytes "endwhile ") (bytes " != 0") s) (λ i. refl)) h
        ∙ ap numbered_if (one_by_one two (whiles s) (endwhiles s)
        ∙ one_by_one (loops s) (endloops s) (or_else (whiles s) (endwhiles s)))

  pub numbers-whole : {v r : code.Option Numbers} {P : Type 0} → v ≡ numbered_if (assignment s) → (P → r ≡ numbered_if (pair s))
      → MatchOption v P (λ x. r ≡ Some x) → unwrap_or r no_numbers ≡ numbered (command s)
  numbers-whole e f h = rw (numbers-next (assignment s) (pair s) _ e f h, spellings s) (numbers-last (or_else (assignment s) (pair s)))
