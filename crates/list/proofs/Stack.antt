-- The openings that the checker has put in their places, as the definitions' list of open pairs: the verdict under them, and the stack
-- after a command that passed.
use Rattle.std.specs.Prelude.{Result, Ok, Err}
use mathlib.Core.Path.{◌≡◌, refl, sym, ap, ◌∙◌}
use mathlib.Core.Logic.{inl, inr}
use mathlib.Core.Bool.{Bool, true, false, false≢true}
use mathlib.Core.Option.{Option, none, some, none-ne-some}
use mathlib.Core.List.{List, [], ◌∷◌}
use Prim.Native.Nat.{ℕ, zero, suc, ◌+◌, ◌-◌, ◌<◌, ◌≤◌}
use native.Mathlib.Numerals.{add-one, unary_clauses}
use native.Mathlib.Omega.{arith}
use lib.ListN.{length, get_or, set, replicate}
use lib.Seq.{get_or-set_same, get_or-set_other}
use Rattle.theory.specs.ProgramText as P
use Rattle.theory.specs.ProgramText.{Plain, clear, increment, copy, Kind, Command, plain, opens, closes, command_of}
use Rattle.theory.specs.TurnedDown.{line_fault, line_fault_under, open_past}
use Rattle.theory.specs.declared.Refusal.{Refusal}
use Rattle.theory.specs.declared.Setting.{Setting}
use Rattle.theory.proofs.Nesting.{few_open, one_open}
use Rattle.nesting.specs.declared.Opening.{Opening}
use Rattle.nesting.specs.Nesting.{kind_of, open_of, pairs, is_known, verdict, judged}
use Rattle.nesting.proofs.Commands.{known_below, unknown, opening, closing, same-verdict}
use Rattle.list.specs.declared.Program.{Program}
use Rattle.list.specs.Answers.{at_end}

abbrev pub nothing : Opening
nothing = record { line = 0; kind = 0; index = 0 }

-- The openings from number n down to number 1 as the definitions have them, the innermost first
unfoldable pub innermost : ℕ → List Opening → List P.Opening
innermost zero l = []
innermost (suc n) l = open_of (get_or l (suc n) nothing) ∷ innermost n l

pub length-innermost : (n : ℕ) (l : List Opening) → length (innermost n l) ≡ n
unfolding innermost
length-innermost zero l = refl
length-innermost (suc n) l = ap suc (length-innermost n l)

pub innermost_last : (n : ℕ) (l : List Opening) → 0 < n → innermost n l ≡ open_of (get_or l n nothing) ∷ innermost (n - 1) l
unfolding innermost
innermost_last zero l h = absurd (omega arith)
innermost_last (suc n) l h = simp unary_clauses refl

innermost-set : (n i : ℕ) (l : List Opening) (o : Opening) → n < i → innermost n (set l i o) ≡ innermost n l
unfolding innermost
innermost-set zero i l o h = refl
innermost-set (suc n) i l o h = rw (get_or-set_other l i (suc n) o nothing (λ e. omega arith), innermost-set n i l o (omega arith))

innermost_push : (n : ℕ) (l : List Opening) (o : Opening) → n + 1 < length l
    → innermost (suc n) (set l (n + 1) o) ≡ open_of o ∷ innermost n l
unfolding innermost
innermost_push n l o h =
    rw (add-one n, get_or-set_same l (suc n) o nothing (omega arith), innermost-set n (suc n) l o (omega arith))

-- The verdict under them, and the end: both ask how many they are, and which is the innermost

pub judged-under : (σ : Setting) (n count : ℕ) (l : List Opening) (c : Option Command)
    → judged σ n (pairs count (get_or l count nothing)) c ≡ judged σ n (innermost count l) c
unfolding innermost
judged-under σ n zero l c = refl
judged-under σ n (suc m) l c =
    let o : P.Opening = open_of (get_or l (suc m) nothing) in
    ap (λ k. judged σ n (replicate (suc k) o) c) (sym (length-innermost m l)) ∙ same-verdict σ n o (innermost m l) c

pub ended-under : (p : Program) (count : ℕ) (l : List Opening)
    → at_end p (pairs count (get_or l count nothing)) ≡ at_end p (innermost count l)
unfolding innermost
ended-under p zero l = refl
ended-under p (suc m) l = refl

-- The verdict read back

read_fault : (n : ℕ) (o : Option Refusal) {r : Refusal} → Err r ≡ verdict n o → o ≡ some r
read_fault n none e = cc
read_fault n (some q) e = cc

read-passes : (n : ℕ) (o : Option Refusal) {m : ℕ} → Ok m ≡ verdict n o → (o ≡ none) × (m ≡ n)
read-passes n none e = (refl, cc)
read-passes n (some q) e = let z : ◌≡◌ {A = ℕ} 0 1 = cc in absurd (omega arith)

module _ (σ : Setting) (n count : ℕ) (l : List Opening) (c : Option Command) {v : Result ℕ Refusal}
    (e : v ≡ judged σ n (pairs count (get_or l count nothing)) c) where
  pub was_fault : {r : Refusal} → v ≡ Err r → line_fault_under σ n (innermost count l) c ≡ some r
  was_fault f = read_fault _ _ (sym f ∙ e ∙ judged-under σ n count l c)

  pub has_passed : {m : ℕ} → v ≡ Ok m
      → (line_fault_under σ n (innermost count l) c ≡ none) × (m ≡ length (open_past n (innermost count l) c))
  has_passed f = read-passes _ _ (sym f ∙ e ∙ judged-under σ n count l c)

-- A command that passed

pub passed_known : (n : ℕ) (os : List P.Opening) (k i j : ℕ) → line_fault n os (command_of k i j) ≡ none → is_known k j ≡ true
passed_known n os k i j h = go (is_known k j) refl
  where
    go : (b : Bool) → is_known k j ≡ b → is_known k j ≡ true
    go true e = e
    go false e = absurd (none-ne-some _ (sym (rw (unknown k i j e) at h)))

passed_open : (n : ℕ) (os : List P.Opening) (k : Kind) (i : ℕ) → line_fault n os (some (closes k i)) ≡ none → 0 < length os
passed_open n [] k i h = absurd (one_open n k i h)
passed_open n (o ∷ os) k i h = omega arith

-- The stack after a command that passed, which was put on top of it
pub record Follows (n : ℕ) (os : List P.Opening) (c : Option Command) (count : ℕ) (l : List Opening) : Type 0 where
  pub pairs : innermost count l ≡ open_past n os c
  pub room : count ≤ 16

module _ (n count : ℕ) (l : List Opening) (i j : ℕ) (size : length l ≡ 18) (room : count ≤ 16) where
  abbrev Passed : ℕ → Type 0
  Passed k = line_fault n (innermost count l) (command_of k i j) ≡ none

  abbrev After : ℕ → Type 0
  After k =
      let os = innermost count l in
      let c = command_of k i j in
      Follows n os c (length (open_past n os c)) (set l (count + 1) (record { line = n; kind = k; index = i }))

  is_open : (k : ℕ) (k' : Kind) → Passed k → command_of k i j ≡ some (closes k' i) → 0 < count
  is_open k k' h e = omega (arith, passed_open n (innermost count l) k' i (rw e at h), length-innermost count l)

  opened : (k : ℕ) → Passed k → command_of k i j ≡ some (opens (kind_of k) i) → After k
  opened k h e =
      let few : _ = few_open n (innermost count l) (kind_of k) i (rw e at h) in
      record {
        pairs = rw (e, length-innermost count l) (innermost_push count l (record { line = n; kind = k; index = i }) (omega arith));
        room = rw e (omega (arith, few));
      }

  closed : (k : ℕ) (k' : Kind) → Passed k → command_of k i j ≡ some (closes k' i) → After k
  closed k k' h e =
      let o : Opening = record { line = n; kind = k; index = i } in
      let under : _ = innermost_last count l (is_open k k' h e) in
      record {
        pairs = rw (e, under, length-innermost (count - 1) l) (innermost-set (count - 1) (count + 1) l o (omega arith));
        room = rw (e, under, length-innermost (count - 1) l) (omega arith);
      }

  unchanged : (k : ℕ) (p : Plain) → command_of k i j ≡ some (plain p) → After k
  unchanged k p e =
      let o : Opening = record { line = n; kind = k; index = i } in
      record {
        pairs = rw (e, length-innermost count l) (innermost-set count (count + 1) l o (omega arith));
        room = rw (e, length-innermost count l) room;
      }

  pub follows : (k : ℕ) → Passed k → After k
  unfolding command_of
  follows k h = go k h (passed_known n (innermost count l) k i j h)
    where
      go : (k : ℕ) → Passed k → is_known k j ≡ true → After k
      go zero h e = absurd (false≢true e)
      go (suc zero) h e = unchanged 1 (clear i) (rw e)
      go (suc (suc zero)) h e = unchanged 2 (increment i) (rw e)
      go (suc (suc (suc zero))) h e = unchanged 3 (copy i j) refl
      go (suc (suc (suc (suc zero)))) h e = opened 4 h (opening 4 i j (inl refl) e)
      go (suc (suc (suc (suc (suc zero))))) h e = closed 5 _ h (closing 5 i j (inl refl) e)
      go (suc (suc (suc (suc (suc (suc zero)))))) h e = opened 6 h (opening 6 i j (inr refl) e)
      go (suc (suc (suc (suc (suc (suc (suc zero))))))) h e = closed 7 _ h (closing 7 i j (inr refl) e)
      go (suc (suc (suc (suc (suc (suc (suc (suc k)))))))) h e =
          absurd (omega (arith, known_below (suc (suc (suc (suc (suc (suc (suc (suc k)))))))) j e))
