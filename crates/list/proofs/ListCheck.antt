-- Rules 3 to 8 along a list of numbers: what the checker knows before each command, and what it answers at the end.
use Rattle.std.specs.Prelude.{Result, Ok, Err}
use mathlib.Core.Path.{◌≡◌, refl, sym, ap, ◌∙◌}
use mathlib.Core.Option.{Option, none, some}
use mathlib.Core.List.{List, [], ◌∷◌}
use Prim.Native.Nat.{ℕ, suc, ◌+◌, ◌*◌, ◌<◌, ◌≤◌, max}
use native.Mathlib.Numerals.{add-one, add-two, add-three}
use native.Mathlib.Omega.{arith}
use borrow.Author.Tests.{le-leb, lt-leb}
use lib.ListN.{length, get_or, set, drop, replicate, length-set, length-drop, drop_of_length-le}
use lib.Seq.{drop-cons}
use Rattle.theory.specs.Basics.{present}
use Rattle.theory.specs.ProgramText as P
use Rattle.theory.specs.ProgramText.{Command, variables, command_of, listed, commands}
use Rattle.theory.specs.TurnedDown.{rule_3, line_fault, lines_fault_under, program_fault_under, read_list_under}
use Rattle.theory.specs.declared.Refusal.{Refusal}
use Rattle.theory.specs.declared.Setting.{Setting}
use Rattle.theory.proofs.Settings.{line_outside}
use Rattle.nesting.specs.declared.Opening.{Opening}
use Rattle.nesting.specs.Nesting.{pairs, judged}
use Rattle.nesting.proofs.Commands.{Known, known}
use Rattle.list.specs.Answers.{checked, at_end}
use Rattle.list.proofs.Stack.{nothing, innermost, was_fault, has_passed, passed_known, Follows, follows}

-- The three numbers at m, and the rest
pub three_at : (l : List ℕ) (m : ℕ) → m + 2 < length l → drop m l ≡ get_or l m 0 ∷ get_or l (m + 1) 0 ∷ get_or l (m + 2) 0 ∷ drop (m + 3) l
three_at l m h =
    rw (
      add-one m,
      add-two m,
      add-three m,
      drop-cons l m 0 (omega arith),
      drop-cons l (suc m) 0 (omega arith),
      drop-cons l (suc (suc m)) 0
          (omega arith),
    )

-- The commands of a list are a third of its numbers, a last one cut short counted
pub listed_many : (l : List ℕ) → (length l ≤ 3 * length (listed l)) × (3 * length (listed l) < length l + 3)
unfolding listed
listed_many [] = (omega arith, omega arith)
listed_many (k ∷ []) = (omega arith, omega arith)
listed_many (k ∷ i ∷ []) = (omega arith, omega arith)
listed_many (k ∷ i ∷ j ∷ l) = let h = listed_many l in (omega arith, omega arith)

-- Rule 3, and the answer where it does not apply

pub too_many : (σ : Setting) (l : List ℕ) → 1536 < length l → Err (record { number = 3; place = 513 }) ≡ checked (read_list_under σ l)
unfolding read_list_under commands program_fault_under rule_3
too_many σ l h = rw (lt-leb (length (listed l)) 512 (omega (arith, (listed_many l).0)))

module _ (σ : Setting) (l : List ℕ) (short : length l ≤ 1536) where
  few : program_fault_under σ (listed l) ≡ lines_fault_under σ 1 [] (listed l)
  unfolding program_fault_under rule_3
  few = rw (le-leb (length (listed l)) 512 (omega (arith, (listed_many l).1)))

  refused_by : (r : Refusal) → lines_fault_under σ 1 [] (listed l) ≡ some r → Err r ≡ checked (read_list_under σ l)
  unfolding read_list_under commands
  refused_by r e = rw (few, e)

  accepted_as : (n K : ℕ) → lines_fault_under σ 1 [] (listed l) ≡ none → n ≡ length (present (listed l))
      → K ≡ variables (present (listed l))
      → Ok (record { lines = n; variables = K }) ≡ checked (read_list_under σ l)
  unfolding read_list_under commands
  accepted_as n K e f g = rw (few, e, f, g)

-- Before command n + 1: os has the openings, of which d pairs are open, K is that of the commands before, and the faults left are those of
-- the whole list
pub record SoFar (σ : Setting) (l : List ℕ) (n K d : ℕ) (os : List Opening) : Type 0 where
  pub within : 3 * n ≤ length l
  pub room : d ≤ 16
  pub places : length os ≡ 18
  pub rest : lines_fault_under σ (n + 1) (innermost d os) (listed (drop (3 * n) l)) ≡ lines_fault_under σ 1 [] (listed l)
  pub commands : n + length (present (listed (drop (3 * n) l))) ≡ length (present (listed l))
  pub names : max K (variables (present (listed (drop (3 * n) l)))) ≡ variables (present (listed l))

pub at_first : (σ : Setting) (l : List ℕ) → SoFar σ l 0 0 0 (replicate 18 nothing)
unfolding innermost
at_first σ l = record { within = omega arith; room = omega arith; places = refl; rest = refl; commands = omega arith; names = omega arith }

module _ (σ : Setting) (l : List ℕ) (n K d : ℕ) (os : List Opening) (h : SoFar σ l n K d os) where
  abbrev here : Option Command
  here = command_of (get_or l (3 * n) 0) (get_or l (3 * n + 1) 0) (get_or l (3 * n + 2) 0)

  module _ (more : 3 * n + 2 < length l) where
    left : listed (drop (3 * n) l) ≡ here ∷ listed (drop (3 * (n + 1)) l)
    unfolding listed
    left =
        let e : 3 * n + 3 ≡ 3 * (n + 1) = omega arith in
        rw (three_at l (3 * n) more, e)

    verdict : lines_fault_under σ 1 [] (listed l) ≡ lines_fault_under σ (n + 1) (innermost d os) (here ∷ listed (drop (3 * (n + 1)) l))
    verdict = sym h.rest ∙ rw left

    split : (c : Command) → here ≡ some c → present (listed (drop (3 * n) l)) ≡ c ∷ present (listed (drop (3 * (n + 1)) l))
    split c e = rw (left, e)

    module _ {v : Result ℕ Refusal} (e : v ≡ judged σ (n + 1) (pairs d (get_or os d nothing)) here) where
      pub faulty : {r : Refusal} → v ≡ Err r → length l ≤ 1536 → Err r ≡ checked (read_list_under σ l)
      unfolding lines_fault_under
      faulty f short = refused_by σ l short _ (verdict ∙ rw (was_fault σ (n + 1) d os here e f))

      abbrev put : List Opening
      put = set os (d + 1) (record { line = n + 1; kind = get_or l (3 * n) 0; index = get_or l (3 * n + 1) 0 })

      pub onward : {d' : ℕ} → v ≡ Ok d' → (K' : ℕ) → K' ≡ max (max K (suc (get_or l (3 * n + 1) 0))) (suc (get_or l (3 * n + 2) 0))
          → SoFar σ l (n + 1) K' d' put
      unfolding lines_fault_under
      onward {d'} p K' g =
          let q = has_passed σ (n + 1) d os here e p in
          let passed : line_fault (n + 1) (innermost d os) here ≡ none = line_outside σ (n + 1) (innermost d os) here q.0 in
          let f : Follows (n + 1) (innermost d os) here d' put = rw q.1 (follows (n + 1) d os _ _ h.places h.room _ passed) in
          let k : Known (get_or l (3 * n) 0) (get_or l (3 * n + 1) 0) (get_or l (3 * n + 2) 0) = known _ _ _
          (passed_known (n + 1) (innermost d os) _ _ _ passed) in
          let first : _ = split k.command k.is in
          record {
            within = omega arith;
            room = f.room;
            places = length-set os (d + 1) _ ∙ h.places;
            rest = rw (f.pairs, add-one (n + 1)) (sym (verdict ∙ rw q.0));
            commands = omega (arith, h.commands, ap length first);
            names = omega (arith, h.names, ap variables first, k.top, g);
          }

  -- The end: a last command cut short, or rule 8
  pub cut : 3 * n < length l → length l ≤ 3 * n + 2 → length l ≤ 1536
      → Err (record { number = 4; place = n + 1 }) ≡ checked (read_list_under σ l)
  unfolding lines_fault_under listed
  cut more less short =
      refused_by σ l short _ (sym h.rest ∙ go (drop (3 * n) l) (omega (arith, length-drop (3 * n) l))
      (omega (arith, length-drop (3 * n) l)))
    where
      go : (u : List ℕ) → 0 < length u → length u ≤ 2
          → lines_fault_under σ (n + 1) (innermost d os) (listed u) ≡ some (record { number = 4; place = n + 1 })
      go [] a b = absurd (omega arith)
      go (k ∷ []) a b = refl
      go (k ∷ i ∷ []) a b = refl
      go (k ∷ i ∷ j ∷ u) a b = absurd (omega arith)

  pub whole : length l ≤ 3 * n → length l ≤ 1536
      → at_end (record { lines = n; variables = K }) (innermost d os) ≡ checked (read_list_under σ l)
  unfolding lines_fault_under listed
  whole all short = go (innermost d os) (sym h.rest ∙ rw nothing_left)
    where
      nothing_left : drop (3 * n) l ≡ []
      nothing_left = drop_of_length-le l all

      go : (os : List P.Opening) → lines_fault_under σ 1 [] (listed l) ≡ lines_fault_under σ (n + 1) os []
          → at_end (record { lines = n; variables = K }) os ≡ checked (read_list_under σ l)
      go [] e =
          accepted_as σ l short n K e (omega (arith, h.commands, ap (λ u. length (present (listed u))) nothing_left))
          (omega (arith, h.names, ap (λ u. variables (present (listed u))) nothing_left))
      go (o ∷ os) e = refused_by σ l short _ e
