-- The accepted program that a list holds, line by line: the command there, its indices, its partner, and the pairs open.
use mathlib.Core.Path.{◌≡◌, refl, sym, ap, ◌∙◌}
use mathlib.Core.Option.{some, none-ne-some}
use mathlib.Core.List.{List, [], ◌∷◌}
use Prim.Native.Nat.{ℕ, zero, suc, ◌+◌, ◌*◌, ◌≤◌, ◌<◌}
use native.Mathlib.Omega.{arith}
use lib.ListN.{length, get_or, get_elem?, take}
use Rattle.theory.specs.Limits.{most_lines, most_index, most_open}
use Rattle.theory.specs.Basics.{at}
use Rattle.theory.specs.ProgramText.{Kind, loop, while, clear, increment, copy, Command, plain, opens, closes, indices, above, commands}
use Rattle.theory.specs.ProgramText.{numbers, list_of, Opening, open_next, lines, block_of}
use Rattle.theory.specs.Source.{open_after, open_at, deeper, loops, depth}
use Rattle.theory.specs.Claims.{Accepted}
use Rattle.theory.proofs.Nesting.{short, sound, low, LowIndices, LinesSound, lines_sound, few_open, well_nested}
use Rattle.theory.proofs.Cells.{each_at}
use Rattle.theory.proofs.Partners.{Known, known, open_on, depth_end}
use Rattle.theory.proofs.Lists.{commands_list}
use Rattle.list.proofs.Lists.{list_length}
use Rattle.source.specs.Lines.{Holds, decoded, command_at}

-- The list of an accepted program holds it
pub holds_list : (p : List Command) → Accepted p → Holds (list_of p)
holds_list p h = record { whole = rw (commands_list p); accepted = rw (commands_list p) h }

-- Three numbers a line

-- A command's numbers, of which the first is 1 to 7, give the command again; the third is a copy's alone
record Numbered (c : Command) : Type 0 where
  k : ℕ
  i : ℕ
  j : ℕ
  are : numbers c ≡ k ∷ i ∷ j ∷ []
  means : decoded k i j ≡ c
  low : 1 ≤ k
  high : k ≤ 7
  alone : (k ≡ 3 → ⊥) → j ≡ 0

numbered : (c : Command) → Numbered c
numbered (plain (clear i)) =
    record { k = 1; i = i; j = 0; are = refl; means = refl; low = omega arith; high = omega arith; alone = λ n. refl }
numbered (plain (increment i)) =
    record { k = 2; i = i; j = 0; are = refl; means = refl; low = omega arith; high = omega arith; alone = λ n. refl }
numbered (plain (copy i j)) =
    record { k = 3; i = i; j = j; are = refl; means = refl; low = omega arith; high = omega arith; alone = λ n. absurd (n refl) }
numbered (opens loop i) =
    record { k = 4; i = i; j = 0; are = refl; means = refl; low = omega arith; high = omega arith; alone = λ n. refl }
numbered (closes loop i) =
    record { k = 5; i = i; j = 0; are = refl; means = refl; low = omega arith; high = omega arith; alone = λ n. refl }
numbered (opens while i) =
    record { k = 6; i = i; j = 0; are = refl; means = refl; low = omega arith; high = omega arith; alone = λ n. refl }
numbered (closes while i) =
    record { k = 7; i = i; j = 0; are = refl; means = refl; low = omega arith; high = omega arith; alone = λ n. refl }

three_on : (a b d : ℕ) (l : List ℕ) (n n' : ℕ) → n' ≡ suc (suc (suc n)) → get_or (a ∷ b ∷ d ∷ l) n' 0 ≡ get_or l n 0
three_on a b d l n n' e = rw e

line_on : (a b d : ℕ) (l : List ℕ) (m : ℕ) → command_at (a ∷ b ∷ d ∷ l) (suc m) ≡ command_at l m
unfolding command_at
line_on a b d l m =
    rw (
      three_on a b d l (3 * m) (3 * suc m) (omega arith),
      three_on a b d l (3 * m + 1) (3 * suc m + 1) (omega arith),
      three_on a b d l (3 * m + 2) (3 * suc m + 2) (omega arith),
    )

fetched : (p : List Command) (m : ℕ) → m < length p → get_elem? p m ≡ some (command_at (list_of p) m)
unfolding list_of command_at
fetched [] m h = absurd (omega arith)
fetched (c ∷ p) zero h = let x : Numbered c = numbered c in rw x.are (ap some (sym x.means))
fetched (c ∷ p) (suc m) h =
    let x : Numbered c = numbered c in
    rw x.are (fetched p m (omega arith) ∙ ap some (sym (line_on x.k x.i x.j (list_of p) m)))

kind_range : (p : List Command) (m : ℕ) → m < length p → (1 ≤ get_or (list_of p) (3 * m) 0) × (get_or (list_of p) (3 * m) 0 ≤ 7)
unfolding list_of
kind_range [] m h = absurd (omega arith)
kind_range (c ∷ p) zero h = let x : Numbered c = numbered c in rw x.are (x.low, x.high)
kind_range (c ∷ p) (suc m) h =
    let x : Numbered c = numbered c in
    rw (x.are, three_on x.k x.i x.j (list_of p) (3 * m) (3 * suc m) (omega arith)) (kind_range p m (omega arith))

third_alone : (p : List Command) (m : ℕ) → m < length p → (get_or (list_of p) (3 * m) 0 ≡ 3 → ⊥) → get_or (list_of p) (3 * m + 2) 0 ≡ 0
unfolding list_of
third_alone [] m h = absurd (omega arith)
third_alone (c ∷ p) zero h = let x : Numbered c = numbered c in rw x.are x.alone
third_alone (c ∷ p) (suc m) h =
    let x : Numbered c = numbered c in
    rw (
      x.are,
      three_on x.k x.i x.j (list_of p) (3 * m) (3 * suc m) (omega arith),
      three_on x.k x.i x.j (list_of p) (3 * m + 2) (3 * suc m + 2) (omega arith),
    )
    (third_alone p m (omega arith))

-- Rule 6, of a line
room : (p : List Command) (n : ℕ) (os : List Opening) → LinesSound n os p → (m : ℕ) (k : Kind) (i : ℕ) → get_elem? p m ≡ some (opens k i)
    → length (open_after (take m p) n os) < most_open
room [] n os h m k i e = absurd (none-ne-some (opens k i) e)
room (x ∷ p) n os h zero k i e = let same : x ≡ opens k i = cc in few_open n os k i (rw same at h.0)
room (x ∷ p) n os h (suc m) k i e = room p (suc n) (open_next n os x) h.1 m k i e

loops-within : (os : List Opening) → loops os ≤ length os
loops-within [] = omega arith
loops-within (o ∷ os) = go o.kind (loops-within os)
  where
    go : (k : Kind) → loops os ≤ length os → deeper k (loops os) ≤ suc (length os)
    go loop h = omega arith
    go while h = omega arith

module _ (l : List ℕ) (h : Holds l) where
  pub few_lines : length (commands l) ≤ most_lines
  few_lines = short (commands l) h.accepted

  pub numbers-length : length l ≡ 3 * length (commands l)
  numbers-length = ap length (sym h.whole) ∙ list_length (commands l)

  -- No loop is around the line after the last
  pub depth_last : depth (commands l) (suc (length (commands l))) ≡ 0
  depth_last = rw (well_nested (commands l) h.accepted) at (depth_end (block_of (commands l)))

  -- Rule 6, of an opening line
  pub open_room : (n : ℕ) (k : Kind) (i : ℕ) → at (commands l) n ≡ some (opens k i) → length (open_at (commands l) n) < most_open
  unfolding open_at
  open_room zero k i e = absurd (none-ne-some (opens k i) e)
  open_room (suc m) k i e = room (commands l) 1 [] (lines_sound (commands l) 1 [] (sound (commands l) h.accepted)) m k i e

  pub depth_room : (n : ℕ) (k : Kind) (i : ℕ) → at (commands l) n ≡ some (opens k i) → depth (commands l) n < most_open
  unfolding depth
  depth_room n k i e = omega (arith, open_room n k i e, loops-within (open_at (commands l) n))

-- Line m, counted from 0
module _ (l : List ℕ) (h : Holds l) (m : ℕ) (inside : m < length (commands l)) where
  pub here : at (commands l) (suc m) ≡ some (command_at l m)
  here = fetched (commands l) m inside ∙ ap (λ x. some (command_at x m)) h.whole

  pub kind-within : (1 ≤ get_or l (3 * m) 0) × (get_or l (3 * m) 0 ≤ 7)
  kind-within = rw h.whole at (kind_range (commands l) m inside)

  -- A line that is no copy
  pub no_second : (get_or l (3 * m) 0 ≡ 3 → ⊥) → get_or l (3 * m + 2) 0 ≡ 0
  no_second = rw h.whole at (third_alone (commands l) m inside)

  -- A line that is not plain
  pub past_plain : (get_or l (3 * m) 0 ≡ 1 → ⊥) → (get_or l (3 * m) 0 ≡ 2 → ⊥) → (get_or l (3 * m) 0 ≡ 3 → ⊥) → 3 < get_or l (3 * m) 0
  past_plain a b c = omega (arith, kind-within.0)

  pub partner : Known (commands l) (suc m) (command_at l m)
  partner =
      let nested : lines (block_of (commands l)) ≡ commands l = well_nested (commands l) h.accepted in
      rw nested at (known (block_of (commands l)) (suc m) (command_at l m) (rw nested here))

  pub low_indices : above (indices (command_at l m)) ≤ suc most_index
  low_indices = each_at LowIndices (commands l) m (command_at l m) (low (commands l) h.accepted) here

  pub open_more : open_at (commands l) (suc (suc m)) ≡ open_next (suc m) (open_at (commands l) (suc m)) (command_at l m)
  open_more = open_on (commands l) (suc m) (command_at l m) here
