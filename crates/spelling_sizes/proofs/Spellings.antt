-- Laws of what is written: the bytes of names, and the lines of commands by their numbers.
use mathlib.Core.Path.{◌≡◌, ◌∙◌}
use mathlib.Core.List.{[], ◌∷◌, ◌++◌, append_assoc}
use Prim.Native.Nat.{ℕ, ◌+◌, ◌<◌, ◌≤◌, ◌/◌, ◌%◌}
use native.Mathlib.Omega.{arith}
use borrow.Author.Tests.{ne_eqb}
use Rattle.theory.specs.Text.{Bytes, bytes, LF, name_of}
use Rattle.theory.specs.ProgramText.{clear, increment, copy, loop, while, Command, plain, opens, closes, spelling, numbers}
use Rattle.theory.proofs.Numerals.{decimal_small, decimal_large}
use Rattle.spelling_sizes.specs.Spellings.{command_line}

-- Names

pub name_one : (i : ℕ) → i < 10 → name_of i ≡ 88 ∷ (48 + i) ∷ []
unfolding name_of
name_one i h = rw (decimal_small i h)

pub name_two : (i : ℕ) → 10 ≤ i → i < 100 → name_of i ≡ 88 ∷ (48 + i / 10) ∷ (48 + i % 10) ∷ []
unfolding name_of
name_two i h k = rw (decimal_large i h, decimal_small (i / 10) (omega arith))

pub name_three : (i : ℕ) → 100 ≤ i → i < 1000 → name_of i ≡ 88 ∷ (48 + i / 100) ∷ (48 + i / 10 % 10) ∷ (48 + i % 10) ∷ []
unfolding name_of
name_three i h k =
    let hundreds : i / 10 / 10 ≡ i / 100 = omega arith in
    rw (decimal_large i (omega arith), decimal_large (i / 10) (omega arith), decimal_small (i / 10 / 10) (omega arith), hundreds)

-- Lines, by kind

module _ (k i j : ℕ) where
  pub line_1 : k ≡ 1 → command_line k i j ≡ name_of i ++ bytes " <- 0\n"
  unfolding command_line
  line_1 e = rw e

  pub line_2 : k ≡ 2 → command_line k i j ≡ (name_of i ++ bytes " <- ") ++ (name_of i ++ bytes " + 1\n")
  unfolding command_line
  line_2 e = rw e

  pub line_3 : k ≡ 3 → command_line k i j ≡ (name_of i ++ bytes " <- ") ++ (name_of j ++ bytes "\n")
  unfolding command_line
  line_3 e = rw e

  pub line_4 : k ≡ 4 → command_line k i j ≡ bytes "loop " ++ (name_of i ++ bytes "\n")
  unfolding command_line
  line_4 e = rw e

  pub line_5 : k ≡ 5 → command_line k i j ≡ bytes "endloop " ++ (name_of i ++ bytes "\n")
  unfolding command_line
  line_5 e = rw e

  pub line_6 : k ≡ 6 → command_line k i j ≡ bytes "while " ++ (name_of i ++ bytes " != 0\n")
  unfolding command_line
  line_6 e = rw e

  pub line_7 : (k ≡ 1 → ⊥) → (k ≡ 2 → ⊥) → (k ≡ 3 → ⊥) → (k ≡ 4 → ⊥) → (k ≡ 5 → ⊥) → (k ≡ 6 → ⊥)
      → command_line k i j ≡ bytes "endwhile " ++ (name_of i ++ bytes " != 0\n")
  unfolding command_line
  line_7 n1 n2 n3 n4 n5 n6 = rw (ne_eqb k 1 n1, ne_eqb k 2 n2, ne_eqb k 3 n3, ne_eqb k 4 n4, ne_eqb k 5 n5, ne_eqb k 6 n6)

-- The line of three numbers is that of the command that they are
pub line-spelled : (k i j : ℕ) (c : Command) → numbers c ≡ k ∷ i ∷ j ∷ [] → command_line k i j ≡ spelling c ++ (LF ∷ [])
unfolding spelling
line-spelled k i j (plain (clear a)) e =
    let ek : k ≡ 1 = cc in
    let ei : i ≡ a = cc in
    line_1 k i j ek ∙ rw (ei, append_assoc (name_of a) (bytes " <- 0") (LF ∷ []))
line-spelled k i j (plain (increment a)) e =
    let ek : k ≡ 2 = cc in
    let ei : i ≡ a = cc in
    line_2 k i j ek ∙ rw ei (simp append_assoc)
line-spelled k i j (plain (copy a b)) e =
    let ek : k ≡ 3 = cc in
    let ei : i ≡ a = cc in
    let ej : j ≡ b = cc in
    line_3 k i j ek ∙ rw (ei, ej) (simp append_assoc)
line-spelled k i j (opens loop a) e =
    let ek : k ≡ 4 = cc in
    let ei : i ≡ a = cc in
    line_4 k i j ek ∙ rw ei
line-spelled k i j (closes loop a) e =
    let ek : k ≡ 5 = cc in
    let ei : i ≡ a = cc in
    line_5 k i j ek ∙ rw ei
line-spelled k i j (opens while a) e =
    let ek : k ≡ 6 = cc in
    let ei : i ≡ a = cc in
    line_6 k i j ek ∙ rw ei (simp append_assoc)
line-spelled k i j (closes while a) e =
    let ek : k ≡ 7 = cc in
    let ei : i ≡ a = cc in
    line_7 k i j (λ f. omega arith) (λ f. omega arith) (λ f. omega arith) (λ f. omega arith) (λ f. omega arith) (λ f. omega arith)
    ∙ rw ei (simp append_assoc)
