-- A reader's way along a line, from field to field: what it has read, and what is left.
use Rattle.std.specs.Prelude.{None, Some}
use mathlib.Core.Path.{◌≡◌, refl, ap₂, ◌∙◌}
use mathlib.Core.Bool.{Bool}
use mathlib.Core.Option.{Option, none, some}
use mathlib.Core.List.{List, [], ◌∷◌, ◌++◌, map, append_assoc, append-nil}
use Prim.Native.Nat.{ℕ, ◌+◌, ◌-◌, ◌≤◌, ◌<◌, min}
use native.Mathlib.Omega.{arith}
use lib.ListN.{length, take, drop, length-append}
use Rattle.theory.specs.Basics.{every}
use Rattle.theory.specs.Text.{Bytes, blank, fields}
use Rattle.fields.specs.declared.Line.{Line}
use Rattle.fields.specs.Fields.{most, spelled, field_of, numbers_of, kept as kept_line, line_of, with_number}
use Rattle.text.specs.Runs.{before}
use Rattle.fields.proofs.Splits.{before-within, fields-from, fields_none, fields-whole, fields_end, fields-next}
use Rattle.fields.proofs.Numbers.{every_more, every_fails}
use Rattle.fields.proofs.Kept.{line-more}

-- What a field spells, if it spells a number
number_spelled : (o : Option ℕ) (n : ℕ) → Some n ≡ spelled o → (m : ℕ) × (o ≡ some m) × (n ≡ min m most)
number_spelled none n e = let never : ◌≡◌ {A = ℕ} 0 1 = cc in absurd (omega arith)
number_spelled (some m) n e = (m, refl, cc)

nothing_spelled : (o : Option ℕ) → None ≡ spelled o → o ≡ none
nothing_spelled none e = refl
nothing_spelled (some m) e = cc

-- The fields before the place `at` are read, and the line holds their numbers
pub record Reading (t : Bytes) (named : Bool) (bound : ℕ) (line : Line) (at : ℕ) : Type 0 where
  pub read : List Bytes
  pub numbers : List ℕ
  pub so_far : every (map (field_of named) read) ≡ some numbers
  pub left : fields t ≡ read ++ fields-from at t
  pub kept : line ≡ kept_line bound numbers
  pub reached : at ≤ length t + 1
  pub fewer : length numbers ≤ at

module _ (t : Bytes) (named : Bool) (bound : ℕ) where
  reading_start : (at : ℕ) → at ≤ length t + 1 → fields t ≡ fields-from at t → Reading t named bound (kept_line bound []) at
  reading_start at h e =
      record { read = []; numbers = []; so_far = refl; left = e; kept = refl; reached = h; fewer = omega arith }

  -- The empty line has no fields, any other has its first at its first byte
  pub reading_none : (at : ℕ) → length t ≡ 0 → at ≡ 1 → Reading t named bound (kept_line bound []) at
  reading_none at e a = reading_start at (omega arith) (rw a (fields_none t e))

  pub reading_whole : (at : ℕ) → (length t ≡ 0 → ⊥) → at ≡ 0 → Reading t named bound (kept_line bound []) at
  reading_whole at e a = reading_start at (omega arith) (rw a (fields-whole t e))

  module _ (line : Line) (at : ℕ) (r : Reading t named bound line at) where
    pub reading_count : line.count ≤ at
    reading_count = rw r.kept r.fewer

    pub reading_end : length t < at → Some line ≡ line_of bound (numbers_of named t)
    unfolding numbers_of line_of
    reading_end h =
        let whole : fields t ≡ r.read = r.left ∙ rw (fields_end t at h) (append-nil r.read) in
        rw (whole, r.so_far, r.kept)

    module _ (h : at ≤ length t) (end : ℕ) (e : end ≡ at + before blank (drop at t)) where
      f : Bytes
      f = take (end - at) (drop at t)

      next : fields-from at t ≡ f ∷ fields-from (end + 1) t
      unfolding f
      next =
          let size : end - at ≡ before blank (drop at t) = omega arith in
          rw (size, e) (fields-next t at h)

      pub reading_fails : None ≡ spelled (field_of named (take (end - at) (drop at t)))
          → None ≡ line_of bound (numbers_of named t)
      unfolding f numbers_of line_of
      reading_fails q =
          let fails : field_of named f ≡ none = nothing_spelled (field_of named f) q in
          rw (r.left, next, every_fails (field_of named) r.read (fields-from (end + 1) t) f fails)

      pub reading_next : bound ≤ most → (n : ℕ) → Some n ≡ spelled (field_of named (take (end - at) (drop at t)))
          → Reading t named bound (with_number bound n line) (end + 1)
      unfolding f
      reading_next b n q =
          let m : _ = number_spelled (field_of named f) n q in
          let within : end ≤ length t = omega (arith, before-within blank t at h) in
          record {
            read = r.read ++ (f ∷ []);
            numbers = r.numbers ++ (m.0 ∷ []);
            so_far = every_more (field_of named) r.read f r.numbers m.0 r.so_far m.1;
            left = r.left ∙ rw (next, append_assoc r.read (f ∷ []) (fields-from (end + 1) t));
            kept = ap₂ {C = Line} (with_number bound) m.2 r.kept ∙ line-more bound r.numbers m.0 b;
            reached = omega arith;
            fewer = omega (arith, length-append r.numbers (m.0 ∷ []), r.fewer);
          }
