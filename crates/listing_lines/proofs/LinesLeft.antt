-- The lines of a text that are left to read, from a place of it on, and the numbers that were put for those before.
use mathlib.Core.Path.{◌≡◌, refl, sym, ap, ◌∙◌}
use mathlib.Core.Bool.{Bool, true, false}
use mathlib.Core.List.{List, [], ◌++◌, append_assoc, append-nil}
use Prim.Native.Nat.{ℕ, ◌+◌, ◌-◌, ◌<◌, ◌≤◌}
use native.Mathlib.Omega.{arith}
use lib.Dec.{leb}
use borrow.Author.Tests.{leb-true, leb-false}
use lib.ListN.{length, take, drop, drop_of_length-le}
use lib.Seq.{sets}
use Rattle.theory.specs.Text.{Bytes, LF, split_lines}
use Rattle.text.specs.Runs.{before}
use Rattle.text.proofs.Lines.{next_line}
use Rattle.output.specs.Puts.{most, place, Put, starting}
use Rattle.output.proofs.Puts.{put_nothing, put_then, sets-starting}
use Rattle.listing.specs.Listing.{line}
use Rattle.listing.specs.Refused.{text_lines}
use Rattle.listing_numbers.specs.declared.Numbers.{Numbers}
use Rattle.listing_numbers.specs.Numbers.{numbers, list_of}
use Rattle.listing_numbers.specs.Lines.{in_order}

-- Before the line at `at`: the numbers put, and those of the lines that are left, are those of the whole text
pub record LinesFrom (t lent list : List ℕ) (at lines to : ℕ) : Type 0 where
  pub within : at ≤ length t + 1
  pub few : lines ≤ at
  pub count : lines + length (split_lines (drop at t)) ≡ length (split_lines t)
  pub written : List ℕ
  pub whole : written ++ list_of (text_lines (drop at t)) ≡ list_of (text_lines t)
  pub put : Put written 0 lent list to

pub lines_start : (t lent : List ℕ) → length lent ≤ most → LinesFrom t lent lent 0 0 0
lines_start t lent h = record {
  within = omega arith;
  few = omega arith;
  count = omega arith;
  written = [];
  whole = refl;
  put = put_nothing lent 0 (omega arith) h;
}

-- A text ends before the largest place
same_rest : (t : Bytes) (n : ℕ) → length t ≤ most → drop (place n) t ≡ drop n t
same_rest t n h = go (leb n most) refl
  where
    go : (b : Bool) → leb n most ≡ b → drop (place n) t ≡ drop n t
    go true e = let is : place n ≡ n = omega (arith, leb-true n most e) in rw is
    go false e =
        let past : most < n = leb-false n most e in
        drop_of_length-le t {i = place n} (omega arith) ∙ sym (drop_of_length-le t {i = n} (omega arith))

module _ {t lent list : List ℕ} {at lines to : ℕ} (h : LinesFrom t lent list at lines to) where
  pub lines_next : at < length t → length t ≤ most → (end : ℕ) → end ≡ at + before LF (drop at t) → end ≤ length t → {n : Numbers}
      → in_order n ≡ numbers (line (take (end - at) (drop at t))) → {list' : List ℕ} {to' : ℕ} → Put (in_order n) to list list' to'
      → {at' : ℕ} → at' ≡ place (end + 1) → LinesFrom t lent list' at' (lines + 1) to'
  unfolding list_of
  lines_next more small end e k {n} f p {at'} g =
      let split : _ = next_line t at end more e in
      let rest : drop at' t ≡ drop (end + 1) t = rw g (same_rest t (end + 1) small) in
      let later : List ℕ = list_of (text_lines (drop at' t)) in
      let left : list_of (text_lines (drop at t)) ≡ in_order n ++ later = rw (split, ← f, ← rest) in
      record {
        within = omega (arith, g);
        few = omega (arith, h.few, e, g);
        count = omega (arith, h.count, ap length split, ap (λ u. length (split_lines u)) rest);
        written = h.written ++ in_order n;
        whole = append_assoc h.written (in_order n) later ∙ rw (← left) h.whole;
        put = put_then h.put p;
      }

  pub lines-read : length t ≤ at → (lines ≡ length (split_lines t)) × (list ≡ starting (list_of (text_lines t)) lent)
  unfolding split_lines list_of
  lines-read k =
      let none : drop at t ≡ [] = drop_of_length-le t k in
      let all : h.written ≡ list_of (text_lines t) = sym (append-nil h.written) ∙ rw none at h.whole in (
        omega (arith, h.count, ap (λ u. length (split_lines u)) none),
        h.put.wrote ∙ ap (λ w. sets lent 0 w) all ∙ sets-starting (list_of (text_lines t)) lent,
      )
