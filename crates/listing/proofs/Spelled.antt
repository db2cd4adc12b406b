-- Lines of a listing: each is read from its spelling and from nothing else.
use mathlib.Core.Path.{◌≡◌, refl, sym, ap, ◌∙◌, subst}
use mathlib.Core.Bool.{true}
use mathlib.Core.Option.{Option, none, some}
use mathlib.Core.List.{[], ◌++◌, append-nil}
use Prim.Native.Nat.{ℕ}
use native.Mathlib.Omega.{arith}
use Rattle.theory.specs.Limits
use Rattle.theory.specs.Basics.{or_else}
use Rattle.theory.specs.Text.{Bytes, Found, bytes, following, same, numeral, decimal}
use Rattle.theory.specs.Word.{Symbol, one, hash}
use Rattle.theory.specs.Machines.{is_limited}
use Rattle.theory.proofs.Faults.{and_then_some, given_some}
use Rattle.theory.proofs.GoodSource.{Limited, limited, is_limited-from}
use Rattle.theory.proofs.Numerals.{found, numeral-decimal, numeral-spelled}
use Rattle.theory.proofs.Spellings.{following-append, following_some, same_iff}
use Rattle.listing.specs.Listing.{Line, print, scan, print_name, spelling, in_range, register_number, prints, scans, line}
use Rattle.listing.specs.Claims.{register, OnASet, LinesSpelled}

-- A line on a set has a register of a set with 64
pub on_a_set : (c : Line) → OnASet c → Limited Limits.most_registers (register c)
on_a_set c s = (omega (arith, s.first), omega (arith, s.last))

-- Reading undoes writing

numeral_alone : (n : ℕ) → numeral (decimal n) ≡ some (found n [])
numeral_alone n = rw (append-nil (decimal n)) at (numeral-decimal n [] tt)

in_range_found : (n : ℕ) (r : Bytes) → Limited Limits.most_registers n → in_range (found n r) ≡ some (found n r)
in_range_found n r h = rw (is_limited-from Limits.most_registers n h)

prints-spelling : (x : Symbol) (n : ℕ) → OnASet (print x n) → prints x (spelling (print x n)) ≡ some (print x n)
unfolding prints register_number same
prints-spelling x n s =
    rw (following-append (print_name x) (decimal n), numeral_alone n, in_range_found n [] (on_a_set (print x n) s))

scans-spelling : (n e f : ℕ) → OnASet (scan n e f) → scans (spelling (scan n e f)) ≡ some (scan n e f)
unfolding scans register_number following same
scans-spelling n e f s =
    let last : Bytes = bytes " " ++ decimal f in
    let targets : Bytes = bytes " " ++ (decimal e ++ last) in
    rw (
      numeral-decimal n targets refl,
      in_range_found n targets (on_a_set (scan n e f) s),
      numeral-decimal e last refl,
      numeral_alone f,
    )

-- Where another spelling is tried first it fails at the line's first bytes
hash_no_one : (n : ℕ) → prints one (spelling (print hash n)) ≡ none
unfolding prints following
hash_no_one n = refl

scan_no_print : (x : Symbol) (n e f : ℕ) → prints x (spelling (scan n e f)) ≡ none
unfolding prints following
scan_no_print one n e f = refl
scan_no_print hash n e f = refl

line_of-spelling : (c : Line) → OnASet c → line (spelling c) ≡ some c
unfolding line
line_of-spelling (print one n) s = rw (prints-spelling one n s)
line_of-spelling (print hash n) s = rw (hash_no_one n, prints-spelling hash n s)
line_of-spelling (scan n e f) s = rw (scan_no_print one n e f, scan_no_print hash n e f, scans-spelling n e f s)

-- Writing undoes reading

-- A register that is read, and what was read
record Register (t : Bytes) (f : Found ℕ) : Type 0 where
  limits : Limited Limits.most_registers f.value
  whole : decimal f.value ++ f.rest ≡ t

register-read : (t : Bytes) (f : Found ℕ) → register_number t ≡ some f → Register t f
unfolding register_number
register-read t f h =
    let n : _ = and_then_some (numeral t) in_range f h in
    let g : _ = given_some (is_limited Limits.most_registers n.0.value) n.0 f n.2 in
    let whole : decimal n.0.value ++ n.0.rest ≡ t = (numeral-spelled t n.0 n.1).whole in
    subst (Register t) g.1 (record { limits = limited Limits.most_registers n.0.value g.0; whole = whole })

-- What is written again behind a given text, behind a number, and nothing behind a number
behind_text : (w : Bytes) {t u r : Bytes} → following w t ≡ some u → r ≡ u → w ++ r ≡ t
behind_text w {t} {u} h e = ap (λ b. w ++ b) e ∙ following_some w t u h

behind_number : (n : ℕ) {t u r : Bytes} → decimal n ++ u ≡ t → r ≡ u → decimal n ++ r ≡ t
behind_number n h e = ap (λ b. decimal n ++ b) e ∙ h

at_end : (n : ℕ) (u : Bytes) {t : Bytes} → decimal n ++ u ≡ t → same (bytes "") u ≡ true → decimal n ≡ t
at_end n u h e = sym (append-nil (decimal n)) ∙ behind_number n h ((same_iff (bytes "") u).0 e)

abbrev Spells : Bytes → Line → Type 0
Spells t c = OnASet c × (spelling c ≡ t)

prints_spells : (x : Symbol) (t : Bytes) (c : Line) → prints x t ≡ some c → Spells t c
unfolding prints
prints_spells x t c h =
    let u : _ = and_then_some (following (print_name x) t) _ c h in
    let n : _ = and_then_some (register_number u.0) _ c u.2 in
    let g : _ = given_some (same (bytes "") n.0.rest) (print x n.0.value) c n.2 in
    let r : Register u.0 n.0 = register-read u.0 n.0 n.1 in
    let spelled : spelling (print x n.0.value) ≡ t =
    behind_text (print_name x) u.1 (at_end n.0.value n.0.rest r.whole g.0) in
    subst (Spells t) g.1 (record { first = r.limits.0; last = r.limits.1 }, spelled)

scans_spells : (t : Bytes) (c : Line) → scans t ≡ some c → Spells t c
unfolding scans
scans_spells t c h =
    let u : _ = and_then_some (following (bytes "Scd ") t) _ c h in
    let n : _ = and_then_some (register_number u.0) _ c u.2 in
    let v : _ = and_then_some (following (bytes " ") n.0.rest) _ c n.2 in
    let e : _ = and_then_some (numeral v.0) _ c v.2 in
    let w : _ = and_then_some (following (bytes " ") e.0.rest) _ c e.2 in
    let f : _ = and_then_some (numeral w.0) _ c w.2 in
    let read : Line = scan n.0.value e.0.value f.0.value in
    let g : (same (bytes "") f.0.rest ≡ true) × (read ≡ c) = given_some _ read c f.2 in
    let r : Register u.0 n.0 = register-read u.0 n.0 n.1 in
    let e_whole : _ = (numeral-spelled v.0 e.0 e.1).whole in
    let f_whole : decimal f.0.value ++ f.0.rest ≡ w.0 = (numeral-spelled w.0 f.0 f.1).whole in
    let last : bytes " " ++ decimal f.0.value ≡ e.0.rest =
    behind_text (bytes " ") w.1 (at_end f.0.value f.0.rest f_whole g.0) in
    let targets : _ = behind_text (bytes " ") v.1 (behind_number e.0.value e_whole last) in
    let spelled : spelling read ≡ t = behind_text (bytes "Scd ") u.1 (behind_number n.0.value r.whole targets) in
    subst (Spells t) g.1 (record { first = r.limits.0; last = r.limits.1 }, spelled)

-- Of one way to read a line or another
spells_or : (t : Bytes) (x y : Option Line) → ((c : Line) → x ≡ some c → Spells t c) → ((c : Line) → y ≡ some c → Spells t c)
    → (c : Line) → or_else x y ≡ some c → Spells t c
spells_or t none y f g = g
spells_or t (some a) y f g = f

line_spells : (t : Bytes) (c : Line) → line t ≡ some c → Spells t c
unfolding line
line_spells t =
    spells_or t (prints one t) _ (prints_spells one t)
    (spells_or t (prints hash t) (scans t) (prints_spells hash t) (scans_spells t))

pub lines-spelled : LinesSpelled
lines-spelled = record { read = λ c s. line_of-spelling c s; only = λ t c h. line_spells t c h }
