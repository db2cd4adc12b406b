-- Every number tells a setting and a form, and nothing is cut where an answer is packed.
use mathlib.Core.Path.{◌≡◌, refl}
use Prim.Native.Nat.{ℕ, suc, ◌+◌, ◌*◌, ◌/◌, ◌%◌, ◌^◌, ◌<◌}
use native.Mathlib.Omega.{arith}
use borrow.Author.Tests.{ne_eqb}
use mathlib.Core.List.{List}
use Rattle.theory.specs.ProgramText.{Command}
use Rattle.theory.specs.Runs.{Outcome}
use Rattle.theory.specs.Machines.{Value, valued, untidy}
use Rattle.theory.specs.TurnedDown.{Answer, done, refused}
use Rattle.theory.specs.declared.Refusal.{Refusal}
use Rattle.tidy.specs.declared.Form.{Form}
use Rattle.listing.specs.Listing.{Line}
use Rattle.packing.specs.Packed.{pack, packed, commands, sizes, listing_sizes, count, ending, symbols}
use Rattle.fitting.specs.Claims.{SettingsTold, FormsTold, Fields, Fit, unpack, NothingCut, ReadsBack}
use Rattle.fitting.specs.Claims.{fields, program_fields, word_fields, listing_fields, count_fields, end_fields, value_fields}

pub settings_told : SettingsTold
settings_told = (refl, λ n. rw (ne_eqb (suc n) 0 (λ e. omega arith)))

pub forms_told : FormsTold
forms_told = (refl, λ n other. rw (ne_eqb n 1 other))

module _ (what high low : ℕ) (w : what < 2 ^ 8) (h : high < 2 ^ 16) (l : low < 2 ^ 32) where
  n : ℕ
  n = what * 2 ^ 56 + (high % 2 ^ 16) * 2 ^ 32 + low % 2 ^ 32

  what_back : n / 2 ^ 56 ≡ what
  unfolding n
  what_back = omega arith

  high_back : n / 2 ^ 32 % 2 ^ 16 ≡ high
  unfolding n
  high_back = omega arith

  low_back : n % 2 ^ 32 ≡ low
  unfolding n
  low_back = omega arith

pub nothing_cut : NothingCut
unfolding pack unpack n
nothing_cut f fit =
    let w = what_back f.what f.high f.low fit.what fit.high fit.low in
    let h = high_back f.what f.high f.low fit.what fit.high fit.low in
    let l = low_back f.what f.high f.low fit.what fit.high fit.low in
    λ i. record { what = w i; high = h i; low = l i }

refused_back : {A : Type 0} (f : A → Fields) (r : Refusal) → Fit (fields f (refused r)) → unpack (pack 255 r.number r.place) ≡
    fields f (refused r)
refused_back f r = nothing_cut (fields f (refused r))

program_back : (a : Answer (List Command)) → Fit (fields program_fields a) → unpack (packed commands a) ≡ fields program_fields a
unfolding packed
program_back (done p) = nothing_cut (program_fields p)
program_back (refused r) = refused_back program_fields r

word_back : (form : Form) (a : Answer (List Command)) → Fit (fields (word_fields form) a)
    → unpack (packed (sizes form) a) ≡ fields (word_fields form) a
unfolding packed
word_back form (done p) = nothing_cut (word_fields form p)
word_back form (refused r) = refused_back (word_fields form) r

listing_back : (a : Answer (List Line)) → Fit (fields listing_fields a) → unpack (packed listing_sizes a) ≡ fields listing_fields a
unfolding packed
listing_back (done l) = nothing_cut (listing_fields l)
listing_back (refused r) = refused_back listing_fields r

list_back : {A : Type 0} (a : Answer (List A)) → Fit (fields count_fields a) → unpack (packed count a) ≡ fields count_fields a
unfolding packed
list_back (done l) = nothing_cut (count_fields l)
list_back {A} (refused r) = refused_back (count_fields {A = A}) r

run-back : {S : Type 0} (a : Answer (Outcome S)) → Fit (fields end_fields a) → unpack (packed ending a) ≡ fields end_fields a
unfolding packed
run-back (done o) = nothing_cut (end_fields o)
run-back {S} (refused r) = refused_back (end_fields {S = S}) r

value_back : (a : Answer Value) → Fit (fields value_fields a) → unpack (packed symbols a) ≡ fields value_fields a
unfolding packed
value_back (done (valued xs)) = nothing_cut (value_fields (valued xs))
value_back (done untidy) = nothing_cut (value_fields untidy)
value_back (refused r) = refused_back value_fields r

pub reads_back : ReadsBack
reads_back =
    record {
      program = program_back;
      word = word_back;
      listing = listing_back;
      list = list_back;
      run = run-back;
      value = value_back;
    }
