-- The report in a lent output: rule 19, and the output then.
use Rattle.theory.specs.declared.Refusal.{Refusal}
use Rattle.std.specs.Prelude.{Result, Ok, Err}
use mathlib.Core.Path.{◌≡◌, refl, ap, ◌∙◌}
use mathlib.Core.Bool.{Bool, true, false}
use mathlib.Core.List.{List, ◌++◌}
use Prim.Native.Nat.{ℕ, ◌+◌, ◌≤◌, ◌<◌}
use native.Mathlib.Nat.{zero-add}
use native.Mathlib.Omega.{arith}
use lib.Dec.{leb}
use lib.ListN.{length, drop}
use lib.Seq.{sets-eq}
use borrow.Author.Tests.{le-leb, lt-leb, leb-true, leb-false}
use Rattle.theory.specs.Text.{Bytes}
use Rattle.theory.specs.TurnedDown.{done, refused, rule_19, lent_after}
use Rattle.theory.specs.RunTool.{report_on}
use Rattle.output.specs.Puts.{Put}
use Rattle.report.specs.Answers.{reported, report_into}

module _ (lent : Bytes) (capacities : List ℕ) (text sheet : Bytes) where
  fitting : length (report_on capacities text sheet) ≤ length lent → report_into lent capacities text sheet
      ≡ done (report_on capacities text sheet)
  unfolding report_into rule_19
  fitting h = rw (le-leb (length (report_on capacities text sheet)) (length lent) h)

  too_long : length lent < length (report_on capacities text sheet) → report_into lent capacities text sheet
      ≡ refused (record { number = 19; place = 0 })
  unfolding report_into rule_19
  too_long h = rw (lt-leb (length (report_on capacities text sheet)) (length lent) h)

  -- What is handed back, and the output then
  abbrev Answers : Result ℕ Refusal → Bytes → Type 0
  Answers r after = (r ≡ reported (report_into lent capacities text sheet))
      × (after ≡ lent_after lent (report_into lent capacities text sheet))

  pub report_done : (after : Bytes) (n : ℕ) → length (report_on capacities text sheet) ≤ length lent
      → Put (report_on capacities text sheet) 0 lent after n
      → Answers (Ok n) after
  unfolding lent_after
  report_done after n h put =
      let size : n ≡ length (report_on capacities text sheet) = omega (arith, put.next, put.sized) in
      let room : 0 + length (report_on capacities text sheet) ≤ length lent = omega arith in
      let whole : after ≡ report_on capacities text sheet ++ drop (length (report_on capacities text sheet)) lent
      = put.wrote ∙ sets-eq (report_on capacities text sheet) lent 0 room ∙ rw zero-add in
      (rw (fitting h, size), rw (fitting h) whole)

  pub report_refused : length lent < length (report_on capacities text sheet) → Answers (Err (record { number = 19; place = 0 })) lent
  unfolding lent_after
  report_refused h = (rw (too_long h), rw (too_long h))

  -- What was written has its place in the output
  pub done_fits : (n : ℕ) → Ok n ≡ reported (report_into lent capacities text sheet) → n ≤ length lent
  done_fits n e = go (leb (length (report_on capacities text sheet)) (length lent)) refl
    where
      go : (t : Bool) → leb (length (report_on capacities text sheet)) (length lent) ≡ t → n ≤ length lent
      go true k =
          let fits : length (report_on capacities text sheet) ≤ length lent
          = leb-true (length (report_on capacities text sheet)) (length lent) k in
          let same : ◌≡◌ {A = Result ℕ Refusal} (Ok n) (Ok (length (report_on capacities text sheet))) = e ∙ ap reported (fitting fits) in
          let size : n ≡ length (report_on capacities text sheet) = cc in
          omega arith
      go false k =
          let long : length lent < length (report_on capacities text sheet)
          = leb-false (length (report_on capacities text sheet)) (length lent) k in
          let down : ◌≡◌ {A = Result ℕ Refusal} (Ok n) (Err (record { number = 19; place = 0 })) = e ∙ ap reported (too_long long) in
          absurd (let z : ◌≡◌ {A = ℕ} 0 1 = cc in omega arith)
