-- `run_text` hands back what the definitions give: the text is read into a buffer that has room for any program, and an accepted one is
-- run from there. Assumes nothing.
use Rattle.theory.specs.declared.Refusal.{Refusal}
use Rattle.std.specs.Prelude.{Result, Ok}
use mathlib.Core.Path.{◌≡◌, refl, sym, ap, ◌∙◌}
use mathlib.Core.List.{List}
use Prim.Native.Nat.{ℕ, ◌*◌, ◌≤◌}
use native.Mathlib.Omega.{arith}
use borrow.Author.Rules.{rules}
use lib.ListN.{length, replicate}
use lib.Seq.{length-take-le}
use Rattle.theory.specs.TurnedDown.{read_program_into, read_text_under}
use Rattle.theory.specs.declared.Setting.{Setting}
use Rattle.list.specs.Answers.{checked}
use Rattle.list.specs.declared.Program.{Program}
use Rattle.source.proofs.Results.{refused_back}
use Rattle.source.proofs.Reading.{AcceptedAs, accepted_as, refused_as, buffer_read, numbers_few, text-given, text_program}
use Rattle.source.proofs.run_text.Goals as goal

abbrev buffer : List ℕ
buffer = replicate 1536 0

-- What `read` said is what the definition says of the text
said : (σ : Setting) (text : List ℕ) (r : Result Program Refusal) → r ≡ checked (read_program_into σ buffer text) → checked (read_text_under σ text) ≡ r
said σ text r e = sym (e ∙ ap checked (buffer_read σ buffer text refl))

accepted : (σ : Setting) (text : List ℕ) (p : Program) → Ok p ≡ checked (read_program_into σ buffer text)
    → AcceptedAs (read_text_under σ text) p
accepted σ text p e = accepted_as (read_text_under σ text) p (said σ text (Ok p) e)

pub overflow_mul-numbers : goal.overflow_mul-numbers
overflow_mul-numbers c =
    let a : _ = accepted c.args.setting c.args.text.now _ c.in-Ok.ensures.value in
    omega (arith, numbers_few c.args.setting buffer c.args.text.now refl _ a _ c.in-Ok.ensures.list_after)

pub slice_bounds-list-end : goal.slice_bounds-list-end
slice_bounds-list-end c =
    let a : _ = accepted c.args.setting c.args.text.now _ c.in-Ok.ensures.value in
    let size : length c.read.new.list ≡ 1536 = search rules in
    omega (arith, numbers_few c.args.setting buffer c.args.text.now refl _ a _ c.in-Ok.ensures.list_after)

pub slice_bounds-run_accepted-end : goal.slice_bounds-run_accepted-end
slice_bounds-run_accepted-end c =
    let a : _ = accepted c.args.setting c.args.text.now _ c.in-Ok.ensures.value in
    let size : length c.read.new.list ≡ 1536 = search rules in
    let few : 3 * c.in-Ok.p.lines ≤ length c.read.new.list =
    omega (arith, numbers_few c.args.setting buffer c.args.text.now refl _ a _ c.in-Ok.ensures.list_after) in
    sym (length-take-le _ _ few)

pub run_accepted-requires : goal.run_accepted-requires
run_accepted-requires c =
    let a : _ = accepted c.args.setting c.args.text.now _ c.in-Ok.ensures.value in
    text-given c.args.setting buffer c.args.text.now refl _ a c.read.new.list c.in-Ok.ensures.list_after

pub returns-in-Ok : goal.returns-in-Ok
returns-in-Ok c =
    let a : _ = accepted c.args.setting c.args.text.now _ c.in-Ok.ensures.value in
    let held : _ = text_program c.args.setting buffer c.args.text.now refl _ a c.read.new.list c.in-Ok.ensures.list_after in
    rw (a.is_done, ← held) c.run_accepted.ensures

pub returns-in-Err : goal.returns-in-Err
returns-in-Err c =
    let answer : _ = said c.args.setting c.args.text.now _ c.in-Err.ensures.value in
    rw (c.refused.ensures, refused_as (read_text_under c.args.setting c.args.text.now) _ answer) (refused_back _ _)
