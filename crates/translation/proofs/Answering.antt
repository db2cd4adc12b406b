-- The answer and the output of a translation, by what its program was read as.
use Rattle.std.specs.Prelude.{Result, Ok, Err}
use mathlib.Core.Path.{◌≡◌, refl, sym, ◌∙◌}
use mathlib.Core.List.{List}
use Prim.Native.Nat.{ℕ, ◌*◌, ◌≤◌, ◌<◌}
use native.Mathlib.Omega.{arith}
use lib.ListN.{length, take, drop}
use lib.Seq.{take_at}
use borrow.Author.Tests.{le-leb, lt-leb}
use Rattle.theory.specs.Text.{Bytes}
use Rattle.theory.specs.ProgramText.{Command, list_of, commands}
use Rattle.theory.specs.TurnedDown.{Answer, done, refused, mapped, rule_19, lent_after, read_program_into, translate_into}
use Rattle.theory.specs.TurnedDown.{read_text_under, read_list, read_list_under}
use Rattle.theory.specs.declared.Refusal.{Refusal}
use Rattle.theory.specs.declared.Setting.{Setting}
use Rattle.theory.specs.Claims.{Accepted}
use Rattle.theory.proofs.Nesting.{reads_accepted, short, list_read}
use Rattle.theory.proofs.Settings.{read_text_outside, read_list_outside}
use Rattle.theory.proofs.Lists.{lists_round_trip}
use Rattle.tidy.specs.declared.Form.{Form}
use Rattle.tidy.specs.Forms.{text_in}
use Rattle.list.specs.Answers as P
use Rattle.list.specs.declared.Program.{Program}
use Rattle.list.proofs.Replies.{checked_refused, checked_accepted}
use Rattle.translation.specs.Answers.{size_in, Answered}
use Rattle.translation.specs.Sites.{Known}
use Rattle.instruction.specs.declared.Size.{Size}
use Rattle.list.proofs.Lists.{list_length}

-- It was refused; it has no room; it is written
module _ (form : Form) (A : Answer (List Command)) where
  pub answered_refused : (r : Refusal) (out : List ℕ) → A ≡ refused r → Answered form A out out (Err r)
  unfolding translate_into lent_after
  answered_refused r out e = record { answers = rw e; writes = rw e }

  module _ (p : List Command) (out : List ℕ) (e : A ≡ done p) where
    pub answered_short : length out < length (text_in form p) → Answered form A out out (Err (record { number = 19; place = 0 }))
    unfolding translate_into lent_after rule_19
    answered_short h =
        let t : _ = lt-leb (length (text_in form p)) (length out) h in
        record { answers = rw (e, t); writes = rw (e, t) }

    pub answered_done : (out' : List ℕ) (s : Size) → length (text_in form p) ≤ length out → out' ≡ lent_after out (done (text_in form p))
        → s ≡ size_in form p → Answered form A out out' (Ok s)
    unfolding translate_into rule_19
    answered_done out' s h o z =
        let t : _ = le-leb (length (text_in form p)) (length out) h in
        record { answers = rw (e, t, z); writes = rw (e, t) o }

-- What the check of a list, and the reading of a text into one, tell of the program

pub known : (list : List ℕ) (p : List Command) (q : Program) → read_list list ≡ done p → q ≡ P.program_of p
    → Known list q.lines q.variables
unfolding commands
known list p q e f =
    let same : commands list ≡ p = (list_read list p e).1 in
    record {
      accepts = record { read = rw same e; counts = rw (same, f) };
      names = rw (same, f);
    }

-- A list that is accepted under a setting: it is read so outside it too
module _ (σ : Setting) (list : List ℕ) {c : Result Program Refusal} (e : c ≡ P.checked (read_list_under σ list)) {q : Program} (f : c ≡ Ok q) where
  abbrev read : (p : List Command) × (read_list_under σ list ≡ done p) × (q ≡ P.program_of p)
  read = checked_accepted (read_list_under σ list) e f

  outside : read_list list ≡ done read.0
  outside = read_list_outside σ list read.0 read.1

  pub listed_known : Known list q.lines q.variables
  listed_known = known list read.0 q outside read.2

  pub listed_outside : read_list list ≡ read_list_under σ list
  listed_outside = outside ∙ sym read.1

module _ (σ : Setting) (t : Bytes) (lent : List ℕ) (room : 1536 ≤ length lent) where
  fits : (p : List Command) → read_text_under σ t ≡ done p → length (list_of p) ≤ length lent
  fits p e = omega (arith, list_length p, short p (reads_accepted.0 t p (read_text_outside σ t p e)))

  -- A list of 1,536 numbers has room for any program
  read_as_text : read_program_into σ lent t ≡ read_text_under σ t
  unfolding read_program_into rule_19
  read_as_text = go (read_text_under σ t) refl
    where
      go : (A : Answer (List Command)) → read_text_under σ t ≡ A → read_program_into σ lent t ≡ read_text_under σ t
      go (refused r) e = rw e
      go (done p) e = rw (e, le-leb (length (list_of p)) (length lent) (fits p e))

  pub unread : {c : Result Program Refusal} {r : Refusal} → c ≡ P.checked (read_program_into σ lent t) → c ≡ Err r → read_text_under σ t ≡ refused r
  unread e f = sym read_as_text ∙ checked_refused (read_program_into σ lent t) e f

  -- What was read, and the part of the list that holds it
  pub record Taken (q : Program) (list : List ℕ) : Type 0 where
    pub program : List Command
    pub text : read_text_under σ t ≡ done program
    pub part : read_list (take (3 * q.lines) list) ≡ done program
    pub known : Known (take (3 * q.lines) list) q.lines q.variables
    pub few : 3 * q.lines ≤ 1536

  taken_of : (p : List Command) (q : Program) (list : List ℕ) → read_text_under σ t ≡ done p → q ≡ P.program_of p
      → list ≡ lent_after lent (mapped list_of (read_program_into σ lent t)) → Taken q list
  unfolding lent_after
  taken_of p q list e f h =
      let ok : Accepted p = reads_accepted.0 t p (read_text_outside σ t p e) in
      let l : length (list_of p) ≡ 3 * q.lines = rw f (list_length p) in
      let part : take (3 * q.lines) list ≡ list_of p =
      rw (h, read_as_text, e) (take_at (list_of p) (drop (length (list_of p)) lent) (3 * q.lines) l) in
      let read : read_list (take (3 * q.lines) list) ≡ done p = rw part (lists_round_trip.0 p ok) in
      record {
        program = p;
        text = e;
        part = read;
        known = known (take (3 * q.lines) list) p q read f;
        few = omega (arith, list_length p, short p ok);
      }

  pub taken : {c : Result Program Refusal} (q : Program) (list : List ℕ) → c ≡ P.checked (read_program_into σ lent t) → c ≡ Ok q
      → list ≡ lent_after lent (mapped list_of (read_program_into σ lent t)) → Taken q list
  taken q list e f h =
      let k : _ = checked_accepted (read_program_into σ lent t) e f in
      taken_of k.0 q list (sym read_as_text ∙ k.1) k.2 h
