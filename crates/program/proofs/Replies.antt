-- What the entries hand back, from what was read: the answer, and what then stands in the lent memory.
use Rattle.std.specs.Prelude.{Result, Ok, Err}
use mathlib.Core.Path.{◌≡◌, sym, ap, ◌∙◌}
use mathlib.Core.Bool.{true, false, ◌||◌}
use mathlib.Core.Option.{none}
use mathlib.Core.List.{List, ◌++◌}
use Prim.Native.Nat.{ℕ, ◌*◌, ◌≤◌, ◌<◌}
use native.Mathlib.Omega.{arith}
use borrow.Author.Tests.{lt-leb, le-leb}
use lib.Dec.{eqb}
use lib.ListN.{length, take, drop}
use lib.Seq.{sets, length-take-le}
use Rattle.theory.specs.TurnedDown.{read_program_into, write_program_into}
use Rattle.theory.specs.Text.{Bytes, ends_in_LF}
use Rattle.theory.specs.Basics.{present}
use Rattle.theory.specs.ProgramText.{Command, list_of, text_of, listed}
use Rattle.theory.specs.TurnedDown.{done, refused, mapped, rule_19, program_fault, read_text_under, read_list_under, lent_after}
use Rattle.theory.specs.declared.Refusal.{Refusal}
use Rattle.theory.specs.declared.Setting.{Setting}
use Rattle.theory.proofs.Nesting.{list_read}
use Rattle.theory.proofs.Settings.{read_list_outside}
use Rattle.theory.proofs.Lists.{lists_round_trip}
use Rattle.list.specs.declared.Program.{Program}
use Rattle.list.specs.Answers.{program_of, checked}
use Rattle.list.proofs.Replies.{checked_refused, checked_accepted}
use Rattle.program.specs.Answers.{written}
use Rattle.program.specs.Lines.{Lined}
use Rattle.output.specs.Puts.{Put}
use Rattle.output.proofs.Puts.{sets-front}
use Rattle.program.proofs.TextCheck.{refused_2, past_2, refused_3}

-- What `read` promises
abbrev pub Reads : Setting → Bytes → List ℕ → Result Program Refusal → List ℕ → Type 0
Reads σ t lent c out = (c ≡ checked (read_program_into σ lent t)) × (out ≡ lent_after lent (mapped list_of (read_program_into σ lent t)))

module _ (σ : Setting) (t : Bytes) (lent : List ℕ) where
  unread : (r : Refusal) → read_program_into σ lent t ≡ refused r → Reads σ t lent (Err r) lent
  unfolding lent_after
  unread r e = (rw e, rw e)

  pub reads_refused : (r : Refusal) → read_text_under σ t ≡ refused r → Reads σ t lent (Err r) lent
  unfolding read_program_into
  reads_refused r e = unread r (rw e)

  module _ (l : List ℕ) (p : List Command) (e : read_text_under σ t ≡ done p) (f : list_of p ≡ l) where
    pub reads_no_room : length lent < length l → Reads σ t lent (Err (record { number = 19; place = 0 })) lent
    unfolding read_program_into rule_19
    reads_no_room h = unread _ (rw (e, f, lt-leb (length l) (length lent) h))

    pub reads_done : length l ≤ length lent → (q : Program) (out : List ℕ) → q ≡ program_of p → out ≡ l ++ drop (length l) lent
        → Reads σ t lent (Ok q) out
    unfolding read_program_into rule_19 lent_after
    reads_done h q out g k =
        let d : read_program_into σ lent t ≡ done p = rw (e, f, le-leb (length l) (length lent) h) in
        (rw (d, g), rw (d, k, f))

-- A text of at most 16,384 bytes whose lines were read into numbers
module _ (σ : Setting) (t : Bytes) (lent numbers : List ℕ) (lines : ℕ) (d : Lined t numbers lines) (h : length t ≤ 16384) where
  pub read_unended : (eqb (length t) 0 || ends_in_LF t) ≡ false → Reads σ t lent (Err (record { number = 2; place = lines })) lent
  read_unended e = rw d.count (reads_refused σ t lent _ (refused_2 σ t h e))

  module _ (e : (eqb (length t) 0 || ends_in_LF t) ≡ true) where
    pub read-long : 512 < lines → Reads σ t lent (Err (record { number = 3; place = 513 })) lent
    read-long l = reads_refused σ t lent _ (past_2 σ t h e ∙ refused_3 σ t (rw d.count at l))

    module _ (few : lines ≤ 512) where
      abbrev part : List ℕ
      part = take (3 * lines) numbers

      same_read : read_text_under σ t ≡ read_list_under σ part
      same_read = past_2 σ t h e ∙ ap (read_list_under σ) (sym (d.numbers few))

      pub part_length : length part ≡ 3 * lines
      part_length = length-take-le (3 * lines) numbers (omega (arith, d.size))

      module _ {c : Result Program Refusal} (k : c ≡ checked (read_list_under σ part)) where
        pub read_fault : {r : Refusal} → c ≡ Err r → Reads σ t lent (Err r) lent
        read_fault f = reads_refused σ t lent _ (same_read ∙ checked_refused (read_list_under σ part) k f)

        module _ {q : Program} (f : c ≡ Ok q) where
          abbrev read : (p : List Command) × (read_list_under σ part ≡ done p) × (q ≡ program_of p)
          read = checked_accepted (read_list_under σ part) k f

          numbers_are : list_of read.0 ≡ part
          numbers_are = lists_round_trip.1 part read.0 (read_list_outside σ part read.0 read.1)

          pub read_no_room : length lent < 3 * lines → Reads σ t lent (Err (record { number = 19; place = 0 })) lent
          read_no_room l =
              reads_no_room σ t lent part read.0 (same_read ∙ read.1) numbers_are
              (omega (arith, part_length))

          pub read_all : {out : List ℕ} {j : ℕ} → 3 * lines ≤ length lent → Put part 0 lent out j → Reads σ t lent (Ok q) out
          read_all l w =
              let room : length part ≤ length lent = omega (arith, part_length) in
              reads_done σ t lent part read.0 (same_read ∙ read.1) numbers_are room q _ read.2
              (w.wrote ∙ sets-front lent part room)

-- What `write` promises
abbrev pub Writes : Setting → List ℕ → List ℕ → Result ℕ Refusal → List ℕ → Type 0
Writes σ l lent w out = (w ≡ written (write_program_into σ lent l)) × (out ≡ lent_after lent (write_program_into σ lent l))

module _ (σ : Setting) (l lent : List ℕ) {c : Result Program Refusal} (k : c ≡ checked (read_list_under σ l)) where
  unwritten : (r : Refusal) → write_program_into σ lent l ≡ refused r → Writes σ l lent (Err r) lent
  unfolding lent_after
  unwritten r e = (rw e, rw e)

  pub writes_fault : {r : Refusal} → c ≡ Err r → Writes σ l lent (Err r) lent
  unfolding write_program_into
  writes_fault {r} f = unwritten r (rw (checked_refused (read_list_under σ l) k f))

  module _ {q : Program} (f : c ≡ Ok q) where
    abbrev text : Bytes
    text = text_of (present (listed l))

    commands : (program_fault (listed l) ≡ none) × (read_list_under σ l ≡ done (present (listed l)))
    commands =
        let a = checked_accepted (read_list_under σ l) k f in
        let b = list_read l a.0 (read_list_outside σ l a.0 a.1) in
        (b.0, a.1 ∙ ap done (sym b.1))

    pub writes_faultless : program_fault (listed l) ≡ none
    writes_faultless = commands.0

    module _ (n : ℕ) (size : n ≡ length text) where
      pub writes_no_room : length lent < n → Writes σ l lent (Err (record { number = 19; place = 0 })) lent
      unfolding write_program_into rule_19
      writes_no_room h = unwritten _ (rw (commands.1, lt-leb (length text) (length lent) (rw size at h)))

      pub writes_done : n ≤ length lent → (out : List ℕ) → out ≡ sets lent 0 text → Writes σ l lent (Ok n) out
      unfolding write_program_into rule_19 lent_after
      writes_done h out e =
          let room : length text ≤ length lent = rw size at h in
          let d : write_program_into σ lent l ≡ done text = rw (commands.1, le-leb (length text) (length lent) room) in
          (rw (d, size), rw (d, e) (sets-front lent text room))
