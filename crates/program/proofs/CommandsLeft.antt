-- The commands of an accepted list that are left to write, from a place of it on, and what was written of them.
use mathlib.Core.Path.{◌≡◌, refl, sym, ap, ◌∙◌}
use mathlib.Core.Option.{none, some}
use mathlib.Core.List.{List, [], ◌∷◌, ◌++◌, map, append_assoc, append-nil}
use Prim.Native.Nat.{ℕ, ◌+◌, ◌<◌, ◌≤◌}
use native.Mathlib.Nat.{zero-add}
use native.Mathlib.Omega.{arith}
use borrow.Author.Tests.{leb-true}
use lib.Dec.{leb}
use lib.ListN.{length, get_or, drop, length-append, length-drop}
use lib.Seq.{sets}
use Rattle.theory.specs.Basics.{present, EachOf}
use Rattle.theory.specs.Text.{Bytes, LF}
use Rattle.theory.specs.ProgramText.{Command, spelling, text_of}
use Rattle.theory.specs.ProgramText.{command_of, listed}
use Rattle.theory.specs.TurnedDown.{rule_1, program_fault, text_fault_under}
use Rattle.theory.specs.Claims.{Accepted}
use Rattle.theory.proofs.Faults.{none_first, unless_none}
use Rattle.theory.proofs.Nesting.{LowIndices, low, nothing_missing}
use Rattle.theory.proofs.Lists.{numbers_of}
use Rattle.theory.proofs.Texts.{text_accepted}
use Rattle.output.specs.Puts.{most, Put}
use Rattle.spelling_sizes.specs.Spellings.{command_line}
use Rattle.list.proofs.ListCheck.{three_at}
use Rattle.output.proofs.Puts.{put_nothing, put_then}
use Rattle.spelling_sizes.proofs.Spellings.{line-spelled}

-- The commands from place m of a list on
pub record Left (l : List ℕ) (m : ℕ) : Type 0 where
  pub commands : List Command
  pub are : listed (drop m l) ≡ map some commands
  pub high : EachOf LowIndices commands

module _ (l : List ℕ) (e : program_fault (listed l) ≡ none) where
  accepted : Accepted (present (listed l))
  accepted = rw (nothing_missing (listed l) e) e

  pub all_left : Left l 0
  all_left = record { commands = present (listed l); are = sym (nothing_missing (listed l) e); high = low (present (listed l)) accepted }

  pub text_short : length (text_of (present (listed l))) ≤ 16384
  unfolding text_fault_under rule_1
  text_short =
      let t : Bytes = text_of (present (listed l)) in
      leb-true (length t) 16384 (unless_none (leb (length t) 16384) 1 0
      (none_first (rule_1 t) _ (text_accepted (present (listed l)) accepted)))

-- The next command, and those after it
pub record Next (l : List ℕ) (m : ℕ) (r : Left l m) : Type 0 where
  pub first : Command
  pub later : Left l (m + 3)
  pub split : r.commands ≡ first ∷ later.commands
  pub line : command_line (get_or l m 0) (get_or l (m + 1) 0) (get_or l (m + 2) 0) ≡ spelling first ++ (LF ∷ [])

module _ {l : List ℕ} {m : ℕ} where
  pub next : (r : Left l m) → m + 2 < length l → Next l m r
  unfolding listed
  next r h = go r.commands r.high refl (sym (rw (three_at l m h) at r.are))
    where
      k : ℕ
      k = get_or l m 0

      i : ℕ
      i = get_or l (m + 1) 0

      j : ℕ
      j = get_or l (m + 2) 0

      go : (p : List Command) → EachOf LowIndices p → r.commands ≡ p
          → map some r.commands ≡ command_of k i j ∷ listed (drop (m + 3) l) → Next l m r
      go [] o e f = let z : ◌≡◌ {A = ℕ} 0 1 = cc (ap (map some) e) in absurd (omega arith)
      go (c ∷ p) o e f =
          let g : some c ∷ map some p ≡ command_of k i j ∷ listed (drop (m + 3) l) = sym (ap (map some) e) ∙ f in
          let is : command_of k i j ≡ some c = cc in
          record {
            first = c;
            later = record { commands = p; are = cc; high = o.1 };
            split = e;
            line = line-spelled k i j c (numbers_of k i j c is);
          }

  pub none_left : (r : Left l m) → length l ≤ m + 2 → r.commands ≡ []
  unfolding listed
  none_left r h = go (drop m l) r.commands (omega (arith, length-drop m l)) r.are
    where
      go : (u : List ℕ) (p : List Command) → length u ≤ 2 → listed u ≡ map some p → p ≡ []
      go u [] a e = refl
      go [] (c ∷ p) a e = let z : ◌≡◌ {A = ℕ} 0 1 = cc in absurd (omega arith)
      go (x ∷ []) (c ∷ p) a e = let z : ◌≡◌ {A = ℕ} 0 1 = cc in absurd (omega arith)
      go (x ∷ y ∷ []) (c ∷ p) a e = let z : ◌≡◌ {A = ℕ} 0 1 = cc in absurd (omega arith)
      go (x ∷ y ∷ w ∷ u) (c ∷ p) a e = absurd (omega arith)

  pub text-next : (r : Left l m) (x : Next l m r)
      → text_of r.commands ≡ command_line (get_or l m 0) (get_or l (m + 1) 0) (get_or l (m + 2) 0) ++ text_of x.later.commands
  unfolding text_of
  text-next r x = rw (x.split, x.line) (sym (append_assoc (spelling x.first) (LF ∷ []) (text_of x.later.commands)))

-- The size so far, with that of the commands left, is the whole size
pub record SizeFrom (l : List ℕ) (m size : ℕ) : Type 0 where
  pub left : Left l m
  pub short : length (text_of (present (listed l))) ≤ 16384
  pub sum : size + length (text_of left.commands) ≡ length (text_of (present (listed l)))

pub size-start : (l : List ℕ) → program_fault (listed l) ≡ none → SizeFrom l 0 0
unfolding all_left
size-start l e = record { left = all_left l e; short = text_short l e; sum = zero-add (length (text_of (present (listed l)))) }

module _ {l : List ℕ} {m size : ℕ} (h : SizeFrom l m size) where
  pub size-next : (more : m + 2 < length l) (n : ℕ) → n ≡ length (command_line (get_or l m 0) (get_or l (m + 1) 0) (get_or l (m + 2) 0))
      → SizeFrom l (m + 3) (size + n)
  size-next more n e =
      let x = next h.left more in
      let t : Bytes = command_line (get_or l m 0) (get_or l (m + 1) 0) (get_or l (m + 2) 0) in
      record {
        left = x.later;
        short = h.short;
        sum = omega (arith, h.sum, e, ap length (text-next h.left x), length-append t (text_of x.later.commands));
      }

  pub size_fits : (more : m + 2 < length l) (n : ℕ) → n ≡ length (command_line (get_or l m 0) (get_or l (m + 1) 0) (get_or l (m + 2) 0))
      → size + n ≤ 16384
  size_fits more n e = let x = size-next more n e in omega (arith, x.sum, x.short)

  pub size-whole : length l ≤ m + 2 → size ≡ length (text_of (present (listed l)))
  unfolding text_of
  size-whole k = omega (arith, h.sum, ap (λ p. length (text_of p)) (none_left h.left k))

-- What was written so far, and the text of the commands left, is the whole text
pub record TextFrom (l before after : List ℕ) (m at : ℕ) : Type 0 where
  pub left : Left l m
  pub written : Bytes
  pub whole : written ++ text_of left.commands ≡ text_of (present (listed l))
  pub put : Put written 0 before after at

pub text-start : (l before : List ℕ) → length before ≤ most → program_fault (listed l) ≡ none → TextFrom l before before 0 0
unfolding all_left
text-start l before h e =
    record { left = all_left l e; written = []; whole = refl; put = put_nothing before 0 (omega arith) h }

module _ {l before after : List ℕ} {m at : ℕ} (h : TextFrom l before after m at) where
  abbrev here : Bytes
  here = command_line (get_or l m 0) (get_or l (m + 1) 0) (get_or l (m + 2) 0)

  pub text-more : (more : m + 2 < length l) {after' : List ℕ} {at' : ℕ} → Put here at after after' at'
      → TextFrom l before after' (m + 3) at'
  text-more more p =
      let x = next h.left more in
      record {
        left = x.later;
        written = h.written ++ here;
        whole = append_assoc h.written here (text_of x.later.commands) ∙ rw (← text-next h.left x) h.whole;
        put = put_then h.put p;
      }

  pub text-whole : length l ≤ m + 2 → after ≡ sets before 0 (text_of (present (listed l)))
  unfolding text_of
  text-whole k =
      let all : h.written ≡ text_of (present (listed l)) = sym (append-nil h.written) ∙ rw (none_left h.left k) at h.whole in
      h.put.wrote ∙ ap (sets before 0) all
