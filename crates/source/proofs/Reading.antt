-- What the crate `program` answers, and the program that a list holds then.
use Rattle.std.specs.Prelude.{Ok, Err}
use mathlib.Core.Path.{◌≡◌, refl, sym, ap, ◌∙◌}
use mathlib.Core.Option.{none}
use mathlib.Core.List.{List, ◌++◌}
use Prim.Native.Nat.{ℕ, ◌*◌, ◌≤◌}
use native.Mathlib.Omega.{arith}
use borrow.Author.Tests.{le-leb}
use lib.ListN.{length, take, drop}
use lib.Seq.{take_at}
use Rattle.theory.specs.ProgramText.{Command, variables, list_of, commands}
use Rattle.theory.specs.TurnedDown.{Answer, done, refused, answer, after, mapped, rule_19, lent_after, read_program_into}
use Rattle.theory.specs.TurnedDown.{read_text_under, read_list, read_list_under}
use Rattle.theory.specs.Claims.{Accepted}
use Rattle.theory.specs.declared.Refusal.{Refusal}
use Rattle.theory.specs.declared.Setting.{Setting}
use Rattle.theory.proofs.Nesting.{short, list_read, reads_accepted}
use Rattle.theory.proofs.Settings.{read_text_outside, read_list_outside}
use Rattle.theory.proofs.Lists.{commands_list, lists_round_trip}
use Rattle.list.specs.Answers.{program_of, checked}
use Rattle.list.specs.declared.Program.{Program}
use Rattle.list.proofs.Lists.{list_length}
use Rattle.source.specs.Lines.{Holds, Given}
use Rattle.source.proofs.Program.{holds_list}

-- An accepted answer, and a refused one
pub record AcceptedAs (a : Answer (List Command)) (x : Program) : Type 0 where
  pub commands : List Command
  pub is_done : a ≡ done commands
  pub lines_are : x.lines ≡ length commands
  pub variables_are : x.variables ≡ variables commands

pub accepted_as : (a : Answer (List Command)) (x : Program) → checked a ≡ Ok x → AcceptedAs a x
accepted_as (done p) x e =
    let same : program_of p ≡ x = cc in
    record { commands = p; is_done = refl; lines_are = sym (ap (λ y. y.lines) same); variables_are = sym (ap (λ y. y.variables) same) }
accepted_as (refused r) x e = let z : ◌≡◌ {A = ℕ} 0 1 = cc in absurd (omega arith)

pub refused_as : (a : Answer (List Command)) (x : Refusal) → checked a ≡ Err x → a ≡ refused x
refused_as (done p) x e = let z : ◌≡◌ {A = ℕ} 0 1 = cc in absurd (omega arith)
refused_as (refused r) x e = let same : r ≡ x = cc in ap refused same

-- A list that is read as p holds p
pub read_program : (l : List ℕ) (p : List Command) → read_list l ≡ done p → commands l ≡ p
unfolding commands
read_program l p e = (list_read l p e).1

pub read_holds : (l : List ℕ) (p : List Command) → read_list l ≡ done p → Holds l
read_holds l p e =
    let same : commands l ≡ p = read_program l p e in
    record { whole = rw same (lists_round_trip.1 l p e); accepted = rw same (reads_accepted.1 l p e) }

-- A list that is accepted under a setting
module _ (σ : Setting) (l : List ℕ) (x : Program) (a : AcceptedAs (read_list_under σ l) x) where
  outside : read_list l ≡ done a.commands
  outside = read_list_outside σ l a.commands a.is_done

  pub list_program : commands l ≡ a.commands
  list_program = read_program l a.commands outside

  pub read-given : Given l x.lines x.variables
  read-given =
      record {
        holds = read_holds l a.commands outside;
        lines_are = rw list_program a.lines_are;
        variables_are = rw list_program a.variables_are;
      }

-- Texts. A buffer for 512 commands has room for any accepted program

module _ (σ : Setting) (lent : List ℕ) (t : List ℕ) (size : length lent ≡ 1536) where
  room : (p : List Command) → Accepted p → rule_19 lent (list_of p) ≡ none
  unfolding rule_19
  room p h =
      let few : length (list_of p) ≤ length lent = omega (arith, list_length p, short p h) in
      rw (le-leb (length (list_of p)) (length lent) few)

  pub buffer_read : read_program_into σ lent t ≡ read_text_under σ t
  unfolding read_program_into
  buffer_read = go (read_text_under σ t) refl
    where
      go : (a : Answer (List Command)) → read_text_under σ t ≡ a → after a (λ p. answer (rule_19 lent (list_of p)) p) ≡ a
      go (done p) e = rw (room p (reads_accepted.0 t p (read_text_outside σ t p e)))
      go (refused r) e = refl

  -- What stands in the buffer then, of an accepted text
  module _ (x : Program) (a : AcceptedAs (read_text_under σ t) x) (last : List ℕ)
      (stored : last ≡ lent_after lent (mapped list_of (read_program_into σ lent t))) where
    abbrev p : List Command
    p = a.commands

    accepts : Accepted p
    accepts = reads_accepted.0 t p (read_text_outside σ t p a.is_done)

    pub numbers_few : 3 * x.lines ≤ 1536
    numbers_few = omega (arith, short p accepts, a.lines_are)

    last_is : last ≡ list_of p ++ drop (length (list_of p)) lent
    unfolding lent_after
    last_is = stored ∙ rw (buffer_read, a.is_done)

    pub numbers_are : take (3 * x.lines) last ≡ list_of p
    numbers_are =
        let size_is : length (list_of p) ≡ 3 * x.lines = omega (arith, list_length p, a.lines_are) in
        rw last_is (take_at (list_of p) (drop (length (list_of p)) lent) (3 * x.lines) size_is)

    pub text-given : Given (take (3 * x.lines) last) x.lines x.variables
    text-given = rw numbers_are (record {
      holds = holds_list p accepts;
      lines_are = rw (commands_list p) a.lines_are;
      variables_are = rw (commands_list p) a.variables_are;
    })

    pub text_program : commands (take (3 * x.lines) last) ≡ p
    text_program = rw numbers_are (commands_list p)
