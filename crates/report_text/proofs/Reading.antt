-- A program read into a lent list that has room for any: rule 19 never applies, and the list begins with the program's numbers.
use Rattle.std.specs.Prelude.{Ok, Err}
use mathlib.Core.Path.{◌≡◌, refl, sym, ap, subst, ◌∙◌}
use mathlib.Core.List.{List, ◌++◌}
use Prim.Native.Nat.{ℕ, ◌*◌, ◌≤◌}
use native.Mathlib.Omega.{arith}
use lib.ListN.{length, take, drop}
use lib.Seq.{take_at}
use borrow.Author.Tests.{le-leb}
use Rattle.theory.specs.Text.{Bytes}
use Rattle.theory.specs.ProgramText.{Command, variables, list_of, commands}
use Rattle.theory.specs.TurnedDown.{Answer, done, refused, mapped, rule_19, read_text, read_list, lent_after, read_program_into}
use Rattle.theory.specs.Claims.{Accepted}
use Rattle.theory.specs.declared.Refusal.{Refusal}
use Rattle.theory.specs.declared.Setting.TheVariants.{Any}
use Rattle.theory.proofs.Nesting.{short, few_variables, reads_accepted}
use Rattle.theory.proofs.Lists.{lists_round_trip, commands_list}
use Rattle.list.proofs.Lists.{list_length}
use Rattle.list.specs.Answers.{program_of, checked}
use Rattle.list.specs.declared.Program.{Program}
use Rattle.report_text.specs.Rows.{Listed}

list_accepted : (p : List Command) → Accepted p → read_list (list_of p) ≡ done (commands (list_of p))
list_accepted p a = lists_round_trip.0 p a ∙ ap done (sym (commands_list p))

pub few_named : (list : Bytes) (K : ℕ) → Listed list K → variables (commands list) ≤ 32
few_named list K h = few_variables (commands list) (reads_accepted.1 list (commands list) h.accepted)

pub listed_few : (list : Bytes) (K : ℕ) → Listed list K → K ≤ 32
listed_few list K h = omega (arith, h.named, few_named list K h)

-- A text that is read: its program, and the list, of which so many lines are filled
pub record Read (t list : Bytes) (q : Program) : Type 0 where
  pub program : List Command
  pub text : read_text t ≡ done program
  pub few : q.lines ≤ 512
  pub named : q.variables ≡ variables program
  pub front : take (3 * q.lines) list ≡ list_of program

module _ (t list : Bytes) (q : Program) (r : Read t list q) where
  pub front-commands : commands (take (3 * q.lines) list) ≡ r.program
  front-commands = ap {B = List Command} commands r.front ∙ commands_list r.program

  pub front_accepted : read_list (take (3 * q.lines) list) ≡ done (commands (take (3 * q.lines) list))
  front_accepted =
      let sound = list_accepted r.program (reads_accepted.0 t r.program r.text) in
      subst (λ l. read_list l ≡ done (commands l)) (sym r.front) sound

module _ (lent t : Bytes) (size : length lent ≡ 1536) where
  room_for_any : read_program_into Any lent t ≡ read_text t
  unfolding read_program_into rule_19
  room_for_any = go (read_text t) refl
    where
      go : (a : Answer (List Command)) → read_text t ≡ a → read_program_into Any lent t ≡ read_text t
      go (refused r) e = rw e
      go (done p) e =
          let few : length p ≤ 512 = short p (reads_accepted.0 t p e) in
          let fits : length (list_of p) ≤ length lent = omega (arith, list_length p, size) in
          rw (e, le-leb (length (list_of p)) (length lent) fits)

  pub text-turned_down : (r : Refusal) → Err r ≡ checked (read_program_into Any lent t) → read_text t ≡ refused r
  text-turned_down r e = go (read_text t) refl (e ∙ ap checked room_for_any)
    where
      go : (a : Answer (List Command)) → read_text t ≡ a → Err r ≡ checked a → a ≡ refused r
      go (refused x) h f = cc
      go (done p) h f = cc

  list_front : (p : List Command) (list : Bytes) → read_program_into Any lent t ≡ done p
      → list ≡ lent_after lent (mapped list_of (read_program_into Any lent t)) → take (3 * length p) list ≡ list_of p
  unfolding lent_after
  list_front p list e h =
      let whole : list ≡ list_of p ++ drop (length (list_of p)) lent = h ∙ ap {B = Bytes} (λ a. lent_after lent (mapped list_of a)) e in
      rw whole (take_at (list_of p) (drop (length (list_of p)) lent) (3 * length p) (list_length p))

  pub text-passes : (q : Program) (list : Bytes) → Ok q ≡ checked (read_program_into Any lent t)
      → list ≡ lent_after lent (mapped list_of (read_program_into Any lent t)) → Read t list q
  text-passes q list e h = go (read_text t) refl (e ∙ ap checked room_for_any)
    where
      go : (a : Answer (List Command)) → read_text t ≡ a → Ok q ≡ checked a → Read t list q
      go (refused x) k f = absurd (let z : ◌≡◌ {A = ℕ} 0 1 = cc in omega arith)
      go (done p) k f =
          let known : q ≡ program_of p = cc in
          let lines : q.lines ≡ length p = ap (λ r. r.lines) known in
          record {
            program = p;
            text = k;
            few = omega (arith, short p (reads_accepted.0 t p k));
            named = ap (λ r. r.variables) known;
            front = rw lines (list_front p list (room_for_any ∙ k) h);
          }
