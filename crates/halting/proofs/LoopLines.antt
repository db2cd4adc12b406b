-- What is accepted under the LOOP-only setting is what is accepted outside it and has no `while` or `endwhile` line.
use mathlib.Core.Path.{◌≡◌, refl, sym, ◌∙◌, subst}
use mathlib.Core.Logic.{◌↔◌}
use mathlib.Core.Option.{Option, none, some, none-ne-some}
use mathlib.Core.List.{List, [], ◌∷◌}
use Prim.Native.Nat.{ℕ, suc}
use lib.Dec.{leb}
use Rattle.theory.specs.Limits
use Rattle.theory.specs.Basics.{or_else, present}
use Rattle.theory.specs.Text.{Bytes}
use Rattle.theory.specs.ProgramText.{loop, while, Command, plain, opens, closes, indices, above, listed, commands, Opening}
use Rattle.theory.specs.TurnedDown.{done, unless, rule_1, rule_2, rule_3, rule_20, pair_fault, open_past, line_fault_under, lines_fault}
use Rattle.theory.specs.TurnedDown.{lines_fault_under, program_fault, program_fault_under, text_lines, text_fault_under}
use Rattle.theory.specs.TurnedDown.{read_text, read_text_under, read_list, read_list_under}
use Rattle.theory.specs.declared.Refusal.{Refusal}
use Rattle.theory.specs.declared.Setting.TheVariants.{LoopOnly}
use Rattle.theory.proofs.Faults.{none_first, none_second, answer_done}
use Rattle.theory.proofs.Nesting.{text-read, list_read}
use Rattle.theory.proofs.Settings.{program_outside, read_text_outside, read_list_outside}
use Rattle.halting.specs.Claims.{NoWhile, LoopLines, LoopLinesOf, LoopProgramsRead}

rule_20-passes : (n : ℕ) (c : Command) → (rule_20 LoopOnly n c ≡ none) ↔ NoWhile c
rule_20-passes n (plain c) = (λ h. tt, λ h. refl)
rule_20-passes n (opens loop i) = (λ h. refl, λ h. refl)
rule_20-passes n (opens while i) = (λ h. cc, λ h. cc)
rule_20-passes n (closes loop i) = (λ h. refl, λ h. refl)
rule_20-passes n (closes while i) = (λ h. cc, λ h. cc)

-- Without such lines the setting makes no difference

same_lines : (l : List (Option Command)) (n : ℕ) (os : List Opening) → LoopLinesOf l
    → lines_fault_under LoopOnly n os l ≡ lines_fault n os l
unfolding lines_fault_under
same_lines [] n [] h = refl
same_lines [] n (o ∷ os) h = refl
same_lines (none ∷ l) n os h = refl
same_lines (some c ∷ l) n os h = rw ((rule_20-passes n c).1 h.0, same_lines l (suc n) (open_past n os (some c)) h.1)

same_fault : (l : List (Option Command)) → LoopLinesOf l → program_fault_under LoopOnly l ≡ program_fault l
unfolding program_fault_under
same_fault l h = rw (same_lines l 1 [] h)

same_text : (t : Bytes) → LoopLinesOf (text_lines t) → read_text_under LoopOnly t ≡ read_text t
unfolding read_text_under text_fault_under
same_text t h = rw (same_fault (text_lines t) h)

same_list : (l : List ℕ) → LoopLines (commands l) → read_list_under LoopOnly l ≡ read_list l
unfolding read_list_under commands
same_list l h = rw (same_fault (listed l) h)

-- What is accepted under it has none

loop_lines : (l : List (Option Command)) (n : ℕ) (os : List Opening) → lines_fault_under LoopOnly n os l ≡ none → LoopLinesOf l
unfolding lines_fault_under
loop_lines [] n os e = tt
loop_lines (none ∷ l) n os e = absurd (none-ne-some _ (sym e))
loop_lines (some c ∷ l) n os e =
    let high : Option Refusal = unless (leb (above (indices c)) (suc Limits.most_index)) 5 n in
    let pairs : Option Refusal = pair_fault n os c in
    let later : Option Refusal = lines_fault_under LoopOnly (suc n) (open_past n os (some c)) l in
    let here : or_else (rule_20 LoopOnly n c) pairs ≡ none =
    none_second high (or_else (rule_20 LoopOnly n c) pairs) (none_first (line_fault_under LoopOnly n os (some c)) later e) in (
      (rule_20-passes n c).0 (none_first (rule_20 LoopOnly n c) pairs here),
      loop_lines l (suc n) (open_past n os (some c)) (none_second (line_fault_under LoopOnly n os (some c)) later e),
    )

loop_program : (l : List (Option Command)) → program_fault_under LoopOnly l ≡ none → LoopLinesOf l
unfolding program_fault_under
loop_program l e = loop_lines l 1 [] (none_second (rule_3 l) (lines_fault_under LoopOnly 1 [] l) e)

loop_text : (t : Bytes) (p : List Command) → read_text_under LoopOnly t ≡ done p → LoopLines p
unfolding read_text_under text_fault_under
loop_text t p e =
    let r : _ = answer_done (text_fault_under LoopOnly t) (present (text_lines t)) p e in
    let lines : Option Refusal = program_fault_under LoopOnly (text_lines t) in
    subst LoopLines r.1
    (loop_program (text_lines t) (none_second (rule_2 t) lines (none_second (rule_1 t) (or_else (rule_2 t) lines) r.0)))

loop_list : (l : List ℕ) (p : List Command) → read_list_under LoopOnly l ≡ done p → LoopLines p
unfolding read_list_under commands
loop_list l p e =
    let r : _ = answer_done (program_fault_under LoopOnly (listed l)) (commands l) p e in
    subst LoopLines r.1 (loop_program (listed l) r.0)

pub loop_programs_read : LoopProgramsRead
unfolding commands
loop_programs_read = record {
  outside = λ n c. refl;
  accepted = λ l. (λ e. (program_outside LoopOnly l e, loop_program l e), λ h. same_fault l h.1 ∙ h.0);
  same_fault = same_fault;
  same_text = same_text;
  same_list = same_list;
  text_accepted = λ t p. (
    λ e. (read_text_outside LoopOnly t p e, loop_text t p e),
    λ h. same_text t (subst LoopLines (sym (text-read t p h.0).1) h.1) ∙ h.0,
  );
  list_accepted = λ l p. (
    λ e. (read_list_outside LoopOnly l p e, loop_list l p e),
    λ h. same_list l (subst LoopLines (sym (list_read l p h.0).1) h.1) ∙ h.0,
  );
}
