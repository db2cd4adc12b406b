-- A program that is accepted under a setting is accepted outside it, as the same commands.
use mathlib.Core.Path.{◌≡◌, refl}
use mathlib.Core.Option.{Option, none, some}
use mathlib.Core.List.{List, [], ◌∷◌}
use Prim.Native.Nat.{ℕ, suc}
use lib.Dec.{leb}
use Rattle.theory.specs.Limits
use Rattle.theory.specs.Basics.{or_else, present}
use Rattle.theory.specs.Text.{Bytes}
use Rattle.theory.specs.ProgramText.{Command, Opening, indices, above, listed, commands}
use Rattle.theory.specs.TurnedDown.{done, unless, rule_1, rule_2, rule_3, rule_20, pair_fault, line_fault, line_fault_under}
use Rattle.theory.specs.TurnedDown.{open_past, lines_fault, lines_fault_under, program_fault, program_fault_under, text_lines}
use Rattle.theory.specs.TurnedDown.{text_fault, text_fault_under, read_text, read_text_under, read_list, read_list_under}
use Rattle.theory.specs.declared.Refusal.{Refusal}
use Rattle.theory.specs.declared.Setting.{Setting}
use Rattle.theory.proofs.Faults.{none_first, none_second, neither, answer_done}

module _ (σ : Setting) where
  pub line_outside : (n : ℕ) (os : List Opening) (c : Option Command) → line_fault_under σ n os c ≡ none → line_fault n os c ≡ none
  line_outside n os none e = e
  line_outside n os (some c) e =
      let high : Option Refusal = unless (leb (above (indices c)) (suc Limits.most_index)) 5 n in
      let rest : Option Refusal = or_else (rule_20 σ n c) (pair_fault n os c) in
      neither high (pair_fault n os c) (none_first high rest e) (none_second (rule_20 σ n c) (pair_fault n os c) (none_second high rest e))

  lines_outside : (l : List (Option Command)) (n : ℕ) (os : List Opening) → lines_fault_under σ n os l ≡ none → lines_fault n os l ≡ none
  unfolding lines_fault_under
  lines_outside [] n [] e = refl
  lines_outside [] n (o ∷ os) e = e
  lines_outside (c ∷ l) n os e =
      let first : Option Refusal = line_fault_under σ n os c in
      let rest : Option Refusal = lines_fault_under σ (suc n) (open_past n os c) l in
      neither (line_fault n os c) (lines_fault (suc n) (open_past n os c) l)
      (line_outside n os c (none_first first rest e)) (lines_outside l (suc n) (open_past n os c) (none_second first rest e))

  pub program_outside : (l : List (Option Command)) → program_fault_under σ l ≡ none → program_fault l ≡ none
  unfolding program_fault_under
  program_outside l e =
      let rest : Option Refusal = lines_fault_under σ 1 [] l in
      neither (rule_3 l) (lines_fault 1 [] l) (none_first (rule_3 l) rest e) (lines_outside l 1 [] (none_second (rule_3 l) rest e))

  text_outside : (t : Bytes) → text_fault_under σ t ≡ none → text_fault t ≡ none
  unfolding text_fault_under
  text_outside t e =
      let last : Option Refusal = program_fault_under σ (text_lines t) in
      let rest : Option Refusal = or_else (rule_2 t) last in
      let later : rest ≡ none = none_second (rule_1 t) rest e in
      neither (rule_1 t) (or_else (rule_2 t) (program_fault (text_lines t))) (none_first (rule_1 t) rest e)
      (neither (rule_2 t) (program_fault (text_lines t)) (none_first (rule_2 t) last later)
      (program_outside (text_lines t) (none_second (rule_2 t) last later)))

  pub read_text_outside : (t : Bytes) (p : List Command) → read_text_under σ t ≡ done p → read_text t ≡ done p
  unfolding read_text_under
  read_text_outside t p e =
      let r = answer_done (text_fault_under σ t) (present (text_lines t)) p e in
      rw (text_outside t r.0, r.1)

  pub read_list_outside : (l : List ℕ) (p : List Command) → read_list_under σ l ≡ done p → read_list l ≡ done p
  unfolding read_list_under
  read_list_outside l p e =
      let r = answer_done (program_fault_under σ (listed l)) (commands l) p e in
      rw (program_outside (listed l) r.0, r.1)
