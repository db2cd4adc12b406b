-- What the crate's own functions promise each other: a table's answers as those of the word that it spells.
use Rattle.std.specs.Prelude.{◌≡◌, cond, List, ℕ, ◌≤◌, eqb, length, take}
use Rattle.theory.specs.Word.{Entry}
use Rattle.theory.specs.TurnedDown.{Answer, answer, rule_15, total, next_byte}
use Rattle.theory.specs.declared.Refusal.{Refusal}

-- Rule 15, of entries of a word that the rules before it let pass
unfoldable pub word_for : ℕ → List Entry → Answer (List Entry)
word_for registers t = answer (rule_15 next_byte registers t) t

-- The place of rule 15 is where the entry starts
abbrev pub by_byte : List Entry → Refusal → Refusal
by_byte t r = record { number = r.number; place = cond (eqb r.number 15) (total (take r.place t)) r.place }

-- Two lists of numbers for so many instructions as a word may have
pub record Paired (kinds operands : List ℕ) : Type 0 where
  pub same : length kinds ≡ length operands
  pub few : length kinds ≤ 8192
