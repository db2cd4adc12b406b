-- What is counted of a table, entry by entry, and what is answered by that.
use Rattle.theory.specs.declared.Refusal.{Refusal}
use Rattle.std.specs.Prelude.{Bool, cond, not, ◌||◌, List, ℕ, suc, ◌+◌, min, length, eqb, ltb, Result, Ok, Err}
use Rattle.theory.specs.Limits
use Rattle.theory.specs.Word.{Entry}
use Rattle.theory.specs.Machines.{is_limited}
use Rattle.theory.specs.TurnedDown.{total}
use Rattle.text.specs.Runs.{leading}
use Rattle.tally.specs.declared.Tally.{Tally}

-- An entry that rule 13 turns down, and one that it lets pass
abbrev pub is_bad : Entry → Bool
is_bad e = not (is_limited 5 e.kind) || eqb e.operand 0

abbrev pub is_good : Entry → Bool
is_good e = not (is_bad e)

-- Of a table: its symbols, or one more than a word may have; how many entries are good before the first that is not; how many there are
unfoldable pub tally_of : List Entry → Tally
tally_of t = record { size = min (total t) (suc Limits.most_symbols); good = leading is_good t; count = length t }

-- The largest count
abbrev pub longest : ℕ
longest = 18446744073709551615

-- The tally with one entry more; a count stays at the largest
unfoldable pub noted : Tally → Entry → Tally
noted s e = record {
  size = min (s.size + e.operand + e.kind) (suc Limits.most_symbols);
  good = cond (ltb s.good s.count) s.good (cond (is_good e) (min (s.count + 1) longest) s.good);
  count = min (s.count + 1) longest;
}

-- Rules 11, 13 and 14, by the tally
unfoldable pub judged : Tally → Result ℕ Refusal
judged s =
    cond (eqb s.count 0) (Err (record { number = 11; place = 0 }))
    (cond (ltb Limits.most_symbols s.size) (Err (record { number = 11; place = 0 }))
    (cond (ltb s.good s.count) (Err (record { number = 13; place = s.good }))
    (cond (ltb Limits.most_instructions s.count) (Err (record { number = 14; place = Limits.most_instructions }))
    (Ok s.count))))

-- Then 19, for a word of so many bytes
abbrev pub written_by : Result ℕ Refusal → (size room : ℕ) → Result ℕ Refusal
written_by (Err r) size room = Err r
written_by (Ok n) size room = cond (ltb room size) (Err (record { number = 19; place = 0 })) (Ok size)

unfoldable pub answered : Tally → ℕ → Result ℕ Refusal
answered s room = written_by (judged s) s.size room
