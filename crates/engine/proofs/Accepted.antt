-- What the rules of words and of tables let pass: the machine can do it but for rule 15, whose place is a byte or an entry.
use mathlib.Core.Path.{◌≡◌, refl, ap, ◌∙◌, subst}
use mathlib.Core.Bool.{Bool, true, false, cond, not, ◌&&◌}
use mathlib.Core.Option.{Option, none, some}
use mathlib.Core.List.{List, [], ◌∷◌}
use Prim.Native.Nat.{ℕ, suc, ◌+◌, ◌-◌, ◌≤◌, ◌<◌}
use native.Mathlib.Omega.{arith}
use borrow.Author.Tests.{lt-ltb, ltb-true, ltb-false, le-leb, lt-leb}
use lib.Dec.{ltb, leb}
use lib.ListN.{length, take}
use Rattle.theory.specs.Basics.{given, or_else, EachOf}
use Rattle.theory.specs.Word.{Entry}
use Rattle.theory.specs.TurnedDown.{names_register, lacks, first_along, next_byte, next_entry, total, entry_size}
use Rattle.theory.specs.TurnedDown.{table_fault, rule_15, refuse}
use Rattle.theory.proofs.Words.{Formed, table_good}
use Rattle.word.specs.Answers.{zipped}
use Rattle.usable.specs.Usable.{unusable, first_unusable}
use Rattle.engine.proofs.Rule15.{first_lacking}

-- Two lists whose entries are all formed lack no number
formed_paired : (ks ns : List ℕ) → EachOf Formed (zipped ks ns) → length ks ≡ length ns
unfolding zipped
formed_paired [] [] f = refl
formed_paired [] (n ∷ ns) f = absurd (omega (arith, f.0.kind))
formed_paired (k ∷ ks) [] f = absurd (omega (arith, f.0.operand))
formed_paired (k ∷ ks) (n ∷ ns) f = ap suc (formed_paired ks ns f.1)

pub accepted_paired : (ks ns : List ℕ) → table_fault (zipped ks ns) ≡ none → length ks ≡ length ns
accepted_paired ks ns t = formed_paired ks ns (table_good (zipped ks ns) t).formed

module _ (registers : ℕ) where
  -- An instruction that the machine cannot do names a register that it lacks
  same-entry : (n : ℕ) (e : Entry) → Formed e → n < 8192 → e.operand ≤ 600000 → unusable registers n e ≡ lacks registers n e
  same-entry n e f below small =
      rw (
        lt-ltb n 8192 below,
        le-leb 1 e.kind f.kind,
        le-leb e.kind 5 f.at_most,
        le-leb 1 e.operand f.operand,
      )
      (go (names_register e.kind) (ltb registers e.operand) refl)
    where
      go : (b d : Bool) → ltb registers e.operand ≡ d
          → given (not (leb e.operand (cond b registers 600000))) n ≡ given (b && ltb registers e.operand) n
      go true true q = rw (lt-leb e.operand registers (ltb-true registers e.operand q), q)
      go true false q = rw (le-leb e.operand registers (ltb-false registers e.operand q), q)
      go false d q = rw (le-leb e.operand 600000 small)

  same_search : (n : ℕ) (t : List Entry) → EachOf Formed t → n + length t ≤ 8192 → total t ≤ 600000
      → first_along next_entry (unusable registers) n t ≡ first_along next_entry (lacks registers) n t
  unfolding first_along
  same_search n [] f l s = refl
  same_search n (e ∷ t) f l s =
      rw (
        same-entry n e f.0 (omega arith) (omega arith),
        same_search (suc n) t f.1 (omega arith) (omega arith),
      )

  pub accepted_search : (t : List Entry) → table_fault t ≡ none → first_unusable registers t ≡ first_lacking registers t
  accepted_search t h =
      let g = table_good t h in
      same_search 0 t g.formed (omega (arith, g.instructions)) g.symbols

  -- Where the first entry that names a register which is lacking starts, if the entries start at byte m and count from n
  abbrev Along : ℕ → ℕ → List Entry → Option ℕ → Type 0
  Along n m t none = first_along next_byte (lacks registers) m t ≡ none
  Along n m t (some i) = (n ≤ i) × (first_along next_byte (lacks registers) m t ≡ some (m + total (take (i - n) t)))

  along-next : (n m : ℕ) (e : Entry) (t : List Entry) (o : Option ℕ) → (names_register e.kind && ltb registers e.operand) ≡ false
      → Along (suc n) (m + entry_size e) t o → Along n m (e ∷ t) o
  unfolding first_along
  along-next n m e t none h a = rw h a
  along-next n m e t (some i) h a =
      let d : i - n ≡ suc (i - suc n) = omega (arith, a.0) in
      let sum : m + entry_size e + total (take (i - suc n) t) ≡ m + (entry_size e + total (take (i - suc n) t)) = omega arith in
      (omega (arith, a.0), rw (h, d) (a.1 ∙ ap {B = Option ℕ} some sum))

  along : (n m : ℕ) (t : List Entry) → Along n m t (first_along next_entry (lacks registers) n t)
  unfolding first_along
  along n m [] = refl
  along n m (e ∷ t) = go (names_register e.kind && ltb registers e.operand) refl (along (suc n) (m + entry_size e) t)
    where
      go : (b : Bool) → (names_register e.kind && ltb registers e.operand) ≡ b
          → Along (suc n) (m + entry_size e) t (first_along next_entry (lacks registers) (suc n) t)
          → Along n m (e ∷ t) (or_else (given b n) (first_along next_entry (lacks registers) (suc n) t))
      go true h a = let d : n - n ≡ 0 = omega arith in (omega arith, rw (h, d) (ap {B = Option ℕ} some (omega arith)))
      go false h a = along-next n m e t (first_along next_entry (lacks registers) (suc n) t) h a

  pub no_rule_15 : (t : List Entry) → first_lacking registers t ≡ none → rule_15 next_byte registers t ≡ none
  unfolding rule_15
  no_rule_15 t h = rw (subst (Along 0 0 t) h (along 0 0 t))

  pub rule_15-at : (t : List Entry) (i : ℕ) → first_lacking registers t ≡ some i
      → rule_15 next_byte registers t ≡ refuse 15 (total (take i t))
  unfolding rule_15
  rule_15-at t i h =
      let a : Along 0 0 t (some i) = subst (Along 0 0 t) h (along 0 0 t) in
      let d : i - 0 ≡ i = omega arith in
      let sum : 0 + total (take i t) ≡ total (take i t) = omega arith in
      rw (a.1, d, sum)
