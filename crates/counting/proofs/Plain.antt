-- A word that begins with a 1 and ends with a #, and in which no six # stand together, and no other, is one of instructions alone: there
-- is one more of them than there are 1s behind a #.
use mathlib.Core.Path.{◌≡◌, refl, sym, ap, ◌∙◌}
use mathlib.Core.Bool.{Bool, true, false}
use mathlib.Core.Option.{Option, none, some}
use mathlib.Core.List.{List, [], ◌∷◌}
use Prim.Native.Nat.{ℕ, suc, ◌+◌, ◌-◌, ◌≤◌}
use native.Mathlib.Omega.{arith}
use lib.ListN.{length, get_or}
use lib.Dec.{eqb}
use borrow.Author.Tests.{eqb-true, ne_eqb, eq-eqb}
use Rattle.theory.specs.Basics.{EachOf}
use Rattle.theory.specs.Word.{Entry, is_symbol, entries, one_before, hash_before}
use Rattle.theory.specs.TurnedDown.{word_entries, first_failing, first_along, next_byte, entry_fault, rule_12, rule_13}
use Rattle.theory.proofs.Words.{entry, Formed, formed_of_word, word_of-formed}
use Rattle.text.specs.Runs.{is_byte, run}
use Rattle.text.proofs.Runs.{leading_pass, leading_fail, leading_nil}
use Rattle.counting.specs.Counts.{instruction_count, is_sixless, rises}
use Rattle.counting.proofs.Flags.{not_both}
use Rattle.counting.proofs.Runs.{failing_none, none_failing}
use Rattle.counting.proofs.Symbols.{Known, known_head, known_tail}
use Rattle.counting.proofs.Hashes.{sixless_short, sixless_here, sixless_behind, sixless_more}
use Rattle.counting.proofs.Rising.{no_rise, rise}

-- Entries, from the last byte to the first

abbrev last : ℕ → List ℕ → ℕ
last b [] = b
last b (c ∷ w) = last c w

last_at : (b : ℕ) (w : List ℕ) → get_or (b ∷ w) (length w) 0 ≡ last b w
last_at b [] = refl
last_at b (c ∷ w) = last_at c w

one_step : (b : ℕ) (w : List ℕ) → eqb b 49 ≡ true → word_entries (b ∷ w) ≡ one_before (word_entries w)
unfolding entries
one_step b w e = rw e

hash_step : (b : ℕ) (w : List ℕ) → eqb b 49 ≡ false → word_entries (b ∷ w) ≡ hash_before (word_entries w)
unfolding entries
hash_step b w e = rw e

is_hash : (b : ℕ) (w : List ℕ) → Known (b ∷ w) → eqb b 49 ≡ false → b ≡ 35
is_hash b w k e = eqb-true b 35 (rw e at (known_head b w k))

-- Entries that are instructions, but for the operand of the first
record Sound (first : Entry) (rest : List Entry) : Type 0 where
  low : 1 ≤ first.kind
  high : first.kind ≤ 5
  each : EachOf Formed rest

-- What is seen of their bytes
abbrev Seen : ℕ → List ℕ → Type 0
Seen b w = (last b w ≡ 35) × (is_sixless (b ∷ w) ≡ true)

-- The entries of a word, by its first byte
record Parts (b : ℕ) (w : List ℕ) : Type 0 where
  first : Entry
  rest : List Entry
  are : word_entries (b ∷ w) ≡ first ∷ rest
  hash : eqb b 49 ≡ false → (first.operand ≡ 0) × (first.kind ≡ run 35 (b ∷ w))
  one : eqb b 49 ≡ true → 1 ≤ first.operand
  count : length rest ≡ rises (b ∷ w)
  sound : Seen b w → Sound first rest
  seen : Sound first rest → Seen b w

-- A 1 is no #
no_hash : {P : Type 0} (b : ℕ) → eqb b 49 ≡ true → b ≡ 35 → P
no_hash b e q = absurd (omega (arith, eqb-true b 49 e))

alone : (b : ℕ) → Known (b ∷ []) → Parts b []
unfolding entries rises
alone b k = go (eqb b 49) refl
  where
    go : (t : Bool) → eqb b 49 ≡ t → Parts b []
    go true e = record {
      first = entry 1 0;
      rest = [];
      are = rw e;
      hash = λ q. absurd (not_both (eqb b 49) e q);
      one = λ q. omega arith;
      count = refl;
      sound = λ h. no_hash b e h.0;
      seen = λ s. absurd (omega (arith, s.low));
    }
    go false e =
        let q : b ≡ 35 = is_hash b [] k e in
        record {
          first = entry 0 1;
          rest = [];
          are = rw e;
          hash = λ _. (refl, omega (arith, leading_pass (is_byte 35) b [] (eq-eqb b 35 q), leading_nil (is_byte 35)));
          one = λ z. no_hash b z q;
          count = refl;
          sound = λ h. record { low = omega arith; high = omega arith; each = tt };
          seen = λ s. (q, sixless_short (b ∷ []) (omega arith));
        }

module _ (b c : ℕ) (w : List ℕ) (k : Known (b ∷ c ∷ w)) (p : Parts c w) where
  abbrev f : Entry
  f = p.first

  later : Known (c ∷ w)
  later = known_tail b (c ∷ w) k

  behind : Seen b (c ∷ w) → Sound f p.rest
  behind h = p.sound (h.0, sixless_behind b (c ∷ w) h.1)

  before : run 35 (b ∷ c ∷ w) ≤ 5 → Sound f p.rest → Seen b (c ∷ w)
  before few s = ((p.seen s).0, sixless_more b (c ∷ w) few (p.seen s).1)

  behind_one : eqb b 49 ≡ true → c ≤ 49 → Parts b (c ∷ w)
  behind_one e h =
      let none : run 35 (b ∷ c ∷ w) ≡ 0 = leading_fail (is_byte 35) b (c ∷ w) (ne_eqb b 35 (no_hash b e)) in
      record {
        first = record { kind = f.kind; operand = suc f.operand };
        rest = p.rest;
        are = one_step b (c ∷ w) e ∙ ap {B = List Entry} one_before p.are;
        hash = λ q. absurd (not_both (eqb b 49) e q);
        one = λ q. omega arith;
        count = p.count ∙ sym (no_rise b c w (omega (arith, eqb-true b 49 e)));
        sound = λ g. record { low = (behind g).low; high = (behind g).high; each = (behind g).each };
        seen = λ s. before (omega (arith, none)) (record { low = s.low; high = s.high; each = s.each });
      }

  behind_hash : eqb b 49 ≡ false → eqb c 49 ≡ false → Parts b (c ∷ w)
  behind_hash e d =
      let bs : b ≡ 35 = is_hash b (c ∷ w) k e in
      let cs : c ≡ 35 = is_hash c w later d in
      let fs : (f.operand ≡ 0) × (f.kind ≡ run 35 (c ∷ w)) = p.hash d in
      let longer : run 35 (b ∷ c ∷ w) ≡ suc (run 35 (c ∷ w)) = leading_pass (is_byte 35) b (c ∷ w) (eq-eqb b 35 bs) in
      let long : run 35 (c ∷ w) ≡ suc (run 35 w) = leading_pass (is_byte 35) c w (eq-eqb c 35 cs) in
      let here : hash_before (f ∷ p.rest) ≡ entry 0 (suc f.kind) ∷ p.rest = rw (eq-eqb f.operand 0 fs.0) in
      record {
        first = entry 0 (suc f.kind);
        rest = p.rest;
        are = hash_step b (c ∷ w) e ∙ ap {B = List Entry} hash_before p.are ∙ here;
        hash = λ q. (refl, omega (arith, longer, fs.1));
        one = λ q. no_hash b q bs;
        count = p.count ∙ sym (no_rise b c w (omega (arith, bs, cs)));
        sound = λ g. record {
          low = omega arith;
          high = omega (arith, sixless_here b (c ∷ w) g.1, longer, fs.1);
          each = (behind g).each;
        };
        seen = λ s. before (omega (arith, longer, fs.1, s.high))
            (record { low = omega (arith, long, fs.1); high = omega (arith, s.high); each = s.each });
      }

  before_one : eqb b 49 ≡ false → eqb c 49 ≡ true → Parts b (c ∷ w)
  before_one e d =
      let bs : b ≡ 35 = is_hash b (c ∷ w) k e in
      let cs : c ≡ 49 = eqb-true c 49 d in
      let some : 1 ≤ f.operand = p.one d in
      let here : hash_before (f ∷ p.rest) ≡ entry 0 1 ∷ f ∷ p.rest = rw (ne_eqb f.operand 0 (λ z. omega (arith, z, some))) in
      let ended : run 35 (c ∷ w) ≡ 0 = leading_fail (is_byte 35) c w (ne_eqb c 35 (no_hash c d)) in
      let single : run 35 (b ∷ c ∷ w) ≡ 1 = omega (arith, leading_pass (is_byte 35) b (c ∷ w) (eq-eqb b 35 bs), ended) in
      record {
        first = entry 0 1;
        rest = f ∷ p.rest;
        are = hash_step b (c ∷ w) e ∙ ap {B = List Entry} hash_before p.are ∙ here;
        hash = λ q. (refl, sym single);
        one = λ q. no_hash b q bs;
        count = omega (arith, p.count, rise b c w (omega (arith, bs, cs)));
        sound = λ g. record {
          low = omega arith;
          high = omega arith;
          each = (record { operand = some; kind = (behind g).low; at_most = (behind g).high }, (behind g).each);
        };
        seen = λ s. before (omega (arith, single))
            (record { low = s.each.0.kind; high = s.each.0.at_most; each = s.each.1 });
      }

parts : (b : ℕ) (w : List ℕ) → Known (b ∷ w) → Parts b w
parts b [] k = alone b k
parts b (c ∷ w) k = go (eqb b 49) refl (eqb c 49) refl (parts c w (known_tail b (c ∷ w) k))
  where
    go : (x : Bool) → eqb b 49 ≡ x → (y : Bool) → eqb c 49 ≡ y → Parts c w → Parts b (c ∷ w)
    go true e true d p = behind_one b c w k p e (omega (arith, eqb-true c 49 d))
    go true e false d p = behind_one b c w k p e (omega (arith, is_hash c w (known_tail b (c ∷ w) k) d))
    go false e true d p = before_one b c w k p e d
    go false e false d p = behind_hash b c w k p e d

-- A word that plainly passes
pub record Plain (w : List ℕ) : Type 0 where
  pub starts : get_or w 0 0 ≡ 49
  pub ends : get_or w (length w - 1) 0 ≡ 35
  pub known : Known w
  pub sixless : is_sixless w ≡ true

last_back : (b : ℕ) (w : List ℕ) → get_or (b ∷ w) (length (b ∷ w) - 1) 0 ≡ last b w
last_back b w = let back : length (b ∷ w) - 1 ≡ length w = omega arith in rw back (last_at b w)

-- It does where its entries are instructions, and only there

formed_plain : (b : ℕ) (w : List ℕ) → Known (b ∷ w) → EachOf Formed (word_entries (b ∷ w)) → Plain (b ∷ w)
formed_plain b w k formed =
    let p : Parts b w = parts b w k in
    let each : EachOf Formed (p.first ∷ p.rest) = rw p.are at formed in
    let s : Seen b w = p.seen (record { low = each.0.kind; high = each.0.at_most; each = each.1 }) in
    record { starts = go (eqb b 49) refl p each.0; ends = last_back b w ∙ s.0; known = k; sixless = s.1 }
  where
    go : (t : Bool) → eqb b 49 ≡ t → (p : Parts b w) → Formed p.first → b ≡ 49
    go true e p g = eqb-true b 49 e
    go false e p g = absurd (omega (arith, (p.hash e).0, g.operand))

plain_formed : (b : ℕ) (w : List ℕ) → Plain (b ∷ w)
    → (EachOf Formed (word_entries (b ∷ w))) × (length (word_entries (b ∷ w)) ≡ rises (b ∷ w) + 1)
plain_formed b w h =
    let p : Parts b w = parts b w h.known in
    let s : Sound p.first p.rest = p.sound (sym (last_back b w) ∙ h.ends, h.sixless) in
    let f : Formed p.first = record { operand = p.one (eq-eqb b 49 h.starts); kind = s.low; at_most = s.high } in
    (rw p.are (f, s.each), rw p.are (omega (arith, p.count)))

-- How many instructions there are

pub plain_count : (w : List ℕ) → 1 ≤ length w → Plain w → instruction_count w ≡ rises w + 1
unfolding instruction_count rule_12 rule_13
plain_count [] g h = absurd (omega arith)
plain_count (b ∷ w) g h =
    let f : _ = plain_formed b w h in
    rw (failing_none is_symbol 0 (b ∷ w) h.known, word_of-formed 0 (word_entries (b ∷ w)) f.0) f.1

pub other_count : (w : List ℕ) → (Plain w → ⊥) → instruction_count w ≡ 0
unfolding instruction_count rule_12 rule_13 first_failing first_along entries
other_count [] h = refl
other_count (b ∷ w) h =
    go (first_failing is_symbol 0 (b ∷ w)) refl (first_along next_byte entry_fault 0 (word_entries (b ∷ w))) refl
  where
    go : (x : Option ℕ) → first_failing is_symbol 0 (b ∷ w) ≡ x → (y : Option ℕ)
        → first_along next_byte entry_fault 0 (word_entries (b ∷ w)) ≡ y
        → instruction_count (b ∷ w) ≡ 0
    go (some x) e y d = rw e
    go none e (some y) d = rw (e, d)
    go none e none d =
        absurd (h (formed_plain b w (none_failing is_symbol 0 (b ∷ w) e) (formed_of_word 0 (word_entries (b ∷ w)) d)))

pub empty-count : (w : List ℕ) → length w ≡ 0 → instruction_count w ≡ 0
empty-count [] h = other_count [] (λ p. omega (arith, p.starts))
empty-count (b ∷ w) h = absurd (omega arith)
