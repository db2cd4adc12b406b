-- What is counted of a table, entry by entry, and what rules 11, 13 and 14 come to by it.
use Rattle.theory.specs.declared.Refusal.{Refusal}
use Rattle.std.specs.Prelude.{Result, Ok, Err}
use mathlib.Core.Path.{◌≡◌, refl, sym, ap, ◌∙◌}
use mathlib.Core.Logic.{⊎_elim}
use mathlib.Core.Bool.{Bool, true, false, cond, ◌&&◌}
use mathlib.Core.Option.{none, some}
use mathlib.Core.List.{List, [], ◌∷◌, ◌++◌}
use Prim.Native.Nat.{ℕ, suc, ◌+◌, ◌≤◌, ◌<◌, min}
use native.Mathlib.Omega.{arith}
use lib.ListN.{length, length-append}
use lib.Dec.{eqb, leb, ltb}
use borrow.Author.Tests.{lt-ltb, le-ltb, le-leb, lt-leb, eqb-true, eqb-false, ltb-true, ltb-false, not-true, not-false}
use Rattle.theory.specs.Limits
use Rattle.theory.specs.Word.{Entry}
use Rattle.theory.specs.TurnedDown.{total, bad_entry, read_table, table_fault, table_rule_11, first_along, next_entry, rule_13, rule_14}
use Rattle.theory.proofs.Words.{total-append}
use Rattle.tally.specs.declared.Tally.{Tally}
use Rattle.word.specs.Answers.{read_answer}
use Rattle.text.specs.Runs.{leading}
use Rattle.tally.specs.Tallies.{is_bad, is_good, longest, tally_of, noted, judged}
use Rattle.text.proofs.Runs.{leading_pass, leading_fail, leading_nil, leading_length}
use Rattle.word.proofs.Fills.{lt_or_le}

-- One entry more

module _ {A : Type 0} (f : A → Bool) where
  pub leading-all : (l m : List A) → leading f l ≡ length l → leading f (l ++ m) ≡ length l + leading f m
  leading-all [] m h = omega arith
  leading-all (a ∷ l) m h = go (f a) refl (leading-all l m)
    where
      go : (t : Bool) → f a ≡ t → (leading f l ≡ length l → leading f (l ++ m) ≡ length l + leading f m)
          → leading f (a ∷ (l ++ m)) ≡ suc (length l) + leading f m
      go true e r =
          let rest : leading f (l ++ m) ≡ length l + leading f m = r (omega (arith, leading_pass f a l e)) in
          omega (arith, leading_pass f a (l ++ m) e)
      go false e r = absurd (omega (arith, leading_fail f a l e))

  leading_some : (l m : List A) → leading f l < length l → leading f (l ++ m) ≡ leading f l
  leading_some [] m h = absurd (omega (arith, leading_nil f))
  leading_some (a ∷ l) m h = go (f a) refl (leading_some l m)
    where
      go : (t : Bool) → f a ≡ t → (leading f l < length l → leading f (l ++ m) ≡ leading f l)
          → leading f (a ∷ (l ++ m)) ≡ leading f (a ∷ l)
      go true e r =
          let rest : leading f (l ++ m) ≡ leading f l = r (omega (arith, leading_pass f a l e)) in
          omega (arith, leading_pass f a (l ++ m) e, leading_pass f a l e)
      go false e r = omega (arith, leading_fail f a (l ++ m) e, leading_fail f a l e)

pub tally_none : tally_of [] ≡ record { size = 0; good = 0; count = 0 }
unfolding tally_of leading
tally_none = refl

tally_is : (size good count size' good' count' : ℕ) → size ≡ size' → good ≡ good' → count ≡ count'
    → ◌≡◌ {A = Tally} (record { size = size; good = good; count = count }) (record { size = size'; good = good'; count = count' })
tally_is size good count size' good' count' p q r = rw (p, q, r)

module _ (t : List Entry) (e : Entry) (short : length t < longest) where
  abbrev g : ℕ
  g = leading is_good t

  abbrev GoodMore : Type 0
  GoodMore = cond (ltb g (length t)) g (cond (is_good e) (min (length t + 1) longest) g) ≡ leading is_good (t ++ (e ∷ []))

  some_bad : g < length t → GoodMore
  some_bad h = rw (lt-ltb g (length t) h) (sym (leading_some is_good t (e ∷ []) h))

  all_good : length t ≤ g → (b : Bool) → is_good e ≡ b → GoodMore
  all_good h b q = go b q (le-ltb g (length t) h) (leading-all is_good t (e ∷ []) (omega (arith, leading_length is_good t)))
    where
      go : (b : Bool) → is_good e ≡ b → ltb g (length t) ≡ false
          → leading is_good (t ++ (e ∷ [])) ≡ length t + leading is_good (e ∷ []) → GoodMore
      go true q l a = rw (l, q, a) (omega (arith, leading_pass is_good e [] q, leading_nil is_good))
      go false q l a = rw (l, q, a) (omega (arith, leading_fail is_good e [] q, leading_length is_good t))

  good_more : GoodMore
  good_more = ⊎_elim some_bad (λ h. all_good h (is_good e) refl) (lt_or_le g (length t))

  pub tally_more : noted (tally_of t) e ≡ tally_of (t ++ (e ∷ []))
  unfolding tally_of noted
  tally_more =
      tally_is _ _ _ _ _ _
      (omega (arith, total-append t (e ∷ [])))
      good_more
      (omega (arith, length-append t (e ∷ [])))

-- Rule 13

bad_some : (n : ℕ) (t : List Entry) → leading is_good t < length t → first_along next_entry bad_entry n t ≡ some (n + leading is_good t)
unfolding first_along
bad_some n [] h = absurd (omega arith)
bad_some n (e ∷ t) h = go (is_good e) refl (bad_some (suc n) t)
  where
    go : (b : Bool) → is_good e ≡ b
        → (leading is_good t < length t → first_along next_entry bad_entry (suc n) t ≡ some (suc n + leading is_good t))
        → first_along next_entry bad_entry n (e ∷ t) ≡ some (n + leading is_good (e ∷ t))
    go true q r =
        let more : suc n + leading is_good t ≡ n + leading is_good (e ∷ t) = omega (arith, leading_pass is_good e t q) in
        rw (not-true (is_bad e) q) (r (omega (arith, leading_pass is_good e t q)) ∙ ap some more)
    go false q r = let here : n ≡ n + leading is_good (e ∷ t) = omega (arith, leading_fail is_good e t q) in rw (not-false (is_bad e) q)
        (ap some here)

bad_none : (n : ℕ) (t : List Entry) → leading is_good t ≡ length t → first_along next_entry bad_entry n t ≡ none
unfolding first_along
bad_none n [] h = refl
bad_none n (e ∷ t) h = go (is_good e) refl (bad_none (suc n) t)
  where
    go : (b : Bool) → is_good e ≡ b → (leading is_good t ≡ length t → first_along next_entry bad_entry (suc n) t ≡ none)
        → first_along next_entry bad_entry n (e ∷ t) ≡ none
    go true q r = rw (not-true (is_bad e) q) (r (omega (arith, leading_pass is_good e t q)))
    go false q r = absurd (omega (arith, leading_fail is_good e t q))

-- The answer for a whole table
module _ (t : List Entry) where
  abbrev Answered : Result ℕ Refusal → Type 0
  Answered r = r ≡ read_answer (read_table t)

  abbrev Sized : Type 0
  Sized = (1 ≤ length t) × (total t ≤ Limits.most_symbols)

  sized : Sized → (leb 1 (length t) && leb (total t) Limits.most_symbols) ≡ true
  sized h = rw (le-leb 1 (length t) h.0, le-leb (total t) Limits.most_symbols h.1)

  no_entry : length t ≡ 0 → Answered (Err (record { number = 11; place = 0 }))
  unfolding read_table table_fault table_rule_11
  no_entry h = rw h

  too_large : 1 ≤ length t → Limits.most_symbols < total t → Answered (Err (record { number = 11; place = 0 }))
  unfolding read_table table_fault table_rule_11
  too_large g h = rw (le-leb 1 (length t) g, lt-leb (total t) Limits.most_symbols h)

  one_bad : Sized → leading is_good t < length t → Answered (Err (record { number = 13; place = leading is_good t }))
  unfolding read_table table_fault table_rule_11 rule_13
  one_bad s h = let here : 0 + leading is_good t ≡ leading is_good t = omega arith in rw (sized s, bad_some 0 t h, here)

  too_many : Sized → leading is_good t ≡ length t → Limits.most_instructions < length t
      → Answered (Err (record { number = 14; place = Limits.most_instructions }))
  unfolding read_table table_fault table_rule_11 rule_13 rule_14
  too_many s g h = rw (sized s, bad_none 0 t g, lt-leb (length t) Limits.most_instructions h)

  pub accepted : Sized → leading is_good t ≡ length t → length t ≤ Limits.most_instructions → Answered (Ok (length t))
  unfolding read_table table_fault table_rule_11 rule_13 rule_14
  accepted s g h = rw (sized s, bad_none 0 t g, le-leb (length t) Limits.most_instructions h)

  -- `judge` takes these tests in their order
  abbrev by_count : Bool → Result ℕ Refusal
  by_count b = cond b (Err (record { number = 14; place = Limits.most_instructions })) (Ok (length t))

  abbrev by_good : Bool → Result ℕ Refusal
  by_good b = cond b (Err (record { number = 13; place = leading is_good t })) (by_count (ltb Limits.most_instructions (length t)))

  abbrev by_size : Bool → Result ℕ Refusal
  by_size b = cond b (Err (record { number = 11; place = 0 })) (by_good (ltb (leading is_good t) (length t)))

  abbrev by_entries : Bool → Result ℕ Refusal
  by_entries b =
      cond b (Err (record { number = 11; place = 0 })) (by_size (ltb Limits.most_symbols (min (total t) (suc Limits.most_symbols))))

  counts : Sized → leading is_good t ≡ length t → (b : Bool) → ltb Limits.most_instructions (length t) ≡ b → Answered (by_count b)
  counts s g true e = too_many s g (ltb-true Limits.most_instructions (length t) e)
  counts s g false e = accepted s g (ltb-false Limits.most_instructions (length t) e)

  goods : Sized → (b : Bool) → ltb (leading is_good t) (length t) ≡ b → Answered (by_good b)
  goods s true e = one_bad s (ltb-true (leading is_good t) (length t) e)
  goods s false e =
      let all : leading is_good t ≡ length t = omega (arith, leading_length is_good t, ltb-false (leading is_good t) (length t) e) in
      counts s all (ltb Limits.most_instructions (length t)) refl

  sizes : 1 ≤ length t → (b : Bool) → ltb Limits.most_symbols (min (total t) (suc Limits.most_symbols)) ≡ b → Answered (by_size b)
  sizes h true e = too_large h (omega (arith, ltb-true Limits.most_symbols (min (total t) (suc Limits.most_symbols)) e))
  sizes h false e =
      let small : total t ≤ Limits.most_symbols = omega (
        arith,
        ltb-false Limits.most_symbols (min (total t) (suc Limits.most_symbols))
            e,
      ) in
      goods (h, small) (ltb (leading is_good t) (length t)) refl

  entries-first : (b : Bool) → eqb (length t) 0 ≡ b → Answered (by_entries b)
  entries-first true e = no_entry (eqb-true (length t) 0 e)
  entries-first false e =
      let x : length t ≡ 0 → ⊥ = eqb-false (length t) 0 e in
      sizes (omega arith) (ltb Limits.most_symbols (min (total t) (suc Limits.most_symbols))) refl

  pub judged_tally : judged (tally_of t) ≡ read_answer (read_table t)
  unfolding judged tally_of
  judged_tally = entries-first (eqb (length t) 0) refl
