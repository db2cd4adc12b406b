-- Laws of one command under the pairs that are open: what its three numbers are, and what the code's tests say of the definitions' verdict.
use Rattle.theory.specs.declared.Refusal.{Refusal}
use Rattle.std.specs.Prelude.{Result, Ok, Err}
use mathlib.Core.Path.{◌≡◌, refl, sym, ap, ◌∙◌}
use mathlib.Core.Logic.{◌⊎◌, inl, inr}
use mathlib.Core.Bool.{Bool, true, false, cond, ◌&&◌, false≢true}
use mathlib.Core.Option.{Option, none, some}
use mathlib.Core.List.{List, ◌∷◌}
use Prim.Native.Nat.{ℕ, zero, suc, ◌+◌, ◌-◌, ◌<◌, ◌≤◌, max}
use native.Mathlib.Numerals.{add-one}
use native.Mathlib.Omega.{arith}
use borrow.Author.Tests.{ltb-true, ltb-false, eqb-true, lt-ltb, lt-leb, le-leb, ne_eqb}
use lib.Dec.{eqb, ltb, leb}
use lib.ListN.{length, replicate, length-replicate}
use Rattle.theory.specs.Basics.{given}
use Rattle.theory.specs.ProgramText as P
use Rattle.theory.specs.ProgramText.{Plain, clear, increment, copy, loop, while, Command, plain, opens, closes, indices, above}
use Rattle.theory.specs.ProgramText.{command_of, open_next}
use Rattle.theory.specs.TurnedDown.{unless, same_kind, rule_20, pair_fault}
use Rattle.theory.specs.declared.Setting.{Setting}
use Rattle.theory.specs.declared.Setting.TheVariants.{Any, LoopOnly}
use Rattle.nesting.specs.declared.Opening.{Opening}
use Rattle.nesting.specs.Nesting.{kind_of, open_of, pairs, is_known, is_banned, verdict, judged}

-- Kinds by a test
pub alike_loop : (b : Bool) → b ≡ same_kind loop (cond b loop while)
alike_loop true = refl
alike_loop false = refl

pub alike_while : (k : ℕ) → leb 6 k ≡ same_kind while (kind_of k)
alike_while k = go (ltb k 6) refl
  where
    go : (b : Bool) → ltb k 6 ≡ b → leb 6 k ≡ same_kind while (cond b loop while)
    go true e = lt-leb 6 k (ltb-true k 6 e)
    go false e = le-leb 6 k (ltb-false k 6 e)

-- A command by its numbers

pub known_below : (k j : ℕ) → is_known k j ≡ true → k < 8
known_below k j h = go (eqb k 0) (eqb k 3) (ltb k 8) refl refl refl h
  where
    go : (a b c : Bool) → eqb k 0 ≡ a → eqb k 3 ≡ b → ltb k 8 ≡ c → cond a false (cond b true (cond c (eqb j 0) false)) ≡ true → k < 8
    go a b true ea eb ec e = ltb-true k 8 ec
    go true b false ea eb ec e = absurd (false≢true e)
    go false true false ea eb ec e = omega (arith, eqb-true k 3 eb)
    go false false false ea eb ec e = absurd (false≢true e)

-- What three numbers are, where they are a command; all but kinds 4 to 7 are plain
pub record Known (k i j : ℕ) : Type 0 where
  pub command : Command
  pub is : command_of k i j ≡ some command
  pub top : above (indices command) ≡ suc (max i j)
  pub banned : (n : ℕ) → rule_20 LoopOnly n command ≡ given (leb 6 k) (record { number = 20; place = n })
  pub other : ((k ≡ 4) ⊎ (k ≡ 6) → ⊥) → ((k ≡ 5) ⊎ (k ≡ 7) → ⊥) → (p : Plain) × (command ≡ plain p)

one_index : (i j : ℕ) → eqb j 0 ≡ true → max (suc i) 0 ≡ suc (max i j)
one_index i j h = omega (arith, eqb-true j 0 h)

pub known : (k i j : ℕ) → is_known k j ≡ true → Known k i j
unfolding command_of
known zero i j h = absurd (false≢true h)
known (suc zero) i j h =
    record { command = plain (clear i); is = rw h; top = one_index i j h; banned = λ n. refl; other = λ _ _. (clear i, refl) }
known (suc (suc zero)) i j h =
    record { command = plain (increment i); is = rw h; top = one_index i j h; banned = λ n. refl; other = λ _ _. (increment i, refl) }
known (suc (suc (suc zero))) i j h =
    record { command = plain (copy i j); is = refl; top = omega arith; banned = λ n. refl; other = λ _ _. (copy i j, refl) }
known (suc (suc (suc (suc zero)))) i j h =
    record { command = opens loop i; is = rw h; top = one_index i j h; banned = λ n. refl; other = λ n _. absurd (n (inl refl)) }
known (suc (suc (suc (suc (suc zero))))) i j h =
    record { command = closes loop i; is = rw h; top = one_index i j h; banned = λ n. refl; other = λ _ n. absurd (n (inl refl)) }
known (suc (suc (suc (suc (suc (suc zero)))))) i j h =
    record { command = opens while i; is = rw h; top = one_index i j h; banned = λ n. refl; other = λ n _. absurd (n (inr refl)) }
known (suc (suc (suc (suc (suc (suc (suc zero))))))) i j h =
    record { command = closes while i; is = rw h; top = one_index i j h; banned = λ n. refl; other = λ _ n. absurd (n (inr refl)) }
known (suc (suc (suc (suc (suc (suc (suc (suc k)))))))) i j h =
    absurd (omega (arith, known_below (suc (suc (suc (suc (suc (suc (suc (suc k)))))))) j h))

none_either_way : (b : Bool) → cond {A = Option Command} b none none ≡ none
none_either_way true = refl
none_either_way false = refl

no_kind : (k i j : ℕ) → 7 < k → command_of k i j ≡ none
unfolding command_of
no_kind k i j h =
    let ne : (m : ℕ) → m ≤ 7 → eqb k m ≡ false = λ m l. ne_eqb k m (λ e. omega arith) in
    simp (
      ne 3 (omega arith),
      ne 1 (omega arith),
      ne 2 (omega arith),
      ne 4 (omega arith),
      ne 5 (omega arith),
      ne 6 (omega arith),
      ne 7
          (omega arith),
    )
    (none_either_way (eqb j 0))

pub unknown : (k i j : ℕ) → is_known k j ≡ false → command_of k i j ≡ none
unfolding command_of
unknown zero i j h = none_either_way (eqb j 0)
unknown (suc zero) i j h = rw h
unknown (suc (suc zero)) i j h = rw h
unknown (suc (suc (suc zero))) i j h = absurd (false≢true (sym h))
unknown (suc (suc (suc (suc zero)))) i j h = rw h
unknown (suc (suc (suc (suc (suc zero))))) i j h = rw h
unknown (suc (suc (suc (suc (suc (suc zero)))))) i j h = rw h
unknown (suc (suc (suc (suc (suc (suc (suc zero))))))) i j h = rw h
unknown (suc (suc (suc (suc (suc (suc (suc (suc k)))))))) i j h =
    no_kind (suc (suc (suc (suc (suc (suc (suc (suc k)))))))) i j (omega arith)

-- What kinds 4 to 7 are, where the three numbers are a command

pub opening : (k i j : ℕ) → (k ≡ 4) ⊎ (k ≡ 6) → is_known k j ≡ true → command_of k i j ≡ some (opens (kind_of k) i)
unfolding command_of
opening k i j (inl e) h = let t : eqb j 0 ≡ true = rw e at h in rw (e, t)
opening k i j (inr e) h = let t : eqb j 0 ≡ true = rw e at h in rw (e, t)

pub closing : (k i j : ℕ) → (k ≡ 5) ⊎ (k ≡ 7) → is_known k j ≡ true → command_of k i j ≡ some (closes (kind_of k) i)
unfolding command_of
closing k i j (inl e) h = let t : eqb j 0 ≡ true = rw e at h in rw (e, t)
closing k i j (inr e) h = let t : eqb j 0 ≡ true = rw e at h in rw (e, t)

-- The verdict on a command, rule by rule

module _ (σ : Setting) (n count : ℕ) (last : Opening) (k i j : ℕ) where
  abbrev os : List P.Opening
  os = pairs count last

  abbrev here : Result ℕ Refusal
  here = judged σ n os (command_of k i j)

  long : length os ≡ count
  long = length-replicate count (open_of last)

  pub fault_4 : is_known k j ≡ false → Err (record { number = 4; place = n }) ≡ here
  fault_4 h = rw (unknown k i j h)

  module _ (h : is_known k j ≡ true) where
    abbrev kn : Known k i j
    kn = known k i j h

    pub fault_5 : 31 < max i j → Err (record { number = 5; place = n }) ≡ here
    fault_5 l =
        let t : 32 < above (indices kn.command) = omega (arith, kn.top) in
        rw (kn.is, lt-leb (above (indices kn.command)) 32 t)

    rule_20_is : rule_20 σ n kn.command ≡ given (is_banned σ k) (record { number = 20; place = n })
    rule_20_is = go σ
      where
        go : (σ : Setting) → rule_20 σ n kn.command ≡ given (is_banned σ k) (record { number = 20; place = n })
        go Any = refl
        go LoopOnly = kn.banned n

    module _ (l : max i j ≤ 31) where
      low : leb (above (indices kn.command)) 32 ≡ true
      low =
          let t : above (indices kn.command) ≤ 32 = omega (arith, kn.top) in
          le-leb (above (indices kn.command)) 32 t

      pub fault_20 : is_banned σ k ≡ true → Err (record { number = 20; place = n }) ≡ here
      fault_20 b = rw (kn.is, low, rule_20_is, b)

      module _ (b : is_banned σ k ≡ false) where
        -- past rules 5 and 20, the verdict is that of the pair
        past_20 : (c : Command) → kn.command ≡ c → verdict (length (open_next n os c)) (pair_fault n os c) ≡ here
        past_20 c e = rw (kn.is, low, rule_20_is, b, e)

        pub of_opening : (k ≡ 4) ⊎ (k ≡ 6) → verdict (count + 1) (unless (ltb count 16) 6 n) ≡ here
        of_opening o =
            ap (λ m. verdict (m + 1) (unless (ltb m 16) 6 n)) (sym long)
            ∙ rw (add-one (length os)) (past_20 (opens (kind_of k) i) (cc (kn.is, opening k i j o h)))

        pub of_closing : (k ≡ 5) ⊎ (k ≡ 7) → verdict (count - 1) (pair_fault n os (closes (kind_of k) i)) ≡ here
        of_closing o =
            let c : Command = closes (kind_of k) i in
            ap (λ m. verdict m (pair_fault n os c)) (one_less count) ∙ past_20 c (cc (kn.is, closing k i j o h))
          where
            one_less : (m : ℕ) → m - 1 ≡ length (open_next n (pairs m last) (closes (kind_of k) i))
            one_less zero = refl
            one_less (suc m) = omega (arith, length-replicate m (open_of last))

        pub of_plain : ((k ≡ 4) ⊎ (k ≡ 6) → ⊥) → ((k ≡ 5) ⊎ (k ≡ 7) → ⊥) → Ok count ≡ here
        of_plain a c = let p = kn.other a c in ap Ok (sym long) ∙ past_20 (plain p.0) p.1

-- A line that closes a pair

module _ (count : ℕ) (last : Opening) (k i n : ℕ) where
  abbrev is_last : Bool
  is_last = same_kind (kind_of k) (kind_of last.kind) && eqb i last.index

  pub fitting : {r : Bool} → r ≡ (ltb 0 count && is_last) → (b : Bool) → r ≡ b
      → unless b 7 n ≡ pair_fault n (pairs count last) (closes (kind_of k) i)
  fitting e b f = go count (cc (e, f))
    where
      go : (m : ℕ) → (ltb 0 m && is_last) ≡ b → unless b 7 n ≡ pair_fault n (pairs m last) (closes (kind_of k) i)
      go zero e = rw (← e)
      go (suc m) e = let f : is_last ≡ b = rw (lt-ltb 0 (suc m) (omega arith)) at e in rw f

  pub some_open : {r : Bool} → r ≡ (ltb 0 count && is_last) → r ≡ true → 0 < count
  some_open e f = go (ltb 0 count) refl (cc (e, f))
    where
      go : (b : Bool) → ltb 0 count ≡ b → (b && is_last) ≡ true → 0 < count
      go true f e = ltb-true 0 count f
      go false f e = absurd (false≢true e)

-- Of the pairs that are open the verdict asks how many they are, and which is the innermost
pub same-verdict : (σ : Setting) (n : ℕ) (o : P.Opening) (os : List P.Opening) (c : Option Command)
    → judged σ n (replicate (suc (length os)) o) c ≡ judged σ n (o ∷ os) c
same-verdict σ n o os none = refl
same-verdict σ n o os (some (plain p)) = rw (length-replicate (length os) o)
same-verdict σ n o os (some (opens k i)) = rw (length-replicate (length os) o)
same-verdict σ n o os (some (closes k i)) = rw (length-replicate (length os) o)
