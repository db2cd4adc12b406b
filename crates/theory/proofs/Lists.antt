-- Lists of three numbers a command: reading undoes writing, and writing undoes reading.
use mathlib.Core.Path.{◌≡◌, refl, sym, ap, ◌∙◌}
use mathlib.Core.Bool.{Bool, true, false, cond}
use mathlib.Core.Option.{Option, none, some, none-ne-some}
use mathlib.Core.List.{List, [], ◌∷◌, map, nil≢cons, cons≢nil}
use Prim.Native.Nat.{ℕ}
use lib.Dec.{eqb}
use borrow.Author.Tests.{eqb-true}
use Rattle.theory.specs.Basics.{present}
use Rattle.theory.specs.ProgramText.{clear, increment, copy, loop, while, Command, plain, opens, closes, commands}
use Rattle.theory.specs.ProgramText.{numbers, list_of, command_of_kind, command_of, listed}
use Rattle.theory.specs.TurnedDown.{done, read_list, read_list_under}
use Rattle.theory.specs.Claims.{Accepted, ListRoundTrip}
use Rattle.theory.proofs.Nesting.{nothing_missing, list_read}

-- Reading undoes writing

pub listed_list : (p : List Command) → listed (list_of p) ≡ map some p
unfolding listed list_of command_of
listed_list [] = refl
listed_list (plain (clear i) ∷ p) = rw (listed_list p)
listed_list (plain (increment i) ∷ p) = rw (listed_list p)
listed_list (plain (copy i j) ∷ p) = rw (listed_list p)
listed_list (opens loop i ∷ p) = rw (listed_list p)
listed_list (closes loop i ∷ p) = rw (listed_list p)
listed_list (opens while i ∷ p) = rw (listed_list p)
listed_list (closes while i ∷ p) = rw (listed_list p)

pub present_some : {A : Type 0} (l : List A) → present (map some l) ≡ l
present_some [] = refl
present_some (x ∷ l) = rw (present_some l)

pub commands_list : (p : List Command) → commands (list_of p) ≡ p
unfolding commands
commands_list p = rw (listed_list p, present_some p)

-- Writing undoes reading

-- Where a kind is n, the command is x; otherwise another test decides
by_kind : (n k i j : ℕ) (x : Command) (y : Option Command) (c : Command) → numbers x ≡ n ∷ i ∷ j ∷ []
    → (y ≡ some c → numbers c ≡ k ∷ i ∷ j ∷ []) → cond (eqb k n) (some x) y ≡ some c → numbers c ≡ k ∷ i ∷ j ∷ []
by_kind n k i j x y c h f = go (eqb k n) refl
  where
    go : (t : Bool) → eqb k n ≡ t → cond t (some x) y ≡ some c → numbers c ≡ k ∷ i ∷ j ∷ []
    go true t e =
        let same : x ≡ c = cc in
        rw (← same, eqb-true k n t) h
    go false t e = f e

pub numbers-of_kind : (k i : ℕ) (c : Command) → command_of_kind k i ≡ some c → numbers c ≡ k ∷ i ∷ 0 ∷ []
numbers-of_kind k i c =
    by_kind 1 k i 0 (plain (clear i)) _ c refl
    (by_kind 2 k i 0 (plain (increment i)) _ c refl
    (by_kind 4 k i 0 (opens loop i) _ c refl
    (by_kind 5 k i 0 (closes loop i) _ c refl
    (by_kind 6 k i 0 (opens while i) _ c refl
    (by_kind 7 k i 0 (closes while i) none c refl (λ e. absurd (none-ne-some c e)))))))

pub numbers_of : (k i j : ℕ) (c : Command) → command_of k i j ≡ some c → numbers c ≡ k ∷ i ∷ j ∷ []
unfolding command_of
numbers_of k i j c = by_kind 3 k i j (plain (copy i j)) _ c refl (go (eqb j 0) refl)
  where
    go : (t : Bool) → eqb j 0 ≡ t → cond t (command_of_kind k i) none ≡ some c → numbers c ≡ k ∷ i ∷ j ∷ []
    go true t e = rw (eqb-true j 0 t) (numbers-of_kind k i c e)
    go false t e = absurd (none-ne-some c e)

cut_short : {c : Command} {l r : List (Option Command)} → ◌≡◌ {A = List (Option Command)} (none ∷ l) (some c ∷ r) → ⊥
cut_short {c} e = let first : none ≡ some c = cc in none-ne-some c first

pub list_listed : (l : List ℕ) (p : List Command) → listed l ≡ map some p → list_of p ≡ l
unfolding listed list_of
list_listed [] [] e = refl
list_listed [] (c ∷ p) e = absurd (nil≢cons e)
list_listed (k ∷ []) [] e = absurd (cons≢nil e)
list_listed (k ∷ []) (c ∷ p) e = absurd (cut_short e)
list_listed (k ∷ i ∷ []) [] e = absurd (cons≢nil e)
list_listed (k ∷ i ∷ []) (c ∷ p) e = absurd (cut_short e)
list_listed (k ∷ i ∷ j ∷ l) [] e = absurd (cons≢nil e)
list_listed (k ∷ i ∷ j ∷ l) (c ∷ p) e =
    let first : command_of k i j ≡ some c = cc in
    let rest : listed l ≡ map some p = cc in
    rw (numbers_of k i j c first, list_listed l p rest)

pub lists_round_trip : ListRoundTrip
unfolding read_list_under commands
lists_round_trip = (there, back)
  where
    there : (p : List Command) → Accepted p → read_list (list_of p) ≡ done p
    there p a = rw (listed_list p, a, present_some p)

    back : (l : List ℕ) (p : List Command) → read_list l ≡ done p → list_of p ≡ l
    back l p e =
        let r : _ = list_read l p e in
        list_listed l p (sym (nothing_missing (listed l) r.0) ∙ ap {B = List (Option Command)} (map some) r.1)
