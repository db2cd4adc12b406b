-- A drain in a word, on registers of 1s alone, each of which is then a count: one turn, and then m of them.
use mathlib.Core.Path.{◌≡◌, refl, sym, ap, fun_ext}
use mathlib.Core.Bool.{Bool, true, false, cond}
use mathlib.Core.Option.{some}
use mathlib.Core.List.{List, [], ◌∷◌}
use Prim.Native.Nat.{ℕ, zero, suc, ◌+◌, ◌-◌, ◌*◌, ◌≤◌}
use native.Mathlib.Nat.{zero-mul, suc-mul}
use native.Mathlib.Omega.{arith}
use lib.ListN.{length}
use lib.Dec.{eqb}
use borrow.Author.Tests.{eqb-true, eq-eqb}
use Rattle.theory.specs.Basics.{at, put}
use Rattle.theory.specs.Runs.{Room, Goes, stay, move, each}
use Rattle.theory.specs.Word.{one, Instruction, append, backward, cases, step}
use Rattle.theory.proofs.Joins.{ends, join}
use Rattle.theory.proofs.Steps.{standing, step-append, step_backward, step_one}
use Rattle.drains.specs.Drains.{times}

-- From place q on: +b for each b of bs, and then B n
abbrev pub Adds : List Instruction → ℕ → List ℕ → ℕ → Type 0
Adds w q [] n = at w q ≡ some (backward n)
Adds w q (b ∷ bs) n = (at w q ≡ some (append one b)) × Adds w (suc q) bs n

-- C a at place q; an instruction, any, that a 1 goes past; and then +b for each b of bs, and back to q. bs may be empty, and name a
-- register twice
pub record Drains (w : List Instruction) (q a : ℕ) (bs : List ℕ) : Type 0 where
  pub test : at w q ≡ some (cases a)
  pub adds : Adds w (suc (suc q)) bs (length bs + 2)

-- The counts after m turns: a has m less, and every other m more for each time that bs names it
unfoldable pub drained : ℕ → List ℕ → ℕ → (ℕ → ℕ) → ℕ → ℕ
drained a bs m v r = cond (eqb r a) (v r - m) (v r + m * times r bs)

-- There is room for m turns
abbrev pub Roomy : Room → List ℕ → ℕ → (ℕ → ℕ) → Type 0
Roomy room bs m v = (r k : ℕ) → 1 ≤ times r bs → k ≤ v r + m * times r bs → room r k ≡ true

-- The counts after the appends of one turn
unfoldable added : List ℕ → (ℕ → ℕ) → ℕ → ℕ
added bs v r = v r + times r bs

times-first : (b : ℕ) (bs : List ℕ) → times b (b ∷ bs) ≡ suc (times b bs)
unfolding times
times-first b bs = rw (eq-eqb b b refl)

times_more : (r b : ℕ) (bs : List ℕ) → times r bs ≤ times r (b ∷ bs)
unfolding times
times_more r b bs = go (eqb r b)
  where
    go : (t : Bool) → times r bs ≤ cond t (suc (times r bs)) (times r bs)
    go true = omega arith
    go false = omega arith

added_none : (v : ℕ → ℕ) → added [] v ≡ v
unfolding added times
added_none v = fun_ext λ r. omega arith

added_more : (b : ℕ) (bs : List ℕ) (v : ℕ → ℕ) → added bs (put v b (suc (v b))) ≡ added (b ∷ bs) v
unfolding added times put
added_more b bs v = fun_ext λ r. go r (eqb r b) (eqb-true r b)
  where
    go : (r : ℕ) (t : Bool) → (t ≡ true → r ≡ b)
        → cond t (suc (v b)) (v r) + times r bs ≡ v r + cond t (suc (times r bs)) (times r bs)
    go r true e = rw (e refl) (omega arith)
    go r false e = refl

one_fits : (v : ℕ → ℕ) (b : ℕ) (bs : List ℕ) → suc (v b) ≤ added (b ∷ bs) v b
unfolding added
one_fits v b bs = omega (arith, times-first b bs)

drained_none : (a : ℕ) (bs : List ℕ) (v : ℕ → ℕ) → drained a bs 0 v ≡ v
unfolding drained
drained_none a bs v = fun_ext λ r. go r (eqb r a)
  where
    go : (r : ℕ) (t : Bool) → cond t (v r - 0) (v r + 0 * times r bs) ≡ v r
    go r true = omega arith
    go r false = omega (arith, zero-mul (times r bs))

-- A turn, and then m more
module _ (a : ℕ) (bs : List ℕ) (v : ℕ → ℕ) (x : ℕ) (apart : times a bs ≡ 0) (is : v a ≡ suc x) where
  drained_more : (m : ℕ) → drained a bs m (added bs (put v a x)) ≡ drained a bs (suc m) v
  unfolding drained added put
  drained_more m = fun_ext λ r. go r (eqb r a) (eqb-true r a)
    where
      go : (r : ℕ) (t : Bool) → (t ≡ true → r ≡ a)
          → cond t (cond t x (v r) + times r bs - m) (cond t x (v r) + times r bs + m * times r bs)
          ≡ cond t (v r - suc m) (v r + suc m * times r bs)
      go r true e = rw (e refl, is, apart) (omega arith)
      go r false e = omega (arith, suc-mul m (times r bs))

  stays : added bs (put v a x) a ≡ x
  unfolding added put
  stays = rw (eq-eqb a a refl, apart) (omega arith)

  gains : (r : ℕ) → 1 ≤ times r bs → added bs (put v a x) r ≡ v r + times r bs
  unfolding added put
  gains r named = go (eqb r a) (eqb-true r a)
    where
      go : (t : Bool) → (t ≡ true → r ≡ a) → cond t x (v r) + times r bs ≡ v r + times r bs
      go true e = absurd (omega (arith, ap (λ y. times y bs) (e refl)))
      go false e = refl

module _ (room : Room) (w : List Instruction) where
  -- The appends, and back
  adds : (bs : List ℕ) (q n q' : ℕ) (v : ℕ → ℕ) → Adds w q bs n → q + length bs ≡ q' + n
      → ((r k : ℕ) → 1 ≤ times r bs → k ≤ added bs v r → room r k ≡ true)
      → Goes (step room w) each (standing q v) (length bs + 1) (standing q' (added bs v))
  adds [] q n q' v h p fits =
      ends refl (ap (standing q') (sym (added_none v))) (move (step_backward room w q v n q' h (omega arith)) stay)
  adds (b ∷ bs) q n q' v h p fits =
      let g : ℕ → ℕ = put v b (suc (v b)) in
      let more : added bs g ≡ added (b ∷ bs) v = added_more b bs v in
      let first : room b (suc (v b)) ≡ true = fits b (suc (v b)) (omega (arith, times-first b bs)) (one_fits v b bs) in
      ends (omega arith) (ap (standing q') more)
      (move (step-append room w q v b (v b) (suc q) g h.0 refl first refl refl)
      (adds bs (suc q) n q' g h.1 (omega arith)
      (λ r k l le. fits r k (omega (arith, times_more r b bs)) (rw more at le))))

  -- A turn, from a 1
  turn : (q a : ℕ) (bs : List ℕ) → Drains w q a bs → (v : ℕ → ℕ) (x : ℕ) → v a ≡ suc x
      → ((r k : ℕ) → 1 ≤ times r bs → k ≤ added bs (put v a x) r → room r k ≡ true)
      → Goes (step room w) each (standing q v) (length bs + 2) (standing q (added bs (put v a x)))
  turn q a bs d v x is fits =
      ends (omega arith) refl
      (move (step_one room w q v a x (suc (suc q)) (put v a x) d.test is (omega arith) refl)
      (adds bs (suc (suc q)) (length bs + 2) q (put v a x) d.adds (omega arith) fits))

  -- m turns
  pub turns_go : (q a : ℕ) (bs : List ℕ) → Drains w q a bs → times a bs ≡ 0 → (m : ℕ) (v : ℕ → ℕ) → m ≤ v a → Roomy room bs m v
      → Goes (step room w) each (standing q v) (m * (length bs + 2)) (standing q (drained a bs m v))
  turns_go q a bs d apart zero v held fits =
      ends (sym (zero-mul (length bs + 2))) (ap (standing q) (sym (drained_none a bs v))) stay
  turns_go q a bs d apart (suc m) v held fits =
      let x : ℕ = v a - 1 in
      let is : v a ≡ suc x = omega arith in
      let g : ℕ → ℕ = added bs (put v a x) in
      let gain : (r : ℕ) → 1 ≤ times r bs → g r ≡ v r + times r bs = gains a bs v x apart is in
      ends (omega (arith, suc-mul m (length bs + 2))) (ap (standing q) (drained_more a bs v x apart is m))
      (join
      (turn q a bs d v x is λ r k l le. fits r k l (omega (arith, gain r l, suc-mul m (times r bs))))
      (turns_go q a bs d apart m g (omega (arith, stays a bs v x apart is))
      (λ r k l le. fits r k l (omega (arith, gain r l, suc-mul m (times r bs))))))
