-- What each stretch of code of document 01's "Translation" does to the counts, and in how many steps.
use mathlib.Core.Path.{◌≡◌, refl, sym, ap, ap₂, ◌∙◌, subst}
use mathlib.Core.Logic.{◌≢◌}
use mathlib.Core.Bool.{true, false}
use mathlib.Core.Option.{none, some}
use mathlib.Core.List.{List, ◌++◌}
use Prim.Native.Nat.{ℕ, zero, suc, ◌+◌, ◌-◌, ◌*◌, ◌≤◌, ◌<◌}
use native.Mathlib.Omega.{arith}
use Rattle.theory.specs.Basics.{at, put}
use Rattle.theory.specs.Runs.{Room, unlimited, Goes, stay, move, each}
use Rattle.theory.specs.Word.{Instruction, one, append, cases, State, step}
use Rattle.theory.specs.Translation.{clearing, sharing, returning, touching, copying}
use Rattle.theory.proofs.Cells.{put_same, put_other, put-put, put_comm, put_id, Sits, sits_left, sits_right}
use Rattle.theory.proofs.Joins.{ends, join}
use Rattle.theory.proofs.Steps.{standing, step-append, step_forward, step_backward, step-empty, step_one, step_full}

-- There is room in register r for x, and for all less
abbrev pub Fits : Room → ℕ → ℕ → Type 0
Fits room r x = (k : ℕ) → k ≤ x → room r k ≡ true

-- The counts n, with x, y and z in three registers
module _ (n : ℕ → ℕ) (a b t : ℕ) where
  three : ℕ → ℕ → ℕ → ℕ → ℕ
  three x y z = put (put (put n a x) b y) t z

  module _ (ab : a ≢ b) (at' : a ≢ t) (bt : b ≢ t) where
    three_a : (x y z : ℕ) → three x y z a ≡ x
    unfolding three
    three_a x y z = put_other (put (put n a x) b y) t z a at' ∙ (put_other (put n a x) b y a ab ∙ put_same n a x)

    three_b : (x y z : ℕ) → three x y z b ≡ y
    unfolding three
    three_b x y z = put_other (put (put n a x) b y) t z b bt ∙ put_same (put n a x) b y

    three_t : (x y z : ℕ) → three x y z t ≡ z
    unfolding three
    three_t x y z = put_same (put (put n a x) b y) t z

    set_a : (x y z x' : ℕ) → put (three x y z) a x' ≡ three x' y z
    unfolding three
    set_a x y z x' =
        let below : put (put (put n a x) b y) a x' ≡ put (put n a x') b y =
        put_comm (put n a x) b a y x' (λ e. ab (sym e)) ∙ ap (λ (f : ℕ → ℕ). put f b y) (put-put n a x x') in
        put_comm (put (put n a x) b y) t a z x' (λ e. at' (sym e)) ∙ ap (λ (f : ℕ → ℕ). put f t z) below

    set_b : (x y z y' : ℕ) → put (three x y z) b y' ≡ three x y' z
    unfolding three
    set_b x y z y' =
        put_comm (put (put n a x) b y) t b z y' (λ e. bt (sym e)) ∙ ap (λ (f : ℕ → ℕ). put f t z) (put-put (put n a x) b y y')

    set_t : (x y z z' : ℕ) → put (three x y z) t z' ≡ three x y z'
    unfolding three
    set_t x y z z' = put-put (put (put n a x) b y) t z z'

    three_is : (x y : ℕ) → n a ≡ x → n t ≡ 0 → three x y 0 ≡ put n b y
    unfolding three
    three_is x y ea et =
        let empty : put (put n a x) b y t ≡ 0 =
        put_other (put n a x) b y t (λ e. bt (sym e)) ∙ (put_other n a x t (λ e. at' (sym e)) ∙ et) in
        put_id (put (put n a x) b y) t 0 empty ∙ ap (λ (f : ℕ → ℕ). put f b y) (put_id n a x ea)

module _ (room : Room) (w : List Instruction) where
  abbrev pub Run : State → ℕ → State → Type 0
  Run = Goes (step room w) each

  pub clears : (q a : ℕ) → Sits w q (clearing a) → (k : ℕ) (n : ℕ → ℕ) → n a ≡ k
      → Run (standing q n) (2 * k + 2) (standing (q + 3) (put n a 0))
  clears q a h zero n e =
      ends refl (ap (standing (q + 3)) (sym (put_id n a 0 e)))
      (move (step-empty room w q n a (suc q) h.0 e refl)
      (move (step_forward room w (suc q) n 2 (q + 3) h.1.0 (omega arith)) stay))
  clears q a h (suc k) n e =
      ends (omega arith) (ap (standing (q + 3)) (put-put n a k 0))
      (move (step_one room w q n a k (suc (suc q)) (put n a k) h.0 e (omega arith) refl)
      (move (step_backward room w (suc (suc q)) (put n a k) 2 q h.1.1.0 (omega arith))
      (clears q a h k (put n a k) (put_same n a k))))

  -- A 1 that is deleted is put back
  pub puts_back : (q a : ℕ) → at w q ≡ some (cases a) → at w (suc (suc q)) ≡ some (append one a) → (x : ℕ) (n : ℕ → ℕ) → n a ≡ suc x
      → Fits room a (suc x) → Run (standing q n) 2 (standing (q + 3) n)
  puts_back q a h₁ h₂ x n e r =
      let back : put (put n a x) a (suc x) ≡ n = put-put n a x (suc x) ∙ put_id n a (suc x) e in
      move (step_one room w q n a x (suc (suc q)) (put n a x) h₁ e (omega arith) refl)
      (move (step-append room w (suc (suc q)) (put n a x) a x (q + 3) n h₂ (put_same n a x) (r (suc x) (omega arith))
      (omega arith) back) stay)

  pub touches : (q a : ℕ) → Sits w q (touching a) → (x : ℕ) (n : ℕ → ℕ) → n a ≡ x → Fits room a x
      → Run (standing q n) 2 (standing (q + 3) n)
  touches q a h zero n e r =
      move (step-empty room w q n a (suc q) h.0 e refl)
      (move (step_forward room w (suc q) n 2 (q + 3) h.1.0 (omega arith)) stay)
  touches q a h (suc x) n e r = puts_back q a h.0 h.1.1.0 x n e r

  module _ (n : ℕ → ℕ) (a b t : ℕ) (ab : a ≢ b) (at' : a ≢ t) (bt : b ≢ t) where
    abbrev with : ℕ → ℕ → ℕ → ℕ → ℕ
    with = three n a b t

    three_eq : (x x' y y' z z' : ℕ) → x ≡ x' → y ≡ y' → z ≡ z' → with x y z ≡ with x' y' z'
    three_eq x x' y y' z z' e f g = ap (λ i. with i y z) e ∙ (ap (λ i. with x' i z) f ∙ ap (λ i. with x' y' i) g)

    -- k turns of the sharing, back at its first instruction
    turns : (q : ℕ) → Sits w q (sharing a b t) → (k x x' y y' z z' : ℕ) → x' ≡ k + x → y' ≡ k + y → z' ≡ k + z
        → Fits room b y' → Fits room t z' → Run (standing q (with x' y z)) (4 * k) (standing q (with x y' z'))
    turns q h zero x x' y y' z z' ex ey ez r₁ r₂ =
        let same : with x' y z ≡ with x y' z' = three_eq x' x y y' z z' (omega arith) (omega arith) (omega arith) in
        ends refl (ap (standing q) same) stay
    turns q h (suc k) x x' y y' z z' ex ey ez r₁ r₂ =
        let x'' : ℕ = k + x in
        let e : with (suc x'') y z ≡ with x' y z = ap (λ i. with i y z) (omega arith) in
        subst (λ (f : ℕ → ℕ). Run (standing q f) (4 * suc k) (standing q (with x y' z'))) e
        (ends (omega arith) refl
        (move (step_one room w q (with (suc x'') y z) a x'' (suc (suc q)) (with x'' y z) h.0 (three_a n a b t ab at' bt (suc x'') y z)
        (omega arith) (set_a n a b t ab at' bt (suc x'') y z x''))
        (move (step-append room w (suc (suc q)) (with x'' y z) b y (suc (suc (suc q))) (with x'' (suc y) z) h.1.1.0
        (three_b n a b t ab at' bt x'' y z) (r₁ (suc y) (omega arith)) refl (set_b n a b t ab at' bt x'' y z (suc y)))
        (move (step-append room w (suc (suc (suc q))) (with x'' (suc y) z) t z (suc (suc (suc (suc q)))) (with x'' (suc y) (suc z))
        h.1.1.1.0 (three_t n a b t ab at' bt x'' (suc y) z) (r₂ (suc z) (omega arith)) refl
        (set_t n a b t ab at' bt x'' (suc y) z (suc z)))
        (move (step_backward room w (suc (suc (suc (suc q)))) (with x'' (suc y) (suc z)) 4 q h.1.1.1.1.0 (omega arith))
        (turns q h k x x'' (suc y) y' (suc z) z' refl (omega arith) (omega arith) r₁ r₂))))))

    shares : (q : ℕ) → Sits w q (sharing a b t) → (x y z y' z' : ℕ) → y' ≡ x + y → z' ≡ x + z → Fits room b y' → Fits room t z'
        → Run (standing q (with x y z)) (4 * x + 2) (standing (q + 5) (with 0 y' z'))
    shares q h x y z y' z' ey ez r₁ r₂ =
        join (turns q h x 0 x y y' z z' (omega arith) ey ez r₁ r₂)
        (move (step-empty room w q (with 0 y' z') a (suc q) h.0 (three_a n a b t ab at' bt 0 y' z') refl)
        (move (step_forward room w (suc q) (with 0 y' z') 4 (q + 5) h.1.0 (omega arith)) stay))

    returns : (q : ℕ) → Sits w q (returning t a) → (z x y x' : ℕ) → x' ≡ z + x → Fits room a x'
        → Run (standing q (with x y z)) (3 * z + 2) (standing (q + 4) (with x' y 0))
    returns q h zero x y x' ex r =
        ends refl (ap (λ i. standing (q + 4) (with i y 0)) (omega arith))
        (move (step-empty room w q (with x y 0) t (suc q) h.0 (three_t n a b t ab at' bt x y 0) refl)
        (move (step_forward room w (suc q) (with x y 0) 3 (q + 4) h.1.0 (omega arith)) stay))
    returns q h (suc z) x y x' ex r =
        ends (omega arith) refl
        (move (step_one room w q (with x y (suc z)) t z (suc (suc q)) (with x y z) h.0 (three_t n a b t ab at' bt x y (suc z))
        (omega arith) (set_t n a b t ab at' bt x y (suc z) z))
        (move (step-append room w (suc (suc q)) (with x y z) a x (suc (suc (suc q))) (with (suc x) y z) h.1.1.0
        (three_a n a b t ab at' bt x y z) (r (suc x) (omega arith)) refl (set_a n a b t ab at' bt x y z (suc x)))
        (move (step_backward room w (suc (suc (suc q))) (with (suc x) y z) 3 q h.1.1.1.0 (omega arith))
        (returns q h z (suc x) y x' (omega arith) r))))

    -- The x ones of a go to b as well, over the scratch t
    pub spreads : (q : ℕ) → Sits w q (sharing a b t) → Sits w (q + 5) (returning t a) → (x : ℕ) → n a ≡ x → n b ≡ 0 → n t ≡ 0
        → Fits room a x → Fits room b x → Fits room t x → Run (standing q n) (7 * x + 4) (standing (q + 9) (put n b x))
    spreads q h₁ h₂ x ea eb et ra rb rt =
        let begin : with x 0 0 ≡ n = three_is n a b t ab at' bt x 0 ea et ∙ put_id n b 0 eb in
        subst (λ (f : ℕ → ℕ). Run (standing q f) (7 * x + 4) (standing (q + 9) (put n b x))) begin
        (ends (omega arith) (ap₂ standing (omega arith) (three_is n a b t ab at' bt x x ea et))
        (join (shares q h₁ x 0 0 x x (omega arith) (omega arith) rb rt)
        (returns (q + 5) h₂ x 0 x x (omega arith) ra)))

  -- and what was in b is cleared first
  pub copies : (n : ℕ → ℕ) (a b t : ℕ) → a ≢ b → a ≢ t → b ≢ t → (q : ℕ) → Sits w q (copying a b t)
      → (x y : ℕ) → n a ≡ x → n b ≡ y → n t ≡ 0
      → Fits room a x → Fits room b x → Fits room t x → Run (standing q n) (2 * y + 7 * x + 6) (standing (q + 12) (put n b x))
  copies n a b t ab at' bt q h x y ea eb et ra rb rt =
      let spread : List Instruction = sharing a b t ++ returning t a in
      let h₂ : Sits w (q + 3) spread = sits_right w q (clearing b) spread h in
      ends (omega arith) (ap₂ standing (omega arith) (put-put n b 0 x))
      (join (clears q b (sits_left w q (clearing b) spread h) y n eb)
      (spreads (put n b 0) a b t ab at' bt (q + 3) (sits_left w (q + 3) (sharing a b t) (returning t a) h₂)
      (sits_right w (q + 3) (sharing a b t) (returning t a) h₂) x
      (put_other n b 0 a ab ∙ ea) (put_same n b 0) (put_other n b 0 t (λ e. bt (sym e)) ∙ et) ra rb rt))

  -- A copy of x into b, which has room for m and no more, stops at the append to b
  pub fills : (n : ℕ → ℕ) (a b t : ℕ) → a ≢ b → a ≢ t → b ≢ t → (q : ℕ) → Sits w q (copying a b t)
      → (x y m : ℕ) → n a ≡ x → n b ≡ y → n t ≡ 0 → m < x → Fits room b m → room b (suc m) ≡ false → Fits room t m
      → (u : State) × (u' : State) × Run (standing q n) (2 * y + 2 + 4 * m + 1) u × (step room w u ≡ none) × (step unlimited w u ≡ some u')
  fills n a b t ab at' bt q h x y m ea eb et l rb full rt =
      let spread : List Instruction = sharing a b t ++ returning t a in
      let h₂ : Sits w (q + 3) spread = sits_right w q (clearing b) spread h in
      let share : Sits w (q + 3) (sharing a b t) = sits_left w (q + 3) (sharing a b t) (returning t a) h₂ in
      let n₁ : ℕ → ℕ = put n b 0 in
      let f : ℕ → ℕ → ℕ → ℕ → ℕ = three n₁ a b t in
      let x'' : ℕ = x - suc m in
      let begin : f x 0 0 ≡ n₁ = three_is n₁ a b t ab at' bt x 0 (put_other n b 0 a ab ∙ ea)
      (put_other n b 0 t (λ e. bt (sym e)) ∙ et) ∙ put_id n₁ b 0 (put_same n b 0) in
      let first : Run (standing q n) (2 * y + 2) (standing (q + 3) n₁) = clears q b (sits_left w q (clearing b) spread h) y n eb in
      let second : Run (standing (q + 3) (f x 0 0)) (4 * m) (standing (q + 3) (f (suc x'') m m)) =
      turns n₁ a b t ab at' bt (q + 3) share m (suc x'') x 0 m 0 m (omega arith) (omega arith) (omega arith) rb rt in
      let third : step room w (standing (q + 3) (f (suc x'') m m)) ≡ some (standing (suc (suc (q + 3))) (f x'' m m)) =
      step_one room w (q + 3) (f (suc x'') m m) a x'' (suc (suc (q + 3))) (f x'' m m) share.0 (three_a n₁ a b t ab at' bt (suc x'') m m)
      (omega arith) (set_a n₁ a b t ab at' bt (suc x'') m m x'') in
      let held : f x'' m m b ≡ m = three_b n₁ a b t ab at' bt x'' m m in (
        standing (suc (suc (q + 3))) (f x'' m m),
        standing (suc (suc (suc (q + 3)))) (f x'' (suc m) m),
        join (join first (subst (λ (g : ℕ → ℕ). Run (standing (q + 3) g) (4 * m) (standing (q + 3) (f (suc x'') m m))) begin second))
            (move third stay),
        step_full room w (suc (suc (q + 3))) (f x'' m m) b m share.1.1.0 held full,
        step-append unlimited w (suc (suc (q + 3))) (f x'' m m) b m (suc (suc (suc (q + 3)))) (f x'' (suc m) m) share.1.1.0 held
            refl refl (set_b n₁ a b t ab at' bt x'' m m (suc m)),
      )
