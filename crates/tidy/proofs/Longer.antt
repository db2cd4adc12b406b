-- A well-nested program does the same with more lines after it.
use mathlib.Core.Path.{◌≡◌, refl, sym, ap, ◌∙◌, subst}
use mathlib.Core.Option.{Option, none, some, map, none-ne-some, some-injective}
use mathlib.Core.List.{List, [], ◌∷◌, ◌++◌}
use Prim.Native.Nat.{ℕ, zero, suc, pred, ◌+◌, ◌≤◌, ◌<◌}
use native.Mathlib.Omega.{arith}
use lib.ListN.{length, take, get_elem?}
use Rattle.theory.specs.Basics.{at, and_then, default}
use Rattle.theory.specs.Runs.{Room, Goes, stay, move}
use Rattle.theory.specs.ProgramText.{clear, increment, copy, Kind, loop, while, Command, plain, opens, closes, Block, lines}
use Rattle.theory.specs.Source as S
use Rattle.theory.specs.Source.{State, begin_loop, end_loop, begin_while, set_passes, go_to, depth, closing, opening, open_at}
use Rattle.theory.specs.Source.{innermost, loops, passes_after}
use Rattle.theory.specs.Translation.{charge, command_charge, endloop_charge}
use Rattle.theory.proofs.Cells.{sits_self, sits_left, at-within}
use Rattle.theory.proofs.Partners.{Inherited, Spot, spot, Stands, stands_inherited, partners_here}

get_elem_left : {A : Type 0} (p q : List A) (n : ℕ) (c : A) → get_elem? p n ≡ some c → get_elem? (p ++ q) n ≡ some c
get_elem_left [] q n c e = absurd (none-ne-some c e)
get_elem_left (x ∷ p) q zero c e = e
get_elem_left (x ∷ p) q (suc n) c e = get_elem_left p q n c e

at_left : {A : Type 0} (p q : List A) (n : ℕ) (c : A) → at p n ≡ some c → at (p ++ q) n ≡ some c
at_left p q zero c e = e
at_left p q (suc n) c e = get_elem_left p q n c e

take_left : {A : Type 0} (p q : List A) (n : ℕ) → n ≤ length p → take n (p ++ q) ≡ take n p
take_left p q zero h = refl
take_left [] q (suc n) h = absurd (omega arith)
take_left {A} (x ∷ p) q (suc n) h = ap {B = List A} (λ l. x ∷ l) (take_left p q n (omega arith))

module _ (b : Block) (q : List Command) where
  abbrev p : List Command
  p = lines b

  abbrev p⁺ : List Command
  p⁺ = lines b ++ q

  -- At its lines the same pairs are open, so opening lines and depths are the same
  open_same : (n : ℕ) (c : Command) → at p n ≡ some c → open_at p⁺ n ≡ open_at p n
  unfolding open_at
  open_same n c e =
      let inside : (0 < n) × (n ≤ length p) = at-within p n c e in
      ap (λ l. S.open_after l 1 []) (take_left p q (pred n) (omega (arith, inside.1)))

  opening-same : (n : ℕ) (c : Command) → at p n ≡ some c → opening p⁺ n ≡ opening p n
  unfolding opening
  opening-same n c e = ap innermost (open_same n c e)

  depth_same : (n : ℕ) (c : Command) → at p n ≡ some c → depth p⁺ n ≡ depth p n
  unfolding depth
  depth_same n c e = ap loops (open_same n c e)

  -- and each of its pairs stands in both programs, so closing lines are the same
  abbrev Both : ℕ → Block → Type 0
  Both n x = Stands (lines b) n x × Stands (lines b ++ q) n x

  both_inherited : Inherited Both
  both_inherited =
      let i : Inherited (Stands p) = stands_inherited p in
      let i⁺ : Inherited (Stands p⁺) = stands_inherited p⁺ in
      record {
        rest = λ n c x h. (i.rest n c x h.0, i⁺.rest n c x h.1);
        body = λ n k j y x h. (i.body n k j y x h.0, i⁺.body n k j y x h.1);
        next = λ n k j y x h. (i.next n k j y x h.0, i⁺.next n k j y x h.1);
      }

  closing_same : (n : ℕ) (k : Kind) (i : ℕ) → at p n ≡ some (opens k i) → closing p⁺ n ≡ closing p n
  closing_same n k i e =
      let whole : Both 1 b = (sits_self p, sits_left p⁺ 1 p q (sits_self p⁺)) in
      let s : Spot Both n (opens k i) = spot Both both_inherited b whole n (opens k i) e in
      (partners_here p⁺ n k i s.0 s.1 s.2.1).closing_is ∙ sym (partners_here p n k i s.0 s.1 s.2.0).closing_is

  perform-same : (room : Room) (s : State) (c : Command) → at p s.line ≡ some c → S.perform room p⁺ s c ≡ S.perform room p s c
  perform-same room s (plain (clear i)) e = refl
  perform-same room s (plain (increment i)) e = refl
  perform-same room s (plain (copy i j)) e = refl
  perform-same room s (opens loop i) e = go (s.values i)
    where
      go : (k : ℕ) → some (begin_loop p⁺ s k) ≡ some (begin_loop p s k)
      go zero = ap {B = Option State} (λ n. some (go_to s (suc n))) (closing_same s.line loop i e)
      go (suc k) = ap {B = Option State} (λ d. some (set_passes s d (suc k) (suc s.line))) (depth_same s.line (opens loop i) e)
  perform-same room s (opens while i) e = go (s.values i)
    where
      go : (k : ℕ) → some (begin_while p⁺ s k) ≡ some (begin_while p s k)
      go zero = ap {B = Option State} (λ n. some (go_to s (suc n))) (closing_same s.line while i e)
      go (suc k) = refl
  perform-same room s (closes loop i) e = rw (depth_same s.line (closes loop i) e) (go (passes_after p s))
    where
      go : (k : ℕ) → some (end_loop p⁺ s k) ≡ some (end_loop p s k)
      go zero = rw (depth_same s.line (closes loop i) e) refl
      go (suc k) = rw (depth_same s.line (closes loop i) e) (rw (opening-same s.line (closes loop i) e) refl)
  perform-same room s (closes while i) e = ap {B = Option State} (λ n. some (go_to s n)) (opening-same s.line (closes while i) e)

  step_same : (room : Room) (s : State) (c : Command) → at p s.line ≡ some c → S.step room p⁺ s ≡ S.step room p s
  unfolding S.step
  step_same room s c e =
      ap (λ o. and_then o (S.perform room p⁺ s)) (at_left p q s.line c e)
      ∙ (perform-same room s c e ∙ sym (ap (λ o. and_then o (S.perform room p s)) e))

  command_charge-same : (s : State) (c : Command) → at p s.line ≡ some c → command_charge p⁺ s c ≡ command_charge p s c
  command_charge-same s (plain (clear i)) e = refl
  command_charge-same s (plain (increment i)) e = refl
  command_charge-same s (plain (copy i j)) e = refl
  command_charge-same s (opens loop i) e = refl
  command_charge-same s (opens while i) e = refl
  command_charge-same s (closes while i) e = refl
  command_charge-same s (closes loop i) e =
      ap (λ d. endloop_charge (pred (s.passes (pred d)))) (depth_same s.line (closes loop i) e)

  charge-same : (s : State) (c : Command) → at p s.line ≡ some c → charge p⁺ s ≡ charge p s
  unfolding charge
  charge-same s c e =
      ap (λ o. default 0 (map (command_charge p⁺ s) o)) (at_left p q s.line c e)
      ∙ (command_charge-same s c e ∙ sym (ap (λ o. default 0 (map (command_charge p s) o)) e))

  -- Where the program has a step, the longer one has that step, at that charge
  same_step : (room : Room) (s t : State) → S.step room (lines b) s ≡ some t
      → (S.step room (lines b ++ q) s ≡ some t) × (charge (lines b ++ q) s ≡ charge (lines b) s)
  unfolding S.step
  same_step room s t e = go (at p s.line) refl e
    where
      go : (o : Option Command) → at p s.line ≡ o → and_then o (S.perform room p s) ≡ some t
          → (S.step room p⁺ s ≡ some t) × (charge p⁺ s ≡ charge p s)
      go none x f = absurd (none-ne-some t f)
      go (some c) x f = (step_same room s c x ∙ e, charge-same s c x)

  -- So its runs are runs of the longer one
  pub runs_on : (room : Room) {s t : State} {c : ℕ} → Goes (S.step room (lines b)) (charge (lines b)) s c t
      → Goes (S.step room (lines b ++ q)) (charge (lines b ++ q)) s c t
  runs_on room stay = stay
  runs_on room {t = t} (move {s} {s'} {m} e g) =
      let same : _ = same_step room s s' e in
      subst (λ k. Goes (S.step room p⁺) (charge p⁺) s (k + m) t) same.1 (move same.0 (runs_on room g))

  -- and where the longer one comes to a stop, so does it
  abbrev pub Stops : Room → State → Type 0
  Stops room s = (c : ℕ) × (u : State) × Goes (S.step room (lines b)) (charge (lines b)) s c u × (S.step room (lines b) u ≡ none)

  pub stops_too : (room : Room) {s t : State} {c : ℕ} → Goes (S.step room (lines b ++ q)) (charge (lines b ++ q)) s c t
      → S.step room (lines b ++ q) t ≡ none → Stops room s
  stops_too room {s} stay h = go (S.step room p s) refl
    where
      go : (o : Option State) → S.step room p s ≡ o → Stops room s
      go none e = (0, s, stay, e)
      go (some u) e = absurd (none-ne-some u (sym h ∙ (same_step room s u e).0))
  stops_too room (move {s} {s'} x g) h = go (S.step room p s) refl (stops_too room g h)
    where
      go : (o : Option State) → S.step room p s ≡ o → Stops room s' → Stops room s
      go none e r = (0, s, stay, e)
      go (some u) e r =
          let same : u ≡ s' = some-injective u s' (sym (same_step room s u e).0 ∙ x) in
          (charge p s + r.0, r.1, move (e ∙ ap {B = Option State} some same) r.2, r.3)
