-- A block of LOOP pairs alone comes to its end, wherever it stands in a program: by its structure, and within a loop by the passes left.
use mathlib.Core.Path.{◌≡◌, refl, sym, ap, ◌∙◌, subst}
use mathlib.Core.Option.{some}
use mathlib.Core.List.{List, ◌∷◌}
use Prim.Native.Nat.{ℕ, zero, suc, pred, ◌+◌, ◌<◌}
use native.Mathlib.Nat.{add-zero}
use native.Mathlib.Omega.{arith}
use lib.ListN.{length, length-append}
use Rattle.theory.specs.Basics.{at, put}
use Rattle.theory.specs.Runs.{unlimited, stay, move}
use Rattle.theory.specs.ProgramText.{Plain, clear, increment, copy, loop, while, Command, plain, opens, closes}
use Rattle.theory.specs.ProgramText.{Block, empty, single, pair, lines}
use Rattle.theory.specs.Source as S
use Rattle.theory.specs.Source.{State, set_variable, begin_loop, end_loop, depth, depth_closing, closing, opening, passes_after}
use Rattle.theory.specs.Translation.{charge}
use Rattle.theory.specs.Claims.{SourceRun}
use Rattle.theory.proofs.Cells.{put_same, put_other}
use Rattle.theory.proofs.Joins.{join}
use Rattle.theory.proofs.Partners.{Partners, Stands, partners_here, body_lines, close_lines, plain_depth, slide}
use Rattle.halting.specs.Claims.{Loops}

-- The run from s, at line n, comes to line e; the passes left of the loops around line n are then as they were
pub record Comes (p : List Command) (n : ℕ) (s : State) (e : ℕ) : Type 0 where
  pub cost : ℕ
  pub last : State
  pub goes : SourceRun p s cost last
  pub there : last.line ≡ e
  pub kept : (d : ℕ) → d < depth p n → last.passes d ≡ s.passes d

-- The run from s, in the body of the loop that lines n and c open and close, does the pass and the `endloop`, which leaves k passes.
-- Whatever is put there for the passes left of this loop, those of the loops around it are as they were
record Passed (p : List Command) (n c k : ℕ) (s : State) : Type 0 where
  cost : ℕ
  before : State
  goes : SourceRun p s cost (end_loop p before k)
  closes_here : before.line ≡ c
  own : depth_closing p before.line ≡ depth p n
  kept : (d x : ℕ) → d < depth p n → put before.passes (depth_closing p before.line) x d ≡ s.passes d

while_no_loop : while ≡ loop → ⊥
while_no_loop e = let y : ◌≡◌ {A = ℕ} 0 1 = cc in omega arith

module _ (p : List Command) where
  step_is : (s t : State) (c : Command) → at p s.line ≡ some c → S.perform unlimited p s c ≡ some t → S.step unlimited p s ≡ some t
  unfolding S.step
  step_is s t c e f = rw e f

  -- One step, and one run after another
  abbrev single_step : (n e : ℕ) (s t : State) → S.step unlimited p s ≡ some t → t.line ≡ e
      → ((d : ℕ) → d < depth p n → t.passes d ≡ s.passes d) → Comes p n s e
  single_step n e s t x l k = record { cost = charge p s + 0; last = t; goes = move x stay; there = l; kept = k }

  onward : (n n' e f : ℕ) (s : State) → depth p n ≡ depth p n' → (c : Comes p n s e) → Comes p n' c.last f → Comes p n s f
  onward n n' e f s same c r = record {
    cost = c.cost + r.cost;
    last = r.last;
    goes = join c.goes r.goes;
    there = r.there;
    kept = λ d l. r.kept d (omega arith) ∙ c.kept d l;
  }

  plain_comes : (n : ℕ) (s : State) (c : Plain) → at p n ≡ some (plain c) → s.line ≡ n → Comes p n s (suc n)
  plain_comes n s c h e = go c (ap (at p) e ∙ h)
    where
      sets : (i x : ℕ) → S.step unlimited p s ≡ some (set_variable s i x) → Comes p n s (suc n)
      sets i x f = single_step n (suc n) s (set_variable s i x) f (ap suc e) (λ d l. refl)

      go : (c : Plain) → at p s.line ≡ some (plain c) → Comes p n s (suc n)
      go (clear i) f = sets i 0 (step_is s _ _ f refl)
      go (increment i) f = sets i (suc (s.values i)) (step_is s _ _ f refl)
      go (copy i j) f = sets i (s.values j) (step_is s _ _ f refl)

  -- A loop whose body comes to its end
  module _ (n : ℕ) (i : ℕ) (body b : Block) (h : Stands p n (pair loop i body b)) where
    abbrev c : ℕ
    c = suc n + length (lines body)

    abbrev P : Partners p n c loop i
    P = partners_here p n loop i body b h

    module _ (rec : (s : State) → s.line ≡ suc n → Comes p (suc n) s c) where
      one_pass : (k : ℕ) (s : State) → s.line ≡ suc n → s.passes (depth p n) ≡ suc k → Passed p n c k s
      one_pass k s e q =
          let r : Comes p (suc n) s c = rec s e in
          let t : State = r.last in
          let at_close : at p t.line ≡ some (closes loop i) = ap (at p) r.there ∙ P.close_line in
          let own : depth_closing p t.line ≡ depth p n = ap (depth_closing p) r.there ∙ ap pred P.close_depth in
          let left : passes_after p t ≡ k = ap pred (ap t.passes own ∙ (r.kept (depth p n) (omega (arith, P.body_depth)) ∙ q)) in
          let stepped : S.step unlimited p t ≡ some (end_loop p t k) =
          step_is t (end_loop p t k) (closes loop i) at_close (ap (λ x. some (end_loop p t x)) left) in
          record {
            cost = r.cost + (charge p t + 0);
            before = t;
            goes = join r.goes (move stepped stay);
            closes_here = r.there;
            own = own;
            kept = λ d x l.
                put_other t.passes (depth_closing p t.line) x d (omega (arith, own)) ∙ r.kept d (omega (arith, P.body_depth));
          }

      -- From the first line of the body, with k + 1 passes left
      passes_on : (k : ℕ) (s : State) → s.line ≡ suc n → s.passes (depth p n) ≡ suc k → Comes p n s (suc c)
      passes_on zero s e q =
          let o : Passed p n c 0 s = one_pass 0 s e q in
          record {
            cost = o.cost;
            last = end_loop p o.before 0;
            goes = o.goes;
            there = ap suc o.closes_here;
            kept = λ d l. o.kept d 0 l;
          }
      passes_on (suc k) s e q =
          let o : Passed p n c (suc k) s = one_pass (suc k) s e q in
          let t : State = o.before in
          let u : State = end_loop p t (suc k) in
          let first : u.line ≡ suc n = ap suc (ap (opening p) o.closes_here ∙ P.opening_is) in
          let left : u.passes (depth p n) ≡ suc k =
          ap u.passes (sym o.own) ∙ put_same t.passes (depth_closing p t.line) (suc k) in
          let pass : Comes p n s (suc n) =
          record { cost = o.cost; last = u; goes = o.goes; there = first; kept = λ d l. o.kept d (suc k) l } in
          onward n n (suc n) (suc c) s refl pass (passes_on k u first left)

      -- The loop from its `loop` line
      loop_comes : (s : State) → s.line ≡ n → Comes p n s (suc c)
      loop_comes s e = go (s.values i) refl
        where
          begins : (k : ℕ) → s.values i ≡ k → S.step unlimited p s ≡ some (begin_loop p s k)
          begins k q = step_is s _ (opens loop i) (ap (at p) e ∙ P.open_line) (ap (λ y. some (begin_loop p s y)) q)

          go : (k : ℕ) → s.values i ≡ k → Comes p n s (suc c)
          go zero q = single_step n (suc c) s (begin_loop p s 0) (begins 0 q) (ap suc (ap (closing p) e ∙ P.closing_is)) (λ d l. refl)
          go (suc k) q =
              let t : State = begin_loop p s (suc k) in
              let own : depth p s.line ≡ depth p n = ap (depth p) e in
              let left : t.passes (depth p n) ≡ suc k = ap t.passes (sym own) ∙ put_same s.passes (depth p s.line) (suc k) in
              let first : Comes p n s (suc n) =
              single_step n (suc n) s t (begins (suc k) q) (ap suc e)
              (λ d l. put_other s.passes (depth p s.line) (suc k) d (omega (arith, own))) in
              onward n n (suc n) (suc c) s refl first (passes_on k t (ap suc e) left)

  pub comes : (b : Block) → Loops b → (n : ℕ) → Stands p n b → (s : State) → s.line ≡ n → Comes p n s (n + length (lines b))
  comes empty h n st s e = record { cost = 0; last = s; goes = stay; there = e ∙ sym (add-zero n); kept = λ d l. refl }
  comes (single x b) h n st s e =
      let first : Comes p n s (suc n) = plain_comes n s x st.0 e in
      let rest : Comes p (suc n) first.last (suc n + length (lines b)) = comes b h (suc n) st.1 first.last first.there in
      rw slide (onward n (suc n) (suc n) (suc n + length (lines b)) s (sym (plain_depth p n x st.0)) first rest)
  comes (pair while i body b) h n st s e = absurd (while_no_loop h.0)
  comes (pair loop i body b) h n st s e =
      let c : ℕ = suc n + length (lines body) in
      let whole : Comes p n s (suc c) = loop_comes n i body b st (comes body h.1 (suc n) (body_lines p n loop i body b st)) s e in
      let rest : Comes p (suc c) whole.last (suc c + length (lines b)) =
      comes b h.2 (suc c) (close_lines p n loop i body b st).1 whole.last whole.there in
      let all : Comes p n s (suc c + length (lines b)) =
      onward n (suc c) (suc c) (suc c + length (lines b)) s (sym (partners_here p n loop i body b st).after-depth) whole rest in
      let size : suc c + length (lines b) ≡ n + length (lines (pair loop i body b)) =
      omega (arith, length-append (lines body) (closes loop i ∷ lines b)) in
      subst (Comes p n s) size all
