-- The reading undoes words: the first command of a block's code is found, and what stands behind its code is read on.
use mathlib.Core.Path.{◌≡◌, refl, sym, ap, ◌∙◌}
use mathlib.Core.Logic.{◌≢◌}
use mathlib.Core.Bool.{Bool, true, false, cond, not, ◌&&◌}
use mathlib.Core.Option.{none, some}
use mathlib.Core.List.{List, [], ◌∷◌, ◌++◌, append_assoc, append-nil}
use Prim.Native.Nat.{ℕ, zero, suc, pred, ◌+◌, ◌<◌, ◌≤◌}
use native.Mathlib.Omega.{arith}
use lib.ListN.{length, drop}
use lib.Seq.{drop-append_seam}
use lib.Dec.{eqb}
use borrow.Author.Tests.{eqb-true, eqb-false, eq-eqb, ne_eqb}
use Rattle.theory.specs.ProgramText.{Plain, clear, increment, copy, Kind, loop, while, Command, plain, opens, closes, variables}
use Rattle.theory.specs.ProgramText.{Block, empty, single, pair, lines, Opening, open_next}
use Rattle.theory.specs.Runs.{register}
use Rattle.theory.specs.Source.{deeper}
use Rattle.theory.specs.Word.{Instruction}
use Rattle.theory.specs.Translation.{scratch, counter, touching, copying, plain_code, before_body, after_body, code, word}
use Rattle.theory.proofs.Sizes.{variables-append}
use Rattle.labels.specs.Reading.{shares, next, more, commands_after, program_of}
use Rattle.labels.specs.Claims.{WordsRead}

-- What follows a clear of one of the first K variables is no rest of a copy into it
NoShare : ℕ → List Instruction → Type 0
NoShare K w = (i : ℕ) → i < K → shares (register i) w ≡ false

and_false : (x y : Bool) → y ≡ false → (x && y) ≡ false
and_false true y e = e
and_false false y e = refl

not_both : (x : Bool) → (x && not x) ≡ false
not_both true = refl
not_both false = refl

after_clear : (K d : ℕ) (b : Block) (w : List Instruction) → NoShare K w → NoShare K (code K d b ++ w)
unfolding code NoShare
after_clear K d empty w h i l = h i l
after_clear K d (single (clear j) b) w h i l = refl
after_clear K d (single (increment j) b) w h i l = refl
after_clear K d (single (copy j m) b) w h i l = go (eqb j m)
  where
    go : (t : Bool)
        → shares (register i) ((cond t (touching (register m)) (copying (register m) (register j) (scratch K)) ++ code K d b) ++ w) ≡ false
    go true = refl
    go false = refl
after_clear K d (pair loop j body b) w h i l =
    ap (λ t. t && not (eqb (register j) (register i))) (ne_eqb (counter K d) (register i) λ e. omega arith)
after_clear K d (pair while j body b) w h i l =
    let own : Bool = eqb (register j) (register i) in
    and_false (eqb (length (code K d body) + 3) 4) (own && not own) (not_both own)

back : (i : ℕ) → pred (register i) ≡ i
back i = omega arith

-- The command whose code begins here, of a plain line and of a pair
plain_next : (K : ℕ) (c : Plain) (os : List Opening) (w : List Instruction) → variables (plain c ∷ []) ≤ K → NoShare K w
    → next os (plain_code K c ++ w) ≡ some (plain c)
unfolding next NoShare
plain_next K (clear i) os w l h = rw (h i (omega arith), back i)
plain_next K (increment i) os w l h = rw (back i)
plain_next K (copy i j) os w l h = go (eqb i j) refl
  where
    go : (t : Bool) → eqb i j ≡ t
        → next os (cond t (touching (register j)) (copying (register j) (register i) (scratch K)) ++ w) ≡ some (plain (copy i j))
    go true e = rw (back j, eqb-true i j e)
    go false e =
        let ne : i ≢ j = eqb-false i j e in
        let other : eqb (register j) (register i) ≡ false = ne_eqb (register j) (register i) (λ z. ne (omega arith)) in
        rw (eq-eqb (register i) (register i) refl, other, back i, back j)

pair-next : (K d : ℕ) (k : Kind) (i m : ℕ) (os : List Opening) (w : List Instruction) → i < K
    → next os (before_body K d k i m ++ w) ≡ some (opens k i)
unfolding next
pair-next K d loop i m os w l = rw (ne_eqb (counter K d) (register i) (λ z. omega (arith, l)), back i)
pair-next K d while i m os w l = rw (ne_eqb (m + 3) 2 (λ z. omega arith), eq-eqb (register i) (register i) refl, back i)

-- As many instructions as are passed over
plain_more : (K : ℕ) (c : Plain) → length (plain_code K c) ≡ suc (more (plain c))
plain_more K (clear i) = refl
plain_more K (increment i) = refl
plain_more K (copy i j) = go (eqb i j)
  where
    go : (t : Bool)
        → length (cond t (touching (register j)) (copying (register j) (register i) (scratch K)))
        ≡ suc (pred (length (cond t (touching (register j)) (copying (register j) (register i) (scratch 0)))))
    go true = refl
    go false = refl

pair-more : (K d : ℕ) (k : Kind) (i m : ℕ) → length (before_body K d k i m) ≡ suc (more (opens k i))
pair-more K d loop i m = refl
pair-more K d while i m = refl

-- Passing over instructions is dropping them
passed : (n : ℕ) (os : List Opening) (w : List Instruction) → commands_after n os w ≡ commands_after 0 os (drop n w)
unfolding commands_after
passed zero os w = refl
passed (suc n) os [] = refl
passed (suc n) os (i ∷ w) = passed n os w

-- A command's code f is read as the command, and then what follows it
one_read : (os : List Opening) (c : Command) (f w : List Instruction) → next os (f ++ w) ≡ some c → length f ≡ suc (more c)
    → commands_after 0 os (f ++ w) ≡ c ∷ commands_after 0 (open_next 0 os c) w
unfolding commands_after
one_read os c [] w e l = absurd (omega (arith, l))
one_read os c (i ∷ f) w e l =
    let os' : List Opening = open_next 0 os c in
    let behind : drop (more c) (f ++ w) ≡ w = ap (λ n. drop n (f ++ w)) (sym (ap pred l)) ∙ drop-append_seam f w in
    ap {B = List Command} (λ o. elim o [ none ↦ [] | some d ↦ d ∷ commands_after (more d) (open_next 0 os d) (f ++ w) ]) e
    ∙ ap {B = List Command} (λ r. c ∷ r) (passed (more c) os' (f ++ w) ∙ ap (commands_after 0 os') behind)

-- The end of a pair: it is no rest of a copy, and is read as the closing line of the innermost pair
before_end : (K : ℕ) (k : Kind) (m : ℕ) (w : List Instruction) → NoShare K (after_body k m ∷ w)
unfolding NoShare
before_end K loop m w i l = refl
before_end K while m w i l = refl

end_read : (os : List Opening) (k : Kind) (i m : ℕ) (w : List Instruction)
    → commands_after 0 (open_next 0 os (opens k i)) (after_body k m ∷ w) ≡ closes k i ∷ commands_after 0 os w
unfolding commands_after next
end_read os loop i m w = refl
end_read os while i m w = refl

-- The code of a block is read as its lines, whatever follows it and whatever is open around it
read_on : (K d : ℕ) (b : Block) (os : List Opening) (w : List Instruction) → variables (lines b) ≤ K → NoShare K w
    → commands_after 0 os (code K d b ++ w) ≡ lines b ++ commands_after 0 os w
unfolding code
read_on K d empty os w l h = refl
read_on K d (single c b) os w l h =
    let f : List Instruction = plain_code K c in
    let later : List Instruction = code K d b ++ w in
    ap (commands_after 0 os) (append_assoc f (code K d b) w)
    ∙ (one_read os (plain c) f later (plain_next K c os later (omega arith) (after_clear K d b w h)) (plain_more K c)
    ∙ ap {B = List Command} (λ r. plain c ∷ r) (read_on K d b os w (omega arith) h))
read_on K d (pair k i body b) os w l h =
    let inner : List Instruction = code K (deeper k d) body in
    let m : ℕ = length inner in
    let f : List Instruction = before_body K d k i m in
    let later : List Instruction = code K d b ++ w in
    let end : List Instruction = after_body k m ∷ later in
    let os' : List Opening = open_next 0 os (opens k i) in
    let named : _ = variables-append (lines body) (closes k i ∷ lines b) in
    let cut : code K d (pair k i body b) ++ w ≡ f ++ (inner ++ end) =
    append_assoc f (inner ++ (after_body k m ∷ code K d b)) w
    ∙ ap (λ r. f ++ r) (append_assoc inner (after_body k m ∷ code K d b) w) in
    let opening : commands_after 0 os (f ++ (inner ++ end)) ≡ opens k i ∷ commands_after 0 os' (inner ++ end) =
    one_read os (opens k i) f (inner ++ end) (pair-next K d k i m os (inner ++ end) (omega arith)) (pair-more K d k i m) in
    let within : commands_after 0 os' (inner ++ end) ≡ lines body ++ commands_after 0 os' end =
    read_on K (deeper k d) body os' end (omega (arith, named)) (before_end K k m later) in
    let rest : commands_after 0 os' end ≡ closes k i ∷ (lines b ++ commands_after 0 os w) =
    end_read os k i m later ∙ ap {B = List Command} (λ r. closes k i ∷ r) (read_on K d b os w (omega (arith, named)) h) in
    ap (commands_after 0 os) cut
    ∙ (opening
    ∙ ap {B = List Command} (λ r. opens k i ∷ r)
    (within ∙ (ap (λ r. lines body ++ r) rest ∙ sym (append_assoc (lines body) (closes k i ∷ lines b) (commands_after 0 os w)))))

pub words-read : WordsRead
unfolding word program_of commands_after NoShare
words-read b =
    let K : ℕ = variables (lines b) in
    ap (commands_after 0 []) (sym (append-nil (code K 0 b)))
    ∙ (read_on K 0 b [] [] (omega arith) (λ i h. refl) ∙ append-nil (lines b))
