-- Fields: a line of fields without blanks is split into them, and what is split is the line again.
use mathlib.Core.Path.{◌≡◌, refl, sym, ap, ap₂, ◌∙◌}
use mathlib.Core.Bool.{Bool, true, false, not}
use mathlib.Core.List.{List, [], ◌∷◌, ◌++◌, map}
use Prim.Native.Nat.{ℕ}
use lib.Dec.{eqb}
use borrow.Author.Tests.{eqb-true, not-true}
use Rattle.theory.specs.Text.{Bytes, blank, split_blanks, blanked}
use Rattle.theory.proofs.Faults.{and_first, and_second}
use Rattle.theory.proofs.Texts.{Without}

other : (b : ℕ) (f : Bytes) → Without blank (b ∷ f) → eqb b blank ≡ false
other b f h = not-true (eqb b blank) (and_first (not (eqb b blank)) _ h)

split_last : (f : Bytes) → Without blank f → split_blanks f ≡ f ∷ []
unfolding split_blanks
split_last [] h = refl
split_last (b ∷ f) h = rw (other b f h, split_last f (and_second (not (eqb b blank)) _ h))

split_field : (f t : Bytes) → Without blank f → split_blanks (f ++ (blank ∷ t)) ≡ f ∷ split_blanks t
unfolding split_blanks
split_field [] t h = refl
split_field (b ∷ f) t h = rw (other b f h, split_field f t (and_second (not (eqb b blank)) _ h))

pub split_blanked : {A : Type 0} (field : A → Bytes) → ((a : A) → Without blank (field a)) → (a : A) (l : List A)
    → split_blanks (blanked (field a) (map field l)) ≡ field a ∷ map field l
split_blanked field h a [] = split_last (field a) (h a)
split_blanked field h a (b ∷ l) =
    split_field (field a) (blanked (field b) (map field l)) (h a) ∙ ap {B = List Bytes} (λ fs. field a ∷ fs) (split_blanked field h b l)

-- There is always a field, and blanks put back between them make the line
pub record Split (t : Bytes) : Type 0 where
  pub field : Bytes
  pub others : List Bytes
  pub split : split_blanks t ≡ field ∷ others
  pub whole : blanked field others ≡ t

onto_blanked : (b : ℕ) (f : Bytes) (fs : List Bytes) → blanked (b ∷ f) fs ≡ b ∷ blanked f fs
onto_blanked b f [] = refl
onto_blanked b f (g ∷ fs) = refl

pub split_whole : (t : Bytes) → Split t
unfolding split_blanks
split_whole [] = record { field = []; others = []; split = refl; whole = refl }
split_whole (b ∷ t) = go (eqb b blank) refl (split_whole t)
  where
    go : (x : Bool) → eqb b blank ≡ x → Split t → Split (b ∷ t)
    go true e s =
        record {
          field = [];
          others = s.field ∷ s.others;
          split = rw (e, s.split);
          whole = ap₂ {C = Bytes} ◌∷◌ (sym (eqb-true b blank e)) s.whole;
        }
    go false e s =
        record {
          field = b ∷ s.field;
          others = s.others;
          split = rw (e, s.split);
          whole = onto_blanked b s.field s.others ∙ ap {B = Bytes} (λ r. b ∷ r) s.whole;
        }
