-- A list that stands in 32 cells, as names of columns.
use mathlib.Core.Path.{◌≡◌, refl}
use mathlib.Core.Bool.{Bool, true, false, cond}
use mathlib.Core.List.{List}
use Prim.Native.Nat.{ℕ, ◌≤◌, ◌<◌}
use lib.ListN.{length}
use borrow.Author.Tests.{le-leb, lt-leb}
use Rattle.std.specs.Prelude.{None, Some}
use Rattle.std.specs.Option.{is_some}
use Rattle.columns.specs.Columns.{padded, fit_together, columns_as}
use Rattle.columns.proofs.Padded.{padded-take}

module _ (ns : List ℕ) where
  pub fit_many : (numbers : List ℕ) → 32 < length ns → is_some (columns_as (length ns) numbers) ≡ false
  unfolding columns_as
  fit_many numbers h = rw (lt-leb (length ns) 32 h)

  module _ (h : length ns ≤ 32) where
    pub fit_padded : is_some (columns_as (length ns) (padded ns)) ≡ fit_together ns
    unfolding columns_as
    fit_padded = rw (le-leb (length ns) 32 h, padded-take ns h) (told (fit_together ns))
      where
        told : (b : Bool) → is_some (cond b (Some (padded ns)) None) ≡ b
        told true = refl
        told false = refl

    pub columns-padded : fit_together ns ≡ true → columns_as (length ns) (padded ns) ≡ Some (padded ns)
    unfolding columns_as
    columns-padded e = rw (le-leb (length ns) 32 h, padded-take ns h, e)
