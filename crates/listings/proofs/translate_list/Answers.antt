-- `translate_list` meets its contract: the table, and then its word.
use mathlib.Core.Path.{refl}
use mathlib.Core.List.{List}
use Prim.Native.Nat.{ℕ}
use lib.ListN.{replicate}
use Rattle.theory.proofs.PassedOn.{passed_on}
use Rattle.listing_table.specs.Tables.{most_entries}
use Rattle.listings.proofs.Answering.{list_refused, list_room, list_answered}
use Rattle.listings.proofs.translate_list.Goals as goal

-- What the lists hold at first
abbrev fresh : List ℕ
fresh = replicate most_entries 0

pub write_table-requires : goal.write_table-requires
write_table-requires c =
    let a = c.args in
    list_room a.word.now a.list.now fresh fresh c.fill.ensures
    c.in_ok-count.was refl refl

pub returns-in_err-count : goal.returns-in_err-count
returns-in_err-count c =
    let a = c.args in
    rw (passed_on _ c.from_residual.ensures) (list_refused a.word.now a.list.now fresh fresh c.fill.ensures c.in_err-count.was)

pub returns : goal.returns
returns c =
    let a = c.args in
    list_answered a.word.now a.list.now fresh fresh c.fill.ensures
    c.in_ok-count.was refl refl c.write_table.ensures
