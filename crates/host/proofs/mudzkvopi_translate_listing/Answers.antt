-- `mudzkvopi_translate_listing` meets its contract, since `listings::translate` meets its own.
use mathlib.Core.Path.{◌≡◌, refl, ap, ◌∙◌}
use mathlib.Core.List.{List}
use Rattle.theory.specs.TurnedDown.{Answer, done, refused}
use Rattle.listing.specs.Listing.{Line}
use Rattle.listings.specs.Answers as Listings
use Rattle.packing.specs.Packed.{packed, listing_sizes}
use Rattle.program_packing.specs.Answered.{translated}
use Rattle.host.proofs.mudzkvopi_translate_listing.Goals as goal

packs_listing : (a : Answer (List Line)) → translated (Listings.translated a) ≡ packed listing_sizes a
unfolding packed
packs_listing (done l) = refl
packs_listing (refused r) = refl

pub returns : goal.returns
returns c =
    let made = c.translate.ensures in
    record { result = c.translated.ensures ∙ ap translated made.value ∙ packs_listing _; word_after = made.word_after }
