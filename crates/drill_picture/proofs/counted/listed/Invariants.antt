use Rattle.std.proofs.Common.{◌≡◌, drop, fold, length}
use Rattle.drill_picture.specs.Counted.{first_listing, listing_at}
use Rattle.drill_picture.specs.Listings.{listing_told}
use Rattle.drill_picture.proofs.counted.listed.Given as goal

abbrev pub invariant-loop-place : goal.invariant-loop-place
invariant-loop-place l =
    fold (listing_at l.traces) (listing_told l.listing) (drop l.place-index l.places)
    ≡ fold (listing_at l.traces) (first_listing (length l.traces)) l.places
