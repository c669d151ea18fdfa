-- What the list of counted terms keeps.
use Rattle.std.specs.Prelude.{map}
use Rattle.drill_picture.specs.declared.counted.Listing.{Listing}
use Rattle.drill_picture.specs.Counted.{ListingTold, counted_told}

abbrev pub listing_told : Listing → ListingTold
listing_told l = record { known = l.known.items; budgets = map counted_told l.found.items }
