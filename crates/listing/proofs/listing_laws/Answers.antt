-- The laws of `Laws`.
use Rattle.listing.proofs.Laws.{listing_laws}
use Rattle.listing.proofs.listing_laws.Goals as goal

pub returns : goal.returns
returns c = listing_laws
