use Rattle.web2c_cli.proofs.ListingLemmas.{listing_done, listing_refused}
use Rattle.web2c_cli.proofs.pool_listing.print_listing.Goals as goal

pub returns-in_err-pooltype-clause-work : goal.returns-in_err-pooltype-clause-work
returns-in_err-pooltype-clause-work g c =
    listing_refused _ c.in_err-pooltype.field-0.0 _ _ _ c.from_residual.ensures.1 c.in_err-pooltype.ensures.lists

pub returns-clause-work : goal.returns-clause-work
returns-clause-work g c = listing_done _ _ _ c.in_ok-pooltype.ensures.lists
