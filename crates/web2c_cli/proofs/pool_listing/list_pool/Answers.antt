use Rattle.std.proofs.Common.{List, ℕ, ap, sym}
use Rattle.web_pool.specs.Listing.{listing}
use Rattle.web2c_cli.specs.Program.{refused, printing_listing}
use Rattle.web2c_cli.proofs.ListingLemmas.{goes_then}
use Rattle.tangle_core.proofs.ReachingLemmas.{rest_is}
use Rattle.web2c_cli.proofs.pool_listing.list_pool.Goals as goal

pub returns-clause-work : goal.returns-clause-work
returns-clause-work g c ports order =
    goes_then (refused order) _ _ _ _ _ _ _ _
    (rest_is _ _ _ _ _ (ap (λ (bytes : List ℕ). printing_listing order (listing bytes)) (sym c.bytes.ensures))
    (c.in_ok-pool.ensures.work (λ bytes. printing_listing order (listing bytes)) (g.K.Sink.held c.args.con.now) ports))
    (c.print_listing.ensures.work order _ _ ports)
