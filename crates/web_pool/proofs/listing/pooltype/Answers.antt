use Rattle.std.proofs.Common.{◌≡◌, Some, None, sym, ap, ◌∙◌, subst}
use Rattle.wb_base.specs.FaultAt.{limit_passed}
use Rattle.wb_base.specs.declared.faults.TheConstants.{LIMIT_FILE_BYTES}
use Rattle.wb_ports.specs.Held.{Gains, GainsPrefix}
use Rattle.wb_ports.proofs.HeldLemmas.{gains_nothing}
use Rattle.web_pool.specs.Listing.{Listing}
use Rattle.web_pool.specs.PoolLines.{read_pool}
use Rattle.web_pool.proofs.EntriesLemmas.{listing-fits, listing-too_long, listing_of-some}
use Rattle.web_pool.proofs.listing.pooltype.Goals as goal

-- nothing is printed of a pool with too many bytes
pub returns-then-pool-gt-FILE_LIMIT-clause-lists : goal.returns-then-pool-gt-FILE_LIMIT-clause-lists
returns-then-pool-gt-FILE_LIMIT-clause-lists g c =
    let too_long = listing-too_long c.args.pool.now c.if-pool-gt-FILE_LIMIT.true in (
      ap (λ (l : Listing). l.fault) too_long
          ∙ ap Some (sym (c.limit.ensures ∙ ap (limit_passed LIMIT_FILE_BYTES) c.pool_place.ensures)),
      subst (λ (l : Listing). Gains l.text (g.K.Sink.held c.args.sink.now) (g.K.Sink.held c.args.sink.now))
          (sym too_long)
          (gains_nothing _),
    )

pub returns-in-Ok-Ok-clause-lists : goal.returns-in-Ok-Ok-clause-lists
returns-in-Ok-Ok-clause-lists g c =
    let fits = listing-fits c.args.pool.now c.if-pool-gt-FILE_LIMIT.false in
    let ended : (read_pool c.args.pool.now).fault ≡ None = rw c.in-Ok-Ok.field-0-is at c.in-Ok-Ok.ensures.ended in (
      ap (λ (l : Listing). l.fault) fits ∙ ended,
      subst (λ (l : Listing). Gains l.text (g.K.Sink.held c.args.sink.now) (g.K.Sink.held c.list_all.new.sink))
          (sym fits)
          c.in-Ok-Ok.ensures.ok,
    )

pub returns-in-Ok-Err-clause-lists : goal.returns-in-Ok-Err-clause-lists
returns-in-Ok-Err-clause-lists g c =
    let fits = listing-fits c.args.pool.now c.if-pool-gt-FILE_LIMIT.false in
    let ended : (read_pool c.args.pool.now).fault ≡ Some c.in-Ok-Err.fault =
    rw c.in-Ok-Err.field-0-is at c.in-Ok-Err.ensures.ended in (
      ap (λ (l : Listing). l.fault) fits ∙ ended,
      subst (λ (l : Listing). Gains l.text (g.K.Sink.held c.args.sink.now) (g.K.Sink.held c.list_all.new.sink))
          (sym fits)
          c.in-Ok-Err.ensures.ok,
    )

pub returns-in-Err-clause-lists : goal.returns-in-Err-clause-lists
returns-in-Err-clause-lists g c =
    let fits = listing-fits c.args.pool.now c.if-pool-gt-FILE_LIMIT.false in (
      λ none. listing_of-some (read_pool c.args.pool.now) (ap (λ (l : Listing). l.text) (sym fits) ∙ none),
      subst (λ (l : Listing). GainsPrefix l.text (g.K.Sink.held c.args.sink.now) (g.K.Sink.held c.list_all.new.sink))
          (sym fits) c.in-Err.ensures.failed,
    )
