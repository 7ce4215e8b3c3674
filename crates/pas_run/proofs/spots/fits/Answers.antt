use Rattle.std.proofs.Common.{ap, subst, sym}
use Rattle.std.proofs.Math.Facts.{to_z-of_z}
use Rattle.pas_typed.specs.TypeViews.{table_view, range_view, type_view}
use Rattle.pas_meaning.specs.declared.errors.TheConstants.{OUT_OF_RANGE}
use Rattle.pas_meaning.specs.Store.{holds, in_range}
use Rattle.pas_run.specs.inner.Doings.{Same, Answers}
use Rattle.pas_run.proofs.SpotLemmas.{fits_some, fits_none}
use Rattle.pas_run.proofs.spots.fits.Goals as goal

pub returns-in-Some-clause-number : goal.returns-in-Some-clause-number
returns-in-Some-clause-number c =
    let spellings = c.args.scene.program.now.spellings in
    fits_some (table_view spellings c.args.scene.program.now.types) (type_view c.args.pas_type)
    (range_view c.in-Some.range) c.args.number c.in_range.result (c.in-Some.ensures spellings)
    (subst (λ number. Answers Same (in_range OUT_OF_RANGE (range_view c.in-Some.range) number) c.in_range.result)
    (to_z-of_z c.ranges.number) c.in_range.ensures.number)

pub returns-in-None-clause-number : goal.returns-in-None-clause-number
returns-in-None-clause-number c =
    let spellings = c.args.scene.program.now.spellings in (
      holds c.args.number,
      fits_none (table_view spellings c.args.scene.program.now.types) (type_view c.args.pas_type) c.args.number
          (c.in-None.ensures spellings),
      sym (ap holds (to_z-of_z c.ranges.number)),
    )
