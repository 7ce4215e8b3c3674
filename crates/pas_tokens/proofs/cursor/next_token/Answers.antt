use Rattle.std.proofs.Common.{◌∙◌, ap, sym, drop, arith, Err, Ok, [], ◌∷◌}
use Rattle.std.proofs.lemmas.List.{take_rest}
use Rattle.wb_base.specs.Steps.{followed_by}
use Rattle.pas_tokens.specs.inner.CodeCuts.{payload_by}
use Rattle.pas_tokens.specs.inner.Places.{tokens_on}
use Rattle.pas_tokens.proofs.WalkLemmas.{step_passes, step_holds, step_shows, step_end}
use Rattle.pas_tokens.proofs.cursor.next_token.Goals as goal

pub loop-point-preserved : goal.loop-point-preserved
loop-point-preserved c =
    let text = c.args.text.now in
    let point = c.loop-point.point in record {
      place = c.point_behind-point.ensures.place;
      further = omega (arith, c.point_behind-point.ensures.before, c.loop-point.invariant.further);
      same =
          ap (λ n. tokens_on text (drop n text)) c.point_behind-point.ensures.before
          ∙ step_passes text _ point.before c.in-Passes.size (omega arith) (take_rest text point.before)
          c.in-Passes.ensures.value
          ∙ c.loop-point.invariant.same;
    }

pub returns-in-Holds-clause-token : goal.returns-in-Holds-clause-token
returns-in-Holds-clause-token c =
    let text = c.args.text.now in
    let point = c.loop-point.point in record {
      place = c.point_behind.ensures.place;
      further = omega (
        arith,
        c.point_behind.ensures.before,
        c.loop-point.invariant.further,
        c.in-Holds.ensures.fits.some,
      );
      tokens =
          sym c.loop-point.invariant.same
          ∙ step_holds text _ point.before point.line c.in-Holds.cut (omega arith) (take_rest text point.before)
          c.loop-point.invariant.place.line c.in-Holds.ensures.value
          ∙ ap (λ n. followed_by (record {
            kind = c.in-Holds.cut.kind;
            payload = payload_by c.in-Holds.cut.kind c.in-Holds.cut.payload;
            line = point.line;
          } ∷ []) (tokens_on text (drop n text))) (sym c.point_behind.ensures.before);
    }

pub returns-in-Shows-clause-fault : goal.returns-in-Shows-clause-fault
returns-in-Shows-clause-fault c =
    let text = c.args.text.now in
    let point = c.loop-point.point in
    sym c.loop-point.invariant.same
    ∙ step_shows text _ point.before point.line c.in-Shows.wrong (omega arith) (take_rest text point.before)
    c.loop-point.invariant.place.line c.in-Shows.ensures.value
    ∙ ap Err (sym c.fault_in.ensures)

pub returns-clause-token : goal.returns-clause-token
returns-clause-token c =
    sym c.loop-point.invariant.same ∙ step_end c.args.text.now c.loop-point.point.before (omega arith)
    ∙ ap (λ t. Ok (t ∷ [])) (sym c.end_token.ensures)
