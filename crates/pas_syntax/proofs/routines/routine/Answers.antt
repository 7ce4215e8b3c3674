use Rattle.std.proofs.Common.{refl, ℕ}
use Rattle.std.proofs.lemmas.Result.{err_from_is_err_and}
use Rattle.pas_tokens.specs.declared.kinds.Kind.TheVariants as k
use Rattle.pas_syntax.specs.Tree.{Heading, Body, Routine}
use Rattle.pas_syntax.specs.ProgramViews.{heading_in, body_in}
use Rattle.pas_syntax.specs.inner.DeclarationReaders.{body as body_reader}
use Rattle.pas_syntax.specs.inner.Prog.{Prog, done, bind}
use Rattle.pas_syntax.specs.inner.Marks.{mark}
use Rattle.pas_syntax.proofs.PlaceLemmas.{returned, stops}
use Rattle.pas_syntax.proofs.PlaceSteps.{from_here, and_then, stopped, read}
use Rattle.pas_syntax.proofs.routines.routine.Goals as goal

-- what is read behind each part
abbrev made : Heading → ℕ → Body → ℕ → Prog Routine
made heading behind_heading body end =
    done (record { heading = heading; behind_heading = behind_heading; body = body; end = end })

abbrev after_body : Heading → ℕ → ℕ → Body → Prog Routine
after_body heading behind_heading m body = bind (mark k.Semicolon) (made heading behind_heading body)

abbrev after_behind_heading : Heading → ℕ → ℕ → Prog Routine
after_behind_heading heading m behind_heading = bind (body_reader m) (after_body heading behind_heading m)

abbrev after_heading : ℕ → Heading → Prog Routine
after_heading m heading = bind (mark k.Semicolon) (after_behind_heading heading m)

pub returns-in_err-heading : goal.returns-in_err-heading
returns-in_err-heading c =
    returned (err_from_is_err_and _ c.from_residual.ensures.1)
    (stops after_heading c.in_err-heading.ensures)

pub returns-in_err-behind_heading : goal.returns-in_err-behind_heading
returns-in_err-behind_heading c =
    let s = c.args.reader.now.spellings in
    let heading = heading_in s c.in_ok-heading.heading in
    from_here (and_then after_heading c.in_ok-heading.ensures
    (stopped (after_behind_heading heading) c.from_residual-in_err-behind_heading.result c.in_err-behind_heading.ensures
    c.from_residual-in_err-behind_heading.ensures.1))

pub returns-in_err-body : goal.returns-in_err-body
returns-in_err-body c =
    let s = c.args.reader.now.spellings in
    let heading = heading_in s c.in_ok-heading.heading in
    let behind_heading = c.in_ok-behind_heading.behind_heading in
    from_here (and_then after_heading c.in_ok-heading.ensures
    (and_then (after_behind_heading heading) c.in_ok-behind_heading.ensures
    (stopped (after_body heading behind_heading) c.from_residual-in_err-body.result c.in_err-body.ensures
    c.from_residual-in_err-body.ensures.1)))

pub returns-in_err-end : goal.returns-in_err-end
returns-in_err-end c =
    let s = c.args.reader.now.spellings in
    let heading = heading_in s c.in_ok-heading.heading in
    let behind_heading = c.in_ok-behind_heading.behind_heading in
    let body = body_in s c.in_ok-body.body in
    from_here (and_then after_heading c.in_ok-heading.ensures
    (and_then (after_behind_heading heading) c.in_ok-behind_heading.ensures
    (and_then (after_body heading behind_heading) c.in_ok-body.ensures
    (stopped (λ m. made heading behind_heading body) c.from_residual-in_err-end.result c.in_err-end.ensures
    c.from_residual-in_err-end.ensures.1))))

pub returns : goal.returns
returns c =
    let s = c.args.reader.now.spellings in
    let heading = heading_in s c.in_ok-heading.heading in
    let behind_heading = c.in_ok-behind_heading.behind_heading in
    let body = body_in s c.in_ok-body.body in
    from_here (and_then after_heading c.in_ok-heading.ensures
    (and_then (after_behind_heading heading) c.in_ok-behind_heading.ensures
    (and_then (after_body heading behind_heading) c.in_ok-body.ensures
    (and_then (λ m. made heading behind_heading body) c.in_ok-end.ensures
    (read refl)))))
