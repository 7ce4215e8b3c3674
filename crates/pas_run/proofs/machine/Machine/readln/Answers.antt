use Rattle.std.proofs.Common.{refl, Ok, Err, ◌∙◌}
use Rattle.std.proofs.lemmas.Result.{err_from_is_err_and}
use Rattle.pas_meaning.specs.Files as files
use Rattle.pas_meaning.specs.FileSteps.{change_file}
use Rattle.pas_run.specs.inner.Doings.{Any}
use Rattle.pas_run.proofs.DoesLemmas.{does_early}
use Rattle.pas_run.proofs.RunningLemmas.{leads_same, leads_on}
use Rattle.pas_run.proofs.LineLemmas.{same_many, line_unknown, byte_not_got, line_passed, line_goes_on}
use Rattle.pas_run.proofs.machine.Machine.readln.Goals as goal

pub eoln-requires : goal.eoln-requires
eoln-requires g c = same_many c.args.file c.args.self.now.files c.loop.self.files c.loop.invariant.0 c.requires

pub get-requires : goal.get-requires
get-requires g c =
    same_many c.args.file c.args.self.now.files c.eoln.new.self.files
    (c.in_ok-at_end.ensures.cause ∙ c.loop.invariant.0) c.requires

pub loop-init : goal.loop-init
loop-init g c = (refl, λ kinds. leads_same {T = Unit {0}} kinds Any _ c.args.self.now)

pub loop-preserved : goal.loop-preserved
loop-preserved g c = (
  c.in_ok-get.ensures.cause ∙ c.in_ok-at_end.ensures.cause ∙ c.loop.invariant.0,
  λ kinds. leads_on {T = Unit {0}} (c.loop.invariant.1 kinds)
      (line_goes_on kinds c.args.file c.loop.self
      (same_many c.args.file c.args.self.now.files c.loop.self.files c.loop.invariant.0 c.requires) c.eoln.new.self
      c.in_ok-at_end.at_end (λ most. c.in_ok-at_end.ensures.does most kinds) c.get.new.self
      (λ most. c.in_ok-get.ensures.does most kinds) c.if-at_end.false),
)

pub returns-in_err-at_end-clause-does : goal.returns-in_err-at_end-clause-does
returns-in_err-at_end-clause-does g c most kinds =
    does_early most kinds kinds Any (change_file c.args.file files.readln) c.args.self.now c.eoln.new.self
    c.in_err-at_end.field-0.0 c.from_residual.result (err_from_is_err_and _ c.from_residual.ensures.1)
    ((c.loop.invariant.1 kinds).each c.eoln.new.self (Err c.in_err-at_end.field-0.0)
    (λ most. line_unknown kinds c.args.file c.loop.self
    (same_many c.args.file c.args.self.now.files c.loop.self.files c.loop.invariant.0 c.requires) most c.eoln.new.self
    c.in_err-at_end.field-0.0 (c.in_err-at_end.ensures.does most kinds)) most)

pub returns-in_err-get-clause-does : goal.returns-in_err-get-clause-does
returns-in_err-get-clause-does g c most kinds =
    does_early most kinds kinds Any (change_file c.args.file files.readln) c.args.self.now c.get.new.self
    c.in_err-get.field-0.0 c.from_residual-in_err-get.result
    (err_from_is_err_and _ c.from_residual-in_err-get.ensures.1)
    ((c.loop.invariant.1 kinds).each c.get.new.self (Err c.in_err-get.field-0.0)
    (λ most. byte_not_got kinds c.args.file c.loop.self
    (same_many c.args.file c.args.self.now.files c.loop.self.files c.loop.invariant.0 c.requires) c.eoln.new.self
    c.in_ok-at_end.at_end (λ most. c.in_ok-at_end.ensures.does most kinds) most c.get.new.self
    c.in_err-get.field-0.0 (c.in_err-get.ensures.does most kinds)) most)

pub returns-then-at_end-clause-does : goal.returns-then-at_end-clause-does
returns-then-at_end-clause-does g c most kinds =
    (c.loop.invariant.1 kinds).each c.get.new.self (Ok (tt {0}))
    (λ most. line_passed kinds c.args.file c.loop.self
    (same_many c.args.file c.args.self.now.files c.loop.self.files c.loop.invariant.0 c.requires) c.eoln.new.self
    c.in_ok-at_end.at_end (λ most. c.in_ok-at_end.ensures.does most kinds) c.get.new.self
    (λ most. c.in_ok-get.ensures.does most kinds) most c.if-at_end.true) most
