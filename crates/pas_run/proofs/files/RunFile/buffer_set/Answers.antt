use Rattle.std.proofs.Common.{◌≡◌, rules}
use Rattle.pas_run.specs.declared.files.Usage.TheVariants.{Writing}
use Rattle.pas_run.proofs.ReadingLemmas.{buffered}
use Rattle.pas_run.proofs.files.RunFile.buffer_set.Goals as goal

pub returns-clause-step : goal.returns-clause-step
returns-clause-step g c =
    let u : c.args.self.now.state.usage ≡ Writing = search rules in
    record {
      each = λ bound file h. buffered bound c.args.self.now.state (g.P.Port.told c.args.self.now.port)
          c.args.byte file u h;
    }
