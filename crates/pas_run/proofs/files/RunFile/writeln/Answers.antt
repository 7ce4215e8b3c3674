use Rattle.std.proofs.Common.{◌≡◌, ◌∷◌, [], true, rules}
use Rattle.pas_run.specs.declared.files.Usage.TheVariants.{Writing}
use Rattle.pas_run.proofs.WritingLemmas.{line_answer}
use Rattle.pas_run.proofs.files.RunFile.writeln.Goals as goal

pub returns-in-Err-clause-step : goal.returns-in-Err-clause-step
returns-in-Err-clause-step g c =
    let t : c.args.self.now.state.is_text ≡ true = search rules in
    let u : c.args.self.now.state.usage ≡ Writing = search rules in
    record {
      each = λ bound file h. let p = c.in-Err.ensures.pieces.each bound file h in
          (10 ∷ [], p.0, line_answer bound c.args.self.now.state (g.P.Port.told c.args.self.now.port) file t u h, p.1);
    }
