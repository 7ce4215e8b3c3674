use Rattle.std.proofs.Common.{◌≡◌, subst, Ok, Err, nat_abs, to_z, of_z, w32, rules, replicate, ◌++◌}
use Rattle.std.proofs.Math.Facts.{to_z-of_z}
use Rattle.pas_meaning.specs.Answers.{fine}
use Rattle.pas_meaning.specs.Files as files
use Rattle.wb_ports.specs.declared.answers.Failed.{Failed}
use Rattle.pas_run.specs.RunFiles.{Pieces}
use Rattle.pas_run.proofs.WritingLemmas.{appended, partly}
use Rattle.pas_run.proofs.files.RunFile.write_number.Goals as goal

pub returns-in-Ok-clause-step : goal.returns-in-Ok-clause-step
returns-in-Ok-clause-step g c =
    let m : replicate c.unsigned_abs.result 32 ++ c.as_slice.result.now
    ≡ files.number_in_field (nat_abs c.args.width) c.args.number = search rules in
    let e : to_z w32 (of_z w32 c.args.width) ≡ c.args.width = to_z-of_z c.ranges.width in
    appended _ (files.number_in_field (nat_abs c.args.width) c.args.number) _ _ _ _
    (λ bound file h. subst (λ w. files.written (λ field. files.number_in_field field c.args.number) w file
    ≡ fine (files.number_in_field (nat_abs w) c.args.number)) e
    (c.in_ok-demand_text.ensures.demands.each bound file h (λ field. files.number_in_field field c.args.number)))
    (subst (λ x. Pieces {T = Failed} x c.args.self.now.state (g.P.Port.told c.args.self.now.port)
    c.put_field.new.self.state (g.P.Port.told c.put_field.new.self.port) (Ok tt)) m c.in-Ok.ensures.pieces)

pub returns-in-Err-clause-step : goal.returns-in-Err-clause-step
returns-in-Err-clause-step g c =
    let m : replicate c.unsigned_abs.result 32 ++ c.as_slice.result.now
    ≡ files.number_in_field (nat_abs c.args.width) c.args.number = search rules in
    let e : to_z w32 (of_z w32 c.args.width) ≡ c.args.width = to_z-of_z c.ranges.width in
    partly _ (files.number_in_field (nat_abs c.args.width) c.args.number) _ _ _ _ _
    (λ bound file h. subst (λ w. files.written (λ field. files.number_in_field field c.args.number) w file
    ≡ fine (files.number_in_field (nat_abs w) c.args.number)) e
    (c.in_ok-demand_text.ensures.demands.each bound file h (λ field. files.number_in_field field c.args.number)))
    (subst (λ x. Pieces {T = Failed} x c.args.self.now.state (g.P.Port.told c.args.self.now.port)
    c.put_field.new.self.state (g.P.Port.told c.put_field.new.self.port) (Err (record {}))) m
    c.in-Err.ensures.pieces)
