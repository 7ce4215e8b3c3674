use Rattle.std.proofs.Common.{◌≡◌, subst, ap, ◌∙◌, Ok, Err, nat_abs, to_z, of_z, w32}
use Rattle.std.proofs.Math.Facts.{to_z-of_z}
use Rattle.pas_meaning.specs.Answers.{fine}
use Rattle.pas_meaning.specs.Files as files
use Rattle.wb_ports.specs.declared.answers.Failed.{Failed}
use Rattle.pas_run.specs.RunFiles.{Pieces}
use Rattle.pas_run.proofs.WritingLemmas.{appended, partly}
use Rattle.pas_run.proofs.files.RunFile.write_char.Goals as goal

pub returns-in-Ok-clause-step : goal.returns-in-Ok-clause-step
returns-in-Ok-clause-step g c =
    let e : to_z w32 (of_z w32 c.args.width) ≡ c.args.width = to_z-of_z c.ranges.width in
    appended _ (files.char_in_field (nat_abs c.args.width) c.args.byte) _ _ _ _
    (λ bound file h. subst (λ w. files.written (λ field. files.char_in_field field c.args.byte) w file
    ≡ fine (files.char_in_field (nat_abs w) c.args.byte)) e
    (c.in_ok-demand_text.ensures.demands.each bound file h (λ field. files.char_in_field field c.args.byte)))
    (subst (λ n. Pieces {T = Failed} (files.char_in_field n c.args.byte) c.args.self.now.state
    (g.P.Port.told c.args.self.now.port) c.put_field.new.self.state (g.P.Port.told c.put_field.new.self.port)
    (Ok tt)) (c.unsigned_abs.ensures.value ∙ ap nat_abs e) c.in-Ok.ensures.pieces)

pub returns-in-Err-clause-step : goal.returns-in-Err-clause-step
returns-in-Err-clause-step g c =
    let e : to_z w32 (of_z w32 c.args.width) ≡ c.args.width = to_z-of_z c.ranges.width in
    partly _ (files.char_in_field (nat_abs c.args.width) c.args.byte) _ _ _ _ _
    (λ bound file h. subst (λ w. files.written (λ field. files.char_in_field field c.args.byte) w file
    ≡ fine (files.char_in_field (nat_abs w) c.args.byte)) e
    (c.in_ok-demand_text.ensures.demands.each bound file h (λ field. files.char_in_field field c.args.byte)))
    (subst (λ n. Pieces {T = Failed} (files.char_in_field n c.args.byte) c.args.self.now.state
    (g.P.Port.told c.args.self.now.port) c.put_field.new.self.state (g.P.Port.told c.put_field.new.self.port)
    (Err (record {}))) (c.unsigned_abs.ensures.value ∙ ap nat_abs e) c.in-Err.ensures.pieces)
