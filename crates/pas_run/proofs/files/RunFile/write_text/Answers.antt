use Rattle.std.proofs.Common.{◌≡◌, ◌-◌, ◌++◌, replicate, take, subst, ap, ◌∙◌, Ok, Err, nat_abs, to_z, of_z, w32}
use Rattle.std.proofs.Math.Facts.{to_z-of_z}
use Rattle.pas_meaning.specs.Answers.{fine}
use Rattle.pas_meaning.specs.Files as files
use Rattle.wb_ports.specs.declared.answers.Failed.{Failed}
use Rattle.pas_run.specs.RunFiles.{Pieces}
use Rattle.pas_run.proofs.WritingLemmas.{appended, partly, field_of}
use Rattle.pas_run.proofs.files.RunFile.write_text.Goals as goal

pub returns-in-Ok-clause-step : goal.returns-in-Ok-clause-step
returns-in-Ok-clause-step g c =
    let e : to_z w32 (of_z w32 c.args.width) ≡ c.args.width = to_z-of_z c.ranges.width in
    appended _ (files.string_in_field (nat_abs c.args.width) c.args.bytes.now) _ _ _ _
    (λ bound file h. subst (λ w. files.written (λ field. files.string_in_field field c.args.bytes.now) w file
    ≡ fine (files.string_in_field (nat_abs w) c.args.bytes.now)) e
    (c.in_ok-demand_text.ensures.demands.each bound file h (λ field. files.string_in_field field c.args.bytes.now)))
    (subst (λ n. Pieces {T = Failed} (files.string_in_field n c.args.bytes.now) c.args.self.now.state
    (g.P.Port.told c.args.self.now.port) c.put_field.new.self.state (g.P.Port.told c.put_field.new.self.port)
    (Ok tt)) (c.unsigned_abs-field.ensures.value ∙ ap nat_abs e)
    (subst (λ x. Pieces {T = Failed} x c.args.self.now.state (g.P.Port.told c.args.self.now.port)
    c.put_field.new.self.state (g.P.Port.told c.put_field.new.self.port) (Ok tt))
    (ap (λ n. replicate (c.unsigned_abs-field.result - n) 32 ++ take n c.args.bytes.now) c.min-count.ensures
    ∙ field_of c.unsigned_abs-field.result c.args.bytes.now) c.in-Ok.ensures.pieces))

pub returns-in-Err-clause-step : goal.returns-in-Err-clause-step
returns-in-Err-clause-step g c =
    let e : to_z w32 (of_z w32 c.args.width) ≡ c.args.width = to_z-of_z c.ranges.width in
    partly _ (files.string_in_field (nat_abs c.args.width) c.args.bytes.now) _ _ _ _ _
    (λ bound file h. subst (λ w. files.written (λ field. files.string_in_field field c.args.bytes.now) w file
    ≡ fine (files.string_in_field (nat_abs w) c.args.bytes.now)) e
    (c.in_ok-demand_text.ensures.demands.each bound file h (λ field. files.string_in_field field c.args.bytes.now)))
    (subst (λ n. Pieces {T = Failed} (files.string_in_field n c.args.bytes.now) c.args.self.now.state
    (g.P.Port.told c.args.self.now.port) c.put_field.new.self.state (g.P.Port.told c.put_field.new.self.port)
    (Err (record {}))) (c.unsigned_abs-field.ensures.value ∙ ap nat_abs e)
    (subst (λ x. Pieces {T = Failed} x c.args.self.now.state (g.P.Port.told c.args.self.now.port)
    c.put_field.new.self.state (g.P.Port.told c.put_field.new.self.port) (Err (record {})))
    (ap (λ n. replicate (c.unsigned_abs-field.result - n) 32 ++ take n c.args.bytes.now) c.min-count.ensures
    ∙ field_of c.unsigned_abs-field.result c.args.bytes.now) c.in-Err.ensures.pieces))
