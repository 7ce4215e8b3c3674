use Rattle.std.proofs.Common.{◌≡◌, ℕ, List, ◌-◌, ◌++◌, replicate, take, subst, ap, ◌∙◌, Ok, Err, nat_abs, to_z, of_z}
use Rattle.std.proofs.Common.{w32, min}
use Rattle.std.proofs.Math.Facts.{to_z-of_z}
use Rattle.pas_meaning.specs.Answers.{fine}
use Rattle.pas_meaning.specs.Files as files
use Rattle.pas_typed.specs.Texts.{undoubled}
use Rattle.wb_ports.specs.declared.answers.Failed.{Failed}
use Rattle.pas_run.specs.RunFiles.{Pieces}
use Rattle.pas_run.proofs.WritingLemmas.{appended, partly, field_of}
use Rattle.pas_run.proofs.files.RunFile.write_quoted.Goals as goal

pub returns-in-Ok-clause-step : goal.returns-in-Ok-clause-step
returns-in-Ok-clause-step g c =
    let text : List ℕ = undoubled c.args.spelled.now in
    let e : to_z w32 (of_z w32 c.args.width) ≡ c.args.width = to_z-of_z c.ranges.width in
    appended _ (files.string_in_field (nat_abs c.args.width) text) _ _ _ _
    (λ bound file h. subst (λ w. files.written (λ field. files.string_in_field field text) w file
    ≡ fine (files.string_in_field (nat_abs w) text)) e
    (c.in_ok-demand_text.ensures.demands.each bound file h (λ field. files.string_in_field field text)))
    (subst (λ n. Pieces {T = Failed} (files.string_in_field n text) c.args.self.now.state
    (g.P.Port.told c.args.self.now.port) c.put_quoted_field.new.self.state
    (g.P.Port.told c.put_quoted_field.new.self.port) (Ok tt)) (c.unsigned_abs-field.ensures.value ∙ ap nat_abs e)
    (subst (λ x. Pieces {T = Failed} x c.args.self.now.state (g.P.Port.told c.args.self.now.port)
    c.put_quoted_field.new.self.state (g.P.Port.told c.put_quoted_field.new.self.port) (Ok tt))
    (ap (λ n. replicate (c.unsigned_abs-field.result - n) 32 ++ take n text) (c.min-count.ensures
    ∙ ap (min c.unsigned_abs-field.result) c.text_length.ensures) ∙ field_of c.unsigned_abs-field.result text)
    c.in-Ok.ensures.pieces))

pub returns-in-Err-clause-step : goal.returns-in-Err-clause-step
returns-in-Err-clause-step g c =
    let text : List ℕ = undoubled c.args.spelled.now in
    let e : to_z w32 (of_z w32 c.args.width) ≡ c.args.width = to_z-of_z c.ranges.width in
    partly _ (files.string_in_field (nat_abs c.args.width) text) _ _ _ _ _
    (λ bound file h. subst (λ w. files.written (λ field. files.string_in_field field text) w file
    ≡ fine (files.string_in_field (nat_abs w) text)) e
    (c.in_ok-demand_text.ensures.demands.each bound file h (λ field. files.string_in_field field text)))
    (subst (λ n. Pieces {T = Failed} (files.string_in_field n text) c.args.self.now.state
    (g.P.Port.told c.args.self.now.port) c.put_quoted_field.new.self.state
    (g.P.Port.told c.put_quoted_field.new.self.port) (Err (record {})))
    (c.unsigned_abs-field.ensures.value ∙ ap nat_abs e)
    (subst (λ x. Pieces {T = Failed} x c.args.self.now.state (g.P.Port.told c.args.self.now.port)
    c.put_quoted_field.new.self.state (g.P.Port.told c.put_quoted_field.new.self.port) (Err (record {})))
    (ap (λ n. replicate (c.unsigned_abs-field.result - n) 32 ++ take n text) (c.min-count.ensures
    ∙ ap (min c.unsigned_abs-field.result) c.text_length.ensures) ∙ field_of c.unsigned_abs-field.result text)
    c.in-Err.ensures.pieces))
