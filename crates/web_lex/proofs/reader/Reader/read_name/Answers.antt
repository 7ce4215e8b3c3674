use Rattle.std.proofs.Common.{ap, sym, ◌∙◌, ◌≡◌, Err, subst}
use Rattle.wb_base.specs.WorkResult.{IfFault}
use Rattle.web_lex.specs.declared.section_names.SectionName.{SectionName}
use Rattle.web_lex.specs.SectionName.{name_at}
use Rattle.web_lex.specs.Reading.{Reading, next_name}
use Rattle.web_lex.specs.inner.Ahead.{Ahead}
use Rattle.web_lex.proofs.ReadLemmas.{next_name-ok, next_name-err}
use Rattle.web_lex.proofs.reader.Reader.read_name.Goals as goal

pub returns-in-Ok-clause-ok : goal.returns-in-Ok-clause-ok
returns-in-Ok-clause-ok c =
    let inside = c.self.inside in
    let reading : Reading =
    record {
      rest = inside.cursor.rest;
      after_digit = inside.after_digit;
      place = inside.place;
      end =
          inside.cursor.end;
      fault = inside.fault;
    } in
    let same = c.copied-cursor.ensures in
    let end = c.read_name.ensures.end ∙ ap (λ (ahead : Ahead). ahead.end) same in
    let is = ap (λ (ahead : Ahead). name_at ahead.end ahead.rest) (sym same) ∙ c.in-Ok.ensures.ok in
    ap next_name (sym c.self.view_is)
    ∙ next_name-ok reading c.in-Ok.name c.read_name.new.cursor.rest c.read_name.new.cursor.end c.in_default.is is end

pub returns-in-Err-clause-fault : goal.returns-in-Err-clause-fault
returns-in-Err-clause-fault c =
    let inside = c.self.inside in
    let reading : Reading =
    record {
      rest = inside.cursor.rest;
      after_digit = inside.after_digit;
      place = inside.place;
      end =
          inside.cursor.end;
      fault = inside.fault;
    } in
    let P : Ahead → Type 0 =
    λ ahead. IfFault {T = SectionName} (Err c.in-Err.error) (λ fault. name_at ahead.end ahead.rest ≡ Err fault) in
    let Q : Reading → Type 0 =
    λ now. IfFault {T = SectionName} (Err c.in-Err.error) (λ fault. next_name now ≡ Err fault) in
    subst Q c.self.view_is
    (next_name-err reading c.in-Err.error c.in_default.is
    (subst P c.copied-cursor.ensures c.in-Err.ensures.fault))
