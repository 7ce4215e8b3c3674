use Rattle.std.proofs.Common.{sym, Ok, Err}
use Rattle.web_lex.specs.Token.{token_of}
use Rattle.web_lex.proofs.ReadLemmas.{first_token-line, line_has_byte}
use Rattle.web_lex.proofs.reader.read_first.Goals as goal

pub first_of_line-requires : goal.first_of_line-requires
first_of_line-requires c =
    let cursor = c.args.cursor.now in
    line_has_byte cursor.end cursor.rest c.in-Some.field-0 c.line-line.result.now
    (sym c.in-Some.ensures.byte) c.requires c.line-line.ensures.visible

pub returns-in-Ok-clause-token : goal.returns-in-Ok-clause-token
returns-in-Ok-clause-token c =
    let cursor = c.args.cursor.now in
    let line = c.line-line.result.now in
    let token = token_of c.in-Ok.found.token in
    rw (c.place-place.ensures, c.pass.ensures.rest, c.ends_in_digit.ensures, c.byte_at.ensures)
    (first_token-line cursor.end cursor.rest c.in-Some.field-0 line (Ok c.in-Ok.found) (sym c.in-Some.ensures.byte)
    (record { no_gap = c.requires; visible = c.line-line.ensures.visible; answer = c.in-Ok.ensures.value }))

pub returns-in-Err-clause-token : goal.returns-in-Err-clause-token
returns-in-Err-clause-token c =
    let cursor = c.args.cursor.now in
    let line = c.line-line.result.now in
    rw (c.at.ensures, c.place-place.ensures)
    (first_token-line cursor.end cursor.rest c.in-Some.field-0 line (Err c.in-Err.code) (sym c.in-Some.ensures.byte)
    (record { no_gap = c.requires; visible = c.line-line.ensures.visible; answer = c.in-Err.ensures.value }))
