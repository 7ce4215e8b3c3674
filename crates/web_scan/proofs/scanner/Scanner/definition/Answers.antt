use Rattle.std.proofs.Common.{ℕ, ◌∙◌, ap}
use Rattle.web_lex.specs.declared.tokens.Lexed.{Lexed}
use Rattle.web_lex.specs.Token.{token_of}
use Rattle.web_names.specs.declared.classes.Class.{Class}
use Rattle.web_scan.specs.Scanned.{place_of_last}
use Rattle.web_scan.proofs.ResultLemmas.{if_ok, if_fault, handed_on}
use Rattle.web_scan.proofs.DefinitionLemmas.{not_word, definition-unread, definition-unnamed, definition-unsigned}
use Rattle.web_scan.proofs.DefinitionLemmas.{definition-refused, definition-is}
use Rattle.web_scan.proofs.scanner.Scanner.definition.Goals as goal

pub returns-in_err-word-clause-fault : goal.returns-in_err-word-clause-fault
returns-in_err-word-clause-fault c =
    handed_on Lexed c.from_residual.result c.in_err-word.field-0.0 c.from_residual.ensures.1
    (λ fault. definition-unread c.args.self.now fault) c.in_err-word.ensures.fault

pub returns-in_default : goal.returns-in_default
returns-in_default c =
    let named = c.token.new.self in
    let refuses = definition-unnamed c.args.self.now named (token_of c.in_ok-word.field-0) _ c.in_ok-word.ensures.ok
    (not_word c.in_ok-word.field-0 (place_of_last named) c.in_default.not-Word) in
    record { ok = tt; fault = rw c.bad_definition.ensures refuses; shorter = tt }

pub returns-in_err-class-clause-fault : goal.returns-in_err-class-clause-fault
returns-in_err-class-clause-fault c =
    handed_on Class c.from_residual-in_err-class.result c.in_err-class.field-0.0 c.from_residual-in_err-class.ensures.1
    (λ fault. definition-unsigned c.args.self.now c.token.new.self
    (token_of c.in_ok-word.field-0) c.in-Word.word.now fault
    c.in_ok-word.ensures.ok (ap token_of c.in-Word.is))
    c.in_err-class.ensures.fault

pub returns-in_err-id-clause-fault : goal.returns-in_err-id-clause-fault
returns-in_err-id-clause-fault c =
    handed_on ℕ c.from_residual-in_err-id.result c.in_err-id.field-0.0 c.from_residual-in_err-id.ensures.1
    (λ fault. definition-refused c.args.self.now c.token.new.self c.class_signs.new.self c.self.inside.reader
    c.self.inside.parts
    c.place-at_sign.result (token_of c.in_ok-word.field-0) c.in-Word.word.now c.in_ok-class.class fault
    c.in_ok-word.ensures.ok (ap token_of c.in-Word.is) c.in_ok-class.ensures.ok c.self.view_is c.place-at_sign.ensures)
    c.in_err-id.ensures.fault

pub returns-clause-ok : goal.returns-clause-ok
returns-clause-ok c =
    if_ok c.right_side.result
    (λ code side. definition-is c.args.self.now c.token.new.self c.class_signs.new.self c.self.inside.reader
    c.self.inside.parts
    c.define.new.self c.place-at_name.result c.place-at_sign.result (token_of c.in_ok-word.field-0) c.in-Word.word.now
    c.in_ok-class.class c.in_ok-id.id c.in_ok-word.ensures.ok (ap token_of c.in-Word.is) c.place-at_name.ensures
    c.in_ok-class.ensures.ok c.self.view_is c.place-at_sign.ensures c.in_ok-id.ensures.ok ∙ side)
    c.right_side.ensures.ok

pub returns-clause-fault : goal.returns-clause-fault
returns-clause-fault c =
    if_fault c.right_side.result
    (λ fault side. definition-is c.args.self.now c.token.new.self c.class_signs.new.self c.self.inside.reader
    c.self.inside.parts
    c.define.new.self c.place-at_name.result c.place-at_sign.result (token_of c.in_ok-word.field-0) c.in-Word.word.now
    c.in_ok-class.class c.in_ok-id.id c.in_ok-word.ensures.ok (ap token_of c.in-Word.is) c.place-at_name.ensures
    c.in_ok-class.ensures.ok c.self.view_is c.place-at_sign.ensures c.in_ok-id.ensures.ok ∙ side)
    c.right_side.ensures.fault
