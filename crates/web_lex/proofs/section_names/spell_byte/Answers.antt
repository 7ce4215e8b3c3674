use Rattle.std.proofs.Common.{◌≡◌, Some, drop, true, ap, ◌∙◌, sym}
use Rattle.web_lex.specs.SectionName.{is_name_byte}
use Rattle.web_lex.specs.inner.Ahead.{first_byte}
use Rattle.web_lex.proofs.SpellingLemmas.{spelled_after-byte, spelled_after-code}
use Rattle.web_lex.proofs.section_names.spell_byte.Goals as goal

pub returns-then-byte-ne64-clause-ok : goal.returns-then-byte-ne64-clause-ok
returns-then-byte-ne64-clause-ok c =
    let before = c.args.spelling.now in
    let after = c.add.new.self in
    let cursor = c.args.cursor.now in
    let is : is_name_byte c.args.byte ≡ true = sym c.is_name_byte.ensures ∙ c.if-not-is_name_byte.false in
    rw (c.pass.ensures.rest, c.pass.ensures.end)
    (spelled_after-byte before.text after.text before.blank after.blank cursor.end cursor.rest c.args.byte c.requires
    c.if-byte-ne64.true is c.in_ok-add.ensures)

pub returns-clause-ok : goal.returns-clause-ok
returns-clause-ok c =
    let before = c.args.spelling.now in
    let middle = c.add-2.new.self in
    let after = c.add-3.new.self in
    let cursor = c.args.cursor.now in
    let is : is_name_byte c.in-Some.next ≡ true = sym c.is_name_byte-2.ensures ∙ c.if-not-is_name_byte-2.false in
    let second : first_byte (drop 1 cursor.rest) ≡ Some c.in-Some.next =
    ap first_byte (sym c.pass.ensures.rest) ∙ sym c.in-Some.ensures.byte in
    rw (c.pass-2.ensures.rest, c.pass-2.ensures.end, c.pass.ensures.rest, c.pass.ensures.end)
    (spelled_after-code before.text middle.text after.text before.blank middle.blank after.blank cursor.end
    cursor.rest c.in-Some.next
    (c.requires ∙ ap Some c.if-byte-ne64.false) second
    (λ e. c.in_default-control_code.not-Stray (c.control_code.ensures ∙ e))
    (λ e. c.in_default-control_code.not-Section (c.control_code.ensures ∙ e))
    is c.in_ok-add-2.ensures c.in_ok-add-3.ensures)
