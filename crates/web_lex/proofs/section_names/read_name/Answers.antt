use Rattle.web_lex.proofs.SpellingLemmas.{name_at-spelled, named_ok, named_fault}
use Rattle.web_lex.proofs.section_names.read_name.Goals as goal

pub returns-clause-ok : goal.returns-clause-ok
returns-clause-ok c =
    let cursor = c.args.cursor.now in
    let rest = c.spell.new.cursor.rest in
    let text = c.spell.new.spelling.text in
    named_ok c.name_of.result cursor.end c.in_ok-end.end cursor.rest rest text
    (name_at-spelled cursor.end cursor.rest c.new.result text c.in_ok-end.end rest c.new.ensures
    c.in_ok-end.ensures.ok) c.name_of.ensures.ok

pub returns-clause-fault : goal.returns-clause-fault
returns-clause-fault c =
    let cursor = c.args.cursor.now in
    let rest = c.spell.new.cursor.rest in
    let text = c.spell.new.spelling.text in
    named_fault c.name_of.result cursor.end c.in_ok-end.end cursor.rest rest text
    (name_at-spelled cursor.end cursor.rest c.new.result text c.in_ok-end.end rest c.new.ensures
    c.in_ok-end.ensures.ok) c.name_of.ensures.fault
