use Rattle.std.proofs.Common.{sym, subst}
use Rattle.pas_syntax.specs.declared.tree.Simple.{Simple as CodeSimple}
use Rattle.pas_syntax.specs.Views.{ident_in, simple_in}
use Rattle.pas_syntax.specs.Words.{simple_words}
use Rattle.pas_typed.specs.TypeViews.{table_view}
use Rattle.pas_rules.specs.TypeForms.{simple_of}
use Rattle.pas_scopes.specs.ScopeViews.{scopes_view, made_view, IsClear}
use Rattle.pas_scopes.specs.TypeAnswers.{AnswersIf}
use Rattle.pas_scopes.proofs.SubrangeLemmas.{named_answers}
use Rattle.pas_scopes.proofs.simple_types.simple_of.Goals as goal

pub returns-in-Named-clause-answers : goal.returns-in-Named-clause-answers
returns-in-Named-clause-answers c s same n =
    let spellings = c.args.scopes.now.spellings.now in
    let table = table_view spellings c.args.scopes.now.types in
    subst (λ (simple : CodeSimple). AnswersIf (IsClear s) (simple_words n (simple_in spellings simple))
    (simple_of s table (simple_in spellings simple)) (made_view c.args.scopes.now) c.type_named.result)
    (sym c.in-Named.is)
    (named_answers s (scopes_view c.args.scopes.now) same table n (ident_in spellings c.in-Named.ident)
    c.type_named.result (c.type_named.ensures.answers n))

pub returns-in-Range-clause-answers : goal.returns-in-Range-clause-answers
returns-in-Range-clause-answers c s same n =
    let spellings = c.args.scopes.now.spellings.now in
    let table = table_view spellings c.args.scopes.now.types in
    subst (λ (simple : CodeSimple). AnswersIf (IsClear s) (simple_words n (simple_in spellings simple))
    (simple_of s table (simple_in spellings simple)) (made_view c.subrange_of.new.scopes) c.subrange_of.result)
    (sym c.in-Range.is)
    (c.subrange_of.ensures.answers s same n c.in-Range.field-1)

pub returns-in-Range-clause-unknown : goal.returns-in-Range-clause-unknown
returns-in-Range-clause-unknown c s same = rw c.in-Range.is (c.subrange_of.ensures.unknown s same)
