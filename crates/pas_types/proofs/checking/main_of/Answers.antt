use Rattle.std.proofs.Common.{◌≡◌, refl, sym, ap, subst, ◌∙◌, ℕ, Bool, List, [], None}
use Rattle.std.specs.Prelude.{OnOk}
use Rattle.std.proofs.lemmas.List.{append-nil}
use Rattle.pas_syntax.specs.declared.tree.Others.TheViews.{out-Compound}
use Rattle.pas_syntax.specs.Tree.{Compound, Statements}
use Rattle.pas_syntax.specs.ProgramViews.{statements_in, compound_in}
use Rattle.pas_syntax.specs.Words.{statements_words}
use Rattle.pas_typed.specs.TypedViews.{statements_view}
use Rattle.pas_types.specs.declared.flow.Flow.{Flow}
use Rattle.pas_rules.specs.Labels.{labels_of_list, labels_in_list}
use Rattle.pas_rules.specs.Routines.{all_stand}
use Rattle.pas_rules.specs.Statements.{statements_of}
use Rattle.pas_scopes.specs.ScopeViews.{scopes_view}
use Rattle.pas_scopes.specs.Answers.{Settles}
use Rattle.pas_types.specs.inner.Checking.{main_words, main_part, IsWhole}
use Rattle.pas_types.proofs.PlainSeen.{body_seen}
use Rattle.pas_types.proofs.MainLemmas.{flow_begins, flow_stands, ok_mapped, bodies_seen}
use Rattle.pas_types.proofs.checking.main_of.Goals as goal

pub returns : goal.returns
returns c clear alone labels_are dot end =
    let code = c.args.scopes.now in
    let scopes = scopes_view code in
    let spellings = code.spellings.now in
    let body : Compound = compound_in spellings c.args.body.now in
    let seen = body_seen spellings c.args.body.now in
    let list : Statements = statements_in spellings (out-Compound c.args.body.now).list in
    let listed : body.list ≡ list = ap (λ (b : Compound). b.list) seen in
    let found = c.statements_of-found.result in
    let view = statements_view spellings in
    let begun : Flow = record { block = c.args.labels; program = None } in
    let flow = flow_begins code alone begun refl labels_are in
    let means = c.statements_of-found.ensures.means [] [] flow clear 1 in
    let settles = subst (λ (l : Statements). Settles (statements_words 1 l)
    (statements_of scopes (labels_of_list l) [] l) view found) (sym listed)
    (subst (λ (around : List ℕ). Settles (statements_words 1 list) (statements_of scopes around [] list) view found)
    (append-nil (labels_of_list list)) means) in
    let stands : Bool = all_stand (labels_in_list body.list) code.labels in
    let stand : OnOk found (c.all_stand.result ≡ stands) =
    ok_mapped _ _ found (c.statements_of-found.ensures.goes [] [] flow) (λ h. c.all_stand.ensures
    ∙ (flow_stands code alone c.statements_of-found.new.flow (labels_in_list list) h
    ∙ ap (λ (l : Statements). all_stand (labels_in_list l) code.labels) (sym listed))) in
    let part = statements_of scopes (labels_of_list body.list) [] body.list in
    subst (λ (b : Bool). IsWhole (main_words body dot end) (main_part b stands part) view c.ended.result)
    (c.have_bodies.ensures ∙ bodies_seen spellings code.routines.items)
    (c.ended.ensures spellings body dot end part stands (ap (λ (b : Compound). b.end) seen) stand settles)
