use Rattle.std.proofs.Common.{ap, subst, ◌∙◌, ℕ, List, ◌∷◌, map}
use Rattle.pas_tokens.specs.declared.kinds.Kind.TheVariants as k
use Rattle.pas_syntax.specs.declared.tree.TypeRow.{TypeRow as CodeRow}
use Rattle.pas_syntax.specs.Tree.{TypeRow}
use Rattle.pas_syntax.specs.ProgramViews.{type_row_in, rows_in}
use Rattle.pas_syntax.specs.Words.{type_row_words}
use Rattle.pas_scopes.specs.declared.scopes.Scopes.{Scopes as CodeScopes}
use Rattle.pas_rules.specs.Declarations.{type_row}
use Rattle.pas_scopes.specs.DeclaredSoFar.{Declares}
use Rattle.pas_rules.proofs.DeclarationsAsMany.{type_row_many}
use Rattle.pas_scopes.proofs.RowLemmas.{leads_first, one_row_more, all_rows, part_declares, all_words, stage_of}
use Rattle.pas_scopes.proofs.declarations.type_rows.Goals as goal

pub loop-row-init : goal.loop-row-init
loop-row-init c = record {
  kept = c.in_ok-type_row.ensures.kept;
  leads = leads_first type_row_words type_row type_row_many
      (type_row_in c.args.scopes.now.spellings.now c.args.rows.now.first) c.args.scopes.now
      c.type_row.new.scopes c.args.noted.now c.type_row.new.noted c.in_ok-type_row.ensures.declares;
}

pub loop-row-preserved : goal.loop-row-preserved
loop-row-preserved c =
    let old : CodeScopes = c.args.scopes.now in
    let spellings = old.spellings.now in
    let rows = c.as_slice-row-items.result.now in
    let i = c.loop-row.row-index in
    let next : CodeRow = c.row-item.result in
    let later : CodeScopes = c.type_row-in-loop-row.new.scopes in
    record {
      kept = c.in_ok-type_row-2.ensures.kept
          ∙ ap (λ (scopes : CodeScopes). record scopes { types = later.types; names = later.names })
          c.loop-row.invariant.kept;
      leads = one_row_more type_row_words type_row type_row_many (type_row_in spellings)
          (type_row_in spellings c.args.rows.now.first) rows i old c.loop-row.scopes c.args.noted.now
          c.loop-row.noted c.loop-row.invariant.leads next later c.type_row-in-loop-row.new.noted
          c.loop-row-test.true
          (subst (λ (row : CodeRow). Declares (type_row_words (type_row_in spellings row))
          (λ outer. type_row outer (type_row_in spellings row)) c.loop-row.scopes c.loop-row.noted later
          c.type_row-in-loop-row.new.noted) c.row-item.is
          (subst (λ (seen : List ℕ). Declares (type_row_words (type_row_in seen next))
          (λ outer. type_row outer (type_row_in seen next)) c.loop-row.scopes c.loop-row.noted later
          c.type_row-in-loop-row.new.noted)
          (ap (λ (scopes : CodeScopes). scopes.spellings.now) c.loop-row.invariant.kept)
          c.in_ok-type_row-2.ensures.declares));
    }

pub returns-clause-declares : goal.returns-clause-declares
returns-clause-declares c =
    let old : CodeScopes = c.args.scopes.now in
    let spellings = old.spellings.now in
    let first : TypeRow = type_row_in spellings c.args.rows.now.first in
    part_declares type_row_words type_row type_row_many k.Type
    (rows_in spellings (type_row_in spellings) c.args.rows.now) old c.loop-row.scopes c.args.noted.now
    c.loop-row.noted
    (subst (λ (more : List CodeRow). Declares
    (all_words type_row_words type_row type_row_many (first ∷ map (type_row_in spellings) more))
    (λ outer. stage_of type_row_words type_row type_row_many
    (first ∷ map (type_row_in spellings) more) outer) old c.args.noted.now c.loop-row.scopes c.loop-row.noted)
    c.as_slice-row-items.ensures
    (all_rows type_row_words type_row type_row_many (type_row_in spellings) first
    c.as_slice-row-items.result.now c.loop-row.row-index old c.loop-row.scopes c.args.noted.now c.loop-row.noted
    c.loop-row.invariant.leads c.loop-row-test.false))
