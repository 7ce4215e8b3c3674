use Rattle.std.proofs.Common.{ap, subst, ◌∙◌, ℕ, List, ◌∷◌, map}
use Rattle.pas_tokens.specs.declared.kinds.Kind.TheVariants as k
use Rattle.pas_syntax.specs.declared.tree.VariableRow.{VariableRow as CodeRow}
use Rattle.pas_syntax.specs.Tree.{VariableRow}
use Rattle.pas_syntax.specs.ProgramViews.{variable_row_in, rows_in}
use Rattle.pas_syntax.specs.Words.{variable_row_words}
use Rattle.pas_scopes.specs.declared.scopes.Scopes.{Scopes as CodeScopes}
use Rattle.pas_rules.specs.Declarations.{global_row}
use Rattle.pas_scopes.specs.DeclaredSoFar.{Declares}
use Rattle.pas_rules.proofs.DeclarationsAsMany.{global_row_many}
use Rattle.pas_scopes.proofs.RowLemmas.{leads_first, one_row_more, all_rows, part_declares, all_words, stage_of}
use Rattle.pas_scopes.proofs.globals.global_rows.Goals as goal

pub loop-row-init : goal.loop-row-init
loop-row-init c = record {
  kept = c.in_ok-global_row.ensures.kept;
  leads = leads_first variable_row_words global_row global_row_many
      (variable_row_in c.args.scopes.now.spellings.now c.args.rows.now.first) c.args.scopes.now
      c.global_row.new.scopes c.args.noted.now c.global_row.new.noted c.in_ok-global_row.ensures.declares;
}

pub loop-row-preserved : goal.loop-row-preserved
loop-row-preserved c =
    let old : CodeScopes = c.args.scopes.now in
    let spellings = old.spellings.now in
    let rows = c.as_slice-row-items.result.now in
    let i = c.loop-row.row-index in
    let next : CodeRow = c.row-item.result in
    let later : CodeScopes = c.global_row-in-loop-row.new.scopes in
    record {
      kept = c.in_ok-global_row-2.ensures.kept
          ∙ ap (λ (scopes : CodeScopes). record scopes {
            types = later.types;
            names = later.names;
            globals = later.globals;
            cells = later.cells;
          })
          c.loop-row.invariant.kept;
      leads = one_row_more variable_row_words global_row global_row_many (variable_row_in spellings)
          (variable_row_in spellings c.args.rows.now.first) rows i old c.loop-row.scopes c.args.noted.now
          c.loop-row.noted c.loop-row.invariant.leads next later c.global_row-in-loop-row.new.noted
          c.loop-row-test.true
          (subst (λ (row : CodeRow). Declares (variable_row_words (variable_row_in spellings row))
          (λ outer. global_row outer (variable_row_in spellings row)) c.loop-row.scopes c.loop-row.noted later
          c.global_row-in-loop-row.new.noted) c.row-item.is
          (subst (λ (seen : List ℕ). Declares (variable_row_words (variable_row_in seen next))
          (λ outer. global_row outer (variable_row_in seen next)) c.loop-row.scopes c.loop-row.noted later
          c.global_row-in-loop-row.new.noted)
          (ap (λ (scopes : CodeScopes). scopes.spellings.now) c.loop-row.invariant.kept)
          c.in_ok-global_row-2.ensures.declares));
    }

pub returns-clause-declares : goal.returns-clause-declares
returns-clause-declares c =
    let old : CodeScopes = c.args.scopes.now in
    let spellings = old.spellings.now in
    let first : VariableRow = variable_row_in spellings c.args.rows.now.first in
    part_declares variable_row_words global_row global_row_many k.Var
    (rows_in spellings (variable_row_in spellings) c.args.rows.now) old c.loop-row.scopes c.args.noted.now
    c.loop-row.noted
    (subst (λ (more : List CodeRow). Declares
    (all_words variable_row_words global_row global_row_many (first ∷ map (variable_row_in spellings) more))
    (λ outer. stage_of variable_row_words global_row global_row_many
    (first ∷ map (variable_row_in spellings) more) outer) old c.args.noted.now c.loop-row.scopes c.loop-row.noted)
    c.as_slice-row-items.ensures
    (all_rows variable_row_words global_row global_row_many (variable_row_in spellings) first
    c.as_slice-row-items.result.now c.loop-row.row-index old c.loop-row.scopes c.args.noted.now c.loop-row.noted
    c.loop-row.invariant.leads c.loop-row-test.false))
