use Rattle.std.proofs.Common.{ap, subst, ◌∙◌, ℕ, List, ◌∷◌, map, get_or, None}
use Rattle.pas_tokens.specs.declared.kinds.Kind.TheVariants as k
use Rattle.pas_syntax.specs.declared.tree.ConstantRow.{ConstantRow as CodeRow}
use Rattle.pas_syntax.specs.declared.tree.Constant.TheVariants as constant
use Rattle.pas_syntax.specs.Tree.{ConstantRow}
use Rattle.pas_syntax.specs.ProgramViews.{constant_row_in, rows_in}
use Rattle.pas_syntax.specs.Words.{constant_row_words}
use Rattle.pas_scopes.specs.declared.scopes.Scopes.{Scopes as CodeScopes}
use Rattle.pas_rules.specs.Declarations.{constant_row}
use Rattle.pas_scopes.specs.DeclaredSoFar.{Declares}
use Rattle.pas_rules.proofs.DeclarationsAsMany.{constant_row_many}
use Rattle.pas_scopes.proofs.RowLemmas.{leads_first, one_row_more, all_rows, part_declares, all_words, stage_of}
use Rattle.pas_scopes.proofs.declarations.constant_rows.Goals as goal

abbrev no_row : CodeRow
no_row = record {
  name = record { span = record { first = 0; count = 0 }; line = 0 };
  equals = 0;
  value = constant.Number None (record { value = 0; line = 0 });
  end = 0;
}

pub loop-row-init : goal.loop-row-init
loop-row-init c = record {
  kept = c.in_ok-constant_row.ensures.kept;
  leads = leads_first constant_row_words constant_row constant_row_many
      (constant_row_in c.args.scopes.now.spellings.now c.args.rows.now.first) c.args.scopes.now
      c.constant_row.new.scopes c.args.noted.now c.constant_row.new.noted c.in_ok-constant_row.ensures.declares;
}

pub loop-row-preserved : goal.loop-row-preserved
loop-row-preserved c =
    let old : CodeScopes = c.args.scopes.now in
    let spellings = old.spellings.now in
    let rows = c.as_slice-row-items.result.now in
    let i = c.loop-row.row-index in
    record {
      kept = c.in_ok-constant_row-2.ensures.kept
          ∙ ap (λ (scopes : CodeScopes). record scopes { names = c.constant_row-in-loop-row.new.scopes.names })
          c.loop-row.invariant.kept;
      leads = one_row_more constant_row_words constant_row constant_row_many (constant_row_in spellings)
          (constant_row_in spellings c.args.rows.now.first) rows i old c.loop-row.scopes c.args.noted.now
          c.loop-row.noted c.loop-row.invariant.leads no_row c.constant_row-in-loop-row.new.scopes
          c.constant_row-in-loop-row.new.noted c.loop-row-test.true
          (subst (λ (seen : List ℕ). Declares (constant_row_words (constant_row_in seen (get_or rows i no_row)))
          (λ outer. constant_row outer (constant_row_in seen (get_or rows i no_row))) c.loop-row.scopes
          c.loop-row.noted c.constant_row-in-loop-row.new.scopes c.constant_row-in-loop-row.new.noted)
          (ap (λ (scopes : CodeScopes). scopes.spellings.now) c.loop-row.invariant.kept)
          c.in_ok-constant_row-2.ensures.declares);
    }

pub returns-clause-declares : goal.returns-clause-declares
returns-clause-declares c =
    let old : CodeScopes = c.args.scopes.now in
    let spellings = old.spellings.now in
    let first : ConstantRow = constant_row_in spellings c.args.rows.now.first in
    part_declares constant_row_words constant_row constant_row_many k.Const
    (rows_in spellings (constant_row_in spellings) c.args.rows.now) old c.loop-row.scopes c.args.noted.now
    c.loop-row.noted
    (subst (λ (more : List CodeRow). Declares
    (all_words constant_row_words constant_row constant_row_many (first ∷ map (constant_row_in spellings) more))
    (λ outer. stage_of constant_row_words constant_row constant_row_many
    (first ∷ map (constant_row_in spellings) more) outer) old c.args.noted.now c.loop-row.scopes c.loop-row.noted)
    c.as_slice-row-items.ensures
    (all_rows constant_row_words constant_row constant_row_many (constant_row_in spellings) first
    c.as_slice-row-items.result.now c.loop-row.row-index old c.loop-row.scopes c.args.noted.now c.loop-row.noted
    c.loop-row.invariant.leads c.loop-row-test.false))
