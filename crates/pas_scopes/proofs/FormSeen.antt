-- The type expressions of the code, as the definition has them.
use Rattle.std.proofs.Common.{◌≡◌, sym, ap, ◌∙◌, ℕ, List, map}
use Rattle.pas_syntax.specs.declared.tree.RecordForm as code_record
use Rattle.pas_syntax.specs.declared.tree.FieldGroup as code_group
use Rattle.pas_syntax.specs.declared.tree.MoreFields as code_more
use Rattle.pas_syntax.specs.declared.tree.TypeForm.TheViews.{out-RecordForm, out-FieldGroup}
use Rattle.pas_syntax.specs.declared.tree.TypeForm.TheViews.{out-MoreFields}
use Rattle.pas_syntax.specs.declared.tree.TypeForm.TheFolds.{fold_out-RecordForm}
use Rattle.pas_syntax.specs.declared.tree.TypeForm.TheFolds.{fold_out-FieldGroup, fold_out-MoreFields}
use Rattle.pas_syntax.specs.declared.tree.TypeForm.TheFolds.{fold-FieldGroup}
use Rattle.pas_syntax.specs.Tree as tree
use Rattle.pas_syntax.specs.Tree.{TypeForm, Fields, Idents}
use Rattle.pas_syntax.specs.Views.{in_turn, ident_in, separated_in}
use Rattle.pas_syntax.specs.ProgramViews.{Group as GroupSeen, type_step, group_step, more_fields_step, record_step}
use Rattle.pas_syntax.specs.ProgramViews.{type_in}
use Rattle.pas_syntax.specs.inner.TypeViews as seen
use Rattle.pas_scopes.specs.FormAnswers.{fields_in}

module _ (spellings : List ℕ) where
  group_seen : (group : code_group.FieldGroup)
      → fold-FieldGroup TypeForm GroupSeen (Fields → Fields) TypeForm (type_step spellings) (group_step spellings)
      (more_fields_step spellings) (record_step spellings) group
      ≡ record {
        names = separated_in (ident_in spellings) (out-FieldGroup group).names;
        colon = (out-FieldGroup group).colon;
        form = type_in spellings (out-FieldGroup group).form;
      }
  group_seen =
      fold_out-FieldGroup TypeForm GroupSeen (Fields → Fields) TypeForm (type_step spellings) (group_step spellings)
      (more_fields_step spellings) (record_step spellings)

  pub record_seen : (form : code_record.RecordForm)
      → seen.record_in spellings form
      ≡ tree.record_type (out-RecordForm form).packed (out-RecordForm form).line (fields_in spellings form)
      (out-RecordForm form).semicolon (out-RecordForm form).end
  record_seen =
      fold_out-RecordForm TypeForm GroupSeen (Fields → Fields) TypeForm (type_step spellings) (group_step spellings)
      (more_fields_step spellings) (record_step spellings)

  pub more_seen : (more : code_more.MoreFields)
      → seen.more_fields_in spellings more
      ≡ (λ fields. tree.more_fields fields (out-MoreFields more).line
      (separated_in (ident_in spellings) (out-FieldGroup (out-MoreFields more).group).names)
      (out-FieldGroup (out-MoreFields more).group).colon
      (type_in spellings (out-FieldGroup (out-MoreFields more).group).form))
  more_seen more =
      fold_out-MoreFields TypeForm GroupSeen (Fields → Fields) TypeForm (type_step spellings) (group_step spellings)
      (more_fields_step spellings) (record_step spellings) more
      ∙ ap (λ (group : GroupSeen). λ (fields : Fields).
      tree.more_fields fields (out-MoreFields more).line group.names group.colon group.form)
      (group_seen (out-MoreFields more).group)

  -- the fields that come first, and all of them
  abbrev pub first_in : code_record.RecordForm → Fields
  first_in form =
      tree.first_fields (separated_in (ident_in spellings) (out-FieldGroup (out-RecordForm form).first).names)
      (out-FieldGroup (out-RecordForm form).first).colon
      (type_in spellings (out-FieldGroup (out-RecordForm form).first).form)

  pub fields_seen : (form : code_record.RecordForm)
      → in_turn (first_in form) (map (seen.more_fields_in spellings) (out-RecordForm form).more)
      ≡ fields_in spellings form
  fields_seen form =
      ap (λ (group : GroupSeen). in_turn (tree.first_fields group.names group.colon group.form)
      (map (seen.more_fields_in spellings) (out-RecordForm form).more))
      (sym (group_seen (out-RecordForm form).first))
