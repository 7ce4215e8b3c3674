-- The parts of constants and types of the code as those of the readers.
use Rattle.std.specs.Prelude.{◌≡◌, ◌≢◌, ℕ, List, map, Option, Some, None, Result, Ok, Err}
use Rattle.wb_base.specs.declared.faults.TheConstants.{ENUMERATIONS, SETS, POINTERS}
use Rattle.pas_tokens.specs.declared.kinds.Kind.{Kind}
use Rattle.pas_tokens.specs.declared.kinds.Kind.TheVariants as k
use Rattle.pas_syntax.specs.declared.stop.Stop.{Stop}
use Rattle.pas_syntax.specs.declared.stop.Stop.TheVariants.{LeftOut}
use Rattle.pas_syntax.specs.declared.operators.Sign.{Sign}
use Rattle.pas_syntax.specs.declared.tree.Lined.{Lined as CodeLined}
use Rattle.pas_syntax.specs.declared.tree.ArrayHead.{ArrayHead}
use Rattle.pas_syntax.specs.declared.tree.RecordForm as code_record
use Rattle.pas_syntax.specs.declared.tree.FieldGroup as code_group
use Rattle.pas_syntax.specs.declared.tree.MoreFields as code_more
use Rattle.pas_syntax.specs.declared.tree.TypeForm.TheFolds.{fold-RecordForm, fold-FieldGroup, fold-MoreFields}
use Rattle.pas_syntax.specs.Tree as tree
use Rattle.pas_syntax.specs.Tree.{TypeForm, Fields}
use Rattle.pas_syntax.specs.Words.{sign_kind}
use Rattle.pas_syntax.specs.Views.{in_turn, separated_in, simple_in}
use Rattle.pas_syntax.specs.ProgramViews.{Group as GroupSeen, type_step, group_step, more_fields_step, record_step}
use Rattle.pas_syntax.specs.inner.Prog.{head}
use Rattle.pas_syntax.specs.inner.Places.{Place, Passes}
use Rattle.pas_syntax.specs.inner.TypeReaders.{ArrayStart, Group, FieldsRead}
use Rattle.pas_syntax.specs.declared.type_forms.FieldList.{FieldList}

-- a sign that is passed, if one comes next
abbrev pub IsLead : Place → Option (CodeLined Sign) → Place → Type 0
IsLead old (Some lead) new = (sign_kind lead.item ≡ (head old.tokens).kind) × Passes old lead.line new
IsLead old None new = (new ≡ old) × ((op : Sign) → (head old.tokens).kind ≢ sign_kind op)

-- the part of Pascal that a token of this kind shows where a type may stand
abbrev pub left_out_type : Kind → Option ℕ
left_out_type k.LeftParenthesis = Some ENUMERATIONS
left_out_type k.Set = Some SETS
left_out_type k.Caret = Some POINTERS
left_out_type kind = None

abbrev pub IsLeftOut : {T : Type 0} → Kind → Result T Stop → Type 0
IsLeftOut kind (Ok done) = left_out_type kind ≡ None
IsLeftOut kind (Err why) = (part : ℕ) × (left_out_type kind ≡ Some part) × (why ≡ LeftOut part)

module _ (spellings : List ℕ) where
  abbrev pub array_head_in : ArrayHead → ArrayStart
  array_head_in start =
      record {
        packed = start.packed;
        line = start.line;
        opened = start.opened;
        indexes = separated_in (simple_in spellings) start.indexes;
        closed = start.closed;
        of_line = start.of_line;
      }

  abbrev pub record_in : code_record.RecordForm → TypeForm
  record_in = fold-RecordForm TypeForm GroupSeen (Fields → Fields) TypeForm (type_step spellings) (group_step spellings)
      (more_fields_step spellings) (record_step spellings)

  abbrev pub seen_group : GroupSeen → Group
  seen_group group = record { names = group.names; colon = group.colon; form = group.form }

  abbrev pub group_in : code_group.FieldGroup → Group
  group_in group = seen_group (fold-FieldGroup TypeForm GroupSeen (Fields → Fields) TypeForm (type_step spellings)
      (group_step spellings) (more_fields_step spellings) (record_step spellings) group)

  abbrev pub more_fields_in : code_more.MoreFields → Fields → Fields
  more_fields_in = fold-MoreFields TypeForm GroupSeen (Fields → Fields) TypeForm (type_step spellings)
      (group_step spellings) (more_fields_step spellings) (record_step spellings)

  abbrev pub fields_in : code_group.FieldGroup → List code_more.MoreFields → Option ℕ → FieldsRead
  fields_in first more semicolon =
      record {
        fields = in_turn (tree.first_fields (group_in first).names (group_in first).colon (group_in first).form)
            (map more_fields_in more);
        semicolon = semicolon;
      }

  abbrev pub field_list_in : FieldList → FieldsRead
  field_list_in list = fields_in list.first list.more list.semicolon
