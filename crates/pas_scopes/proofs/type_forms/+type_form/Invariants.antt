use Rattle.std.proofs.Common.{◌≡◌, ℕ, take, Some, None}
use Rattle.wb_base.specs.declared.faults.Fault.{Fault}
use Rattle.pas_typed.specs.TypeViews.{table_view}
use Rattle.pas_rules.specs.Scopes.{Scopes}
use Rattle.pas_rules.specs.TypeForms.{groups_of, field_names}
use Rattle.pas_scopes.specs.ScopeViews.{scopes_view, IsClear, Agrees}
use Rattle.pas_scopes.specs.FormAnswers.{fields_view, Grows}
use Rattle.pas_scopes.proofs.GroupLemmas.{so_far, FieldsTold}
use Rattle.pas_scopes.proofs.FormSeen.{first_in}
use Rattle.pas_scopes.proofs.type_forms.+type_form.Given as goal

abbrev pub decreases-fields_of : goal.decreases-fields_of
decreases-fields_of l = goal.size-fields_of l

abbrev pub decreases-form_of : goal.decreases-form_of
decreases-form_of l = goal.size-form_of l

abbrev pub decreases-group_of : goal.decreases-group_of
decreases-group_of l = goal.size-group_of l

abbrev pub invariant-fields_of-loop-more : goal.invariant-fields_of-loop-more
invariant-fields_of-loop-more l = record {
  kept : l.scopes ≡ record l.fn.scopes { types = l.scopes.types };
  grows : Grows l.fn.scopes.types l.scopes.types;
  noted : (fault : Fault) → l.fn.noted ≡ Some fault → l.noted ≡ Some fault;
  names : l.noted ≡ None → l.names ≡ field_names (so_far l.fn.scopes.spellings.now
      (first_in l.fn.scopes.spellings.now l.form) (take l.more-index l.more-items));
  value : (s : Scopes) → Agrees s (scopes_view l.fn.scopes)
      → (groups_of s (table_view l.fn.scopes.spellings.now l.fn.scopes.types)
      (so_far l.fn.scopes.spellings.now (first_in l.fn.scopes.spellings.now l.form) (take l.more-index
      l.more-items))).value
      ≡ Some (fields_view l.fn.scopes.spellings.now (table_view l.scopes.spellings.now l.scopes.types) l.fields);
  told : l.fn.noted ≡ None → (s : Scopes) → Agrees s (scopes_view l.fn.scopes) → (n : ℕ)
      → FieldsTold s (table_view l.fn.scopes.spellings.now l.fn.scopes.types) n (IsClear s)
      (so_far l.fn.scopes.spellings.now (first_in l.fn.scopes.spellings.now l.form) (take l.more-index l.more-items))
      (fields_view l.fn.scopes.spellings.now (table_view l.scopes.spellings.now l.scopes.types) l.fields) l.noted;
}
