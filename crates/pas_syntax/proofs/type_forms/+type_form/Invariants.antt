use Rattle.std.proofs.Common.{◌+◌, ◌-◌, ◌*◌, length, ℕ, None}
use Rattle.pas_syntax.specs.declared.limits.TheConstants.{NESTING_LIMIT}
use Rattle.pas_syntax.specs.inner.TypeReaders.{fields_by, behind_fields, type_form}
use Rattle.pas_syntax.specs.inner.TypeViews.{fields_in}
use Rattle.pas_syntax.proofs.SoFar.{SoFar}
use Rattle.pas_syntax.proofs.type_forms.+type_form.Given as goal

-- how many forms may still come
abbrev room : ℕ → ℕ
room forms = 6 * (NESTING_LIMIT - forms)

abbrev pub decreases-type_form : goal.decreases-type_form
decreases-type_form l = room l.depth.forms + 2

abbrev pub decreases-structured : goal.decreases-structured
decreases-structured l = room l.depth.forms + 1

abbrev pub decreases-array_form : goal.decreases-array_form
decreases-array_form l = room l.depth.forms

abbrev pub decreases-file_form : goal.decreases-file_form
decreases-file_form l = room l.depth.forms

abbrev pub decreases-record_form : goal.decreases-record_form
decreases-record_form l = room l.depth.forms + 5

abbrev pub decreases-field_group : goal.decreases-field_group
decreases-field_group l = room l.depth.forms + 3

abbrev pub decreases-fields : goal.decreases-fields
decreases-fields l = room l.depth.forms + 4

abbrev pub invariant-fields-more : goal.invariant-fields-more
invariant-fields-more l =
    SoFar (λ m. fields_by (type_form m) m l.depth.forms) (λ m. behind_fields (type_form m) m l.depth.forms)
    l.fn.reader l.reader (fields_in l.fn.reader.spellings l.first l.more None)

abbrev pub decreases-fields-more : goal.decreases-fields-more
decreases-fields-more l = length l.reader.tokens
