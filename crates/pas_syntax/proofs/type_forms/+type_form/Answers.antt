use Rattle.std.proofs.Common.{◌≡◌, ◌∙◌, refl, sym, ap, subst, arith, ℕ, ◌+◌, suc, length, map}
use Rattle.std.proofs.Common.{Option, Some, None}
use Rattle.std.proofs.lemmas.Result.{err_from_is_err_and}
use Rattle.pas_tokens.specs.declared.kinds.Kind.TheVariants as k
use Rattle.pas_syntax.specs.declared.tree.TypeForm.TheVariants as code
use Rattle.pas_syntax.specs.Tree as tree
use Rattle.pas_syntax.specs.Tree.{Idents, TypeForm, Fields}
use Rattle.pas_syntax.specs.Views.{in_turn, ident_in, simple_in, separated_in}
use Rattle.pas_syntax.specs.ProgramViews.{type_in}
use Rattle.pas_syntax.specs.inner.Prog.{Prog, done, look, skip, bind, head, run, turns}
use Rattle.pas_syntax.specs.inner.Marks.{mark}
use Rattle.pas_syntax.specs.inner.Places.{same}
use Rattle.pas_syntax.specs.inner.Readers.{unless}
use Rattle.pas_syntax.specs.inner.StatementReaders.{with_line}
use Rattle.pas_syntax.specs.inner.TypeReaders.{simple, ArrayStart, Group, FieldsRead, type_form, structured_at}
use Rattle.pas_syntax.specs.inner.TypeReaders.{array_start_by, record_body}
use Rattle.pas_syntax.specs.inner.TypeReaders.{fields_by, behind_semicolon}
use Rattle.pas_syntax.specs.inner.TypeReaders.{behind_fields, first_group}
use Rattle.pas_syntax.specs.inner.TypeViews.{array_head_in, group_in, fields_in, field_list_in}
use Rattle.pas_syntax.specs.inner.TypeViews.{more_fields_in}
use Rattle.pas_syntax.proofs.PlaceLemmas.{told, returned, stops, goes_as, goes_on, answers, skips, line_of_head}
use Rattle.pas_syntax.proofs.PlaceLemmas.{with_more, no_memory}
use Rattle.pas_syntax.proofs.PlaceLemmas.{seen_as, still_stops, any_turns}
use Rattle.pas_syntax.proofs.DeepLemmas.{at_depth}
use Rattle.pas_syntax.proofs.PlaceSteps.{from_here, and_then, behind_line, stopped, passed, read, no_room}
use Rattle.pas_syntax.proofs.TypeSteps.{type_takes, packed_goes, bare_goes, plain_goes, simple_view, array_view}
use Rattle.pas_syntax.proofs.TypeSteps.{record_view, file_view, group_view, turn_kinds, semicolon_goes, group_goes}
use Rattle.pas_syntax.proofs.TypeSteps.{last_semicolon}
use Rattle.pas_syntax.proofs.TypeSteps.{fields_end, more_fields_view, record_form_view}
use Rattle.pas_syntax.proofs.ExprViews.{pushed_in_turn}
use Rattle.pas_syntax.proofs.SoFar.{SoFar, begun_behind, turned, turn_stops, loop_ends}
use Rattle.pas_syntax.proofs.type_forms.+type_form.Goals as goal

-- what is read behind the start of an array type, and behind `of` of a file type
abbrev array_of : ArrayStart → TypeForm → Prog TypeForm
array_of start element =
    done (tree.array start.packed start.line start.opened start.indexes start.closed start.of_line element)

abbrev behind_start : ℕ → ℕ → ArrayStart → Prog TypeForm
behind_start n m start = bind (type_form m (n + 1)) (array_of start)

abbrev file_of : Option ℕ → ℕ → ℕ → TypeForm → Prog TypeForm
file_of packed line of_line component = done (tree.file packed line of_line component)

abbrev behind_of : ℕ → Option ℕ → ℕ → ℕ → ℕ → Prog TypeForm
behind_of n packed line m of_line = bind (type_form m (n + 1)) (file_of packed line of_line)

-- fields behind others
abbrev more_of : Fields → ℕ → Group → FieldsRead
more_of fields line group = record {
  fields = tree.more_fields fields line group.names group.colon group.form;
  semicolon = None;
}

-- what is read behind the names of fields
abbrev group_of : Idents → ℕ → TypeForm → Prog Group
group_of names colon form = done (record { names = names; colon = colon; form = form })

abbrev behind_colon : ℕ → Idents → ℕ → ℕ → Prog Group
behind_colon n names m colon = bind (type_form m n) (group_of names colon)

abbrev behind_names : ℕ → ℕ → Idents → Prog Group
behind_names n m names = bind (mark k.Colon) (behind_colon n names m)

pub field_group-returns-in_err-names : goal.field_group-returns-in_err-names
field_group-returns-in_err-names t c =
    returned (err_from_is_err_and _ c.from_residual.ensures.1)
    (stops (behind_names c.args.depth.forms) c.in_err-names.ensures)

pub field_group-returns-in_err-colon : goal.field_group-returns-in_err-colon
field_group-returns-in_err-colon t c =
    let names = separated_in (ident_in c.args.reader.now.spellings) c.in_ok-names.names in
    from_here (and_then (behind_names c.args.depth.forms) c.in_ok-names.ensures
    (stopped (behind_colon c.args.depth.forms names) c.from_residual-in_err-colon.result c.in_err-colon.ensures
    c.from_residual-in_err-colon.ensures.1))

pub field_group-returns-in_err-form : goal.field_group-returns-in_err-form
field_group-returns-in_err-form t c =
    let names = separated_in (ident_in c.args.reader.now.spellings) c.in_ok-names.names in
    from_here (and_then (behind_names c.args.depth.forms) c.in_ok-names.ensures
    (and_then (behind_colon c.args.depth.forms names) c.in_ok-colon.ensures
    (stopped (λ m. group_of names c.in_ok-colon.colon) c.from_residual-in_err-form.result c.in_err-form.ensures
    c.from_residual-in_err-form.ensures.1)))

pub field_group-returns : goal.field_group-returns
field_group-returns t c =
    let s = c.args.reader.now.spellings in
    let names = separated_in (ident_in s) c.in_ok-names.names in
    from_here (and_then (behind_names c.args.depth.forms) c.in_ok-names.ensures
    (and_then (behind_colon c.args.depth.forms names) c.in_ok-colon.ensures
    (and_then (λ m. group_of names c.in_ok-colon.colon) c.in_ok-form.ensures
    (read (sym (group_view s (record {
      names = c.in_ok-names.names;
      colon = c.in_ok-colon.colon;
      form = c.in_ok-form.form;
    })))))))

pub array_form-returns-in_err-head : goal.array_form-returns-in_err-head
array_form-returns-in_err-head t c =
    let n = c.args.depth.forms in
    let inner = c.in_ok-inner.ensures.ok in
    let ts = c.args.reader.now.tokens in
    goes_as (λ m. ap (λ b. run (unless b (skip (bind (array_start_by m n c.args.packed (head ts).line) (behind_start n
    m)))) ts) inner.fits)
    (from_here (stopped (behind_start n) c.from_residual-in_err-head.result
    (c.in_err-head.ensures n (ap (λ d. d.forms) inner.inner_is)) c.from_residual-in_err-head.ensures.1))

pub array_form-returns-in_err-element : goal.array_form-returns-in_err-element
array_form-returns-in_err-element t c =
    let n = c.args.depth.forms in
    let inner = c.in_ok-inner.ensures.ok in
    let ts = c.args.reader.now.tokens in
    goes_as (λ m. ap (λ b. run (unless b (skip (bind (array_start_by m n c.args.packed (head ts).line) (behind_start n
    m)))) ts) inner.fits)
    (from_here (behind_line (behind_start n) (c.in_ok-head.ensures n (ap (λ d. d.forms) inner.inner_is))
    (stopped (λ m. array_of (array_head_in c.args.reader.now.spellings c.in_ok-head.head))
    c.from_residual-in_err-element.result
    (at_depth (λ m f o. type_form m f) inner.inner_is c.in_err-element.ensures)
    c.from_residual-in_err-element.ensures.1)))

pub array_form-returns-in_err-new : goal.array_form-returns-in_err-new
array_form-returns-in_err-new t c =
    let n = c.args.depth.forms in
    let inner = c.in_ok-inner.ensures.ok in
    let ts = c.args.reader.now.tokens in
    goes_as (λ m. ap (λ b. run (unless b (skip (bind (array_start_by m n c.args.packed (head ts).line) (behind_start n
    m)))) ts) inner.fits)
    (from_here (behind_line (behind_start n) (c.in_ok-head.ensures n (ap (λ d. d.forms) inner.inner_is))
    (and_then (λ m. array_of (array_head_in c.args.reader.now.spellings c.in_ok-head.head))
    (at_depth (λ m f o. type_form m f) inner.inner_is c.in_ok-element.ensures)
    (no_room c.from_residual-in_err-new.result c.from_residual-in_err-new.ensures.1))))

pub array_form-returns-in_err-new-2 : goal.array_form-returns-in_err-new-2
array_form-returns-in_err-new-2 t c =
    let n = c.args.depth.forms in
    let inner = c.in_ok-inner.ensures.ok in
    let ts = c.args.reader.now.tokens in
    goes_as (λ m. ap (λ b. run (unless b (skip (bind (array_start_by m n c.args.packed (head ts).line) (behind_start n
    m)))) ts) inner.fits)
    (from_here (behind_line (behind_start n) (c.in_ok-head.ensures n (ap (λ d. d.forms) inner.inner_is))
    (and_then (λ m. array_of (array_head_in c.args.reader.now.spellings c.in_ok-head.head))
    (at_depth (λ m f o. type_form m f) inner.inner_is c.in_ok-element.ensures)
    (no_room c.from_residual-in_err-new-2.result c.from_residual-in_err-new-2.ensures.1))))

pub array_form-returns : goal.array_form-returns
array_form-returns t c =
    let n = c.args.depth.forms in
    let s = c.args.reader.now.spellings in
    let inner = c.in_ok-inner.ensures.ok in
    let ts = c.args.reader.now.tokens in
    goes_as (λ m. ap (λ b. run (unless b (skip (bind (array_start_by m n c.args.packed (head ts).line) (behind_start n
    m)))) ts) inner.fits)
    (from_here (behind_line (behind_start n) (c.in_ok-head.ensures n (ap (λ d. d.forms) inner.inner_is))
    (and_then (λ m. array_of (array_head_in s c.in_ok-head.head))
    (at_depth (λ m f o. type_form m f) inner.inner_is c.in_ok-element.ensures)
    (read (sym ((λ i. type_in s (code.Array (c.in_ok-new.ensures i) (c.in_ok-new-2.ensures i)))
    ∙ array_view s c.in_ok-head.head c.in_ok-element.element))))))

pub file_form-returns-in_err-of_line : goal.file_form-returns-in_err-of_line
file_form-returns-in_err-of_line t c =
    let n = c.args.depth.forms in
    let inner = c.in_ok-inner.ensures.ok in
    let ts = c.args.reader.now.tokens in
    goes_as (λ m. ap (λ b. run (unless b (skip (bind (mark k.Of) (behind_of n c.args.packed (head ts).line m)))) ts)
    inner.fits)
    (from_here (passed (λ m line. bind (mark k.Of) (behind_of n c.args.packed line m)) c.pass-line.ensures
    (stopped (behind_of n c.args.packed c.pass-line.result) c.from_residual-in_err-of_line.result
    c.in_err-of_line.ensures c.from_residual-in_err-of_line.ensures.1)))

pub file_form-returns-in_err-component : goal.file_form-returns-in_err-component
file_form-returns-in_err-component t c =
    let n = c.args.depth.forms in
    let inner = c.in_ok-inner.ensures.ok in
    let ts = c.args.reader.now.tokens in
    goes_as (λ m. ap (λ b. run (unless b (skip (bind (mark k.Of) (behind_of n c.args.packed (head ts).line m)))) ts)
    inner.fits)
    (from_here (passed (λ m line. bind (mark k.Of) (behind_of n c.args.packed line m)) c.pass-line.ensures
    (and_then (behind_of n c.args.packed c.pass-line.result) c.in_ok-of_line.ensures
    (stopped (λ m. file_of c.args.packed c.pass-line.result c.in_ok-of_line.of_line)
    c.from_residual-in_err-component.result
    (at_depth (λ m f o. type_form m f) inner.inner_is c.in_err-component.ensures)
    c.from_residual-in_err-component.ensures.1))))

pub file_form-returns : goal.file_form-returns
file_form-returns t c =
    let n = c.args.depth.forms in
    let s = c.args.reader.now.spellings in
    let inner = c.in_ok-inner.ensures.ok in
    let ts = c.args.reader.now.tokens in
    goes_as (λ m. ap (λ b. run (unless b (skip (bind (mark k.Of) (behind_of n c.args.packed (head ts).line m)))) ts)
    inner.fits)
    (from_here (passed (λ m line. bind (mark k.Of) (behind_of n c.args.packed line m)) c.pass-line.ensures
    (and_then (behind_of n c.args.packed c.pass-line.result) c.in_ok-of_line.ensures
    (and_then (λ m. file_of c.args.packed c.pass-line.result c.in_ok-of_line.of_line)
    (at_depth (λ m f o. type_form m f) inner.inner_is c.in_ok-component.ensures)
    (read (sym (ap (λ f. type_in s (code.File
    (record { packed = c.args.packed; line = c.pass-line.result; of_line = c.in_ok-of_line.of_line }) f))
    c.in_ok-new.ensures
    ∙ file_view s (record { packed = c.args.packed; line = c.pass-line.result; of_line = c.in_ok-of_line.of_line })
    c.in_ok-component.component)))))))

pub structured-returns-in-Array : goal.structured-returns-in-Array
structured-returns-in-Array t c =
    let ts = c.args.reader.now.tokens in
    goes_as (λ m. told (structured_at (type_form m) m c.args.depth.forms c.args.packed) k.Array ts (head ts).line tt
    c.in-Array.ensures.kind c.in-Array.ensures.fits refl) c.array_form.ensures

pub structured-returns-in-File : goal.structured-returns-in-File
structured-returns-in-File t c =
    let ts = c.args.reader.now.tokens in
    goes_as (λ m. told (structured_at (type_form m) m c.args.depth.forms c.args.packed) k.File ts (head ts).line tt
    c.in-File.ensures.kind c.in-File.ensures.fits refl) c.file_form.ensures

pub structured-returns-in_err-form-in-Record : goal.structured-returns-in_err-form-in-Record
structured-returns-in_err-form-in-Record t c =
    let n = c.args.depth.forms in
    let ts = c.args.reader.now.tokens in
    let inner = c.in_ok-inner-in-Record.ensures.ok in
    returned (err_from_is_err_and _ c.from_residual-in_err-form-in-Record.ensures.1)
    (goes_as (λ m. told (structured_at (type_form m) m n c.args.packed) k.Record ts (head ts).line tt
    c.in-Record.ensures.kind c.in-Record.ensures.fits refl
    ∙ ap (λ b. run (unless b (record_body (type_form m) m (n + 1) c.args.packed (head ts).line)) ts) inner.fits)
    (still_stops (at_depth (λ m f o. with_line (λ line. record_body (type_form m) m f c.args.packed line))
    inner.inner_is
    c.in_err-form-in-Record.ensures)))

pub structured-returns-in_ok-new-in-Record : goal.structured-returns-in_ok-new-in-Record
structured-returns-in_ok-new-in-Record t c =
    let n = c.args.depth.forms in
    let ts = c.args.reader.now.tokens in
    let inner = c.in_ok-inner-in-Record.ensures.ok in
    goes_as (λ m. told (structured_at (type_form m) m n c.args.packed) k.Record ts (head ts).line tt
    c.in-Record.ensures.kind c.in-Record.ensures.fits refl
    ∙ ap (λ b. run (unless b (record_body (type_form m) m (n + 1) c.args.packed (head ts).line)) ts) inner.fits)
    (seen_as (λ s. sym (record_view s c.in_ok-form-in-Record.form)
    ∙ sym (ap (λ f. type_in s (code.Record f)) c.in_ok-new-in-Record.ensures))
    (at_depth (λ m f o. with_line (λ line. record_body (type_form m) m f c.args.packed line)) inner.inner_is
    c.in_ok-form-in-Record.ensures))

pub type_form-returns-in-Packed : goal.type_form-returns-in-Packed
type_form-returns-in-Packed t c =
    let n = c.args.depth.forms in
    let ts = c.args.reader.now.tokens in
    type_takes n (goes_as (λ m. packed_goes (type_form m) m n ts c.pass.result c.in-Packed.ensures.kind
    c.in-Packed.ensures.fits (line_of_head c.pass.ensures))
    (skips c.pass.ensures (omega arith) (with_more (omega arith) c.structured.ensures)))

pub type_form-returns-in-Array : goal.type_form-returns-in-Array
type_form-returns-in-Array t c =
    let n = c.args.depth.forms in
    type_takes n (goes_as (λ m. bare_goes (type_form m) m n c.args.reader.now.tokens
    (turn_kinds c.kind.ensures.kind c.in-Array.is) c.kind.ensures.fits) c.structured-in-Array.ensures)

pub type_form-returns-in_err-simple-in_default : goal.type_form-returns-in_err-simple-in_default
type_form-returns-in_err-simple-in_default t c =
    let n = c.args.depth.forms in
    let not = c.in_default in
    returned (err_from_is_err_and _ c.from_residual.ensures.1)
    (type_takes n (goes_as (λ m. plain_goes (type_form m) m n c.args.reader.now.tokens
    (λ e. not.not-Packed (c.kind.ensures.kind ∙ sym e)) (λ e. not.not-Array (c.kind.ensures.kind ∙ sym e))
    (λ e. not.not-Record (c.kind.ensures.kind ∙ sym e)) (λ e. not.not-File (c.kind.ensures.kind ∙ sym e)))
    (stops (λ m s. done (tree.simple s)) (any_turns simple c.in_err-simple-in_default.ensures))))

pub type_form-returns-in_ok-simple-in_default : goal.type_form-returns-in_ok-simple-in_default
type_form-returns-in_ok-simple-in_default t c =
    let n = c.args.depth.forms in
    let not = c.in_default in
    let found = c.in_ok-simple-in_default.field-0 in
    let read_so = c.in_ok-simple-in_default.ensures in
    type_takes n (goes_as (λ m. plain_goes (type_form m) m n c.args.reader.now.tokens
    (λ e. not.not-Packed (c.kind.ensures.kind ∙ sym e)) (λ e. not.not-Array (c.kind.ensures.kind ∙ sym e))
    (λ e. not.not-Record (c.kind.ensures.kind ∙ sym e)) (λ e. not.not-File (c.kind.ensures.kind ∙ sym e)))
    (goes_on (λ m s. done (tree.simple s)) (any_turns simple read_so)
    (answers (ap (λ s. tree.simple (simple_in s found)) (sym read_so.spellings) ∙ sym (simple_view _ found)))))

-- what is read behind the fields of a record type
abbrev record_of : Option ℕ → ℕ → FieldsRead → ℕ → Prog TypeForm
record_of packed line found end = done (tree.record_type packed line found.fields found.semicolon end)

abbrev behind_all : Option ℕ → ℕ → FieldsRead → Prog TypeForm
behind_all packed line found = bind (mark k.End) (record_of packed line found)

pub record_form-returns-in_err-fields : goal.record_form-returns-in_err-fields
record_form-returns-in_err-fields t c =
    from_here (passed (λ m line. bind (fields_by (type_form m) m c.args.depth.forms) (behind_all c.args.packed line))
    c.pass-line.ensures
    (stopped (λ m. behind_all c.args.packed c.pass-line.result) c.from_residual.result c.in_err-fields.ensures
    c.from_residual.ensures.1))

pub record_form-returns-in_err-end : goal.record_form-returns-in_err-end
record_form-returns-in_err-end t c =
    let found = field_list_in c.args.reader.now.spellings c.in_ok-fields.fields in
    from_here (passed (λ m line. bind (fields_by (type_form m) m c.args.depth.forms) (behind_all c.args.packed line))
    c.pass-line.ensures
    (and_then (λ m. behind_all c.args.packed c.pass-line.result) c.in_ok-fields.ensures
    (stopped (λ m. record_of c.args.packed c.pass-line.result found) c.from_residual-in_err-end.result
    c.in_err-end.ensures c.from_residual-in_err-end.ensures.1)))

pub record_form-returns : goal.record_form-returns
record_form-returns t c =
    let s = c.args.reader.now.spellings in
    let fields = c.in_ok-fields.fields in
    from_here (passed (λ m line. bind (fields_by (type_form m) m c.args.depth.forms) (behind_all c.args.packed line))
    c.pass-line.ensures
    (and_then (λ m. behind_all c.args.packed c.pass-line.result) c.in_ok-fields.ensures
    (and_then (λ m. record_of c.args.packed c.pass-line.result (field_list_in s fields)) c.in_ok-end.ensures
    (read (sym (record_form_view s (record {
      packed = c.args.packed;
      line = c.pass-line.result;
      first = fields.first;
      more = fields.more;
      semicolon = fields.semicolon;
      end = c.in_ok-end.end;
    })))))))

pub fields-returns-in_err-first : goal.fields-returns-in_err-first
fields-returns-in_err-first t c =
    let n = c.args.depth.forms in
    returned (err_from_is_err_and _ c.from_residual.ensures.1)
    (stops (λ m first. turns (behind_fields (type_form m) m n) m (first_group (type_form m) m first))
    c.in_err-first.ensures)

pub fields-more-init : goal.fields-more-init
fields-more-init t c =
    let n = c.args.depth.forms in
    let s = c.args.reader.now.spellings in
    subst (λ more. SoFar (λ m. fields_by (type_form m) m n) (λ m. behind_fields (type_form m) m n) c.args.reader.now
    c.field_group.new.reader (fields_in s c.in_ok-first.first more None)) (sym c.new-more.ensures)
    (begun_behind (λ group. record { fields = tree.first_fields group.names group.colon group.form; semicolon = None })
    c.in_ok-first.ensures)

pub fields-returns-in_err-group-in-Name : goal.fields-returns-in_err-group-in-Name
fields-returns-in_err-group-in-Name t c =
    let n = c.args.depth.forms in
    let s = c.args.reader.now.spellings in
    let line = c.pass-line.result in
    let found = (fields_in s c.in_ok-first.first c.more.more None).fields in
    returned (err_from_is_err_and _ c.from_residual-in_err-group-in-Name.ensures.1)
    (turn_stops {view = λ s g. more_of found line (group_in s g)} c.more.invariant
    (goes_as (λ m. semicolon_goes (type_form m) m n found c.more.reader.tokens line c.in-Semicolon.ensures.kind
    c.in-Semicolon.ensures.fits (line_of_head c.pass-line.ensures))
    (skips {q = λ m. look (behind_semicolon (type_form m) m n found line)} c.pass-line.ensures (omega arith)
    (goes_as (λ m. group_goes (type_form m) m n found c.pass-line.new.self.tokens line c.in-Name.ensures.kind)
    (stops (λ m group. done (more_of found line group)) c.in_err-group-in-Name.ensures)))))

pub fields-returns-in_err-push-in-Name : goal.fields-returns-in_err-push-in-Name
fields-returns-in_err-push-in-Name t c =
    let n = c.args.depth.forms in
    let s = c.args.reader.now.spellings in
    let line = c.pass-line.result in
    let found = (fields_in s c.in_ok-first.first c.more.more None).fields in
    returned (err_from_is_err_and _ c.from_residual-in_err-push-in-Name.ensures.1)
    (turn_stops {view = λ s g. more_of found line (group_in s g)} c.more.invariant
    (goes_as (λ m. semicolon_goes (type_form m) m n found c.more.reader.tokens line c.in-Semicolon.ensures.kind
    c.in-Semicolon.ensures.fits (line_of_head c.pass-line.ensures))
    (skips {q = λ m. look (behind_semicolon (type_form m) m n found line)} c.pass-line.ensures (omega arith)
    (goes_as (λ m. group_goes (type_form m) m n found c.pass-line.new.self.tokens line c.in-Name.ensures.kind)
    (goes_on (λ m group. done (more_of found line group)) c.in_ok-group-in-Name.ensures no_memory)))))

pub fields-more-preserved : goal.fields-more-preserved
fields-more-preserved t c =
    let n = c.args.depth.forms in
    let s = c.args.reader.now.spellings in
    let line = c.pass-line.result in
    let first = c.in_ok-first.first in
    let start = tree.first_fields (group_in s first).names (group_in s first).colon (group_in s first).form in
    let found = in_turn start (map (more_fields_in s) c.more.more) in
    let group = c.in_ok-group-in-Name.group in
    let got = c.in_ok-group-in-Name.ensures in
    let one : in_turn start (map (more_fields_in s) c.push.new.self)
    ≡ (more_of found line (group_in s group)).fields =
    pushed_in_turn start (more_fields_in s) c.more.more _ _ c.in_ok-push-in-Name.ensures.ok
    ∙ ap (λ f. f found) (more_fields_view s (record { line = line; group = group })) in
    let count : length c.more.reader.tokens ≡ suc (length c.pass-line.new.self.tokens) =
    ap length c.pass-line.ensures.tokens
    in
    subst (λ fields. SoFar (λ m. fields_by (type_form m) m n) (λ m. behind_fields (type_form m) m n) c.args.reader.now
    c.field_group-in-Name.new.reader (record { fields = fields; semicolon = None })) (sym one)
    (turned {view = λ s g. more_of found line (group_in s g)} {x = group} c.more.invariant
    (goes_as (λ m. semicolon_goes (type_form m) m n found c.more.reader.tokens line c.in-Semicolon.ensures.kind
    c.in-Semicolon.ensures.fits (line_of_head c.pass-line.ensures))
    (skips {q = λ m. look (behind_semicolon (type_form m) m n found line)} c.pass-line.ensures (omega arith)
    (goes_as (λ m. group_goes (type_form m) m n found c.pass-line.new.self.tokens line c.in-Name.ensures.kind)
    (goes_on (λ m group. done (more_of found line group)) got
    (answers (ap (λ s. more_of found line (group_in s group)) (sym got.spellings)))))))
    (omega (arith, count, got.shorter)))

pub fields-returns-in_default : goal.fields-returns-in_default
fields-returns-in_default t c =
    let n = c.args.depth.forms in
    let found = (fields_in c.args.reader.now.spellings c.in_ok-first.first c.more.more None).fields in
    loop_ends c.more.invariant
    (λ m. fields_end (type_form m) m n found _ _ _ (λ e. c.in_default.not-Semicolon (c.kind.ensures.kind ∙ sym e))) refl

pub fields-returns-in_default-kind : goal.fields-returns-in_default-kind
fields-returns-in_default-kind t c =
    let n = c.args.depth.forms in
    let line = c.pass-line.result in
    let found = (fields_in c.args.reader.now.spellings c.in_ok-first.first c.more.more None).fields in
    let last : FieldsRead = record { fields = found; semicolon = Some line } in
    let count : length c.more.reader.tokens ≡ suc (length c.pass-line.new.self.tokens) =
    ap length c.pass-line.ensures.tokens
    in
    loop_ends (turned {view = same} {x = last} c.more.invariant
    (goes_as (λ m. semicolon_goes (type_form m) m n found c.more.reader.tokens line c.in-Semicolon.ensures.kind
    c.in-Semicolon.ensures.fits (line_of_head c.pass-line.ensures))
    (skips {q = λ m. look (behind_semicolon (type_form m) m n found line)} c.pass-line.ensures (omega arith)
    (goes_as (λ m. last_semicolon (type_form m) m n found c.pass-line.new.self.tokens line
    (λ e. c.in_default-kind.not-Name (c.kind-in-Semicolon.ensures.kind ∙ sym e))) (answers refl))))
    (omega (arith, count))) (λ m. refl) refl
