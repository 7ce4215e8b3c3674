-- The readers of constants and types, as the code goes. A number of turns bounds each loop and each recursion.
use Rattle.std.specs.Prelude.{ℕ, zero, suc, ◌+◌, [], ◌∷◌, ◌++◌, Option, Some, None}
use Rattle.wb_base.specs.declared.faults.TheConstants.{ENUMERATIONS, SETS, POINTERS}
use Rattle.pas_tokens.specs.declared.kinds.Kind.{Kind}
use Rattle.pas_tokens.specs.declared.kinds.Kind.TheVariants as k
use Rattle.pas_tokens.specs.Cutting.{Payload, nothing, value, spelling}
use Rattle.pas_syntax.specs.declared.operators.Sign.{Sign}
use Rattle.pas_syntax.specs.declared.operators.Sign.TheVariants as sign
use Rattle.pas_syntax.specs.Tree as tree
use Rattle.pas_syntax.specs.Tree.{Ident, Lined, Separated, Idents, Constant, Simple, TypeForm, Fields}
use Rattle.pas_syntax.specs.inner.Prog.{
  Prog,
  done,
  fail,
  look,
  skip,
  bind,
  misplaced,
  shown,
  spent,
  Next,
  more,
  ends,
  turns,
}
use Rattle.pas_syntax.specs.inner.Readers.{in_form, ident}
use Rattle.pas_syntax.specs.inner.Marks.{mark}

-- items with one more behind a separator in this line
abbrev pub pushed : {A : Type 0} → Separated A → ℕ → A → Separated A
pushed items line item =
    record { first = items.first; more = items.more ++ record { line = line; item = item } ∷ [] }

abbrev pub single : {A : Type 0} → A → Separated A
single item = record { first = item; more = [] }

-- item {"," item}
abbrev pub behind_item : {A : Type 0} → Prog A → Separated A → Kind → Payload → ℕ → Next (Separated A)
behind_item item found k.Comma nothing line = more (bind item (λ next. done (pushed found line next)))
behind_item item found kind payload line = ends

abbrev pub items_by : {A : Type 0} → Prog A → ℕ → Prog (Separated A)
items_by item most = bind item (λ first. turns (behind_item item) most (single first))

-- const = ["+"|"-"] (number | id) | string
abbrev pub unsigned_at : Option (Lined Sign) → Kind → Payload → ℕ → Prog Constant
unsigned_at lead k.Number (value number) line = skip (done (tree.number lead (record { value = number; line = line })))
unsigned_at lead k.Name (spelling name) line = skip (done (tree.named lead (record { name = name; line = line })))
unsigned_at lead kind payload line = fail misplaced

abbrev pub lead_by : Sign → ℕ → Option (Lined Sign)
lead_by lead line = Some (record { item = lead; line = line })

abbrev pub constant_at : Kind → Payload → ℕ → Prog Constant
constant_at k.Text (spelling text) line = skip (done (tree.text (record { text = text; line = line })))
constant_at k.Plus nothing line = skip (look (unsigned_at (lead_by sign.Plus line)))
constant_at k.Minus nothing line = skip (look (unsigned_at (lead_by sign.Minus line)))
constant_at kind payload line = unsigned_at None kind payload line

abbrev pub constant : Prog Constant
constant = look constant_at

-- simple = id | const ".." const
abbrev pub range_at : Constant → Kind → Payload → ℕ → Prog Simple
range_at low k.Dots nothing line = skip (bind constant (λ high. done (tree.range low line high)))
range_at low kind payload line = fail misplaced

abbrev pub range_by : Constant → Prog Simple
range_by low = bind (mark k.Dots) (λ line. bind constant (λ high. done (tree.range low line high)))

abbrev pub behind_simple_name : Ident → Kind → Payload → ℕ → Prog Simple
behind_simple_name name k.Dots nothing line =
    skip (bind constant (λ high. done (tree.range (tree.named None name) line high)))
behind_simple_name name kind payload line = done (tree.simple_named name)

abbrev pub simple_at : Kind → Payload → ℕ → Prog Simple
simple_at k.Name (spelling name) line = skip (look (behind_simple_name (record { name = name; line = line })))
simple_at k.LeftParenthesis nothing line = fail (shown ENUMERATIONS)
simple_at k.Set nothing line = fail (shown SETS)
simple_at k.Caret nothing line = fail (shown POINTERS)
simple_at kind payload line = bind constant (λ low. look (range_at low))

abbrev pub simple : Prog Simple
simple = look simple_at

-- type = simple
--      | ["packed"] "array" "[" simple {"," simple} "]" "of" type
--      | ["packed"] "record" ids ":" type {";" ids ":" type} [";"] "end"
--      | ["packed"] "file" "of" type
-- what stands before the element of an array type
pub record ArrayStart : Type 0 where
  pub packed : Option ℕ
  pub line : ℕ
  pub opened : ℕ
  pub indexes : Separated Simple
  pub closed : ℕ
  pub of_line : ℕ

-- ids ":" type
pub record Group : Type 0 where
  pub names : Idents
  pub colon : ℕ
  pub form : TypeForm

-- fields so far, and the semicolon behind them, if that is the last token read
pub record FieldsRead : Type 0 where
  pub fields : Fields
  pub semicolon : Option ℕ

-- the bracket that opens a form
abbrev pub open_at : ℕ → Kind → Payload → ℕ → Prog ℕ
open_at n k.LeftBracket nothing line = in_form n (skip (done line))
open_at n kind payload line = fail misplaced

abbrev pub idents_by : ℕ → Prog Idents
idents_by most = items_by ident most

-- "[" simple {"," simple} "]" "of", in a form inside n others
abbrev pub array_start_by : ℕ → ℕ → Option ℕ → ℕ → Prog ArrayStart
array_start_by most n packed line =
    bind (look (open_at (n + 2))) (λ opened. bind (items_by simple most) (λ indexes. bind (mark k.RightBracket)
    (λ closed. bind (mark k.Of) (λ of_line. done (record {
      packed = packed;
      line = line;
      opened = opened;
      indexes = indexes;
      closed = closed;
      of_line = of_line;
    })))))

module _ (form : ℕ → Prog TypeForm) (most : ℕ) where
  abbrev pub array_by : ℕ → Option ℕ → ℕ → Prog TypeForm
  array_by n packed line =
      in_form (n + 1) (skip (bind (array_start_by most n packed line) (λ start. bind (form (n + 1))
      (λ element. done (tree.array start.packed start.line start.opened start.indexes start.closed start.of_line
      element)))))

  abbrev pub file_by : ℕ → Option ℕ → ℕ → Prog TypeForm
  file_by n packed line =
      in_form (n + 1) (skip (bind (mark k.Of) (λ of_line. bind (form (n + 1))
      (λ component. done (tree.file packed line of_line component)))))

  abbrev pub group_by : ℕ → Prog Group
  group_by n =
      bind (idents_by most) (λ names. bind (mark k.Colon) (λ colon. bind (form n)
      (λ element. done (record { names = names; colon = colon; form = element }))))

  -- behind a semicolon: more fields, or nothing
  abbrev pub behind_semicolon : ℕ → Fields → ℕ → Kind → Payload → ℕ → Prog FieldsRead
  behind_semicolon n fields line k.Name payload name_line =
      bind (group_by n) (λ group. done (record {
        fields = tree.more_fields fields line group.names group.colon group.form;
        semicolon = None;
      }))
  behind_semicolon n fields line kind payload other_line = done (record { fields = fields; semicolon = Some line })

  abbrev pub behind_fields_by : ℕ → Fields → Option ℕ → Kind → Payload → ℕ → Next FieldsRead
  behind_fields_by n fields None k.Semicolon nothing line = more (look (behind_semicolon n fields line))
  behind_fields_by n fields semicolon kind payload line = ends

  abbrev pub behind_fields : ℕ → FieldsRead → Kind → Payload → ℕ → Next FieldsRead
  behind_fields n found kind payload line = behind_fields_by n found.fields found.semicolon kind payload line

  abbrev pub first_group : Group → FieldsRead
  first_group group = record { fields = tree.first_fields group.names group.colon group.form; semicolon = None }

  -- ids ":" type {";" ids ":" type} [";"]
  abbrev pub fields_by : ℕ → Prog FieldsRead
  fields_by n = bind (group_by n) (λ first. turns (behind_fields n) most (first_group first))

  abbrev pub record_by : ℕ → Option ℕ → ℕ → Prog TypeForm
  record_by n packed line =
      in_form (n + 1) (skip (bind (fields_by (n + 1)) (λ found. bind (mark k.End)
      (λ end. done (tree.record_type packed line found.fields found.semicolon end)))))

  -- the same behind `record`, where that form is open
  abbrev pub record_body : ℕ → Option ℕ → ℕ → Prog TypeForm
  record_body n packed line =
      skip (bind (fields_by n) (λ found. bind (mark k.End)
      (λ end. done (tree.record_type packed line found.fields found.semicolon end))))

  abbrev pub structured_at : ℕ → Option ℕ → Kind → Payload → ℕ → Prog TypeForm
  structured_at n packed k.Array nothing line = array_by n packed line
  structured_at n packed k.Record nothing line = record_by n packed line
  structured_at n packed k.File nothing line = file_by n packed line
  structured_at n packed kind payload line = fail misplaced

  abbrev pub type_at : ℕ → Kind → Payload → ℕ → Prog TypeForm
  type_at n k.Packed nothing line = skip (look (structured_at n (Some line)))
  type_at n k.Array nothing line = array_by n None line
  type_at n k.Record nothing line = record_by n None line
  type_at n k.File nothing line = file_by n None line
  type_at n kind payload line = bind simple (λ s. done (tree.simple s))

-- a type, where so many turns may be taken
unfoldable pub type_form : ℕ → ℕ → Prog TypeForm
type_form zero n = fail spent
type_form (suc most) n = look (type_at (type_form most) most n)
