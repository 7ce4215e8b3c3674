-- How the readers of types go at each kind of token, and the code's types, a variant at a time.
use Rattle.std.proofs.Common.{◌≡◌, refl, sym, ap, ◌∙◌, ℕ, zero, suc, ◌≤◌, arith, List, length}
use Rattle.std.proofs.Common.{Some, None, Result, ◌⊎◌, inl, inr}
use Rattle.pas_tokens.specs.declared.kinds.Kind.{Kind}
use Rattle.pas_tokens.specs.declared.kinds.Kind.TheVariants as k
use Rattle.pas_tokens.specs.Cutting.{Payload, nothing}
use Rattle.pas_tokens.specs.Tokens.{Token}
use Rattle.pas_syntax.specs.declared.stop.Stop.{Stop}
use Rattle.pas_syntax.specs.declared.tree.ArrayHead.{ArrayHead}
use Rattle.pas_syntax.specs.declared.tree.FileHead.{FileHead}
use Rattle.pas_syntax.specs.declared.tree.Simple.{Simple as CodeSimple}
use Rattle.pas_syntax.specs.declared.tree.TypeForm as code_form
use Rattle.pas_syntax.specs.declared.tree.RecordForm as code_record
use Rattle.pas_syntax.specs.declared.tree.FieldGroup as code_group
use Rattle.pas_syntax.specs.declared.tree.MoreFields as code_more
use Rattle.pas_syntax.specs.declared.tree.TypeForm.TheVariants as form
use Rattle.pas_syntax.specs.declared.tree.TypeForm.TheOpen.{TypeForm-F, FieldGroup-F, MoreFields-F, RecordForm-F}
use Rattle.pas_syntax.specs.declared.tree.TypeForm.TheViews.{roll-FieldGroup, roll-RecordForm, roll-MoreFields}
use Rattle.pas_syntax.specs.declared.tree.TypeForm.TheFolds.{fold-roll-TypeForm, fold-roll-FieldGroup}
use Rattle.pas_syntax.specs.declared.tree.TypeForm.TheFolds.{fold-roll-MoreFields, fold-roll-RecordForm}
use Rattle.pas_syntax.specs.Tree as tree
use Rattle.pas_syntax.specs.Tree.{Simple, TypeForm, Fields}
use Rattle.pas_syntax.specs.Views.{ident_in, simple_in, separated_in}
use Rattle.pas_syntax.specs.ProgramViews.{Group as GroupSeen, type_step, group_step, more_fields_step, record_step}
use Rattle.pas_syntax.specs.ProgramViews.{type_in}
use Rattle.pas_syntax.specs.inner.Prog.{Prog, done, look, skip, bind, run, head, ends, turn_of, a_turn}
use Rattle.pas_syntax.specs.inner.Places.{Place, Fits, Gives, ParsesIn, Parses}
use Rattle.pas_syntax.specs.inner.TypeReaders.{type_at, type_form, structured_at, simple, FieldsRead}
use Rattle.pas_syntax.specs.inner.TypeReaders.{group_by, behind_semicolon, behind_fields_by, behind_fields}
use Rattle.pas_syntax.specs.inner.TypeViews.{record_in, group_in, seen_group, more_fields_in, fields_in}
use Rattle.pas_syntax.proofs.PlaceLemmas.{told}

-- a type takes a turn of its own
pub type_takes : {X : Type 0} {view : List ℕ → X → TypeForm} (n : ℕ) {old new : Place} {result : Result X Stop}
    → ParsesIn (length old.tokens) (λ most. look (type_at (type_form most) most n)) view old result new
    → Parses (λ most. type_form most n) view old result new
unfolding type_form
type_takes {view = view} n {old = old} {new = new} {result = result} h = record {
  gives = λ most enough. takes most enough;
  shorter = h.shorter;
  taken = h.taken;
  spellings = h.spellings;
}
  where
    takes : (most : ℕ) → suc (length old.tokens) ≤ most
        → Gives (view old.spellings) result new.tokens (run (type_form most n) old.tokens)
    takes zero enough = absurd (omega (arith, enough))
    takes (suc most) enough = h.gives most (omega (arith, enough))

module _ (form : ℕ → Prog TypeForm) (most n : ℕ) where
  pub packed_goes : (ts : List Token) (line : ℕ) → k.Packed ≡ (head ts).kind → Fits (head ts).kind (head ts).payload
      → line ≡ (head ts).line
      → run (look (type_at form most n)) ts ≡ run (skip (look (structured_at form most n (Some line)))) ts
  packed_goes ts line is fits same = told (type_at form most n) k.Packed ts line tt is fits same

  bare_at : (ts : List Token) (kind : Kind) (payload : Payload) (line : ℕ)
      → (k.Array ≡ kind) ⊎ ((k.Record ≡ kind) ⊎ (k.File ≡ kind)) → Fits kind payload
      → type_at form most n kind payload line ≡ structured_at form most n None kind payload line
  bare_at ts k.Array nothing line is fits = refl
  bare_at ts k.Record nothing line is fits = refl
  bare_at ts k.File nothing line is fits = refl
  bare_at ts k.Array payload line is fits = absurd fits
  bare_at ts k.Record payload line is fits = absurd fits
  bare_at ts k.File payload line is fits = absurd fits
  bare_at ts kind payload line (inl e) fits = absurd cc
  bare_at ts kind payload line (inr (inl e)) fits = absurd cc
  bare_at ts kind payload line (inr (inr e)) fits = absurd cc

  pub bare_goes : (ts : List Token)
      → (k.Array ≡ (head ts).kind) ⊎ ((k.Record ≡ (head ts).kind) ⊎ (k.File ≡ (head ts).kind))
      → Fits (head ts).kind (head ts).payload
      → run (look (type_at form most n)) ts ≡ run (look (structured_at form most n None)) ts
  bare_goes ts is fits =
      ap (λ q. run q ts) (bare_at ts (head ts).kind (head ts).payload (head ts).line is fits)

  plain_at : (kind : Kind) (payload : Payload) (line : ℕ) → (k.Packed ≡ kind → ⊥) → (k.Array ≡ kind → ⊥)
      → (k.Record ≡ kind → ⊥) → (k.File ≡ kind → ⊥)
      → type_at form most n kind payload line ≡ bind simple (λ s. done (tree.simple s))
  plain_at k.Packed payload line e1 e2 e3 e4 = absurd (e1 refl)
  plain_at k.Array payload line e1 e2 e3 e4 = absurd (e2 refl)
  plain_at k.Record payload line e1 e2 e3 e4 = absurd (e3 refl)
  plain_at k.File payload line e1 e2 e3 e4 = absurd (e4 refl)
  plain_at kind payload line e1 e2 e3 e4 = refl

  pub plain_goes : (ts : List Token) → (k.Packed ≡ (head ts).kind → ⊥) → (k.Array ≡ (head ts).kind → ⊥)
      → (k.Record ≡ (head ts).kind → ⊥) → (k.File ≡ (head ts).kind → ⊥)
      → run (look (type_at form most n)) ts ≡ run (bind simple (λ s. done (tree.simple s))) ts
  plain_goes ts e1 e2 e3 e4 =
      ap (λ q. run q ts) (plain_at (head ts).kind (head ts).payload (head ts).line e1 e2 e3 e4)

-- which form begins
pub turn_kinds : {kind other : Kind} → kind ≡ other → (kind ≡ k.Array) ⊎ ((kind ≡ k.Record) ⊎ (kind ≡ k.File))
    → (k.Array ≡ other) ⊎ ((k.Record ≡ other) ⊎ (k.File ≡ other))
turn_kinds is (inl e) = inl (sym e ∙ is)
turn_kinds is (inr (inl e)) = inr (inl (sym e ∙ is))
turn_kinds is (inr (inr e)) = inr (inr (sym e ∙ is))

-- fields
module _ (form : ℕ → Prog TypeForm) (most n : ℕ) (fields : Fields) where
  pub semicolon_goes : (ts : List Token) (line : ℕ) → k.Semicolon ≡ (head ts).kind
      → Fits (head ts).kind (head ts).payload → line ≡ (head ts).line
      → run (a_turn (behind_fields form most n) (record { fields = fields; semicolon = None })) ts
      ≡ run (skip (look (behind_semicolon form most n fields line))) ts
  semicolon_goes ts line is fits same =
      told (λ kind payload line. turn_of (behind_fields_by form most n fields None kind payload line))
      k.Semicolon ts line
      tt is fits same

  pub group_goes : (ts : List Token) (line : ℕ) → k.Name ≡ (head ts).kind
      → run (look (behind_semicolon form most n fields line)) ts
      ≡ run (bind (group_by form most n) (λ group. done (record {
        fields = tree.more_fields fields line group.names group.colon group.form;
        semicolon = None;
      }))) ts
  group_goes ts line is =
      sym (ap (λ kind. run (behind_semicolon form most n fields line kind (head ts).payload (head ts).line) ts) is)

  no_group : (line : ℕ) (kind : Kind) (payload : Payload) (other_line : ℕ) → (k.Name ≡ kind → ⊥)
      → behind_semicolon form most n fields line kind payload other_line
      ≡ done (record { fields = fields; semicolon = Some line })
  no_group line k.Name payload other_line not = absurd (not refl)
  no_group line kind payload other_line not = refl

  pub last_semicolon : (ts : List Token) (line : ℕ) → (k.Name ≡ (head ts).kind → ⊥)
      → run (look (behind_semicolon form most n fields line)) ts
      ≡ run {A = FieldsRead} (done (record { fields = fields; semicolon = Some line })) ts
  last_semicolon ts line not =
      ap (λ q. run q ts) (no_group line (head ts).kind (head ts).payload (head ts).line not)

  pub fields_end : (kind : Kind) (payload : Payload) (line : ℕ) → (k.Semicolon ≡ kind → ⊥)
      → behind_fields_by form most n fields None kind payload line ≡ ends
  fields_end k.Semicolon payload line not = absurd (not refl)
  fields_end kind payload line not = refl

module _ (spellings : List ℕ) where
  pub more_fields_view : (x : MoreFields-F code_form.TypeForm code_group.FieldGroup code_more.MoreFields
      code_record.RecordForm) → more_fields_in spellings (roll-MoreFields x)
      ≡ (λ fields. tree.more_fields fields x.line (group_in spellings x.group).names (group_in spellings x.group).colon
      (group_in spellings x.group).form)
  more_fields_view x =
      fold-roll-MoreFields TypeForm GroupSeen (Fields → Fields) TypeForm (type_step spellings) (group_step spellings)
      (more_fields_step spellings) (record_step spellings) x

  pub record_form_view : (x : RecordForm-F code_form.TypeForm code_group.FieldGroup code_more.MoreFields
      code_record.RecordForm) → record_in spellings (roll-RecordForm x)
      ≡ tree.record_type x.packed x.line (fields_in spellings x.first x.more x.semicolon).fields x.semicolon x.end
  record_form_view x =
      fold-roll-RecordForm TypeForm GroupSeen (Fields → Fields) TypeForm (type_step spellings) (group_step spellings)
      (more_fields_step spellings) (record_step spellings) x

  pub simple_view : (s : CodeSimple) → type_in spellings (form.Simple s) ≡ tree.simple (simple_in spellings s)
  unfolding code_form.roll-TypeForm denote.Hole.Carrier.roll
  simple_view s =
      fold-roll-TypeForm TypeForm GroupSeen (Fields → Fields) TypeForm (type_step spellings) (group_step spellings)
      (more_fields_step spellings) (record_step spellings) (TypeForm-F.Simple s)

  pub array_view : (start : ArrayHead) (element : code_form.TypeForm) → type_in spellings (form.Array start element)
      ≡ tree.array start.packed start.line start.opened (separated_in (simple_in spellings) start.indexes) start.closed
      start.of_line (type_in spellings element)
  unfolding code_form.roll-TypeForm denote.Hole.Carrier.roll
  array_view start element =
      fold-roll-TypeForm TypeForm GroupSeen (Fields → Fields) TypeForm (type_step spellings) (group_step spellings)
      (more_fields_step spellings) (record_step spellings) (TypeForm-F.Array start element)

  pub record_view : (r : code_record.RecordForm) → type_in spellings (form.Record r) ≡ record_in spellings r
  unfolding code_form.roll-TypeForm denote.Hole.Carrier.roll
  record_view r =
      fold-roll-TypeForm TypeForm GroupSeen (Fields → Fields) TypeForm (type_step spellings) (group_step spellings)
      (more_fields_step spellings) (record_step spellings) (TypeForm-F.Record r)

  pub file_view : (start : FileHead) (component : code_form.TypeForm) → type_in spellings (form.File start component)
      ≡ tree.file start.packed start.line start.of_line (type_in spellings component)
  unfolding code_form.roll-TypeForm denote.Hole.Carrier.roll
  file_view start component =
      fold-roll-TypeForm TypeForm GroupSeen (Fields → Fields) TypeForm (type_step spellings) (group_step spellings)
      (more_fields_step spellings) (record_step spellings) (TypeForm-F.File start component)

  pub group_view : (x : FieldGroup-F code_form.TypeForm code_group.FieldGroup code_more.MoreFields
      code_record.RecordForm)
      → group_in spellings (roll-FieldGroup x)
      ≡ record { names = separated_in (ident_in spellings) x.names; colon = x.colon; form = type_in spellings x.form }
  group_view x =
      ap (seen_group spellings) (fold-roll-FieldGroup TypeForm GroupSeen (Fields → Fields) TypeForm
      (type_step spellings)
      (group_step spellings) (more_fields_step spellings) (record_step spellings) x)
