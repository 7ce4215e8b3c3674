-- A constant that is declared, and the scope behind it.
use Rattle.std.proofs.Common.{◌≡◌, ◌≢◌, refl, sym, ap, subst, ◌∙◌, ℕ, Bool, true, false, List, [], ◌∷◌, ◌++◌, Option}
use Rattle.std.proofs.Common.{Some}
use Rattle.std.proofs.Common.{None, Result, Ok, Err, cond, ◌||◌, not}
use Rattle.std.specs.Prelude.{option_map, if◌then◌else◌, length}
use Rattle.std.specs.Str.{bytes_eq}
use Rattle.wb_base.specs.declared.faults.Fault.{Fault}
use Rattle.wb_base.specs.declared.faults.TheConstants.{DUPLICATE_NAME}
use Rattle.pas_tokens.specs.declared.kinds.Kind.TheVariants as k
use Rattle.pas_tokens.specs.Cutting.{Wrong, wrong}
use Rattle.pas_syntax.specs.Tree.{Ident, ConstantRow}
use Rattle.pas_syntax.specs.Words.{Word, at, name_at, constant_words, constant_row_words}
use Rattle.pas_scopes.specs.declared.new_names.Region.TheVariants as region
use Rattle.pas_scopes.specs.declared.scopes.Scopes.{Scopes as CodeScopes}
use Rattle.pas_scopes.specs.declared.scopes.Inner.{Inner as CodeInner}
use Rattle.pas_scopes.specs.declared.stop.Stop.{Stop}
use Rattle.pas_scopes.specs.declared.stop.Stop.TheVariants as stop
use Rattle.pas_rules.specs.Marks.{Marks, quiet, shows, joined, unless, Judged}
use Rattle.pas_rules.specs.Scopes.{Entity, unclear, Named, names, names_of, Outer, Scopes, contains, entity_in}
use Rattle.pas_rules.specs.Scopes.{or_else}
use Rattle.pas_rules.specs.Scopes.{required, names_inside}
use Rattle.pas_rules.specs.TypeForms.{ConstantValue, constant_of}
use Rattle.pas_rules.specs.Declarations.{taken, program_scopes, new_name, constant_row}
use Rattle.pas_rules.specs.Scopes.{with_new}
use Rattle.pas_scopes.specs.ScopeViews.{inner_view, outer_view, scopes_view, IsClear, Agrees}
use Rattle.pas_scopes.specs.NameAnswers.{taken_in, new_faults, IsNewName}
use Rattle.pas_scopes.specs.DeclaredSoFar.{first_noted, IsAlike, IsOuter, Notes, NotesIf, constant_meant}
use Rattle.pas_scopes.specs.DeclaredSoFar.{Declares, IsCounted}
use Rattle.pas_rules.proofs.AsMany.{next_word, before_word}
use Rattle.pas_rules.proofs.TypesAsMany.{constant_many}
use Rattle.pas_scopes.proofs.SettleLemmas.{quiet_word, quiet_alone}
use Rattle.pas_scopes.proofs.SubrangeLemmas.{constant_agrees}
use Rattle.pas_scopes.proofs.DeclaredLemmas.{entity_push, pushed_alike, notes_behind, notes_quiet}
use Rattle.pas_scopes.proofs.CountedLemmas.{counted_name, constant_there, constant_held}

-- scopes that stand for a scope of the program
module _ (outer : Outer) (old : CodeScopes) where
  abbrev inner_of : Option CodeInner → Scopes
  inner_of inner = record { outer = outer; inner = option_map (inner_view old.spellings.now) inner }

  pub view_is : old.inner ≡ None → outer_view old ≡ outer → scopes_view old ≡ program_scopes outer
  view_is alone is =
      ap (λ (o : Outer). record { outer = o; inner = option_map (inner_view old.spellings.now) old.inner }) is
      ∙ ap inner_of alone

  pub alike_of : (noted : Option Fault) → IsOuter outer old noted → IsAlike (outer_view old) outer
  alike_of None h = record {
    names = λ name. ap (λ (o : Outer). entity_in o.names name) h.0;
    others = ap (λ (o : Outer). record o { names = outer.names }) h.0;
  }
  alike_of (Some fault) h = h

  pub agrees_of : old.inner ≡ None → IsAlike (outer_view old) outer → Agrees (scopes_view old) (program_scopes outer)
  agrees_of alone h name =
      ap (λ (inner : Option CodeInner).
      or_else (entity_in (names_inside (option_map (inner_view old.spellings.now) inner)) name)
      (or_else (entity_in old.names name) (entity_in required name))) alone
      ∙ ap (λ (one : Option Entity). or_else one (entity_in required name)) (h.names name)

-- a name that is declared
pub notes_name : (taken : List (List ℕ)) (ident : Ident) (first : Result (Unit {0}) Stop)
    → first ≢ Err stop.OutOfMemory → IsNewName taken ident first
    → Notes (name_at 0 ident ∷ []) (shows (new_faults taken ident.name)) None (first_noted None first)
notes_name taken ident (Ok done) some h = record { still = (h, tt); behind = refl }
notes_name taken ident (Err stop.OutOfMemory) some h = absurd (some refl)
notes_name taken ident (Err (stop.Fault fault)) some h = h 0
notes_name taken ident (Err stop.Missing) some h = absurd (h 0)

pub name_free : (taken : List (List ℕ)) (ident : Ident) (first : Result (Unit {0}) Stop)
    → first ≢ Err stop.OutOfMemory → IsNewName taken ident first → first_noted None first ≡ None
    → new_faults taken ident.name ≡ []
name_free taken ident (Ok done) some h none = h
name_free taken ident (Err stop.OutOfMemory) some h none = absurd (some refl)
name_free taken ident (Err (stop.Fault fault)) some h none = cc
name_free taken ident (Err stop.Missing) some h none = absurd (h 0)

not_held : (b : Bool) (refusal : Wrong) → unless (not b) refusal ≡ [] → b ≡ false
not_held true refusal h = cc
not_held false refusal h = refl

neither : (a b c : Bool) → (a || (b || c)) ≡ false → c ≡ false
neither true b c h = cc
neither false true c h = cc
neither false false c h = h

pub free_in : (outer : Outer) (name : List ℕ) → new_faults (taken outer) name ≡ []
    → contains (names_of outer.names) name ≡ false
free_in outer name h =
    neither _ _ (contains (names_of outer.names) name)
    (not_held (contains (taken outer) name) (wrong DUPLICATE_NAME) h)

pub notes_clear : (Clear : Type 0) (words : List Word) (marks : Marks) (one two : Option Fault)
    → NotesIf Clear words marks one two → Clear → Notes words marks one two
notes_clear Clear words marks None two h clear = h clear
notes_clear Clear words marks (Some fault) two h clear = h

-- where nothing is noted behind words, nothing was noted before them
pub none_before : (Clear : Type 0) (words : List Word) (marks : Marks) (one two : Option Fault)
    → NotesIf Clear words marks one two → two ≡ None → one ≡ None
none_before Clear words marks None two h none = refl
none_before Clear words marks (Some fault) two h none = cc

-- no name is unclear behind one that is not
clear_by : (b : Bool) (last : Named) (outside : Option Entity) → last.entity ≢ unclear → outside ≢ Some unclear
    → or_else (option_map (λ (named : Named). named.entity) (cond b (Some last) None)) outside ≢ Some unclear
clear_by true last outside known clear is = known cc
clear_by false last outside known clear is = clear is

pub clear_behind : (inside : Option Entity) (last : Named) (name : List ℕ) (outside : Option Entity)
    → last.entity ≢ unclear → or_else inside outside ≢ Some unclear
    → or_else (or_else inside (entity_in (last ∷ []) name)) outside ≢ Some unclear
clear_behind None last name outside known clear = clear_by (bytes_eq last.name name) last outside known clear
clear_behind (Some entity) last name outside known clear = clear

pub clear_push : (outer : Outer) (last : Named) → IsClear (program_scopes outer) → last.entity ≢ unclear
    → IsClear (program_scopes (record outer { names = outer.names ++ last ∷ [] }))
clear_push outer last clear known name is =
    clear_behind (entity_in outer.names name) last name (entity_in required name) known (clear name)
    (ap (λ (one : Option Entity). or_else one (entity_in required name)) (sym (entity_push outer.names last name)) ∙
    is)

-- the scope behind a name
module _ (outer : Outer) (old new : CodeScopes) (name : List ℕ) (entity meant : Entity) (same : entity ≡ meant)
    (is : new ≡ record old { names = with_new old.names name entity }) where
  abbrev behind : Outer
  behind = record outer { names = outer.names ++ names name meant ∷ [] }

  pub alone_behind : old.inner ≡ None → new.inner ≡ None
  alone_behind alone = ap (λ (scopes : CodeScopes). scopes.inner) is ∙ alone

  outer_behind : outer_view new ≡ record (outer_view old) { names = with_new old.names name meant }
  outer_behind =
      ap outer_view is
      ∙ ap (λ (e : Entity). record (outer_view old) { names = with_new old.names name e }) same

  pub alike_behind : IsAlike (outer_view old) outer → IsAlike (outer_view new) behind
  alike_behind h =
      subst (λ (o : Outer). IsAlike o behind) (sym outer_behind) record {
        names = pushed_alike old.names outer.names name meant h.names;
        others = ap (λ (o : Outer). record o { names = outer.names ++ names name meant ∷ [] }) h.others;
      }

  pub same_behind : outer_view old ≡ outer → contains (names_of outer.names) name ≡ false
      → outer_view new ≡ behind
  same_behind h free =
      outer_behind
      ∙ (ap (λ (o : Outer). record o { names = with_new o.names name meant }) h
      ∙ ap (λ (b : Bool). record outer {
        names = if b then outer.names else outer.names ++ names name meant ∷ [];
      }) free)

module _ (old new : CodeScopes) (row : ConstantRow) (first : Result (Unit {0}) Stop)
    (some : first ≢ Err stop.OutOfMemory) (free : IsNewName (taken_in (scopes_view old) region.Program) row.name first)
    (entity : Entity) (meant : entity ≡ constant_meant (constant_of (scopes_view old) row.value).value)
    (is : new ≡ record old { names = with_new old.names row.name.name entity }) where
  abbrev value_in : Scopes → Judged ConstantValue
  value_in scopes = constant_of scopes row.value

  abbrev clear_value : Option Fault → Type 0
  clear_value two = IsClear (scopes_view old) → two ≡ None → entity ≢ unclear

  abbrev value_notes : Option Fault → Option Fault → Type 0
  value_notes one two =
      NotesIf (IsClear (scopes_view old)) (constant_words 0 row.value) (value_in (scopes_view old)).marks one two

  module _ (outer : Outer) (alone : old.inner ≡ None) where
    meant_in : IsAlike (outer_view old) outer → entity ≡ constant_meant (value_in (program_scopes outer)).value
    meant_in alike =
        meant ∙ ap (λ (part : Judged ConstantValue). constant_meant part.value)
        (constant_agrees (scopes_view old) (program_scopes outer) (agrees_of outer old alone alike) row.value)

    row_notes : (noted one two : Option Fault) → one ≡ first_noted noted first → value_notes one two
        → IsOuter outer old noted → Notes (constant_row_words row) (constant_row outer row).marks noted two
    row_notes (Some fault) one two noted_is notes h =
        subst (λ (o : Option Fault). value_notes o two) noted_is notes
    row_notes None one two noted_is notes h =
        let value : Judged ConstantValue = value_in (program_scopes outer) in
        let view = view_is outer old alone h.0 in
        let semicolon : Word = at 0 k.Semicolon row.end in
        notes_behind (name_at 0 row.name ∷ [])
        (at 0 k.Equal row.equals ∷ (constant_words 0 row.value ++ semicolon ∷ []))
        (new_name (taken outer) row.name) (joined (quiet ∷ value.marks ∷ quiet ∷ []))
        (next_word (at 0 k.Equal row.equals) [] (joined (value.marks ∷ quiet ∷ []))
        (before_word semicolon value.marks (constant_many (program_scopes outer) 0 row.value)))
        None one two
        (subst (λ (o : Option Fault). Notes (name_at 0 row.name ∷ []) (new_name (taken outer) row.name) None o)
        (sym noted_is)
        (notes_name (taken outer) row.name first some
        (subst (λ (o : Outer). IsNewName (taken o) row.name first) h.0 free)))
        (notes_behind (at 0 k.Equal row.equals ∷ []) (constant_words 0 row.value ++ semicolon ∷ []) quiet
        (joined (value.marks ∷ quiet ∷ []))
        (before_word semicolon value.marks (constant_many (program_scopes outer) 0 row.value)) one one two
        (notes_quiet (at 0 k.Equal row.equals ∷ []) quiet one (quiet_word (at 0 k.Equal row.equals)))
        (notes_behind (constant_words 0 row.value) (semicolon ∷ []) value.marks (joined (quiet ∷ []))
        (next_word semicolon [] (joined []) (record { same = refl })) one two two
        (subst (λ (s : Scopes). Notes (constant_words 0 row.value) (value_in s).marks one two) view
        (notes_clear (IsClear (scopes_view old)) (constant_words 0 row.value) (value_in (scopes_view old)).marks one
        two
        notes (subst IsClear (sym view) h.1)))
        (notes_quiet (semicolon ∷ []) (joined (quiet ∷ [])) two
        (quiet_alone (semicolon ∷ []) quiet false (quiet_word semicolon)))))

    row_outer : (noted one two : Option Fault) → one ≡ first_noted noted first → value_notes one two → clear_value two
        → IsOuter outer old noted → IsOuter (constant_row outer row).outer new two
    row_outer noted one (Some fault) noted_is notes clear h =
        let alike = alike_of outer old noted h in
        alike_behind outer old new row.name.name entity (constant_meant (value_in (program_scopes outer)).value)
        (meant_in alike) is alike
    row_outer (Some fault) one None noted_is notes clear h =
        absurd (none_some (sym noted_is ∙ none_before (IsClear (scopes_view old)) (constant_words 0 row.value)
        (value_in (scopes_view old)).marks one None notes refl))
      where
        none_some : Some fault ≡ None → ⊥
        none_some e = cc
    row_outer None one None noted_is notes clear h =
        let alike = alike_of outer old None h in
        let view = view_is outer old alone h.0 in
        let faults = name_free (taken outer) row.name first some
        (subst (λ (o : Outer). IsNewName (taken o) row.name first) h.0 free)
        (sym noted_is ∙ none_before (IsClear (scopes_view old)) (constant_words 0 row.value)
        (value_in (scopes_view old)).marks one None notes refl) in
        let found = meant_in alike in (
          same_behind outer old new row.name.name entity (constant_meant (value_in (program_scopes outer)).value) found
              is h.0 (free_in outer row.name.name faults),
          clear_push outer (names row.name.name (constant_meant (value_in (program_scopes outer)).value)) h.1
              (λ e. clear (subst IsClear (sym view) h.1) refl (found ∙ e)),
        )

  pub row_declares : (noted one two : Option Fault) → one ≡ first_noted noted first → value_notes one two
      → clear_value two
      → Declares (constant_row_words row) (λ outer. constant_row outer row) old noted new two
  row_declares noted one two noted_is notes clear = record {
    declared = λ outer h. record {
      alone = alone_behind outer old new row.name.name entity entity refl is h.alone;
      outer_is = row_outer outer h.alone noted one two noted_is notes clear h.outer_is;
      is_counted =
          let value : Option ConstantValue = (value_in (program_scopes outer)).value in
          subst (IsCounted (constant_row outer row).outer) (sym (ap (λ (scopes : CodeScopes). scopes.cells) is))
          (counted_name outer old.cells (names row.name.name (constant_meant value))
          (constant_there (length outer.types) value) (constant_held (length outer.types) value) h.is_counted);
    };
    notes = λ outer h. row_notes outer h.alone noted one two noted_is notes h.outer_is;
  }
