-- A type that is declared, and the scope behind it.
use Rattle.std.proofs.Common.{◌≡◌, ◌≢◌, refl, sym, ap, subst, ◌∙◌, ℕ, Bool, false, List, [], ◌∷◌, ◌++◌, Option, Some}
use Rattle.std.proofs.Common.{None}
use Rattle.std.proofs.Common.{Result, Err}
use Rattle.std.specs.Prelude.{if◌then◌else◌}
use Rattle.wb_base.specs.declared.faults.Fault.{Fault}
use Rattle.pas_tokens.specs.declared.kinds.Kind.TheVariants as k
use Rattle.pas_syntax.specs.Tree.{TypeRow}
use Rattle.pas_syntax.specs.Words.{Word, at, name_at, type_words, type_row_words}
use Rattle.pas_typed.specs.declared.types.Structure.{Structure}
use Rattle.pas_typed.specs.Types.{Table, Made}
use Rattle.pas_typed.specs.TypeViews.{table_view}
use Rattle.pas_scopes.specs.declared.new_names.Region.TheVariants as region
use Rattle.pas_scopes.specs.declared.scopes.Scopes.{Scopes as CodeScopes}
use Rattle.pas_scopes.specs.declared.stop.Stop.{Stop}
use Rattle.pas_scopes.specs.declared.stop.Stop.TheVariants as stop
use Rattle.pas_rules.specs.Marks.{quiet, joined, Judged}
use Rattle.pas_rules.specs.Scopes.{Entity, unclear, names, names_of, Outer, Scopes, contains}
use Rattle.pas_rules.specs.TypeForms.{form_of}
use Rattle.pas_rules.specs.Declarations.{taken, program_scopes, new_name, type_row, types_behind}
use Rattle.pas_rules.specs.Scopes.{with_new}
use Rattle.pas_scopes.specs.ScopeViews.{outer_view, scopes_view, IsClear, Agrees}
use Rattle.pas_scopes.specs.NameAnswers.{taken_in, IsNewName}
use Rattle.pas_scopes.specs.DeclaredSoFar.{first_noted, IsAlike, IsOuter, Notes, NotesIf, type_meant, Declares}
use Rattle.pas_scopes.specs.DeclaredSoFar.{IsCounted}
use Rattle.pas_rules.proofs.AsMany.{next_word, before_word}
use Rattle.pas_rules.proofs.TypesAsMany.{form_many}
use Rattle.pas_scopes.proofs.SettleLemmas.{quiet_word, quiet_alone}
use Rattle.pas_scopes.proofs.DeclaredLemmas.{pushed_alike, notes_behind, notes_quiet}
use Rattle.pas_scopes.proofs.ConstantRowLemmas.{alike_of, agrees_of, notes_name, name_free, free_in, notes_clear}
use Rattle.pas_scopes.proofs.ConstantRowLemmas.{none_before, clear_push}
use Rattle.pas_scopes.proofs.CountedLemmas.{counted_type, form_made, named_outer}

-- the scope behind a name, and types
module _ (outer : Outer) (old new : CodeScopes) (name : List ℕ) (entity meant : Entity) (same : entity ≡ meant)
    (types : List Structure) (table : Table) (seen : table_view old.spellings.now types ≡ table)
    (is : new ≡ record old { names = with_new old.names name entity; types = types }) where
  abbrev behind : Outer
  behind = record outer { names = outer.names ++ names name meant ∷ []; types = table }

  outer_behind : outer_view new ≡ record (outer_view old) { names = with_new old.names name meant; types = table }
  outer_behind =
      ap outer_view is
      ∙ (ap (λ (e : Entity). record (outer_view old) {
        names = with_new old.names name e;
        types = table_view old.spellings.now types;
      }) same
      ∙ ap (λ (t : Table). record (outer_view old) { names = with_new old.names name meant; types = t }) seen)

  alike_behind : IsAlike (outer_view old) outer → IsAlike (outer_view new) behind
  alike_behind h =
      subst (λ (o : Outer). IsAlike o behind) (sym outer_behind) record {
        names = pushed_alike old.names outer.names name meant h.names;
        others = ap (λ (o : Outer). record o { names = outer.names ++ names name meant ∷ []; types = table }) h.others;
      }

  same_behind : outer_view old ≡ outer → contains (names_of outer.names) name ≡ false → outer_view new ≡ behind
  same_behind h free =
      outer_behind
      ∙ (ap (λ (o : Outer). record o { names = with_new o.names name meant; types = table }) h
      ∙ ap (λ (b : Bool). record outer {
        names = if b then outer.names else outer.names ++ names name meant ∷ [];
        types = table;
      }) free)

module _ (old new : CodeScopes) (row : TypeRow) (first : Result (Unit {0}) Stop)
    (some : first ≢ Err stop.OutOfMemory) (free : IsNewName (taken_in (scopes_view old) region.Program) row.name first)
    (entity : Entity) (types : List Structure)
    (is : new ≡ record old { names = with_new old.names row.name.name entity; types = types }) where
  abbrev old_table : Table
  old_table = table_view old.spellings.now old.types

  abbrev form_in : Scopes → Judged Made
  form_in s = form_of s old_table row.form

  abbrev form_notes : Option Fault → Option Fault → Type 0
  form_notes one two =
      (s : Scopes) → Agrees s (scopes_view old)
      → NotesIf (IsClear s) (type_words 0 row.form) (form_in s).marks one two

  abbrev form_clear : Option Fault → Type 0
  form_clear two = (s : Scopes) → Agrees s (scopes_view old) → IsClear s → two ≡ None → entity ≢ unclear

  module _ (meant : (s : Scopes) → Agrees s (scopes_view old) → entity ≡ type_meant (form_in s).value)
      (seen : (s : Scopes) → Agrees s (scopes_view old)
      → table_view old.spellings.now types ≡ types_behind old_table (form_in s).value) where
    module _ (outer : Outer) (alone : old.inner ≡ None) (alike : IsAlike (outer_view old) outer) where
      same : Agrees (program_scopes outer) (scopes_view old)
      same name = sym (agrees_of outer old alone alike name)

      table_is : old_table ≡ outer.types
      table_is = ap (λ (o : Outer). o.types) alike.others

      abbrev form : Judged Made
      form = form_of (program_scopes outer) outer.types row.form

      form_is : form_in (program_scopes outer) ≡ form
      form_is = ap (λ (t : Table). form_of (program_scopes outer) t row.form) table_is

      meant_is : entity ≡ type_meant form.value
      meant_is = meant (program_scopes outer) same ∙ ap (λ (part : Judged Made). type_meant part.value) form_is

      seen_is : table_view old.spellings.now types ≡ types_behind outer.types form.value
      seen_is =
          seen (program_scopes outer) same
          ∙ (ap (λ (part : Judged Made). types_behind old_table part.value) form_is
          ∙ ap (λ (t : Table). types_behind t form.value) table_is)

      notes_is : (one two : Option Fault) → form_notes one two
          → NotesIf (IsClear (program_scopes outer)) (type_words 0 row.form) form.marks one two
      notes_is one two notes =
          subst (λ (part : Judged Made). NotesIf (IsClear (program_scopes outer)) (type_words 0 row.form) part.marks
          one two) form_is (notes (program_scopes outer) same)

    row_notes : (outer : Outer) → old.inner ≡ None → (noted one two : Option Fault) → one ≡ first_noted noted first
        → form_notes one two → IsOuter outer old noted
        → Notes (type_row_words row) (type_row outer row).marks noted two
    row_notes outer alone (Some fault) one two noted_is notes h =
        subst (λ (o : Option Fault). NotesIf (IsClear (program_scopes outer)) (type_words 0 row.form)
        (form outer alone h).marks o two) noted_is (notes_is outer alone h one two notes)
    row_notes outer alone None one two noted_is notes h =
        let alike = alike_of outer old None h in
        let part : Judged Made = form_of (program_scopes outer) outer.types row.form in
        let semicolon : Word = at 0 k.Semicolon row.end in
        notes_behind (name_at 0 row.name ∷ []) (at 0 k.Equal row.equals ∷ (type_words 0 row.form ++ semicolon ∷ []))
        (new_name (taken outer) row.name) (joined (quiet ∷ part.marks ∷ quiet ∷ []))
        (next_word (at 0 k.Equal row.equals) [] (joined (part.marks ∷ quiet ∷ []))
        (before_word semicolon part.marks (form_many (program_scopes outer) outer.types 0 row.form)))
        None one two
        (subst (λ (o : Option Fault). Notes (name_at 0 row.name ∷ []) (new_name (taken outer) row.name) None o)
        (sym noted_is)
        (notes_name (taken outer) row.name first some
        (subst (λ (o : Outer). IsNewName (taken o) row.name first) h.0 free)))
        (notes_behind (at 0 k.Equal row.equals ∷ []) (type_words 0 row.form ++ semicolon ∷ []) quiet
        (joined (part.marks ∷ quiet ∷ []))
        (before_word semicolon part.marks (form_many (program_scopes outer) outer.types 0 row.form)) one one two
        (notes_quiet (at 0 k.Equal row.equals ∷ []) quiet one (quiet_word (at 0 k.Equal row.equals)))
        (notes_behind (type_words 0 row.form) (semicolon ∷ []) part.marks (joined (quiet ∷ []))
        (next_word semicolon [] (joined []) (record { same = refl })) one two two
        (notes_clear (IsClear (program_scopes outer)) (type_words 0 row.form) part.marks one two
        (notes_is outer alone alike one two notes) h.1)
        (notes_quiet (semicolon ∷ []) (joined (quiet ∷ [])) two
        (quiet_alone (semicolon ∷ []) quiet false (quiet_word semicolon)))))

    row_outer : (outer : Outer) → old.inner ≡ None → (noted one two : Option Fault) → one ≡ first_noted noted first
        → form_notes one two → form_clear two → IsOuter outer old noted
        → IsOuter (type_row outer row).outer new two
    row_outer outer alone noted one (Some fault) noted_is notes clear h =
        let alike = alike_of outer old noted h in
        alike_behind outer old new row.name.name entity (type_meant (form outer alone alike).value)
        (meant_is outer alone alike) types (types_behind outer.types (form outer alone alike).value)
        (seen_is outer alone alike) is alike
    row_outer outer alone (Some fault) one None noted_is notes clear h =
        absurd (none_some (sym noted_is ∙ none_before (IsClear (program_scopes outer)) (type_words 0 row.form)
        (form outer alone h).marks one None (notes_is outer alone h one None notes) refl))
      where
        none_some : Some fault ≡ None → ⊥
        none_some e = cc
    row_outer outer alone None one None noted_is notes clear h =
        let alike = alike_of outer old None h in
        let part : Judged Made = form_of (program_scopes outer) outer.types row.form in
        let faults = name_free (taken outer) row.name first some
        (subst (λ (o : Outer). IsNewName (taken o) row.name first) h.0 free)
        (sym noted_is ∙ none_before (IsClear (program_scopes outer)) (type_words 0 row.form) part.marks one None
        (notes_is outer alone alike one None notes) refl) in
        let found = meant_is outer alone alike in (
          same_behind outer old new row.name.name entity (type_meant part.value) found types
              (types_behind outer.types part.value) (seen_is outer alone alike) is h.0
              (free_in outer row.name.name faults),
          clear_push outer (names row.name.name (type_meant part.value)) h.1
              (λ e. clear (program_scopes outer) (same outer alone alike) h.1 refl (found ∙ e)),
        )

    pub row_declares : (noted one two : Option Fault) → one ≡ first_noted noted first → form_notes one two
        → form_clear two → Declares (type_row_words row) (λ outer. type_row outer row) old noted new two
    row_declares noted one two noted_is notes clear = record {
      declared = λ outer h. record {
        alone = ap (λ (scopes : CodeScopes). scopes.inner) is ∙ h.alone;
        outer_is = row_outer outer h.alone noted one two noted_is notes clear h.outer_is;
        is_counted = subst (IsCounted (type_row outer row).outer)
            (sym (ap (λ (scopes : CodeScopes). scopes.cells) is))
            (counted_type outer old.cells row.name.name (form_of (program_scopes outer) outer.types row.form).value
            (form_made (program_scopes outer) outer.types (named_outer outer h.is_counted.names) row.form)
            h.is_counted);
      };
      notes = λ outer h. row_notes outer h.alone noted one two noted_is notes h.outer_is;
    }
