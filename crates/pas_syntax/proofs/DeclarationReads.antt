-- The readers of declarations read what the grammar spells.
use Rattle.std.proofs.Common.{◌≡◌, refl, sym, ap, subst, ◌∙◌, ℕ, ◌≤◌, List, [], ◌∷◌, ◌++◌, append_assoc}
use Rattle.std.proofs.Common.{Option, Some, None}
use Rattle.std.specs.List.{flat_map}
use Rattle.std.proofs.lemmas.Grind.{flat_map-append}
use Rattle.std.proofs.lemmas.List.{append-nil}
use Rattle.wb_base.specs.declared.faults.TheConstants.{ENUMERATIONS, SETS, POINTERS, ROUTINES_AS_PARAMETERS}
use Rattle.pas_tokens.specs.declared.kinds.Kind.{Kind}
use Rattle.pas_tokens.specs.declared.kinds.Kind.TheVariants as k
use Rattle.pas_tokens.specs.Cutting.{Payload, nothing, spelling}
use Rattle.pas_syntax.specs.declared.limits.TheConstants.{NESTING_LIMIT}
use Rattle.pas_syntax.specs.Tree as tree
use Rattle.pas_syntax.specs.Tree.{Ident, Numeral, Behind, Separated, Idents, Constant, TypeName, TypeForm, Labels}
use Rattle.pas_syntax.specs.Tree.{ConstantRow, TypeRow, VariableRow, Rows, Parameter, Parameters}
use Rattle.pas_syntax.specs.Words.{Word, at, shows, name_at, number_at, words_if, separated}
use Rattle.pas_syntax.specs.Words.{type_words, type_name_words, labels_words, constant_row_words, type_row_words}
use Rattle.pas_syntax.specs.Words.{variable_row_words, rows_words, parameter_words, parameters_words, result_words}
use Rattle.pas_syntax.specs.inner.Prog.{Prog, done, bind, turns}
use Rattle.pas_syntax.specs.inner.Readers.{ident}
use Rattle.pas_syntax.specs.inner.Marks.{mark, maybe_mark}
use Rattle.pas_syntax.specs.inner.TypeReaders.{pushed, single, behind_item, items_by, idents_by, constant, type_form}
use Rattle.pas_syntax.specs.inner.StatementReaders.{numeral}
use Rattle.pas_syntax.specs.inner.DeclarationReaders.{labels_at, labels, pushed_row, behind_row, rows_behind, rows_by}
use Rattle.pas_syntax.specs.inner.DeclarationReaders.{constant_row_behind, type_row_behind, variable_row_behind}
use Rattle.pas_syntax.specs.inner.DeclarationReaders.{constant_rows, type_rows, variable_rows, type_name_at, type_name}
use Rattle.pas_syntax.specs.inner.DeclarationReaders.{parameter_by, parameter_at, parameter, behind_parameter}
use Rattle.pas_syntax.specs.inner.DeclarationReaders.{parameter_list, parameters_at, parameters, result_at}
use Rattle.pas_syntax.specs.inner.DeclarationReaders.{result_type}
use Rattle.pas_syntax.proofs.Good.{a_token, ReadsAt, Reads, reads_look, reads_done, reads_shown, reads_skip}
use Rattle.pas_syntax.proofs.TurnLemmas.{Any, Begins, reads_turns}
use Rattle.pas_syntax.proofs.WordLemmas.{sound_says, fits_of}
use Rattle.pas_syntax.proofs.ExprReads.{IsTaken, reads_ident}
use Rattle.pas_syntax.proofs.ItemLemmas.{AreItems, begins_items, reads_items}
use Rattle.pas_syntax.proofs.ConstantLemmas.{IsConstant, reads_constant}
use Rattle.pas_syntax.proofs.MarkLemmas.{zero_numeral, MayBeTaken, reads_maybe, reads_numeral}
use Rattle.pas_syntax.proofs.SomeReads.{ReadsSome, reads_made, reads_then, reads_last}
use Rattle.pas_syntax.proofs.TypeReads.{IsType, AreIdents, zero_ident, zero_ident_word, zero_type, marks}
use Rattle.pas_syntax.proofs.TypeReads.{an_identifier}
use Rattle.pas_syntax.proofs.TypeReads.{some_idents, reads_type_form}

-- what stands in no form, and in one
pub none_fits : 0 ≤ NESTING_LIMIT
none_fits = fits_of 0 refl

pub one_fits : 1 ≤ NESTING_LIMIT
one_fits = fits_of 1 refl

-- one item more behind a separator
pub separated_pushed : {A : Type 0} (n : ℕ) (kind : Kind) (words : A → List Word) (items : Separated A) (line : ℕ)
    (item : A)
    → separated n kind words (pushed items line item) ≡ separated n kind words items ++ at n kind line ∷ words item
separated_pushed n kind words items line item =
    let behind_words : Behind _ → List Word = λ behind. at n kind behind.line ∷ words behind.item in
    let last : Behind _ = record { line = line; item = item } in
    ap (λ ws. words items.first ++ ws) (flat_map-append behind_words items.more (last ∷ [])
    ∙ ap (λ ws. flat_map behind_words items.more ++ ws) (append-nil (behind_words last)))
    ∙ sym (append_assoc (words items.first) (flat_map behind_words items.more) (behind_words last))

maybes : (n : ℕ) → n ≤ NESTING_LIMIT → (kind : Kind) → (k.EndOfText ≡ kind → ⊥)
    → ReadsSome (MayBeTaken n kind) Any (maybe_mark kind)
maybes n fits kind goes_on = record { reads = reads_maybe n fits kind goes_on; some = (None, [], refl) }

a_type : (most : ℕ) → ReadsSome (IsType 0) Any (type_form most 0)
a_type most = record { reads = reads_type_form most 0 none_fits; some = (zero_type, zero_ident_word 0 ∷ [], refl) }

-- labels
abbrev pub AreLabels : Option Labels → List Word → Type 0
AreLabels all ws = ws ≡ words_if labels_words all

module _ (most : ℕ) where
  abbrev label_words : Numeral → List Word
  label_words number = number_at 0 number ∷ []

  some_numbers : ReadsSome (AreItems 0 label_words) Any (items_by numeral most)
  some_numbers =
      record {
        reads = reads_items 0 label_words none_fits numeral (reads_numeral 0 none_fits) zero_numeral most;
        some = (single zero_numeral, number_at 0 zero_numeral ∷ [], refl);
      }

  reads_labels_at : (kind : Kind) (payload : Payload) (line : ℕ)
      → ReadsAt (a_token kind payload line) AreLabels Any (labels_at most kind payload line)
  reads_labels_at k.Label nothing line =
      let w = at 0 k.Label line in
      let make : Separated Numeral → ℕ → Option Labels = λ numbers end.
      Some (record { line = line; numbers = numbers; end = end }) in
      let further = λ (numbers : Separated Numeral). bind (mark k.Semicolon) (λ end. done (make numbers end)) in
      reads_skip AreLabels Any w (bind (items_by numeral most) further) (λ e. cc)
      (sound_says 0 k.Label nothing line none_fits)
      (reads_then (AreItems 0 label_words) Any (λ x ws. AreLabels x (w ∷ ws)) Any (items_by numeral most) further
      some_numbers
      (λ numbers us is. reads_last (IsTaken 0 k.Semicolon) Any (λ x ws. AreLabels x (w ∷ (us ++ ws))) Any
      (mark k.Semicolon) (make numbers) (marks 0 none_fits k.Semicolon (λ e. cc))
      (λ end vs also. rw (is, also) refl) (λ end t any. tt))).reads
  reads_labels_at kind payload line = reads_done AreLabels Any (a_token kind payload line) None refl tt

  pub some_labels : ReadsSome AreLabels Any (labels most)
  some_labels = record { reads = reads_look AreLabels Any (labels_at most) reads_labels_at; some = (None, [], refl) }

-- rows
module _ {A : Type 0} (row_behind : Ident → Prog A) (words : A → List Word) (most : ℕ) (kind : Kind)
    (goes_on : k.EndOfText ≡ kind → ⊥)
    (h : (name : Ident) → ReadsSome (λ row ws. name_at 0 name ∷ ws ≡ words row) Any (row_behind name)) where
  abbrev IsRow : A → List Word → Type 0
  IsRow row ws = ws ≡ words row

  abbrev AreRows : Rows A → List Word → Type 0
  AreRows rows ws = ws ≡ rows_words kind words rows

  abbrev pub MayBeRows : Option (Rows A) → List Word → Type 0
  MayBeRows rows ws = ws ≡ words_if (rows_words kind words) rows

  a_row : ReadsSome IsRow Any (bind ident row_behind)
  a_row =
      reads_then (λ name ws. ws ≡ name_at 0 name ∷ []) Any IsRow Any ident row_behind (an_identifier 0 none_fits)
      (λ name us is. subst (λ us. ReadsSome (λ row vs. IsRow row (us ++ vs)) Any (row_behind name)) (sym is) (h name))

  one_row_more : (rows : Rows A) (us : List Word) (row : A) (ws : List Word) → AreRows rows us → IsRow row ws
      → AreRows (pushed_row row_behind rows row) (us ++ ws)
  one_row_more rows us row ws is also =
      rw (is, also) (ap (λ all. at 0 kind rows.line ∷ all)
      (append_assoc (words rows.first) (flat_map words rows.more) (words row)
      ∙ ap (λ all. words rows.first ++ all) (sym (flat_map-append words rows.more (row ∷ [])
      ∙ ap (λ all. flat_map words rows.more ++ all) (append-nil (words row))))))

  begins_rows : (rows : Rows A) (us : List Word) → AreRows rows us
      → (token : Kind) (payload : Payload) (line : ℕ)
      → Begins AreRows us (a_token token payload line) (behind_row row_behind rows token payload line)
  begins_rows rows us is k.Name (spelling name) line =
      let found : Ident = record { name = name; line = line } in
      let w = name_at 0 found in
      let x = (h found).some in (
        w,
        refl,
        (λ e. cc),
        sound_says 0 k.Name (spelling name) line none_fits,
        (reads_last (λ row ws. w ∷ ws ≡ words row) Any (λ all ws. AreRows all (us ++ w ∷ ws)) Any (row_behind found)
            (λ row. pushed_row row_behind rows row) (h found)
            (λ row ws also. one_row_more rows us row (w ∷ ws) is also) (λ row t any. tt)).reads,
        (pushed_row row_behind rows x.0, x.1, one_row_more rows us x.0 (w ∷ x.1) is x.2),
      )
  begins_rows rows us is token payload line = tt

  rows_at : (found : Option ℕ) (us : List Word) → MayBeTaken 0 kind found us
      → ReadsSome (λ rows ws. MayBeRows rows (us ++ ws)) Any (rows_behind row_behind most found)
  rows_at None us is = reads_made (λ rows ws. MayBeRows rows (us ++ ws)) None (rw is refl)
  rows_at (Some line) us is =
      let start : A → Rows A = λ first. record { line = line; first = first; more = [] } in
      let loop = λ (first : A). turns (behind_row row_behind) most (start first) in
      reads_then IsRow Any (λ rows ws. MayBeRows rows (us ++ ws)) Any (bind ident row_behind)
      (λ first. bind (loop first) (λ rows. done (Some rows))) a_row
      (λ first vs also. let begun : AreRows (start first) (us ++ vs) = rw (is, also, append-nil (words first)) refl in
      reads_last (λ rows ws. AreRows rows ((us ++ vs) ++ ws)) Any (λ rows ws. MayBeRows rows (us ++ (vs ++ ws))) Any
      (loop first) (λ rows. Some rows)
      (record {
        reads = reads_turns AreRows (behind_row row_behind) begins_rows most (start first) (us ++ vs) begun;
        some = (start first, [], rw (append-nil (us ++ vs)) begun);
      })
      (λ rows ws third. sym (append_assoc us vs ws) ∙ third) (λ rows t any. tt))

  pub some_rows : ReadsSome MayBeRows Any (rows_by row_behind most kind)
  some_rows =
      reads_then (MayBeTaken 0 kind) Any MayBeRows Any (maybe_mark kind) (rows_behind row_behind most)
      (maybes 0 none_fits kind goes_on) rows_at

a_constant_row : (name : Ident)
    → ReadsSome (λ row ws. name_at 0 name ∷ ws ≡ constant_row_words row) Any (constant_row_behind name)
a_constant_row name =
    let R = λ (row : ConstantRow) (ws : List Word). name_at 0 name ∷ ws ≡ constant_row_words row in
    let make : ℕ → Constant → ℕ → ConstantRow = λ equals value end.
    record { name = name; equals = equals; value = value; end = end } in
    let behind_value = λ (equals : ℕ) (value : Constant). bind (mark k.Semicolon)
    (λ end. done (make equals value end)) in
    let some = tree.number None zero_numeral in
    reads_then (IsTaken 0 k.Equal) Any R Any (mark k.Equal) (λ equals. bind constant (behind_value equals))
    (marks 0 none_fits k.Equal (λ e. cc))
    (λ equals us is. reads_then (IsConstant 0) Any (λ row ws. R row (us ++ ws)) Any constant (behind_value equals)
    (record { reads = reads_constant 0 none_fits; some = (some, number_at 0 zero_numeral ∷ [], refl) })
    (λ value vs also. reads_last (IsTaken 0 k.Semicolon) Any (λ row ws. R row (us ++ (vs ++ ws))) Any (mark k.Semicolon)
    (make equals value) (marks 0 none_fits k.Semicolon (λ e. cc)) (λ end ws third. rw (is, also, third) refl)
    (λ end t any. tt)))

a_type_row : (most : ℕ) (name : Ident)
    → ReadsSome (λ row ws. name_at 0 name ∷ ws ≡ type_row_words row) Any (type_row_behind most name)
a_type_row most name =
    let R = λ (row : TypeRow) (ws : List Word). name_at 0 name ∷ ws ≡ type_row_words row in
    let make : ℕ → TypeForm → ℕ → TypeRow = λ equals form end.
    record { name = name; equals = equals; form = form; end = end } in
    let behind_form = λ (equals : ℕ) (form : TypeForm). bind (mark k.Semicolon) (λ end. done (make equals form end)) in
    reads_then (IsTaken 0 k.Equal) Any R Any (mark k.Equal) (λ equals. bind (type_form most 0) (behind_form equals))
    (marks 0 none_fits k.Equal (λ e. cc))
    (λ equals us is. reads_then (IsType 0) Any (λ row ws. R row (us ++ ws)) Any (type_form most 0) (behind_form equals)
    (a_type most)
    (λ form vs also. reads_last (IsTaken 0 k.Semicolon) Any (λ row ws. R row (us ++ (vs ++ ws))) Any (mark k.Semicolon)
    (make equals form) (marks 0 none_fits k.Semicolon (λ e. cc)) (λ end ws third. rw (is, also, third) refl)
    (λ end t any. tt)))

abbrev ident_words : Ident → List Word
ident_words name = name_at 0 name ∷ []

a_variable_row : (most : ℕ) (name : Ident)
    → ReadsSome (λ row ws. name_at 0 name ∷ ws ≡ variable_row_words row) Any (variable_row_behind most name)
a_variable_row most name =
    let R = λ (row : VariableRow) (ws : List Word). name_at 0 name ∷ ws ≡ variable_row_words row in
    let make : Idents → ℕ → TypeForm → ℕ → VariableRow = λ names colon form end.
    record { names = names; colon = colon; form = form; end = end } in
    let behind_form = λ (names : Idents) (colon : ℕ) (form : TypeForm). bind (mark k.Semicolon)
    (λ end. done (make names colon form end)) in
    let behind_colon = λ (names : Idents) (colon : ℕ). bind (type_form most 0) (behind_form names colon) in
    let behind_names = λ (names : Idents). bind (mark k.Colon) (behind_colon names) in
    let loop = turns (behind_item ident) most (single name) in
    reads_then (λ names ws. AreItems 0 ident_words names (name_at 0 name ∷ ws)) Any R Any loop behind_names
    (record {
      reads = reads_turns (AreItems 0 ident_words) (behind_item ident)
          (begins_items 0 ident_words none_fits ident (reads_ident 0 none_fits) zero_ident) most (single name)
          (name_at 0 name ∷ []) refl;
      some = (single name, [], refl);
    })
    (λ names us is. reads_then (IsTaken 0 k.Colon) Any (λ row ws. R row (us ++ ws)) Any (mark k.Colon)
    (behind_colon names) (marks 0 none_fits k.Colon (λ e. cc))
    (λ colon vs also. reads_then (IsType 0) Any (λ row ws. R row (us ++ (vs ++ ws))) Any (type_form most 0)
    (behind_form names colon) (a_type most)
    (λ form ws third. reads_last (IsTaken 0 k.Semicolon) Any (λ row xs. R row (us ++ (vs ++ (ws ++ xs)))) Any
    (mark k.Semicolon) (make names colon form) (marks 0 none_fits k.Semicolon (λ e. cc))
    (λ end xs fourth. rw (also, third, fourth)
    (ap (λ all. all ++ at 0 k.Colon colon ∷ (words_of form ++ at 0 k.Semicolon
    end ∷ [])) is))
    (λ end t any. tt))))
  where
    words_of : TypeForm → List Word
    words_of form = type_words 0 form

pub some_constant_rows : (most : ℕ)
    → ReadsSome (λ rows ws. ws ≡ words_if (rows_words k.Const constant_row_words) rows) Any (constant_rows most)
some_constant_rows most =
    some_rows constant_row_behind constant_row_words most k.Const (λ e. cc) a_constant_row

pub some_type_rows : (most : ℕ)
    → ReadsSome (λ rows ws. ws ≡ words_if (rows_words k.Type type_row_words) rows) Any (type_rows most)
some_type_rows most = some_rows (type_row_behind most) type_row_words most k.Type (λ e. cc) (a_type_row most)

pub some_variable_rows : (most : ℕ)
    → ReadsSome (λ rows ws. ws ≡ words_if (rows_words k.Var variable_row_words) rows) Any (variable_rows most)
some_variable_rows most =
    some_rows (variable_row_behind most) variable_row_words most k.Var (λ e. cc) (a_variable_row most)

-- the name of a type
abbrev pub IsTypeName : ℕ → TypeName → List Word → Type 0
IsTypeName n type ws = ws ≡ type_name_words n type

module _ (n : ℕ) (fits : n ≤ NESTING_LIMIT) where
  abbrev zero_type_name : TypeName
  zero_type_name = tree.type_named zero_ident

  reads_named : Reads (IsTypeName n) Any (bind ident (λ name. done (tree.type_named name)))
  reads_named =
      (reads_last (λ name ws. ws ≡ name_at n name ∷ []) Any (IsTypeName n) Any ident (λ name. tree.type_named name)
      (an_identifier n fits) (λ name us is. is) (λ name t any. tt)).reads

  reads_type_name_at : (kind : Kind) (payload : Payload) (line : ℕ)
      → ReadsAt (a_token kind payload line) (IsTypeName n) Any (type_name_at kind payload line)
  reads_type_name_at k.LeftParenthesis nothing line =
      reads_shown (IsTypeName n) Any (a_token k.LeftParenthesis nothing line) ENUMERATIONS
      (tree.no_type_name (tree.enumeration line)) (shows n k.LeftParenthesis line ENUMERATIONS) [] refl refl refl
  reads_type_name_at k.Set nothing line =
      reads_shown (IsTypeName n) Any (a_token k.Set nothing line) SETS (tree.no_type_name (tree.set line))
      (shows n k.Set line SETS) [] refl refl refl
  reads_type_name_at k.Caret nothing line =
      reads_shown (IsTypeName n) Any (a_token k.Caret nothing line) POINTERS (tree.no_type_name (tree.pointer line))
      (shows n k.Caret line POINTERS) [] refl refl refl
  reads_type_name_at kind payload line = λ ts is. reads_named ts

  a_type_name : ReadsSome (IsTypeName n) Any type_name
  a_type_name =
      record {
        reads = reads_look (IsTypeName n) Any type_name_at reads_type_name_at;
        some = (zero_type_name, zero_ident_word n ∷ [], refl);
      }

-- parameters
abbrev IsParameter : Parameter → List Word → Type 0
IsParameter p ws = ws ≡ parameter_words 1 p

abbrev AreParameters : Separated Parameter → List Word → Type 0
AreParameters items ws = ws ≡ separated 1 k.Semicolon (parameter_words 1) items

abbrev pub MayBeParameters : Option Parameters → List Word → Type 0
MayBeParameters all ws = ws ≡ words_if parameters_words all

module _ (most : ℕ) where
  plain_parameter : ReadsSome IsParameter Any (parameter_by most)
  plain_parameter =
      let make = λ (by_name : Option ℕ) (names : Idents) (colon : ℕ) (type : TypeName).
      tree.parameters by_name names colon type in
      let behind_colon = λ (by_name : Option ℕ) (names : Idents) (colon : ℕ). bind type_name
      (λ type. done (make by_name names colon type)) in
      let behind_names = λ (by_name : Option ℕ) (names : Idents). bind (mark k.Colon) (behind_colon by_name names) in
      reads_then (MayBeTaken 1 k.Var) Any IsParameter Any (maybe_mark k.Var)
      (λ by_name. bind (idents_by most) (behind_names by_name)) (maybes 1 one_fits k.Var (λ e. cc))
      (λ by_name us is. reads_then (AreIdents 1) Any (λ p ws. IsParameter p (us ++ ws)) Any (idents_by most)
      (behind_names by_name) (some_idents 1 one_fits most)
      (λ names vs also. reads_then (IsTaken 1 k.Colon) Any (λ p ws. IsParameter p (us ++ (vs ++ ws))) Any (mark k.Colon)
      (behind_colon by_name names) (marks 1 one_fits k.Colon (λ e. cc))
      (λ colon ws third. reads_last (IsTypeName 1) Any (λ p xs. IsParameter p (us ++ (vs ++ (ws ++ xs)))) Any type_name
      (make by_name names colon) (a_type_name 1 one_fits) (λ type xs fourth. rw (is, also, third, fourth) refl)
      (λ type t any. tt))))

  reads_parameter_at : (kind : Kind) (payload : Payload) (line : ℕ)
      → ReadsAt (a_token kind payload line) IsParameter Any (parameter_at most kind payload line)
  reads_parameter_at k.Procedure nothing line =
      reads_shown IsParameter Any (a_token k.Procedure nothing line) ROUTINES_AS_PARAMETERS
      (tree.procedure_parameter line) (shows 1 k.Procedure line ROUTINES_AS_PARAMETERS) [] refl refl refl
  reads_parameter_at k.Function nothing line =
      reads_shown IsParameter Any (a_token k.Function nothing line) ROUTINES_AS_PARAMETERS
      (tree.function_parameter line) (shows 1 k.Function line ROUTINES_AS_PARAMETERS) [] refl refl refl
  reads_parameter_at kind payload line = λ ts is. plain_parameter.reads ts

  a_parameter : ReadsSome IsParameter Any (parameter most)
  a_parameter =
      record {
        reads = reads_look IsParameter Any (parameter_at most) reads_parameter_at;
        some = plain_parameter.some;
      }

  begins_parameters : (found : Separated Parameter) (us : List Word) → AreParameters found us
      → (kind : Kind) (payload : Payload) (line : ℕ)
      → Begins AreParameters us (a_token kind payload line) (behind_parameter most found kind payload line)
  begins_parameters found us is k.Semicolon nothing line =
      let w = at 1 k.Semicolon line in
      let spelled : (p : Parameter) (ws : List Word) → IsParameter p ws
      → AreParameters (pushed found line p) (us ++ w ∷ ws)
      = λ p ws also. rw (is, also) (sym (separated_pushed 1 k.Semicolon (parameter_words 1) found line p)) in
      let x = a_parameter.some in (
        w,
        refl,
        (λ e. cc),
        sound_says 1 k.Semicolon nothing line one_fits,
        (reads_last IsParameter Any (λ all ws. AreParameters all (us ++ w ∷ ws)) Any (parameter most)
            (λ p. pushed found line p) a_parameter spelled (λ p t any. tt)).reads,
        (pushed found line x.0, x.1, spelled x.0 x.1 x.2),
      )
  begins_parameters found us is kind payload line = tt

  some_list : ReadsSome AreParameters Any (parameter_list most)
  some_list =
      reads_then IsParameter Any AreParameters Any (parameter most)
      (λ first. turns (behind_parameter most) most (single first)) a_parameter
      (λ first us is. let begun : AreParameters (single first) us = is ∙ sym (append-nil (parameter_words 1 first)) in
      record {
        reads = reads_turns AreParameters (behind_parameter most) begins_parameters most (single first) us begun;
        some = (single first, [], rw (append-nil us) begun);
      })

  reads_parameters_at : (kind : Kind) (payload : Payload) (line : ℕ)
      → ReadsAt (a_token kind payload line) MayBeParameters Any (parameters_at most kind payload line)
  reads_parameters_at k.LeftParenthesis nothing line =
      let w = at 1 k.LeftParenthesis line in
      let make : Separated Parameter → ℕ → Option Parameters = λ items closed.
      Some (record { opened = line; items = items; closed = closed }) in
      let further = λ (items : Separated Parameter). bind (mark k.RightParenthesis)
      (λ closed. done (make items closed)) in
      reads_skip MayBeParameters Any w (bind (parameter_list most) further) (λ e. cc)
      (sound_says 1 k.LeftParenthesis nothing line one_fits)
      (reads_then AreParameters Any (λ x ws. MayBeParameters x (w ∷ ws)) Any (parameter_list most) further some_list
      (λ items us is. reads_last (IsTaken 1 k.RightParenthesis) Any (λ x ws. MayBeParameters x (w ∷ (us ++ ws))) Any
      (mark k.RightParenthesis) (make items) (marks 1 one_fits k.RightParenthesis (λ e. cc))
      (λ closed vs also. rw (is, also) refl) (λ closed t any. tt))).reads
  reads_parameters_at kind payload line = reads_done MayBeParameters Any (a_token kind payload line) None refl tt

  pub some_parameters : ReadsSome MayBeParameters Any (parameters most)
  some_parameters =
      record {
        reads = reads_look MayBeParameters Any (parameters_at most) reads_parameters_at;
        some = (None, [], refl);
      }

-- the type of a function
abbrev pub MayBeResult : Option (Behind TypeName) → List Word → Type 0
MayBeResult result ws = ws ≡ words_if result_words result

reads_result_at : (kind : Kind) (payload : Payload) (line : ℕ)
    → ReadsAt (a_token kind payload line) MayBeResult Any (result_at kind payload line)
reads_result_at k.Colon nothing line =
    let w = at 0 k.Colon line in
    let make : TypeName → Option (Behind TypeName) = λ type. Some (record { line = line; item = type }) in
    reads_skip MayBeResult Any w (bind type_name (λ type. done (make type))) (λ e. cc)
    (sound_says 0 k.Colon nothing line none_fits)
    (reads_last (IsTypeName 0) Any (λ x ws. MayBeResult x (w ∷ ws)) Any type_name make (a_type_name 0 none_fits)
    (λ type us is. rw is refl) (λ type t any. tt)).reads
reads_result_at kind payload line = reads_done MayBeResult Any (a_token kind payload line) None refl tt

pub a_result : ReadsSome MayBeResult Any result_type
a_result = record { reads = reads_look MayBeResult Any result_at reads_result_at; some = (None, [], refl) }
