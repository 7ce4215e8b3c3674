-- The readers of declarations take the words of each tree, to the first with a fault.
use Rattle.std.proofs.Common.{◌≡◌, refl, sym, ap, subst, ℕ, suc, ◌+◌, ◌-◌, ◌≤◌, ◌<◌, arith, List, [], ◌∷◌}
use Rattle.std.proofs.Common.{◌++◌, length, append_assoc, Ok, Option, Some, None}
use Rattle.std.specs.List.{flat_map}
use Rattle.std.proofs.lemmas.List.{append-nil, length-append}
use Rattle.wb_base.specs.declared.faults.TheConstants.{ENUMERATIONS, SETS, POINTERS, ROUTINES_AS_PARAMETERS}
use Rattle.pas_tokens.specs.declared.kinds.Kind.{Kind}
use Rattle.pas_tokens.specs.declared.kinds.Kind.TheVariants as k
use Rattle.pas_tokens.specs.Cutting.{Payload, nothing, spelling}
use Rattle.pas_tokens.specs.Tokens.{Token}
use Rattle.pas_syntax.specs.declared.limits.TheConstants.{NESTING_LIMIT}
use Rattle.pas_syntax.specs.Tree as tree
use Rattle.pas_syntax.specs.Tree.{Ident, Numeral, Behind, Separated, Idents, Constant, TypeName, TypeForm, Labels}
use Rattle.pas_syntax.specs.Tree.{ConstantRow, TypeRow, VariableRow, Rows, Parameter, Parameters}
use Rattle.pas_syntax.specs.Words.{Word, at, shows, maybe, name_at, number_at, words_if, separated, idents_words}
use Rattle.pas_syntax.specs.Words.{constant_words, type_words, type_name_words, labels_words, constant_row_words}
use Rattle.pas_syntax.specs.Words.{type_row_words, variable_row_words, rows_words, parameter_words, parameters_words}
use Rattle.pas_syntax.specs.Words.{result_words}
use Rattle.pas_syntax.specs.Parse.{tokens_in}
use Rattle.pas_syntax.specs.inner.Prog.{Prog, done, bind, Out, head, ends, turns}
use Rattle.pas_syntax.specs.inner.Readers.{ident}
use Rattle.pas_syntax.specs.inner.Marks.{mark, maybe_mark}
use Rattle.pas_syntax.specs.inner.TypeReaders.{pushed, single, behind_item, items_by, idents_by, constant, type_form}
use Rattle.pas_syntax.specs.inner.StatementReaders.{numeral}
use Rattle.pas_syntax.specs.inner.DeclarationReaders.{labels_at, labels, pushed_row, behind_row, rows_behind, rows_by}
use Rattle.pas_syntax.specs.inner.DeclarationReaders.{constant_row_behind, type_row_behind, variable_row_behind}
use Rattle.pas_syntax.specs.inner.DeclarationReaders.{constant_rows, type_rows, variable_rows, type_name}
use Rattle.pas_syntax.specs.inner.DeclarationReaders.{parameter_by, parameter_at, parameter, behind_parameter}
use Rattle.pas_syntax.specs.inner.DeclarationReaders.{parameter_list, parameters_at, parameters, result_at}
use Rattle.pas_syntax.specs.inner.DeclarationReaders.{result_type}
use Rattle.pas_syntax.proofs.Judged.{Reaches, reaches_bind, reaches_last, reaches_skip, reaches_shown}
use Rattle.pas_syntax.proofs.ReachLemmas.{reaches_more, reaches_end, reaches_look}
use Rattle.pas_syntax.proofs.WordLemmas.{sound_says}
use Rattle.pas_syntax.proofs.ItemLemmas.{behind_words}
use Rattle.pas_syntax.proofs.ConstantLemmas.{reaches_constant}
use Rattle.pas_syntax.proofs.MarkLemmas.{reaches_mark, reaches_maybe, reaches_maybe_there, reaches_ident}
use Rattle.pas_syntax.proofs.MarkLemmas.{reaches_numeral}
use Rattle.pas_syntax.proofs.PhraseReaches.{few_items, reaches_items_on, reaches_items_within}
use Rattle.pas_syntax.proofs.TypeReaches.{reaches_idents, reaches_type_form}
use Rattle.pas_syntax.proofs.DeclarationReads.{none_fits, one_fits}

-- labels
module _ (most : ℕ) where
  abbrev label_words : Numeral → List Word
  label_words number = number_at 0 number ∷ []

  no_labels : (kind : Kind) (payload : Payload) (line : ℕ) → (k.Label ≡ kind → ⊥)
      → labels_at most kind payload line ≡ done None
  no_labels k.Label payload line other = absurd (other refl)
  no_labels kind payload line other = refl

  pub reaches_labels : (all : Option Labels) (rest : List Token) → length (words_if labels_words all) < most
      → (k.Label ≡ (head rest).kind → ⊥)
      → Reaches (labels most) (words_if labels_words all) (Ok (all, rest)) rest
  reaches_labels None rest less other =
      reaches_look (labels_at most) (done None) [] (Ok (None, rest)) rest
      (no_labels (head rest).kind (head rest).payload (head rest).line other) refl
  reaches_labels (Some all) rest less other =
      let us = separated 0 k.Comma label_words all.numbers in
      let last = at 0 k.Semicolon all.end ∷ [] in
      let count : length (us ++ last) ≡ length us + length last = length-append us last in
      let short : length us < most = omega (arith, less, count) in
      let make : Separated Numeral → ℕ → Option Labels = λ numbers end.
      Some (record { line = all.line; numbers = numbers; end = end }) in
      let further = λ (numbers : Separated Numeral). bind (mark k.Semicolon) (λ end. done (make numbers end)) in
      let r = Ok (Some all, rest) in
      reaches_skip (bind (items_by numeral most) further) (at 0 k.Label all.line) (us ++ last) r rest
      (sound_says 0 k.Label nothing all.line none_fits)
      (reaches_bind (items_by numeral most) further us last all.numbers r rest
      (reaches_items_within 0 label_words none_fits numeral most (λ kind. Unit {0}) tt
      (λ number rest less any. reaches_numeral 0 none_fits number rest) all.numbers (tokens_in last ++ rest) short tt
      refl)
      (reaches_last (mark k.Semicolon) (λ end. done (make all.numbers end)) last all.end rest
      (reaches_mark 0 none_fits k.Semicolon all.end rest)))

-- rows, each a name and what stands behind it
module _ {A : Type 0} (row_behind : Ident → Prog A) (words : A → List Word) (most : ℕ) (kind : Kind)
    (name_of : A → Ident) (tail : A → List Word) (split : (row : A) → words row ≡ name_at 0 (name_of row) ∷ tail row)
    (h : (row : A) (rest : List Token) → length (words row) < most
    → Reaches (row_behind (name_of row)) (tail row) (Ok (row, rest)) rest) where
  few_rows : (rows : List A) → length rows ≤ length (flat_map words rows)
  few_rows [] = omega arith
  few_rows (next ∷ rows) =
      let ws = flat_map words rows in
      let count : length (words next ++ ws) ≡ length (words next) + length ws = length-append (words next) ws in
      let one : length (words next) ≡ suc (length (tail next)) = ap length (split next) in
      omega (arith, few_rows rows, count, one)

  reaches_rows_on : (rows : List A) (found : Rows A) (left_turns : ℕ) (r : Out (Rows A)) (rest : List Token)
      → length (flat_map words rows) < most
      → Reaches (turns (behind_row row_behind) left_turns
      (record { line = found.line; first = found.first; more = found.more ++ rows })) [] r rest
      → Reaches (turns (behind_row row_behind) (left_turns + length rows) found) (flat_map words rows) r rest
  reaches_rows_on [] found left_turns r rest less go_on =
      let all : left_turns ≡ left_turns + 0 = omega arith in
      let same : found.more ++ [] ≡ found.more = append-nil found.more in
      subst (λ m. Reaches (turns (behind_row row_behind) m found) [] r rest) all
      (subst (λ xs. Reaches (turns (behind_row row_behind) left_turns
      (record { line = found.line; first = found.first; more = xs })) [] r rest) same go_on)
  reaches_rows_on (next ∷ rows) found left_turns r rest less go_on =
      let vs = flat_map words rows in
      let name = name_of next in
      let make = λ (row : A). pushed_row row_behind found row in
      let all : suc (left_turns + length rows) ≡ left_turns + length (next ∷ rows) = omega arith in
      let same = append_assoc found.more (next ∷ []) rows in
      let count : length (words next ++ vs) ≡ length (words next) + length vs = length-append (words next) vs in
      let short : length (words next) < most = omega (arith, less, count) in
      let shorter : length vs < most = omega (arith, less, count) in
      subst (λ ws. Reaches (turns (behind_row row_behind) (left_turns + length (next ∷ rows)) found) (ws ++ vs) r rest)
      (sym (split next))
      (subst (λ m. Reaches (turns (behind_row row_behind) m found) (name_at 0 name ∷ (tail next ++ vs)) r rest) all
      (reaches_more (behind_row row_behind) (left_turns + length rows) found (name_at 0 name) (make next) (tail next) vs
      (bind (row_behind name) (λ row. done (make row))) r rest refl
      (sound_says 0 k.Name (spelling name.name) name.line none_fits)
      (reaches_last (row_behind name) (λ row. done (make row)) (tail next) next (tokens_in vs ++ rest)
      (h next (tokens_in vs ++ rest) short))
      (reaches_rows_on rows (make next) left_turns r rest shorter
      (subst (λ xs. Reaches (turns (behind_row row_behind) left_turns
      (record { line = found.line; first = found.first; more = xs })) [] r rest) (sym same) go_on))))

  no_row : (rows : Rows A) (token : Kind) (payload : Payload) (line : ℕ) → (k.Name ≡ token → ⊥)
      → behind_row row_behind rows token payload line ≡ ends
  no_row rows k.Name payload line other = absurd (other refl)
  no_row rows token payload line other = refl

  pub reaches_rows : (rows : Option (Rows A)) (rest : List Token)
      → length (words_if (rows_words kind words) rows) < most → (kind ≡ (head rest).kind → ⊥)
      → (k.Name ≡ (head rest).kind → ⊥)
      → Reaches (rows_by row_behind most kind) (words_if (rows_words kind words) rows) (Ok (rows, rest)) rest
  reaches_rows None rest less other no_name =
      reaches_bind (maybe_mark kind) (rows_behind row_behind most) [] [] None (Ok (None, rest)) rest
      (reaches_maybe 0 none_fits kind None rest other) refl
  reaches_rows (Some rows) rest less other no_name =
      let us = words rows.first in
      let vs = flat_map words rows.more in
      let count : length (us ++ vs) ≡ length us + length vs = length-append us vs in
      let few = few_rows rows.more in
      let left_turns = most - suc (length rows.more) in
      let all : suc left_turns + length rows.more ≡ most = omega (arith, less, count, few) in
      let short : length us < most = omega (arith, less, count) in
      let shorter : length vs < most = omega (arith, less, count) in
      let start : A → Rows A = λ first. record { line = rows.line; first = first; more = [] } in
      let loop = λ (first : A). turns (behind_row row_behind) most (start first) in
      let further = λ (first : A). bind (loop first) (λ rows. done (Some rows)) in
      let name = name_of rows.first in
      let r = Ok (Some rows, rest) in
      reaches_bind (maybe_mark kind) (rows_behind row_behind most) (at 0 kind rows.line ∷ []) (us ++ vs)
      (Some rows.line)
      r rest (reaches_maybe_there 0 none_fits kind rows.line (tokens_in (us ++ vs) ++ rest))
      (reaches_bind (bind ident row_behind) further us vs rows.first r rest
      (subst (λ ws. Reaches (bind ident row_behind) ws (Ok (rows.first, tokens_in vs ++ rest)) (tokens_in vs ++ rest))
      (sym (split rows.first))
      (reaches_bind ident row_behind (name_at 0 name ∷ []) (tail rows.first) name
      (Ok (rows.first, tokens_in vs ++ rest)) (tokens_in vs ++ rest)
      (reaches_ident 0 none_fits name (tokens_in (tail rows.first) ++ (tokens_in vs ++ rest)))
      (h rows.first (tokens_in vs ++ rest) short)))
      (reaches_last (loop rows.first) (λ rows. done (Some rows)) vs rows rest
      (subst (λ m. Reaches (turns (behind_row row_behind) m (start rows.first)) vs (Ok (rows, rest)) rest) all
      (reaches_rows_on rows.more (start rows.first) (suc left_turns) (Ok (rows, rest)) rest shorter
      (reaches_end (behind_row row_behind) left_turns rows rest
      (no_row rows (head rest).kind (head rest).payload (head rest).line no_name))))))

abbrev constant_row_tail : ConstantRow → List Word
constant_row_tail row = at 0 k.Equal row.equals ∷ (constant_words 0 row.value ++ at 0 k.Semicolon row.end ∷ [])

reaches_constant_row : (most : ℕ) (row : ConstantRow) (rest : List Token) → length (constant_row_words row) < most
    → Reaches (constant_row_behind row.name) (constant_row_tail row) (Ok (row, rest)) rest
reaches_constant_row most row rest less =
    let make : ℕ → Constant → ℕ → ConstantRow = λ equals value end.
    record { name = row.name; equals = equals; value = value; end = end } in
    let behind_value = λ (equals : ℕ) (value : Constant). bind (mark k.Semicolon)
    (λ end. done (make equals value end)) in
    let us = constant_words 0 row.value in
    let last = at 0 k.Semicolon row.end ∷ [] in
    let r = Ok (row, rest) in
    reaches_bind (mark k.Equal) (λ equals. bind constant (behind_value equals)) (at 0 k.Equal row.equals ∷ [])
    (us ++ last) row.equals r rest (reaches_mark 0 none_fits k.Equal row.equals (tokens_in (us ++ last) ++ rest))
    (reaches_bind constant (behind_value row.equals) us last row.value r rest
    (reaches_constant 0 none_fits row.value (tokens_in last ++ rest))
    (reaches_last (mark k.Semicolon) (λ end. done (make row.equals row.value end)) last row.end rest
    (reaches_mark 0 none_fits k.Semicolon row.end rest)))

abbrev type_row_tail : TypeRow → List Word
type_row_tail row = at 0 k.Equal row.equals ∷ (type_words 0 row.form ++ at 0 k.Semicolon row.end ∷ [])

reaches_type_row : (most : ℕ) (row : TypeRow) (rest : List Token) → length (type_row_words row) < most
    → Reaches (type_row_behind most row.name) (type_row_tail row) (Ok (row, rest)) rest
reaches_type_row most row rest less =
    let make : ℕ → TypeForm → ℕ → TypeRow = λ equals form end.
    record { name = row.name; equals = equals; form = form; end = end } in
    let behind_form = λ (equals : ℕ) (form : TypeForm). bind (mark k.Semicolon) (λ end. done (make equals form end)) in
    let us = type_words 0 row.form in
    let last = at 0 k.Semicolon row.end ∷ [] in
    let count : length (us ++ last) ≡ length us + length last = length-append us last in
    let short : length us < most = omega (arith, less, count) in
    let r = Ok (row, rest) in
    reaches_bind (mark k.Equal) (λ equals. bind (type_form most 0) (behind_form equals)) (at 0 k.Equal row.equals ∷ [])
    (us ++ last) row.equals r rest (reaches_mark 0 none_fits k.Equal row.equals (tokens_in (us ++ last) ++ rest))
    (reaches_bind (type_form most 0) (behind_form row.equals) us last row.form r rest
    (reaches_type_form most 0 row.form (tokens_in last ++ rest) none_fits short tt)
    (reaches_last (mark k.Semicolon) (λ end. done (make row.equals row.form end)) last row.end rest
    (reaches_mark 0 none_fits k.Semicolon row.end rest)))

abbrev ident_words : Ident → List Word
ident_words name = name_at 0 name ∷ []

abbrev variable_row_tail : VariableRow → List Word
variable_row_tail row =
    flat_map (behind_words 0 ident_words) row.names.more ++ at 0 k.Colon row.colon
    ∷ (type_words 0 row.form ++ at 0 k.Semicolon row.end ∷ [])

reaches_variable_row : (most : ℕ) (row : VariableRow) (rest : List Token) → length (variable_row_words row) < most
    → Reaches (variable_row_behind most row.names.first) (variable_row_tail row) (Ok (row, rest)) rest
reaches_variable_row most row rest less =
    let make : Idents → ℕ → TypeForm → ℕ → VariableRow = λ names colon form end.
    record { names = names; colon = colon; form = form; end = end } in
    let behind_form = λ (names : Idents) (colon : ℕ) (form : TypeForm). bind (mark k.Semicolon)
    (λ end. done (make names colon form end)) in
    let behind_colon = λ (names : Idents) (colon : ℕ). bind (type_form most 0) (behind_form names colon) in
    let behind_names = λ (names : Idents). bind (mark k.Colon) (behind_colon names) in
    let names = row.names in
    let ns = flat_map (behind_words 0 ident_words) names.more in
    let us = type_words 0 row.form in
    let last = at 0 k.Semicolon row.end ∷ [] in
    let w = at 0 k.Colon row.colon in
    let whole : length (ns ++ w ∷ (us ++ last)) ≡ length ns + length (w ∷ (us ++ last))
    = length-append ns (w ∷ (us ++ last)) in
    let count : length (us ++ last) ≡ length us + length last = length-append us last in
    let few = few_items 0 ident_words names.more in
    let short : length us < most = omega (arith, less, whole, count) in
    let shorter : length ns < most = omega (arith, less, whole) in
    let left_turns = most - suc (length names.more) in
    let all : suc left_turns + length names.more ≡ most = omega (arith, less, whole, few) in
    let loop = turns (behind_item ident) most (single names.first) in
    let behind = tokens_in (w ∷ (us ++ last)) ++ rest in
    let r = Ok (row, rest) in
    reaches_bind loop behind_names ns (w ∷ (us ++ last)) names r rest
    (subst (λ m. Reaches (turns (behind_item ident) m (single names.first)) ns (Ok (names, behind)) behind) all
    (reaches_items_on 0 ident_words none_fits ident most (λ kind. Unit {0}) tt
    (λ name rest less any. reaches_ident 0 none_fits name rest) names.more (single names.first) (suc left_turns)
    (Ok (names, behind)) behind shorter tt
    (reaches_end (behind_item ident) left_turns names behind refl)))
    (reaches_bind (mark k.Colon) (behind_colon names) (w ∷ []) (us ++ last) row.colon r rest
    (reaches_mark 0 none_fits k.Colon row.colon (tokens_in (us ++ last) ++ rest))
    (reaches_bind (type_form most 0) (behind_form names row.colon) us last row.form r rest
    (reaches_type_form most 0 row.form (tokens_in last ++ rest) none_fits short tt)
    (reaches_last (mark k.Semicolon) (λ end. done (make names row.colon row.form end)) last row.end rest
    (reaches_mark 0 none_fits k.Semicolon row.end rest))))

pub reaches_constant_rows : (most : ℕ) (rows : Option (Rows ConstantRow)) (rest : List Token)
    → length (words_if (rows_words k.Const constant_row_words) rows) < most → (k.Const ≡ (head rest).kind → ⊥)
    → (k.Name ≡ (head rest).kind → ⊥)
    → Reaches (constant_rows most) (words_if (rows_words k.Const constant_row_words) rows) (Ok (rows, rest)) rest
reaches_constant_rows most rows rest less other no_name =
    reaches_rows constant_row_behind constant_row_words most k.Const (λ row. row.name) constant_row_tail (λ row. refl)
    (reaches_constant_row most) rows rest less other no_name

pub reaches_type_rows : (most : ℕ) (rows : Option (Rows TypeRow)) (rest : List Token)
    → length (words_if (rows_words k.Type type_row_words) rows) < most → (k.Type ≡ (head rest).kind → ⊥)
    → (k.Name ≡ (head rest).kind → ⊥)
    → Reaches (type_rows most) (words_if (rows_words k.Type type_row_words) rows) (Ok (rows, rest)) rest
reaches_type_rows most rows rest less other no_name =
    reaches_rows (type_row_behind most) type_row_words most k.Type (λ row. row.name) type_row_tail (λ row. refl)
    (reaches_type_row most) rows rest less other no_name

pub reaches_variable_rows : (most : ℕ) (rows : Option (Rows VariableRow)) (rest : List Token)
    → length (words_if (rows_words k.Var variable_row_words) rows) < most → (k.Var ≡ (head rest).kind → ⊥)
    → (k.Name ≡ (head rest).kind → ⊥)
    → Reaches (variable_rows most) (words_if (rows_words k.Var variable_row_words) rows) (Ok (rows, rest)) rest
reaches_variable_rows most rows rest less other no_name =
    reaches_rows (variable_row_behind most) variable_row_words most k.Var (λ row. row.names.first) variable_row_tail
    (λ row. refl) (reaches_variable_row most) rows rest less other no_name

-- the name of a type
module _ (n : ℕ) (fits : n ≤ NESTING_LIMIT) where
  reaches_type_name : (type : TypeName) (rest : List Token)
      → Reaches type_name (type_name_words n type) (Ok (type, rest)) rest
  reaches_type_name (tree.type_named name) rest =
      reaches_last ident (λ name. done (tree.type_named name)) (name_at n name ∷ []) name rest
      (reaches_ident n fits name rest)
  reaches_type_name (tree.no_type_name (tree.enumeration line)) rest =
      reaches_shown ENUMERATIONS (shows n k.LeftParenthesis line ENUMERATIONS) []
      (Ok (tree.no_type_name (tree.enumeration line), rest)) rest refl
  reaches_type_name (tree.no_type_name (tree.set line)) rest =
      reaches_shown SETS (shows n k.Set line SETS) [] (Ok (tree.no_type_name (tree.set line), rest)) rest refl
  reaches_type_name (tree.no_type_name (tree.pointer line)) rest =
      reaches_shown POINTERS (shows n k.Caret line POINTERS) [] (Ok (tree.no_type_name (tree.pointer line), rest)) rest
      refl

-- parameters
module _ (most : ℕ) where
  parameter_starts : (by_name : Option ℕ) (names : Idents) (ws : List Word) (rest : List Token)
      → let t = head (tokens_in (maybe 1 k.Var by_name ++ (idents_words 1 names ++ ws)) ++ rest) in
      parameter_at most t.kind t.payload t.line ≡ parameter_by most
  parameter_starts None names ws rest = refl
  parameter_starts (Some line) names ws rest = refl

  reaches_parameter : (p : Parameter) (rest : List Token) → length (parameter_words 1 p) < most
      → Reaches (parameter most) (parameter_words 1 p) (Ok (p, rest)) rest
  reaches_parameter (tree.parameters by_name names colon type) rest less =
      let make = λ (by_name : Option ℕ) (names : Idents) (colon : ℕ) (type : TypeName).
      tree.parameters by_name names colon type in
      let behind_colon = λ (by_name : Option ℕ) (names : Idents) (colon : ℕ). bind type_name
      (λ type. done (make by_name names colon type)) in
      let behind_names = λ (by_name : Option ℕ) (names : Idents). bind (mark k.Colon) (behind_colon by_name names) in
      let bs = maybe 1 k.Var by_name in
      let us = idents_words 1 names in
      let ts = type_name_words 1 type in
      let w = at 1 k.Colon colon in
      let whole : length (bs ++ (us ++ w ∷ ts)) ≡ length bs + length (us ++ w ∷ ts) = length-append bs (us ++ w ∷ ts) in
      let count : length (us ++ w ∷ ts) ≡ length us + length (w ∷ ts) = length-append us (w ∷ ts) in
      let short : length us < most = omega (arith, less, whole, count) in
      let p = make by_name names colon type in
      let r = Ok (p, rest) in
      reaches_look (parameter_at most) (parameter_by most) (bs ++ (us ++ w ∷ ts)) r rest
      (parameter_starts by_name names (w ∷ ts) rest)
      (reaches_bind (maybe_mark k.Var) (λ by_name. bind (idents_by most) (behind_names by_name)) bs (us ++ w ∷ ts)
      by_name r rest
      (reaches_maybe 1 one_fits k.Var by_name (tokens_in (us ++ w ∷ ts) ++ rest) (λ e. cc))
      (reaches_bind (idents_by most) (behind_names by_name) us (w ∷ ts) names r rest
      (reaches_idents 1 one_fits most names colon ts rest short)
      (reaches_bind (mark k.Colon) (behind_colon by_name names) (w ∷ []) ts colon r rest
      (reaches_mark 1 one_fits k.Colon colon (tokens_in ts ++ rest))
      (reaches_last type_name (λ type. done (make by_name names colon type)) ts type rest
      (reaches_type_name 1 one_fits type rest)))))
  reaches_parameter (tree.procedure_parameter line) rest less =
      reaches_shown ROUTINES_AS_PARAMETERS (shows 1 k.Procedure line ROUTINES_AS_PARAMETERS) []
      (Ok (tree.procedure_parameter line, rest)) rest refl
  reaches_parameter (tree.function_parameter line) rest less =
      reaches_shown ROUTINES_AS_PARAMETERS (shows 1 k.Function line ROUTINES_AS_PARAMETERS) []
      (Ok (tree.function_parameter line, rest)) rest refl

  abbrev parameter_behind : Behind Parameter → List Word
  parameter_behind behind = at 1 k.Semicolon behind.line ∷ parameter_words 1 behind.item

  few_parameters : (items : List (Behind Parameter)) → length items ≤ length (flat_map parameter_behind items)
  few_parameters [] = omega arith
  few_parameters (next ∷ items) =
      let ws = flat_map parameter_behind items in
      let count : length (parameter_behind next ++ ws) ≡ length (parameter_behind next) + length ws
      = length-append (parameter_behind next) ws in
      omega (arith, few_parameters items, count)

  reaches_parameters_on : (items : List (Behind Parameter)) (found : Separated Parameter) (left_turns : ℕ)
      (r : Out (Separated Parameter)) (rest : List Token) → length (flat_map parameter_behind items) < most
      → Reaches (turns (behind_parameter most) left_turns
      (record { first = found.first; more = found.more ++ items })) [] r rest
      → Reaches (turns (behind_parameter most) (left_turns + length items) found) (flat_map parameter_behind items) r
      rest
  reaches_parameters_on [] found left_turns r rest less go_on =
      let all : left_turns ≡ left_turns + 0 = omega arith in
      let same : found.more ++ [] ≡ found.more = append-nil found.more in
      subst (λ m. Reaches (turns (behind_parameter most) m found) [] r rest) all
      (subst (λ xs. Reaches (turns (behind_parameter most) left_turns (record { first = found.first; more = xs })) [] r
      rest) same go_on)
  reaches_parameters_on (next ∷ items) found left_turns r rest less go_on =
      let vs = flat_map parameter_behind items in
      let make = λ (p : Parameter). pushed found next.line p in
      let ws = parameter_words 1 next.item in
      let all : suc (left_turns + length items) ≡ left_turns + length (next ∷ items) = omega arith in
      let same = append_assoc found.more (next ∷ []) items in
      let count : length (parameter_behind next ++ vs) ≡ length (parameter_behind next) + length vs
      = length-append (parameter_behind next) vs in
      let short : length ws < most = omega (arith, less, count) in
      let shorter : length vs < most = omega (arith, less, count) in
      subst (λ m. Reaches (turns (behind_parameter most) m found) (parameter_behind next ++ vs) r rest) all
      (reaches_more (behind_parameter most) (left_turns + length items) found (at 1 k.Semicolon next.line)
      (make next.item) ws vs (bind (parameter most) (λ p. done (make p))) r rest refl
      (sound_says 1 k.Semicolon nothing next.line one_fits)
      (reaches_last (parameter most) (λ p. done (make p)) ws next.item (tokens_in vs ++ rest)
      (reaches_parameter next.item (tokens_in vs ++ rest) short))
      (reaches_parameters_on items (make next.item) left_turns r rest shorter
      (subst (λ xs. Reaches (turns (behind_parameter most) left_turns (record { first = found.first; more = xs })) [] r
      rest) (sym same) go_on)))

  no_parameters : (kind : Kind) (payload : Payload) (line : ℕ) → (k.LeftParenthesis ≡ kind → ⊥)
      → parameters_at most kind payload line ≡ done None
  no_parameters k.LeftParenthesis payload line other = absurd (other refl)
  no_parameters kind payload line other = refl

  pub reaches_parameters : (all : Option Parameters) (rest : List Token)
      → length (words_if parameters_words all) < most → (k.LeftParenthesis ≡ (head rest).kind → ⊥)
      → Reaches (parameters most) (words_if parameters_words all) (Ok (all, rest)) rest
  reaches_parameters None rest less other =
      reaches_look (parameters_at most) (done None) [] (Ok (None, rest)) rest
      (no_parameters (head rest).kind (head rest).payload (head rest).line other) refl
  reaches_parameters (Some all) rest less other =
      let first = parameter_words 1 all.items.first in
      let vs = flat_map parameter_behind all.items.more in
      let us = separated 1 k.Semicolon (parameter_words 1) all.items in
      let last = at 1 k.RightParenthesis all.closed ∷ [] in
      let whole : length (us ++ last) ≡ length us + length last = length-append us last in
      let count : length us ≡ length first + length vs = length-append first vs in
      let few = few_parameters all.items.more in
      let left_turns = most - suc (length all.items.more) in
      let same : suc left_turns + length all.items.more ≡ most = omega (arith, less, whole, count, few) in
      let short : length first < most = omega (arith, less, whole, count) in
      let shorter : length vs < most = omega (arith, less, whole, count) in
      let make : Separated Parameter → ℕ → Option Parameters = λ items closed.
      Some (record { opened = all.opened; items = items; closed = closed }) in
      let further = λ (items : Separated Parameter). bind (mark k.RightParenthesis)
      (λ closed. done (make items closed)) in
      let behind = tokens_in last ++ rest in
      let r = Ok (Some all, rest) in
      reaches_skip (bind (parameter_list most) further) (at 1 k.LeftParenthesis all.opened) (us ++ last) r rest
      (sound_says 1 k.LeftParenthesis nothing all.opened one_fits)
      (reaches_bind (parameter_list most) further us last all.items r rest
      (reaches_bind (parameter most) (λ first. turns (behind_parameter most) most (single first)) first vs
      all.items.first (Ok (all.items, behind)) behind
      (reaches_parameter all.items.first (tokens_in vs ++ behind) short)
      (subst (λ m. Reaches (turns (behind_parameter most) m (single all.items.first)) vs
      (Ok (all.items, behind)) behind)
      same
      (reaches_parameters_on all.items.more (single all.items.first) (suc left_turns) (Ok (all.items, behind)) behind
      shorter (reaches_end (behind_parameter most) left_turns all.items behind refl))))
      (reaches_last (mark k.RightParenthesis) (λ closed. done (make all.items closed)) last all.closed rest
      (reaches_mark 1 one_fits k.RightParenthesis all.closed rest)))

-- the type of a function
no_result : (kind : Kind) (payload : Payload) (line : ℕ) → (k.Colon ≡ kind → ⊥)
    → result_at kind payload line ≡ done None
no_result k.Colon payload line other = absurd (other refl)
no_result kind payload line other = refl

pub reaches_result : (result : Option (Behind TypeName)) (rest : List Token) → (k.Colon ≡ (head rest).kind → ⊥)
    → Reaches result_type (words_if result_words result) (Ok (result, rest)) rest
reaches_result None rest other =
    reaches_look result_at (done None) [] (Ok (None, rest)) rest
    (no_result (head rest).kind (head rest).payload (head rest).line other) refl
reaches_result (Some result) rest other =
    let make : TypeName → Option (Behind TypeName) = λ type. Some (record { line = result.line; item = type }) in
    reaches_skip (bind type_name (λ type. done (make type))) (at 0 k.Colon result.line)
    (type_name_words 0 result.item) (Ok (Some result, rest)) rest (sound_says 0 k.Colon nothing result.line none_fits)
    (reaches_last type_name (λ type. done (make type)) (type_name_words 0 result.item) result.item rest
    (reaches_type_name 0 none_fits result.item rest))
