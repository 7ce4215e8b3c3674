-- Variables that a routine declares, one row behind another.
use Rattle.std.proofs.Common.{◌≡◌, refl, sym, ap, subst, ◌∙◌, ℕ, ◌+◌, ◌<◌, ◌≤◌, false, List, [], ◌∷◌, ◌++◌, map, length}
use Rattle.std.proofs.Common.{take, drop, get_or, Some, Result, Ok, Err}
use Rattle.std.specs.Prelude.{flat_map}
use Rattle.std.proofs.lemmas.List.{append_assoc, append-nil, map-append, take_more, take_all, take-append-drop}
use Rattle.pas_tokens.specs.declared.kinds.Kind.TheVariants as k
use Rattle.pas_syntax.specs.Tree.{VariableRow, Rows}
use Rattle.pas_syntax.specs.Words.{Word, at, variable_row_words, rows_words}
use Rattle.pas_typed.specs.Types.{Table}
use Rattle.pas_scopes.specs.declared.scopes.Inner.{Inner as CodeInner}
use Rattle.pas_scopes.specs.declared.scopes.Scopes.{Scopes as CodeScopes}
use Rattle.pas_scopes.specs.declared.stop.Stop.{Stop}
use Rattle.pas_rules.specs.Marks.{Marks, quiet, joined}
use Rattle.pas_rules.specs.Scopes.{Outer, Inner}
use Rattle.pas_rules.specs.Declarations.{InnerStage, local_row, more_local_rows, local_rows}
use Rattle.pas_scopes.specs.ScopeViews.{outer_view, inner_view}
use Rattle.pas_scopes.specs.Answers.{FailsBy, IsQuiet}
use Rattle.pas_scopes.specs.Locals.{IsWithin, Passes}
use Rattle.pas_rules.proofs.AsMany.{all}
use Rattle.pas_rules.proofs.DeclarationsAsMany.{more_local_many}
use Rattle.pas_scopes.proofs.SettleLemmas.{quiet_word, quiet_alone, quiet_behind, nothing_shown}
use Rattle.pas_scopes.proofs.LocalRowLemmas.{fails_front, fails_behind}
use Rattle.pas_scopes.proofs.PartLemmas.{alone}

-- a part, and one behind it
abbrev both_stages : Marks → InnerStage → InnerStage
both_stages marks stage =
    record { marks = joined (marks ∷ stage.marks ∷ []); table = stage.table; inner = stage.inner }

pub fails_alone : (words : List Word) (part : Marks) (why : Stop) → FailsBy words part why
    → FailsBy words (joined (part ∷ [])) why
fails_alone words part why h = subst (λ (marks : Marks). FailsBy words marks why) (sym (alone part)) h

pub passes_behind : (words more : List Word) (marks : Marks) (stage : InnerStage) (new : CodeScopes)
    (result : Result (Unit {0}) Stop) → IsQuiet words marks false → Passes more stage new result
    → Passes (words ++ more) (both_stages marks stage) new result
passes_behind words more marks stage new (Ok done) still h = (
  quiet_behind words more marks (joined (stage.marks ∷ [])) false still (quiet_alone more stage.marks false h.0),
  record { inner = h.1.inner; within = h.1.within; inner_is = h.1.inner_is; table_is = h.1.table_is },
)
passes_behind words more marks stage new (Err why) still h =
    fails_behind words more marks (joined (stage.marks ∷ [])) still why (fails_alone more stage.marks why h)

-- rows that are gone through from these scopes to those
module _ (outer : Outer) where
  abbrev pub all_words : List VariableRow → List Word
  all_words rows = flat_map variable_row_words rows

  abbrev pub IsOver : CodeScopes → Type 0
  IsOver scopes = outer_view scopes ≡ record outer { types = (outer_view scopes).types }

  abbrev pub seen_rows : CodeScopes → CodeInner → List VariableRow → InnerStage
  seen_rows scopes inner rows =
      more_local_rows outer (outer_view scopes).types (inner_view scopes.spellings.now inner) rows

  abbrev pub seen_row : CodeScopes → CodeInner → VariableRow → InnerStage
  seen_row scopes inner row =
      local_row (outer_view scopes) (outer_view scopes).types (inner_view scopes.spellings.now inner) row

  abbrev pub RowsPass : List VariableRow → CodeScopes → CodeScopes → Result (Unit {0}) Stop → Type 0
  RowsPass rows old new result =
      (inner : CodeInner) → IsWithin inner old → IsOver old
      → Passes (all_words rows) (seen_rows old inner rows) new result

  abbrev pub RowPasses : VariableRow → CodeScopes → CodeScopes → Result (Unit {0}) Stop → Type 0
  RowPasses row old new result =
      (inner : CodeInner) → IsWithin inner old → Passes (variable_row_words row) (seen_row old inner row) new result

  row_over : (row : VariableRow) (old new : CodeScopes) (result : Result (Unit {0}) Stop) (inner : CodeInner)
      → IsOver old → Passes (variable_row_words row) (seen_row old inner row) new result
      → Passes (variable_row_words row)
      (local_row outer (outer_view old).types (inner_view old.spellings.now inner) row) new result
  row_over row old new result inner over h =
      subst (λ (o : Outer). Passes (variable_row_words row)
      (local_row o (outer_view old).types (inner_view old.spellings.now inner) row) new result) over h

  pub no_rows : (scopes : CodeScopes) → RowsPass [] scopes scopes (Ok tt)
  no_rows scopes inner within over =
      (nothing_shown, record { inner = inner; within = within; inner_is = refl; table_is = refl })

  -- a row, and those behind it
  pub row_and : (first : VariableRow) (rest : List VariableRow) (old now new : CodeScopes)
      (result : Result (Unit {0}) Stop) → IsOver now → RowPasses first old now (Ok tt)
      → RowsPass rest now new result → RowsPass (first ∷ rest) old new result
  row_and first rest old now new result over_now h k inner within over =
      let found = row_over first old now (Ok tt) inner over (h inner within) in
      let before : InnerStage = local_row outer (outer_view old).types (inner_view old.spellings.now inner) first in
      passes_behind (variable_row_words first) (all_words rest) before.marks
      (more_local_rows outer before.table before.inner rest) new result found.0
      (subst (λ (table : Table). Passes (all_words rest) (more_local_rows outer table before.inner rest) new result)
      found.1.table_is
      (subst (λ (one : Inner). Passes (all_words rest) (more_local_rows outer (outer_view now).types one rest) new
      result) found.1.inner_is (k found.1.inner found.1.within over_now)))

  -- a row that is refused
  pub row_fails : (first : VariableRow) (rest : List VariableRow) (old new : CodeScopes) (why : Stop)
      → RowPasses first old new (Err why) → RowsPass (first ∷ rest) old new (Err why)
  row_fails first rest old new why h inner within over =
      let before : InnerStage = local_row outer (outer_view old).types (inner_view old.spellings.now inner) first in
      let behind : InnerStage = more_local_rows outer before.table before.inner rest in
      fails_front (variable_row_words first) (all_words rest) before.marks (joined (behind.marks ∷ []))
      (all behind.marks (more_local_many outer before.table before.inner rest)) why
      (row_over first old new (Err why) inner over (h inner within))

  -- whatever rows stand behind these, they are behind them
  abbrev pub RowsLead : List VariableRow → CodeScopes → CodeScopes → Type 0
  RowsLead done old now =
      (rest : List VariableRow) (new : CodeScopes) (result : Result (Unit {0}) Stop) → RowsPass rest now new result
      → RowsPass (done ++ rest) old new result

  pub lead_first : (first : VariableRow) (old now : CodeScopes) → IsOver now → RowPasses first old now (Ok tt)
      → RowsLead (first ∷ []) old now
  lead_first first old now over h rest new result k = row_and first rest old now new result over h k

  pub lead_more : (done : List VariableRow) (next : VariableRow) (old now later : CodeScopes) → IsOver later
      → RowsLead done old now → RowPasses next now later (Ok tt) → RowsLead (done ++ next ∷ []) old later
  lead_more done next old now later over h one rest new result k =
      subst (λ (rows : List VariableRow). RowsPass rows old new result) (sym (append_assoc done (next ∷ []) rest))
      (h (next ∷ rest) new result (row_and next rest now later new result over one k))

  pub lead_fails : (done : List VariableRow) (next : VariableRow) (rest : List VariableRow) (old now new : CodeScopes)
      (why : Stop) → RowsLead done old now → RowPasses next now new (Err why)
      → RowsPass (done ++ next ∷ rest) old new (Err why)
  lead_fails done next rest old now new why h one = h (next ∷ rest) new (Err why) (row_fails next rest now new why one)

  pub lead_all : (done : List VariableRow) (old now : CodeScopes) → RowsLead done old now
      → RowsPass done old now (Ok tt)
  lead_all done old now h =
      subst (λ (rows : List VariableRow). RowsPass rows old now (Ok tt)) (append-nil done) (h [] now (Ok tt) (no_rows
      now))

-- scopes in which types and the scope of the routine alone are others
pub over_kept : (old now : CodeScopes) → now ≡ record old { types = now.types; inner = now.inner }
    → IsOver (outer_view old) now
over_kept old now kept =
    ap outer_view kept
    ∙ ap (λ (o : Outer). record (outer_view old) { types = o.types }) (sym (ap outer_view kept))

-- a whole part
pub part_passes : (rows : Rows VariableRow) (old new : CodeScopes) (result : Result (Unit {0}) Stop)
    → RowsPass (outer_view old) (rows.first ∷ rows.more) old new result → (inner : CodeInner) → IsWithin inner old
    → Passes (rows_words k.Var variable_row_words rows)
    (local_rows (outer_view old) (inner_view old.spellings.now inner) (Some rows)) new result
part_passes rows old new result h inner within =
    passes_behind (at 0 k.Var rows.line ∷ []) (all_words (outer_view old) (rows.first ∷ rows.more)) quiet
    (seen_rows (outer_view old) old inner (rows.first ∷ rows.more)) new result (quiet_word (at 0 k.Var rows.line))
    (h inner within refl)

-- the same over the code's list
module _ {X : Type 0} (view : X → VariableRow) (outer : Outer) (first : VariableRow) (more : List X) (i : ℕ)
    (old now : CodeScopes) (h : RowsLead outer (first ∷ map view (take i more)) old now) (d : X)
    (within : i < length more) where
  pub rows_next : (later : CodeScopes) → IsOver outer later → RowPasses outer (view (get_or more i d)) now later (Ok tt)
      → RowsLead outer (first ∷ map view (take (i + 1) more)) old later
  rows_next later over one =
      subst (λ (done : List VariableRow). RowsLead outer (first ∷ done) old later)
      (sym (ap (map view) (take_more more i d within) ∙ map-append view (take i more) (get_or more i d ∷ [])))
      (lead_more outer (first ∷ map view (take i more)) (view (get_or more i d)) old now later over h one)

  split : map view more ≡ map view (take i more) ++ view (get_or more i d) ∷ map view (drop (i + 1) more)
  split =
      sym (ap (map view) (take-append-drop (i + 1) more))
      ∙ (map-append view (take (i + 1) more) (drop (i + 1) more)
      ∙ (ap (λ (before : List VariableRow). before ++ map view (drop (i + 1) more))
      (ap (map view) (take_more more i d within) ∙ map-append view (take i more) (get_or more i d ∷ []))
      ∙ append_assoc (map view (take i more)) (view (get_or more i d) ∷ []) (map view (drop (i + 1) more))))

  pub rows_fail : (new : CodeScopes) (why : Stop) → RowPasses outer (view (get_or more i d)) now new (Err why)
      → RowsPass outer (first ∷ map view more) old new (Err why)
  rows_fail new why one =
      subst (λ (rows : List VariableRow). RowsPass outer (first ∷ rows) old new (Err why)) (sym split)
      (lead_fails outer (first ∷ map view (take i more)) (view (get_or more i d)) (map view (drop (i + 1) more)) old now
      new why h one)

pub rows_all : {X : Type 0} (view : X → VariableRow) (outer : Outer) (first : VariableRow) (more : List X) (i : ℕ)
    (old now : CodeScopes) → RowsLead outer (first ∷ map view (take i more)) old now → length more ≤ i
    → RowsPass outer (first ∷ map view more) old now (Ok tt)
rows_all view outer first more i old now h within =
    lead_all outer (first ∷ map view more) old now
    (subst (λ (taken : List _). RowsLead outer (first ∷ map view taken) old now) (take_all i more within) h)
