-- Rows of declarations, one behind another.
use Rattle.std.proofs.Common.{sym, ap, subst, ◌∙◌, ℕ, ◌+◌, ◌<◌, ◌≤◌, List, [], ◌∷◌, ◌++◌, map, length, take}
use Rattle.std.proofs.Common.{get_or, Option, Some}
use Rattle.std.specs.Prelude.{flat_map}
use Rattle.std.proofs.lemmas.List.{append_assoc, append-nil, map-append, take_more, take_all}
use Rattle.wb_base.specs.declared.faults.Fault.{Fault}
use Rattle.pas_tokens.specs.declared.kinds.Kind.{Kind}
use Rattle.pas_syntax.specs.Tree.{Rows}
use Rattle.pas_syntax.specs.Words.{Word, at, words_if, rows_words}
use Rattle.pas_scopes.specs.declared.scopes.Scopes.{Scopes as CodeScopes}
use Rattle.pas_rules.specs.Marks.{Marks, no_token, quiet, joined}
use Rattle.pas_rules.specs.Scopes.{Outer}
use Rattle.pas_rules.specs.Declarations.{Stage, more_rows, rows_of}
use Rattle.pas_scopes.specs.DeclaredSoFar.{Notes, Declares}
use Rattle.pas_rules.proofs.AsMany.{AsMany, all}
use Rattle.pas_rules.proofs.DeclarationsAsMany.{more_rows_many}
use Rattle.pas_scopes.proofs.PartLemmas.{alone}
use Rattle.pas_scopes.proofs.SettleLemmas.{quiet_word, nothing_shown}
use Rattle.pas_scopes.proofs.DeclaredLemmas.{notes_behind, notes_quiet}

module _ {A : Type 0} (words : A → List Word) (row : Outer → A → Stage)
    (many : (outer : Outer) (found : A) → AsMany (words found) (row outer found).marks) where
  abbrev pub all_words : List A → List Word
  all_words rows = flat_map words rows

  abbrev pub stage_of : List A → Outer → Stage
  stage_of rows outer = more_rows row outer rows

  pub no_rows : (scopes : CodeScopes) (noted : Option Fault)
      → Declares [] (λ outer. stage_of [] outer) scopes noted scopes noted
  no_rows scopes noted = record {
    declared = λ outer h. h;
    notes = λ outer h. notes_quiet [] no_token noted nothing_shown;
  }

  -- a row, and those behind it
  pub row_and : (first : A) (rest : List A) (old now new : CodeScopes) (a b c : Option Fault)
      → Declares (words first) (λ outer. row outer first) old a now b
      → Declares (all_words rest) (λ outer. stage_of rest outer) now b new c
      → Declares (all_words (first ∷ rest)) (λ outer. stage_of (first ∷ rest) outer) old a new c
  row_and first rest old now new a b c h k = record {
    declared = λ outer is. k.declared (row outer first).outer (h.declared outer is);
    notes = λ outer is.
        let behind : Stage = stage_of rest (row outer first).outer in
        notes_behind (words first) (all_words rest) (row outer first).marks (joined (behind.marks ∷ []))
        (all behind.marks (more_rows_many words row many (row outer first).outer rest)) a b c (h.notes outer is)
        (subst (λ (marks : Marks). Notes (all_words rest) marks b c) (sym (alone behind.marks))
        (k.notes (row outer first).outer (h.declared outer is)));
  }

  -- whatever rows stand behind these, they are behind them
  abbrev pub Leads : List A → CodeScopes → Option Fault → CodeScopes → Option Fault → Type 0
  Leads done old a now b =
      (rest : List A) (new : CodeScopes) (c : Option Fault)
      → Declares (all_words rest) (λ outer. stage_of rest outer) now b new c
      → Declares (all_words (done ++ rest)) (λ outer. stage_of (done ++ rest) outer) old a new c

  pub leads_first : (first : A) (old now : CodeScopes) (a b : Option Fault)
      → Declares (words first) (λ outer. row outer first) old a now b → Leads (first ∷ []) old a now b
  leads_first first old now a b h rest new c k = row_and first rest old now new a b c h k

  pub leads_more : (done : List A) (next : A) (old now later : CodeScopes) (a b c : Option Fault)
      → Leads done old a now b → Declares (words next) (λ outer. row outer next) now b later c
      → Leads (done ++ next ∷ []) old a later c
  leads_more done next old now later a b c h one rest new d k =
      subst (λ (rows : List A). Declares (all_words rows) (λ outer. stage_of rows outer) old a new d)
      (sym (append_assoc done (next ∷ []) rest))
      (h (next ∷ rest) new d (row_and next rest now later new b c d one k))

  pub leads_all : (done : List A) (old now : CodeScopes) (a b : Option Fault) → Leads done old a now b
      → Declares (all_words done) (λ outer. stage_of done outer) old a now b
  leads_all done old now a b h =
      subst (λ (rows : List A). Declares (all_words rows) (λ outer. stage_of rows outer) old a now b)
      (append-nil done) (h [] now b (no_rows now b))

  -- a whole part
  pub part_declares : (kind : Kind) (rows : Rows A) (old new : CodeScopes) (a b : Option Fault)
      → Declares (all_words (rows.first ∷ rows.more)) (λ outer. stage_of (rows.first ∷ rows.more) outer) old a new b
      → Declares (words_if (rows_words kind words) (Some rows)) (λ outer. rows_of row outer (Some rows)) old a new b
  part_declares kind rows old new a b h = record {
    declared = λ outer is. h.declared outer is;
    notes = λ outer is.
        let found : Stage = stage_of (rows.first ∷ rows.more) outer in
        notes_behind (at 0 kind rows.line ∷ []) (all_words (rows.first ∷ rows.more)) quiet (joined (found.marks ∷ []))
        (all found.marks (more_rows_many words row many outer (rows.first ∷ rows.more))) a a b
        (notes_quiet (at 0 kind rows.line ∷ []) quiet a (quiet_word (at 0 kind rows.line)))
        (subst (λ (marks : Marks). Notes (all_words (rows.first ∷ rows.more)) marks a b) (sym (alone found.marks))
        (h.notes outer is));
  }

  -- the same over the code's list
  module _ {X : Type 0} (view : X → A) (first : A) (more : List X) (i : ℕ) (old now : CodeScopes)
      (a b : Option Fault) (h : Leads (first ∷ map view (take i more)) old a now b) where
    pub one_row_more : (d : X) (later : CodeScopes) (c : Option Fault) → i < length more
        → Declares (words (view (get_or more i d))) (λ outer. row outer (view (get_or more i d))) now b later c
        → Leads (first ∷ map view (take (i + 1) more)) old a later c
    one_row_more d later c within one =
        subst (λ (done : List A). Leads (first ∷ done) old a later c)
        (sym (ap (map view) (take_more more i d within) ∙ map-append view (take i more) (get_or more i d ∷ [])))
        (leads_more (first ∷ map view (take i more)) (view (get_or more i d)) old now later a b c h one)

    pub all_rows : length more ≤ i
        → Declares (all_words (first ∷ map view more)) (λ outer. stage_of (first ∷ map view more) outer) old a now b
    all_rows within =
        leads_all (first ∷ map view more) old now a b
        (subst (λ (taken : List X). Leads (first ∷ map view taken) old a now b) (take_all i more within) h)
