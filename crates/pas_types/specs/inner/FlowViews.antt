-- What changes while the statements of a block are looked at, and what functions on statements answer.
use Rattle.std.specs.Prelude.{◌≡◌, ℕ, ⊤, List, ◌++◌, Option, Some, None, OnOk, Result, Ok, Err}
use Rattle.std.specs.Option.{option_copied}
use Rattle.pas_syntax.specs.Tree.{Plain, Statement, Statements}
use Rattle.pas_syntax.specs.Words.{Word, plain_words, statement_words, statements_words}
use Rattle.pas_typed.specs.declared.typed.Statement as code_statement
use Rattle.pas_typed.specs.declared.typed.Labelled as code_labelled
use Rattle.pas_typed.specs.Typed as typed
use Rattle.pas_typed.specs.TypedViews.{statement_view, labelled_view, statements_view}
use Rattle.pas_types.specs.declared.flow.Flow.{Flow}
use Rattle.pas_scopes.specs.declared.scopes.Scopes.{Scopes as CodeScopes}
use Rattle.pas_scopes.specs.declared.stop.Stop.{Stop}
use Rattle.pas_rules.specs.Marks.{Marks, Judged, judged, known}
use Rattle.pas_rules.specs.Scopes.{Outer, Inner, Scopes}
use Rattle.pas_rules.specs.Labels.{Spot, in_list, block_labels, labels_of_list}
use Rattle.pas_rules.specs.Statements.{label_of, plain_of, statement_of, statements_of}
use Rattle.pas_scopes.specs.ScopeViews.{scopes_view, IsClear}
use Rattle.pas_scopes.specs.Stopping.{stop_before}
use Rattle.pas_scopes.specs.Answers.{Means, ShowsBy, Settles}
use Rattle.pas_types.specs.inner.LabelViews.{Known, numbers_of, known_labels}

-- in a routine the labels of the program stand beside its own
abbrev pub IsBeside : Outer → Option Inner → Option Known → Type 0
IsBeside outer None None = ⊤
IsBeside outer (Some inner) (Some program) = numbers_of program ≡ outer.labels
IsBeside outer inner program = ⊥

-- what is known at a place in the block of these scopes: `around` are the labels of the lists around it, and `before`
-- those that stand before it
pub record IsFlow (scopes : Scopes) (around before : List ℕ) (flow : Flow) : Type 0 where
  pub block : flow.block ≡ known_labels (block_labels scopes) before around
  pub beside : IsBeside scopes.outer scopes.inner (option_copied flow.program)

-- behind a part with these labels the same is known, with these before
abbrev pub Goes : {X : Type 0} → CodeScopes → Flow → List ℕ → Result X Stop → Flow → Type 0
Goes scopes old labels result new =
    (around before : List ℕ) → IsFlow (scopes_view scopes) around before old
    → OnOk result (IsFlow (scopes_view scopes) around (before ++ labels) new)

-- what is answered of a statement without a label, of one, and of a list of them, where no name is unclear
abbrev pub IsPlain : CodeScopes → Flow → Plain → Result code_statement.Statement Stop → Type 0
IsPlain scopes flow s result =
    (around before : List ℕ) → IsFlow (scopes_view scopes) around before flow → IsClear (scopes_view scopes) → (n : ℕ)
    → Settles (plain_words n s) (plain_of (scopes_view scopes) around before s)
    (statement_view scopes.spellings.now) result

abbrev pub IsStatement : CodeScopes → Flow → Spot → Statement → Result code_statement.Statement Stop → Type 0
IsStatement scopes flow spot s result =
    (around before : List ℕ) → IsFlow (scopes_view scopes) around before flow → IsClear (scopes_view scopes) → (n : ℕ)
    → Settles (statement_words n s) (statement_of (scopes_view scopes) spot around before s)
    (statement_view scopes.spellings.now) result

-- a statement of a list, as it stands before others
abbrev pub listed_statement : Scopes → List ℕ → List ℕ → Statement → Judged (typed.Statements → typed.Statements)
listed_statement scopes around before s =
    let found = statement_of scopes in_list around before s in
    judged found.marks (known (λ statement list. typed.item (label_of s) statement list) found.value)

abbrev pub IsListed : CodeScopes → Flow → Statement → Result code_labelled.Labelled Stop → Type 0
IsListed scopes flow s result =
    (around before : List ℕ) → IsFlow (scopes_view scopes) around before flow → IsClear (scopes_view scopes) → (n : ℕ)
    → Settles (statement_words n s) (listed_statement (scopes_view scopes) around before s)
    (labelled_view scopes.spellings.now) result

-- a list of which the labels are among those around, and one of which they are not yet
abbrev pub IsList : CodeScopes → Flow → Statements → Result (List code_labelled.Labelled) Stop → Type 0
IsList scopes flow list result =
    (around before : List ℕ) → IsFlow (scopes_view scopes) around before flow → IsClear (scopes_view scopes) → (n : ℕ)
    → Settles (statements_words n list) (statements_of (scopes_view scopes) around before list)
    (statements_view scopes.spellings.now) result

abbrev pub IsBlock : CodeScopes → Flow → Statements → Result (List code_labelled.Labelled) Stop → Type 0
IsBlock scopes flow list result =
    (around before : List ℕ) → IsFlow (scopes_view scopes) around before flow → IsClear (scopes_view scopes) → (n : ℕ)
    → Settles (statements_words n list)
    (statements_of (scopes_view scopes) (labels_of_list list ++ around) before list)
    (statements_view scopes.spellings.now) result

-- what is answered of a part before a word in this line, which shows what is missing before it
abbrev pub ShowsBefore : ℕ → List Word → Marks → Stop → Type 0
ShowsBefore line words marks why = (other : Stop) × (why ≡ stop_before line other) × ShowsBy words marks other

abbrev pub Precedes : {X A : Type 0} → ℕ → List Word → Judged A → (X → A) → Result X Stop → Type 0
Precedes line words part view (Ok found) = Means words part (view found)
Precedes line words part view (Err why) = ShowsBefore line words part.marks why
