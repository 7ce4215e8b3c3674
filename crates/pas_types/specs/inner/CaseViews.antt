-- What functions on cases answer.
use Rattle.std.specs.Prelude.{ℕ, ℤ, List, [], ◌∷◌, ◌++◌, Option, Some, None, Result, Ok, Err}
use Rattle.pas_tokens.specs.declared.kinds.Kind.TheVariants as k
use Rattle.pas_syntax.specs.Tree as tree
use Rattle.pas_syntax.specs.Tree.{Separated, Constant, Statement, Elements, Others}
use Rattle.pas_syntax.specs.ProgramViews.{Arm}
use Rattle.pas_syntax.specs.Words.{Word, at, separated, constant_words, statement_words, elements_words, others_words}
use Rattle.pas_typed.specs.declared.typed.Arm as code_arm
use Rattle.pas_typed.specs.declared.typed.Statement as code_statement
use Rattle.pas_typed.specs.declared.types.Base.{Base as CodeBase}
use Rattle.pas_typed.specs.Types.{Base}
use Rattle.pas_typed.specs.Typed as typed
use Rattle.pas_typed.specs.Typed.{Value, Arms}
use Rattle.pas_typed.specs.TypeViews.{base_view}
use Rattle.pas_typed.specs.TypedViews.{statement_view, arm_view, arms_view}
use Rattle.pas_types.specs.declared.flow.Flow.{Flow}
use Rattle.pas_scopes.specs.declared.scopes.Scopes.{Scopes as CodeScopes}
use Rattle.pas_scopes.specs.declared.stop.Stop.{Stop}
use Rattle.pas_rules.specs.Marks.{Judged, judged, quiet, joined, known, both, checked}
use Rattle.pas_rules.specs.Scopes.{Scopes}
use Rattle.pas_rules.specs.TypeForms.{constant_of}
use Rattle.pas_rules.specs.Labels.{elsewhere}
use Rattle.pas_rules.specs.Statements.{fits_case, constants_of, statement_of, arms_of, others_of}
use Rattle.pas_scopes.specs.ScopeViews.{scopes_view, IsClear}
use Rattle.pas_scopes.specs.Answers.{FailsBy, Means, Settles}
use Rattle.pas_types.specs.inner.FlowViews.{IsFlow, Precedes}

-- what is answered of a part behind which nothing is missing
abbrev pub Holds : {X A : Type 0} → List Word → Judged A → (X → A) → Result X Stop → Type 0
Holds words part view (Ok found) = Means words part (view found)
Holds words part view (Err why) = FailsBy words part.marks why

-- the value of a constant of a case, where these stand before it
abbrev pub choice_part : Scopes → Base → List ℤ → Constant → Judged ℤ
choice_part scopes base before constant =
    let found = checked (fits_case (Some base) before) (constant_of scopes constant) in
    judged found.marks (known (λ choice. choice.value) found.value)

-- an element of a case, as it stands before others
abbrev pub arm_part : Scopes → List ℕ → List ℕ → Base → List ℤ → Arm → Judged (Arms → Arms)
arm_part scopes around before base taken arm =
    let values = constants_of scopes (Some base) taken arm.constants in
    let found = statement_of scopes elsewhere around before arm.statement in
    judged (joined (values.marks ∷ quiet ∷ found.marks ∷ []))
    (both (λ values statement others. typed.arm values statement others) values.value found.value)

abbrev pub arm_words : ℕ → Arm → List Word
arm_words n arm =
    separated n k.Comma (constant_words n) arm.constants ++ at n k.Colon arm.colon ∷ statement_words n arm.statement

abbrev pub IsArm : CodeScopes → Flow → CodeBase → List ℤ → Arm → Result code_arm.Arm Stop → Type 0
IsArm scopes flow base taken arm result =
    (around before : List ℕ) → IsFlow (scopes_view scopes) around before flow → IsClear (scopes_view scopes) → (n : ℕ)
    → Settles (arm_words n arm) (arm_part (scopes_view scopes) around before (base_view base) taken arm)
    (arm_view scopes.spellings.now) result

-- the elements of a case
abbrev pub AreArms : CodeScopes → Flow → CodeBase → Elements → Result (List code_arm.Arm) Stop → Type 0
AreArms scopes flow base elements result =
    (around before : List ℕ) → IsFlow (scopes_view scopes) around before flow → IsClear (scopes_view scopes) → (n : ℕ)
    → Settles (elements_words n elements)
    (arms_of (scopes_view scopes) around before (Some (base_view base)) elements) (arms_view scopes.spellings.now)
    result

-- what stands behind the elements makes of a selector and arms
abbrev pub others_view : List ℕ → Option code_statement.Statement → Value → Arms → typed.Statement
others_view spellings None selector arms = typed.case selector arms
others_view spellings (Some chosen) selector arms = typed.case_others selector arms (statement_view spellings chosen)

-- others of a case that ends in this line
abbrev pub AreOthers : CodeScopes → Flow → ℕ → Others → Result (Option code_statement.Statement) Stop → Type 0
AreOthers scopes flow end tail result =
    (around before : List ℕ) → IsFlow (scopes_view scopes) around before flow → IsClear (scopes_view scopes) → (n : ℕ)
    → Precedes end (others_words n tail) (others_of (scopes_view scopes) around before tail)
    (others_view scopes.spellings.now) result

-- the line of the word behind the elements of a case that ends in this line
abbrev pub behind_elements : ℕ → Others → ℕ
behind_elements end tree.no_others = end
behind_elements end (tree.semicolon line) = line
behind_elements end (tree.others line others_line colon s semicolon) = line
