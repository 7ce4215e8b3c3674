-- What the names that are declared together answer.
use Rattle.std.specs.Prelude.{◌≡◌, ⊤, ℕ, false, not, List, [], ◌∷◌, ◌++◌, Result, Ok, Err}
use Rattle.wb_base.specs.declared.faults.TheConstants.{DUPLICATE_NAME}
use Rattle.pas_tokens.specs.Cutting.{Wrong, wrong}
use Rattle.pas_syntax.specs.Tree.{Ident, Idents}
use Rattle.pas_syntax.specs.Words.{name_at, idents_words}
use Rattle.pas_scopes.specs.declared.stop.Stop.{Stop}
use Rattle.pas_scopes.specs.declared.new_names.Region.{Region}
use Rattle.pas_scopes.specs.declared.new_names.Region.TheVariants as region
use Rattle.pas_rules.specs.Marks.{shows, unless}
use Rattle.pas_rules.specs.Scopes.{Scopes, names_of, names_inside, contains, new_names}
use Rattle.pas_rules.specs.Declarations.{taken}
use Rattle.pas_scopes.specs.Answers.{FailsBy, IsQuiet}

-- the names that are taken in a region
abbrev pub taken_in : Scopes → Region → List (List ℕ)
taken_in scopes region.Program = taken scopes.outer
taken_in scopes region.Routine = names_of (names_inside scopes.inner)
taken_in scopes region.Record = []

-- what a name shows where these are taken
abbrev pub new_faults : List (List ℕ) → List ℕ → List Wrong
new_faults taken name = unless (not (contains taken name)) (wrong DUPLICATE_NAME)

-- a name that is new where these are taken
abbrev pub IsNewName : List (List ℕ) → Ident → Result (Unit {0}) Stop → Type 0
IsNewName taken ident (Ok done) = new_faults taken ident.name ≡ []
IsNewName taken ident (Err why) = (n : ℕ) → FailsBy (name_at n ident ∷ []) (shows (new_faults taken ident.name)) why

-- names that are new one behind another
abbrev pub AreNewNames : List (List ℕ) → Idents → Result (Unit {0}) Stop → Type 0
AreNewNames taken idents (Ok done) = (n : ℕ) → IsQuiet (idents_words n idents) (new_names taken idents) false
AreNewNames taken idents (Err why) = (n : ℕ) → FailsBy (idents_words n idents) (new_names taken idents) why

-- names that are new one after another, behind others
abbrev pub AreNew : List (List ℕ) → List (List ℕ) → Type 0
AreNew taken [] = ⊤
AreNew taken (name ∷ names) = (new_faults taken name ≡ []) × AreNew (taken ++ name ∷ []) names
