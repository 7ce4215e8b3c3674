-- The names of the files of a program that some text spells are short.
use Rattle.std.proofs.Common.{◌≡◌, refl, sym, subst, ℕ, ◌<◌, ◌≤◌, List, [], ◌∷◌, ◌++◌, length, map, Option, Some, None}
use Rattle.std.proofs.Common.{get_or}
use Rattle.std.specs.Prelude.{option_to_list, flat_map, position}
use Rattle.std.specs.Option.{option_map_or}
use Rattle.std.specs.Str.{bytes_eq}
use Rattle.std.proofs.lemmas.Option.{slice_get-get_or}
use Rattle.std.proofs.lemmas.List.Quantifiers.{position-Some}
use Rattle.std.proofs.lemmas.Slice.Eq.{bytes_eq-Decides}
use Rattle.pas_tokens.specs.declared.kinds.Kind.TheVariants as k
use Rattle.pas_tokens.specs.declared.limits.TheConstants.{NAME_LIMIT}
use Rattle.pas_syntax.specs.Tree.{Ident, Idents, Behind, ProgramParameters, Program}
use Rattle.pas_syntax.specs.Words.{at, name_at, words_if, idents_words, program_parameters_words, program_words}
use Rattle.pas_typed.specs.Types as types
use Rattle.pas_typed.specs.Typed as typed
use Rattle.pas_typed.specs.Typed.{Variable}
use Rattle.pas_rules.specs.Scopes.{idents_of}
use Rattle.pas_rules.specs.Check as spec
use Rattle.pas_rules.specs.FileNames.{name_in}
use Rattle.pas_rules.proofs.CleanLemmas.{Each}
use Rattle.pas_rules.proofs.HeldWords.{AreHeld, held_before}

abbrev pub IsShort : List ℕ → Type 0
IsShort name = length name ≤ NAME_LIMIT

abbrev names_of : List Ident → List (List ℕ)
names_of idents = map (λ (ident : Ident). ident.name) idents

-- the names of the parameters of a program
more_short : (n : ℕ) (more : List (Behind Ident))
    → AreHeld (flat_map (λ behind. at n k.Comma behind.line ∷ (name_at n behind.item ∷ [])) more)
    → Each IsShort (names_of (map (λ behind. behind.item) more))
more_short n [] h = tt
more_short n (behind ∷ more) h = (h.1.0.0, more_short n more h.1.1)

idents_short : (n : ℕ) (idents : Idents) → AreHeld (idents_words n idents) → Each IsShort (names_of (idents_of idents))
idents_short n idents h = (h.0.0, more_short n idents.more h.1)

parameters_short : (parameters : Option ProgramParameters) → AreHeld (words_if program_parameters_words parameters)
    → Each IsShort (names_of (spec.parameter_idents parameters))
parameters_short None h = tt
parameters_short (Some parameters) h =
    idents_short 1 parameters.names (held_before (idents_words 1 parameters.names) _ h.1)

names_short : (program : Program) → AreHeld (program_words program) → Each IsShort (spec.parameter_names program)
unfolding program_words
names_short program held =
    parameters_short program.parameters (held_before (words_if program_parameters_words program.parameters) _ held.1.1)

-- and those of the variables that they name
abbrev no_variable : Variable
no_variable = record { name = []; mode = typed.declared; type = types.text }

abbrev number_named : List Variable → List ℕ → Option ℕ
number_named globals name = position (λ found. bytes_eq found.name name) globals

number_short : (globals : List Variable) (name : List ℕ) (number : ℕ) → number_named globals name ≡ Some number
    → IsShort name → IsShort (name_in globals number)
number_short globals name number is short =
    let found : Variable = get_or globals number no_variable in
    let at = position-Some (λ (found : Variable). bytes_eq found.name name) globals number no_variable is in
    let named : found.name ≡ name = (bytes_eq-Decides found.name name).0 at.1 in
    subst (λ each. IsShort (option_map_or (λ (found : Variable). found.name) each []))
    (sym (slice_get-get_or globals number no_variable at.0)) (subst IsShort (sym named) short)

files_short : (globals : List Variable) (names : List (List ℕ)) → Each IsShort names
    → Each (λ number. IsShort (name_in globals number)) (spec.file_numbers globals names)
files_short globals [] short = tt
files_short globals (name ∷ names) short =
    by_number (number_named globals name) refl (files_short globals names short.1)
  where
    by_number : (number : Option ℕ) → number_named globals name ≡ number
        → Each (λ number. IsShort (name_in globals number)) (spec.file_numbers globals names)
        → Each (λ number. IsShort (name_in globals number)) (option_to_list number ++ spec.file_numbers globals names)
    by_number None is rest = rest
    by_number (Some number) is rest = (number_short globals name number is short.0, rest)

pub program_short : (program : Program) (globals : List Variable) → AreHeld (program_words program)
    → Each (λ number. IsShort (name_in globals number))
    (spec.file_numbers globals (spec.parameter_names program))
program_short program globals held = files_short globals (spec.parameter_names program) (names_short program held)
