-- The variables of a lawful program stand as they are declared at the start of a run.
use Rattle.std.proofs.Common.{◌≡◌, ℕ, suc, ◌+◌, ◌==◌, List, [], ◌∷◌, map, Option, Some, None, arith, refl}
use Rattle.std.proofs.Common.{sym, ap, ◌∙◌, subst, pos, position, slice_get, get_or, option_map, unwrap_or, eqb-true}
use Rattle.std.proofs.Common.{IsSomeAnd}
use Rattle.std.proofs.lemmas.List.Quantifiers.{position-Some}
use Rattle.std.proofs.lemmas.Option.{slice_get-map}
use Rattle.std.specs.Prelude.{⊤}
use Rattle.pas_typed.specs.Typed as typed
use Rattle.pas_typed.specs.Typed.{Variable, TypedProgram}
use Rattle.pas_typed.specs.Lawful.{IsLawful, IsFile}
use Rattle.pas_typed.specs.Shapes.{shape_of}
use Rattle.pas_typed.proofs.ShapeLemmas.{shape_of-file}
use Rattle.pas_meaning.specs.Store.{holds, blank_of}
use Rattle.pas_meaning.specs.Trial.{global_cell, cells_from, store_at_start, begin_files}
use Rattle.pas_meaning.specs.Cells.{IsShaped}
use Rattle.pas_meaning.specs.Standing.{kind_by, kind_of, Kinds, kinds_at_start, Matches, Stands, Keeps, Knows}
use Rattle.pas_meaning.proofs.CellLemmas.{blank_of-shaped}
use Rattle.pas_meaning.proofs.StandingLemmas.{AllMatch, stands_opened}
use Rattle.pas_meaning.proofs.KeepsLemmas.{keeps_then, keeps_pure, keeps_if, keeps_reset, keeps_rewrite}
use Rattle.pas_meaning.proofs.PlaceKeeps.{all_get}

module _ (program : TypedProgram) (lawful : IsLawful program) where
  global_shaped : (number : ℕ) (found : Variable) → slice_get program.globals number ≡ Some found → (file : Option ℕ)
      → position (λ other. other == number) program.files ≡ file
      → IsShaped (shape_of program.types found.type)
      (unwrap_or (option_map (λ file. holds (pos file)) file) (blank_of program.types found.type))
  global_shaped number found there None is = blank_of-shaped program.types found.type
  global_shaped number found there (Some file) is =
      let first = position-Some (λ other. other == number) program.files file 0 is in
      let named = eqb-true (get_or program.files file 0) number first.1 in
      let filed : IsFile program.types found.type =
      subst (λ variable. IsSomeAnd variable (λ (found : Variable). IsFile program.types found.type))
      (ap (slice_get program.globals) named ∙ there) (lawful.files file 0 first.0) in
      subst (λ shape. IsShaped shape (holds (pos file)))
      (sym (shape_of-file program.types found.type lawful.types filed))
      tt

  globals_match : (kinds : Kinds) (number : ℕ) (variables : List Variable)
      → ((other : ℕ) (found : Variable) → slice_get variables other ≡ Some found
      → slice_get program.globals (number + other) ≡ Some found)
      → AllMatch kinds 0 (map (kind_of program.types) variables) (cells_from program number variables)
  globals_match kinds number [] there = tt
  globals_match kinds number (found ∷ variables) there =
      let here : slice_get program.globals number ≡ Some found =
      ap (slice_get program.globals) (omega arith) ∙ there 0 found refl in (
        subst (λ mode. Matches kinds 0 (kind_by mode (shape_of program.types found.type))
            (global_cell program number found))
            (sym (all_get (λ (found : Variable). found.mode ≡ typed.declared) program.globals number found
            lawful.globals here))
            (global_shaped number found here (position (λ other. other == number) program.files) refl),
        globals_match kinds (suc number) variables (λ other found is.
            ap (slice_get program.globals) (omega arith) ∙ there (suc other) found is),
      )

  pub stands_at_start : Stands (kinds_at_start program) (store_at_start program)
  stands_at_start =
      stands_opened [] (map (kind_of program.types) program.globals) [] (cells_from program 0 program.globals)
      (record { rows = refl; row = λ activation. refl; cells = λ activation variable kind there. absurd (cc) })
      (globals_match (kinds_at_start program) 0 program.globals
      (λ other found is. ap (slice_get program.globals) (omega arith) ∙ is))

  pub knows_at_start : Knows program [] None (kinds_at_start program)
  knows_at_start = record {
    some = omega arith;
    globals = λ number variable there.
        slice_get-map (kind_of program.types) program.globals number ∙ ap (option_map (kind_of program.types)) there;
    locals = λ number variable there. absurd (cc);
    result_cell = λ type typed_so. absurd (cc);
    ordinal = λ type typed_so. absurd (cc);
  }

  pub keeps_begin_files : {kinds : Kinds} (file : ℕ) (parameters : List Variable)
      → Keeps kinds kinds (λ value. ⊤) (begin_files file parameters)
  keeps_begin_files file [] = keeps_pure tt tt
  keeps_begin_files file (found ∷ parameters) =
      keeps_then (keeps_if _ (keeps_reset file) (keeps_if _ (keeps_rewrite file) (keeps_pure tt tt)))
      (keeps_begin_files (suc file) parameters)
