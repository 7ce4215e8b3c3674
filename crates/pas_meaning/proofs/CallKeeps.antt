-- Calls of a lawful program: an activation opens as it is declared, and what ran in it leaves the others as they are.
use Rattle.std.proofs.Common.{◌≡◌, ℕ, zero, suc, ◌-◌, ◌==◌, List, [], ◌∷◌, ◌++◌, length, map, drop, find, Option}
use Rattle.std.proofs.Common.{Some, None, Bool, true, false, slice_get, arith, refl, sym, ap, ◌∙◌, subst, All}
use Rattle.std.proofs.Common.{option_map, length-append, eqb-true, if◌then◌else◌, IfSome}
use Rattle.std.specs.Prelude.{⊤, option_to_list}
use Rattle.std.proofs.lemmas.List.{map-append, drop_at, length-map}
use Rattle.std.proofs.lemmas.Option.{slice_get-map, same_Some, MatchOption-at_some}
use Rattle.pas_typed.specs.Types.{PasType}
use Rattle.pas_typed.specs.Typed as typed
use Rattle.pas_typed.specs.Typed.{Variable, Heading, Body, TypedProgram}
use Rattle.pas_typed.specs.Shapes.{one_cell, shape_of}
use Rattle.pas_typed.specs.Lawful.{IsOrdinal, AreDeclared, IsLawful, IsLawfulBody}
use Rattle.pas_meaning.specs.Answers.{fine}
use Rattle.pas_meaning.specs.Store.{undefined, own, Store, home_of, along, opened, closed}
use Rattle.pas_meaning.specs.Run as run
use Rattle.pas_meaning.specs.Run.{Doings, Spot, Argument, cell_of, blank_cell, cells_for, result_cells, body_of}
use Rattle.pas_meaning.specs.Standing.{Kind, plain, kind_by, kind_of, Kinds, kind_at, Matches, Stands, Keeps, Knows}
use Rattle.pas_meaning.specs.Standing.{KeepsAll, kinds_for, result_kinds, IsSpot, is_window, AreFor}
use Rattle.pas_meaning.proofs.CellLemmas.{blank_of-shaped}
use Rattle.pas_meaning.proofs.StandingLemmas.{kind_row, kind_stays, kind_last, aims_along, aims_more, AllMatch}
use Rattle.pas_meaning.proofs.StandingLemmas.{all_append}
use Rattle.pas_meaning.proofs.StandingLemmas.{stands_opened, stands_closed}
use Rattle.pas_meaning.proofs.KeepsLemmas.{keeps_bind, keeps_then, keeps_pure, keeps_asked, keeps_change, keeps_step}
use Rattle.pas_meaning.proofs.KeepsLemmas.{keeps_begin}
use Rattle.pas_meaning.proofs.KeepsLemmas.{keeps_end_call}
use Rattle.pas_meaning.proofs.PlaceKeeps.{all_get, slot_aims}

pub found_there : {A : Type 0} (P : A → Type 0) (test : A → Bool) (xs : List A) (x : A) → All P xs
    → find test xs ≡ Some x
    → P x × (test x ≡ true)
found_there P test [] x all is = absurd (cc)
found_there {A = A} P test (first ∷ xs) x all is =
    by_test (test first) refl is (found_there P test xs x (λ k d less. all (suc k) d (omega (arith, less))))
  where
    by_test : (passes : Bool) → test first ≡ passes → (if passes then Some first else find test xs) ≡ Some x
        → (find test xs ≡ Some x → P x × (test x ≡ true)) → P x × (test x ≡ true)
    by_test true at is later =
        subst (λ x. P x × (test x ≡ true)) (same_Some first x is) (all 0 first (omega arith), at)
    by_test false at is later = later is

get_first : {A : Type 0} (xs ys : List A) (number : ℕ) (x : A) → slice_get xs number ≡ Some x
    → slice_get (xs ++ ys) number ≡ Some x
get_first [] ys number x is = absurd (cc)
get_first (first ∷ xs) ys zero x is = is
get_first (first ∷ xs) ys (suc number) x is = get_first xs ys number x is

get_behind : {A : Type 0} (xs ys : List A) (number : ℕ) → length xs ≡ number
    → slice_get (xs ++ ys) number ≡ slice_get ys 0
get_behind [] ys zero long = refl
get_behind [] ys (suc number) long = absurd (omega (arith, long))
get_behind (first ∷ xs) ys zero long = absurd (omega (arith, long))
get_behind (first ∷ xs) ys (suc number) long = get_behind xs ys number (omega (arith, long))

module _ (program : TypedProgram) (lawful : IsLawful program) where
  abbrev pub kind : Variable → Kind
  kind variable = kind_of program.types variable

  -- the result of a function is an ordinal
  pub result_ordinal : (routine : ℕ) (heading : Heading) (type : PasType)
      → slice_get program.headings routine ≡ Some heading
      → heading.result ≡ Some type → IsOrdinal program.types type
  result_ordinal routine heading type there typed_so =
      MatchOption-at_some ⊤ (IsOrdinal program.types) type typed_so
      (all_get (λ (found : Heading). IfSome found.result (IsOrdinal program.types)) program.headings routine heading
      lawful.results there)

  -- blank variables and the result match what is declared
  others_match : (kinds : Kinds) (activation : ℕ) (others : List Variable) → AreDeclared others
      → AllMatch kinds activation (map kind others) (map (blank_cell program.types) others)
  others_match kinds activation [] declared = tt
  others_match kinds activation (variable ∷ others) declared = (
    subst (λ mode. Matches kinds activation (kind_by mode (shape_of program.types variable.type))
        (blank_cell program.types variable)) (sym (declared 0 variable (omega arith)))
        (blank_of-shaped program.types variable.type),
    others_match kinds activation others (λ k d less. declared (suc k) d (omega (arith, less))),
  )

  result_matches : (kinds : Kinds) (activation : ℕ) (heading : Option Heading)
      → AllMatch kinds activation (result_kinds heading) (result_cells heading)
  result_matches kinds activation None = tt
  result_matches kinds activation (Some heading) = by_type heading.result
    where
      by_type : (result : Option PasType)
          → AllMatch kinds activation (map (λ type. plain one_cell) (option_to_list result))
          (map (λ type. own undefined) (option_to_list result))
      by_type None = tt
      by_type (Some type) = (tt, tt)

  module _ (variables : List Variable) (result : Option PasType) (kinds : Kinds)
      (knows : Knows program variables result kinds) where
    pub as_many : (parameters : List Variable) (arguments : List Argument)
        → AreFor program variables parameters arguments
        → length parameters ≡ length arguments
    as_many [] [] are = refl
    as_many [] (argument ∷ arguments) are = absurd are
    as_many (parameter ∷ parameters) [] are = absurd are
    as_many (parameter ∷ parameters) (run.copied datum ∷ arguments) are = ap suc (as_many parameters arguments are.2)
    as_many (parameter ∷ parameters) (run.meant spot ∷ arguments) are = ap suc (as_many parameters arguments are.3)

    module _ (row : List Kind) (store : Store) (stands : Stands kinds store) where
      abbrev more : Kinds
      more = kinds ++ row ∷ []

      meant_matches : (type : PasType) (spot : Spot) → IsSpot program variables type spot → is_window spot ≡ false
          → Matches more (length kinds) (kind_by typed.by_name (shape_of program.types type))
          (cell_of store (run.meant spot))
      meant_matches type (run.part slot path) is no_window =
          let aims = aims_along kinds (home_of slot store) (shape_of program.types slot.type)
          (shape_of program.types type)
          path (slot_aims program lawful variables result kinds knows slot store stands is.0) is.1 in (
            aims_more kinds (row ∷ []) (along (home_of slot store) path) (shape_of program.types type) aims,
            kind_row kinds _ _ _ aims.there,
          )
      meant_matches type (run.window slot of_component) is no_window = absurd (cc)

      pub arguments_match : (parameters : List Variable) (arguments : List Argument)
          → AreFor program variables parameters arguments
          → AllMatch more (length kinds) (map kind parameters) (map (cell_of store) arguments)
      arguments_match [] [] are = tt
      arguments_match [] (argument ∷ arguments) are = absurd are
      arguments_match (parameter ∷ parameters) [] are = absurd are
      arguments_match (parameter ∷ parameters) (run.copied datum ∷ arguments) are = (
        subst (λ mode. Matches more (length kinds) (kind_by mode (shape_of program.types parameter.type)) (own datum))
            (sym are.0) are.1,
        arguments_match parameters arguments are.2,
      )
      arguments_match (parameter ∷ parameters) (run.meant spot ∷ arguments) are = (
        subst (λ mode. Matches more (length kinds) (kind_by mode (shape_of program.types parameter.type))
            (cell_of store (run.meant spot))) (sym are.0) (meant_matches parameter.type spot are.1 are.2),
        arguments_match parameters arguments are.3,
      )

      variables_match : (parameters others all : List Variable) (arguments : List Argument)
          → all ≡ parameters ++ others → AreDeclared others → AreFor program variables parameters arguments
          → AllMatch more (length kinds) (map kind all)
          (map (cell_of store) arguments ++ map (blank_cell program.types) (drop (length arguments) all))
      variables_match parameters others all arguments are declared for_them =
          subst (λ all. AllMatch more (length kinds) (map kind all)
          (map (cell_of store) arguments ++ map (blank_cell program.types) (drop (length arguments) all))) (sym are)
          (subst (λ row. AllMatch more (length kinds) row
          (map (cell_of store) arguments
          ++ map (blank_cell program.types) (drop (length arguments) (parameters ++ others))))
          (sym (map-append kind parameters others))
          (subst (λ behind. AllMatch more (length kinds) (map kind parameters ++ map kind others)
          (map (cell_of store) arguments ++ map (blank_cell program.types) behind))
          (sym (drop_at parameters others (length arguments) (as_many parameters arguments for_them)))
          (all_append more (length kinds) (map kind parameters) (map kind others) _ _
          (arguments_match parameters arguments for_them) (others_match more (length kinds) others declared))))

    -- the variables of a body, once it is opened
    module _ (body : Body) (is : IsLawfulBody program body) where
      abbrev inside : Kinds
      inside = kinds ++ kinds_for program body ∷ []

      last_row : length inside - 1 ≡ length kinds
      last_row = omega (arith, length-append kinds (kinds_for program body ∷ []))

      pub knows_inside : Knows program body.variables is.heading.result inside
      knows_inside = record {
        some = omega (arith, length-append kinds (kinds_for program body ∷ []));
        globals = λ number variable there.
            kind_stays kinds (kinds_for program body ∷ []) 0 number knows.some ∙ knows.globals number variable there;
        locals = λ number variable there.
            ap (λ activation. kind_at inside activation number) last_row
            ∙ kind_last kinds (kinds_for program body) number
            ∙ get_first (map kind body.variables) _ number (kind variable)
            (slice_get-map kind body.variables number ∙ ap (option_map kind) there);
        result_cell = λ type typed_so.
            ap (λ activation. kind_at inside activation (length body.variables)) last_row
            ∙ kind_last kinds (kinds_for program body) (length body.variables)
            ∙ get_behind (map kind body.variables) _ (length body.variables) (length-map body.variables kind)
            ∙ ap (λ heading. slice_get (result_kinds heading) 0) is.there
            ∙ ap (λ result. slice_get (map (λ type. plain one_cell) (option_to_list result)) 0) typed_so;
        ordinal = λ type typed_so. result_ordinal body.routine is.heading type is.there typed_so;
      }

      pub stands_inside : (arguments : List Argument) (store : Store)
          → AreFor program variables is.heading.parameters arguments
          → Stands kinds store → Stands inside (opened (cells_for program body arguments store) store)
      stands_inside arguments store are stands =
          stands_opened kinds (kinds_for program body) store (cells_for program body arguments store) stands
          (all_append inside (length kinds) (map kind body.variables) _ _ _
          (variables_match (kinds_for program body) store stands is.heading.parameters is.others body.variables
          arguments is.variables is.declared are)
          (result_matches inside (length kinds) (slice_get program.headings body.routine)))

    module _ (limit : Option ℕ) (below : Doings) (keeps_below : KeepsAll program below) where
      keeps_body : (body : Body) (arguments : List Argument) (is : IsLawfulBody program body)
          → AreFor program variables is.heading.parameters arguments
          → Keeps kinds kinds (λ value. ⊤) (run.body_run limit program below (Some body) arguments)
      keeps_body body arguments is are =
          keeps_then (keeps_change (λ store. opened (cells_for program body arguments store) store)
          (λ store. stands_inside body is arguments store are))
          (keeps_bind (keeps_below body.variables is.heading.result (inside body is) (knows_inside body is) run.start
          (typed.compound body.statements) is.statements) (λ flow is_flow.
          keeps_bind (keeps_asked (λ store world. fine (run.result_of (length body.variables) store)))
          (λ found is_found. keeps_then (keeps_change closed
          (λ store stands. stands_closed kinds (kinds_for program body) store stands))
          (keeps_then keeps_end_call (keeps_pure found tt)))))

      found_body : (routine : ℕ) (heading : Heading) (arguments : List Argument) (body : Option Body)
          → body_of program routine ≡ body → slice_get program.headings routine ≡ Some heading
          → AreFor program variables heading.parameters arguments
          → Keeps kinds kinds (λ value. ⊤) (run.body_run limit program below body arguments)
      found_body routine heading arguments None is there are = keeps_pure undefined tt
      found_body routine heading arguments (Some body) is there are =
          let found = found_there (IsLawfulBody program) (λ (body : Body). body.routine == routine) program.bodies body
          lawful.bodies is in
          let same : heading ≡ found.0.heading = same_Some _ _ (sym there
          ∙ ap (slice_get program.headings) (sym (eqb-true body.routine routine found.1)) ∙ found.0.there) in
          keeps_body body arguments found.0
          (subst (λ (heading : Heading). AreFor program variables heading.parameters arguments) same are)

      pub keeps_call : (routine : ℕ) (heading : Heading) (arguments : List Argument)
          → slice_get program.headings routine ≡ Some heading → AreFor program variables heading.parameters arguments
          → Keeps kinds kinds (λ value. ⊤) (run.call limit program below routine arguments)
      keeps_call routine heading arguments there are =
          keeps_then keeps_step (keeps_then (keeps_begin limit)
          (found_body routine heading arguments (body_of program routine) refl there are))
