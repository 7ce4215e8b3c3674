-- An activation opens: its cells are those of arguments, of blank variables, and of a result.
use Rattle.std.proofs.Common.{◌≡◌, ℕ, zero, suc, ◌+◌, ◌-◌, ◌<◌, List, [], ◌∷◌, ◌++◌, length, map, take, drop, get_or}
use Rattle.std.proofs.Common.{replicate, Option, Some, None, append_assoc, length-append, arith, refl, sym, ap, ap₂}
use Rattle.std.proofs.Common.{◌∙◌, subst, ℤ, slice_get, Result, Ok, Err, append-nil, ◌==◌, eqb-true}
use Rattle.std.specs.Prelude.{option_to_list}
use Rattle.std.proofs.lemmas.List.{replicate-append-replicate, length-map, map-append, drop_at, get_or_append_left}
use Rattle.std.proofs.lemmas.List.{get_or_push, take_all}
use Rattle.std.proofs.lemmas.Option.{same_Some}
use Rattle.wb_ports.specs.PortState.{PortState}
use Rattle.pas_typed.specs.Types.{PasType, Table}
use Rattle.pas_typed.specs.Typed.{Variable, Heading, Body, TypedProgram}
use Rattle.pas_typed.specs.Shapes.{one_cell, size, shape_of}
use Rattle.pas_typed.specs.Lawful.{AreDeclared, IsLawful, IsLawfulBody, IsLawfulSlot}
use Rattle.pas_typed.specs.declared.typed.Slot.{Slot as CodeSlot}
use Rattle.pas_typed.specs.TypedViews.{slot_view}
use Rattle.pas_meaning.specs.Outcome.{Run, Doing, change}
use Rattle.pas_meaning.specs.Store as pascal
use Rattle.pas_meaning.specs.Store.{holds, own, Store, home_of, along, blank_of, opened}
use Rattle.pas_meaning.specs.Run.{body_of, Argument, copied, meant, part, window, cell_of, blank_cell, result_cells}
use Rattle.pas_meaning.specs.Run.{cells_for}
use Rattle.pas_meaning.specs.Standing.{Kind, plain, kind_by, kind_of, Kinds, Stands, Knows, kinds_for, result_kinds}
use Rattle.pas_meaning.specs.Standing.{IsOfType, AreFor}
use Rattle.pas_meaning.proofs.CellLemmas.{flat-blank_of}
use Rattle.pas_meaning.proofs.StandingLemmas.{AllMatch, kind_row, aims_along}
use Rattle.pas_meaning.proofs.PlaceKeeps.{ordinal_holds, slot_aims}
use Rattle.pas_meaning.proofs.CallKeeps.{found_there, as_many, arguments_match, knows_inside, stands_inside}
use Rattle.pas_run.specs.declared.arguments.Argument.{Argument as CodeArgument}
use Rattle.pas_run.specs.declared.arguments.Argument.TheVariants as code
use Rattle.pas_run.specs.declared.cells.Address.{Address}
use Rattle.pas_run.specs.declared.cells.Cell.{Cell}
use Rattle.pas_run.specs.declared.cells.Cell.TheVariants.{Undefined, Holds, Refers}
use Rattle.pas_run.specs.declared.ends.Stop.{Stop}
use Rattle.pas_run.specs.declared.ends.Stop.TheVariants as stop
use Rattle.pas_run.specs.declared.layouts.Layout.{Layout}
use Rattle.pas_run.specs.declared.layouts.Layouts.{Layouts}
use Rattle.pas_run.specs.inner.FlatStore as flat
use Rattle.pas_run.specs.inner.FlatStore.{cells_before, number_cell, datum_cells, flat_cell, flat_row, flat_store}
use Rattle.pas_run.specs.inner.FlatStore.{address_of, behind_by}
use Rattle.pas_run.specs.inner.Copying.{IsFound}
use Rattle.pas_run.specs.inner.MachineState.{MachineState, AreFiles, IsRun}
use Rattle.pas_run.specs.inner.Scenes.{IsAt, IsLayout, AreLayouts}
use Rattle.pas_run.specs.inner.Doings.{Any, Does}
use Rattle.pas_run.specs.inner.Calling.{IsGiven, AreGiven, IsRoutine, kinds_inside}
use Rattle.pas_run.proofs.FlatLemmas.{length-flat_cell, address_more, flat-opened}
use Rattle.pas_run.proofs.OperandLemmas.{does_no_memory}
use Rattle.pas_run.proofs.CopyLemmas.{place_slot, place_address, found_other}

-- cells of rows
pub row_append : (kinds : Kinds) (xs ys : List pascal.Cell)
    → flat_row kinds (xs ++ ys) ≡ flat_row kinds xs ++ flat_row kinds ys
row_append kinds [] ys = refl
row_append kinds (x ∷ xs) ys =
    ap (λ (rest : List Cell). flat_cell kinds x ++ rest) (row_append kinds xs ys)
    ∙ sym (append_assoc (flat_cell kinds x) (flat_row kinds xs) (flat_row kinds ys))

row_long : (kinds : Kinds) (activation : ℕ) (row : List Kind) (cells : List pascal.Cell)
    → AllMatch kinds activation row cells → length (flat_row kinds cells) ≡ cells_before row (length row)
row_long kinds activation [] [] all = refl
row_long kinds activation [] (cell ∷ cells) all = absurd all
row_long kinds activation (kind ∷ row) [] all = absurd all
row_long kinds activation (kind ∷ row) (cell ∷ cells) all =
    length-append (flat_cell kinds cell) (flat_row kinds cells)
    ∙ ap₂ (λ (one more : ℕ). one + more) (length-flat_cell kinds activation kind cell all.0)
    (row_long kinds activation row cells all.1)

before_both : (row others : List Kind) → cells_before (row ++ others) (length (row ++ others))
    ≡ cells_before row (length row) + cells_before others (length others)
before_both [] others = omega arith
before_both (kind ∷ row) others = omega (arith, before_both row others)

pub before_length : (row others : List Kind)
    → cells_before (row ++ others) (length row) ≡ cells_before row (length row)
before_length [] [] = refl
before_length [] (kind ∷ others) = refl
before_length (kind ∷ row) others = ap (λ (cells : ℕ). flat.cells_for kind + cells) (before_length row others)

-- blank variables, and the result
map_blanks : (count : ℕ) → map number_cell (replicate count None) ≡ replicate count Undefined
map_blanks zero = refl
map_blanks (suc count) = ap (λ (rest : List Cell). Undefined ∷ rest) (map_blanks count)

pub blank_cells : (table : Table) (type : PasType)
    → datum_cells (blank_of table type) ≡ replicate (size (shape_of table type)) Undefined
blank_cells table type = ap (map number_cell) (flat-blank_of table type) ∙ map_blanks (size (shape_of table type))

blank_rows : (kinds : Kinds) (table : Table) (others : List Variable) → AreDeclared others
    → flat_row kinds (map (blank_cell table) others)
    ≡ replicate (cells_before (map (kind_of table) others) (length (map (kind_of table) others))) Undefined
blank_rows kinds table [] declared = refl
blank_rows kinds table (variable ∷ others) declared =
    let one : flat.cells_for (kind_of table variable) ≡ size (shape_of table variable.type) =
    ap (λ mode. flat.cells_for (kind_by mode (shape_of table variable.type))) (declared 0 variable (omega arith)) in
    ap₂ (λ (first rest : List Cell). first ++ rest)
    (blank_cells table variable.type ∙ ap (λ (count : ℕ). replicate count Undefined) (sym one))
    (blank_rows kinds table others (λ k d less. declared (suc k) d (omega (arith, less))))
    ∙ replicate-append-replicate _ _ Undefined

result_rows : (kinds : Kinds) (heading : Option Heading)
    → flat_row kinds (result_cells heading) ≡ replicate (length (result_kinds heading)) Undefined
result_rows kinds None = refl
result_rows kinds (Some heading) = by_type heading.result
  where
    by_type : (result : Option PasType)
        → flat_row kinds (map (λ type. own pascal.undefined) (option_to_list result))
        ≡ replicate (length (map (λ (type : PasType). plain one_cell)
        (option_to_list result))) Undefined
    by_type None = refl
    by_type (Some type) = refl

-- arguments, one after another
pub record GivenAt (program : TypedProgram) (variables : List Variable) (x : CodeArgument) (i : ℕ)
    (values : List Argument) : Type 0 where
  pub parameter : Variable
  pub value : Argument
  pub given : IsGiven program variables parameter x value
  pub more : take (i + 1) values ≡ take i values ++ value ∷ []

module _ (program : TypedProgram) (variables : List Variable) where
  pub given_at : (parameters : List Variable) (founds : List CodeArgument) (values : List Argument) (i : ℕ)
      (x : CodeArgument) → i < length founds → x ≡ get_or founds i x
      → AreGiven program variables parameters founds values → GivenAt program variables x i values
  given_at [] [] [] i x less is are = absurd (omega (arith, less))
  given_at [] [] (value ∷ values) i x less is are = absurd are
  given_at [] (found ∷ founds) values i x less is are = absurd are
  given_at (parameter ∷ parameters) [] values i x less is are = absurd are
  given_at (parameter ∷ parameters) (found ∷ founds) [] i x less is are = absurd are
  given_at (parameter ∷ parameters) (found ∷ founds) (value ∷ values) zero x less is are = record {
    parameter = parameter;
    value = value;
    given = subst (λ (found : CodeArgument). IsGiven program variables parameter found value) (sym is) are.0;
    more = refl;
  }
  given_at (parameter ∷ parameters) (found ∷ founds) (value ∷ values) (suc i) x less is are =
      let on = given_at parameters founds values i x (omega (arith, less)) is are.1 in
      let next : suc i + 1 ≡ suc (i + 1) = omega arith in record {
        parameter = on.parameter;
        value = on.value;
        given = on.given;
        more = ap (λ (count : ℕ). take count (value ∷ values)) next
            ∙ ap (λ (rest : List Argument). value ∷ rest) on.more;
      }

  pub given_long : (parameters : List Variable) (founds : List CodeArgument) (values : List Argument)
      → AreGiven program variables parameters founds values → length values ≡ length founds
  given_long [] [] [] are = refl
  given_long [] [] (value ∷ values) are = absurd are
  given_long [] (found ∷ founds) values are = absurd are
  given_long (parameter ∷ parameters) [] values are = absurd are
  given_long (parameter ∷ parameters) (found ∷ founds) [] are = absurd are
  given_long (parameter ∷ parameters) (found ∷ founds) (value ∷ values) are =
      ap suc (given_long parameters founds values are.1)

  pub given_for : IsLawful program → (parameters : List Variable) (founds : List CodeArgument)
      (values : List Argument)
      → AreGiven program variables parameters founds values → AreFor program variables parameters values
  given_for lawful [] [] [] are = tt
  given_for lawful [] [] (value ∷ values) are = absurd are
  given_for lawful [] (found ∷ founds) values are = absurd are
  given_for lawful (parameter ∷ parameters) [] values are = absurd are
  given_for lawful (parameter ∷ parameters) (found ∷ founds) [] are = absurd are
  given_for lawful (parameter ∷ parameters) (code.Number number ∷ founds) (copied datum ∷ values) are = (
    are.0.0,
    subst (λ datum. IsOfType program.types parameter.type datum) (sym are.0.2)
        (ordinal_holds program lawful parameter.type number are.0.1),
    given_for lawful parameters founds values are.1,
  )
  given_for lawful (parameter ∷ parameters) (code.Number number ∷ founds) (meant place ∷ values) are = absurd are.0
  given_for lawful (parameter ∷ parameters) (code.Whole cells ∷ founds) (copied datum ∷ values) are =
      (are.0.0, are.0.1.0, given_for lawful parameters founds values are.1)
  given_for lawful (parameter ∷ parameters) (code.Whole cells ∷ founds) (meant place ∷ values) are = absurd are.0
  given_for lawful (parameter ∷ parameters) (code.Named slot behind ∷ founds) (copied datum ∷ values) are = absurd are.0
  given_for lawful (parameter ∷ parameters) (code.Named slot behind ∷ founds) (meant (part found path) ∷ values) are =
      (are.0.0, (are.0.1.1, are.0.1.2), refl, given_for lawful parameters founds values are.1)
  given_for lawful (parameter ∷ parameters) (code.Named slot behind ∷ founds) (meant (window found type) ∷ values) are =
      absurd are.0.1

  -- the cells of one
  pub number_given : (kinds : Kinds) (store : Store) (parameter : Variable) (number : ℤ) (value : Argument)
      → IsGiven program variables parameter (code.Number number) value
      → flat_cell kinds (cell_of store value) ≡ Holds number ∷ []
  number_given kinds store parameter number (copied datum) is = ap datum_cells is.2
  number_given kinds store parameter number (meant place) is = absurd is

  pub whole_given : (kinds : Kinds) (store : Store) (parameter : Variable) (cells : List Cell) (value : Argument)
      → IsGiven program variables parameter (code.Whole cells) value → flat_cell kinds (cell_of store value) ≡ cells
  whole_given kinds store parameter cells (copied datum) is = sym is.1.1
  whole_given kinds store parameter cells (meant place) is = absurd is

module _ (program : TypedProgram) (lawful : IsLawful program) (variables : List Variable) (result : Option PasType)
    (kinds : Kinds) (knows : Knows program variables result kinds) (store : Store) (stands : Stands kinds store) where
  -- behind more kinds their cells are the same
  for_more : (more : Kinds) (parameters : List Variable) (values : List Argument)
      → AreFor program variables parameters values
      → flat_row (kinds ++ more) (map (cell_of store) values) ≡ flat_row kinds (map (cell_of store) values)
  for_more more [] [] are = refl
  for_more more [] (value ∷ values) are = absurd are
  for_more more (parameter ∷ parameters) [] are = absurd are
  for_more more (parameter ∷ parameters) (copied datum ∷ values) are =
      ap (λ (rest : List Cell). datum_cells datum ++ rest) (for_more more parameters values are.2)
  for_more more (parameter ∷ parameters) (meant (part slot path) ∷ values) are =
      let aims = aims_along kinds (home_of slot store) (shape_of program.types slot.type)
      (shape_of program.types parameter.type) path
      (slot_aims program lawful variables result kinds knows slot store stands are.1.0) are.1.1 in
      ap₂ (λ (address : Address) (rest : List Cell). Refers address ∷ rest)
      (address_more kinds more (along (home_of slot store) path) (kind_row kinds _ _ _ aims.there))
      (for_more more parameters values are.3)
  for_more more (parameter ∷ parameters) (meant (window slot type) ∷ values) are = absurd (cc)

  module _ (body : Body) (is : IsLawfulBody program body) (layout : Layout)
      (laid : IsLayout program.types body.variables layout) (values : List Argument)
      (are : AreFor program variables is.heading.parameters values) where
    abbrev inside : Kinds
    inside = kinds ++ kinds_for program body ∷ []

    abbrev kind : Variable → Kind
    kind variable = kind_of program.types variable

    abbrev given_row : List pascal.Cell
    given_row = map (cell_of store) values

    abbrev blank_row : List pascal.Cell
    blank_row = map (blank_cell program.types) (drop (length values) body.variables)

    abbrev last_row : List pascal.Cell
    last_row = result_cells (slice_get program.headings body.routine)

    abbrev blank_count : ℕ
    blank_count = cells_before (map kind is.others) (length (map kind is.others))

    abbrev last_count : ℕ
    last_count = length (result_kinds (slice_get program.headings body.routine))

    given_inside : flat_row inside given_row ≡ flat_row kinds given_row
    given_inside = for_more (kinds_for program body ∷ []) is.heading.parameters values are

    given_count : length (flat_row kinds given_row)
        ≡ cells_before (map kind is.heading.parameters) (length (map kind is.heading.parameters))
    given_count =
        sym (ap length given_inside)
        ∙ row_long inside (length kinds) (map kind is.heading.parameters) given_row
        (arguments_match program lawful variables result kinds knows (kinds_for program body) store stands
        is.heading.parameters values are)

    all_count : layout.cells ≡ length (flat_row kinds given_row) + blank_count
    all_count =
        laid.cells
        ∙ ap (λ (variables : List Variable). cells_before (map kind variables) (length variables)) is.variables
        ∙ ap (cells_before (map kind (is.heading.parameters ++ is.others)))
        (sym (length-map (is.heading.parameters ++ is.others) kind))
        ∙ ap (λ (row : List Kind). cells_before row (length row)) (map-append kind is.heading.parameters is.others)
        ∙ before_both (map kind is.heading.parameters) (map kind is.others)
        ∙ ap (λ (count : ℕ). count + blank_count) (sym given_count)

    blanks_are : flat_row inside blank_row ≡ replicate blank_count Undefined
    blanks_are =
        ap (λ (others : List Variable). flat_row inside (map (blank_cell program.types) others))
        (ap (drop (length values)) is.variables
        ∙ drop_at is.heading.parameters is.others (length values)
        (as_many program lawful variables result kinds knows is.heading.parameters values are))
        ∙ blank_rows inside program.types is.others is.declared

    pub opened_row : (given : List Cell) (count : ℕ) → given ≡ flat_row kinds given_row
        → count ≡ layout.cells + last_count
        → take count given ++ replicate (count - length given) Undefined
        ≡ flat_row inside (cells_for program body values store)
    opened_row given count given_is count_is =
        let rest : count - length given ≡ blank_count + last_count =
        omega (arith, count_is, all_count, ap length given_is) in
        ap₂ (λ (front : List Cell) (count : ℕ). front ++ replicate count Undefined)
        (take_all count given (omega (arith, count_is, all_count, ap length given_is)) ∙ given_is ∙ sym given_inside)
        rest
        ∙ ap (λ (rest : List Cell). flat_row inside given_row ++ rest)
        (sym (replicate-append-replicate blank_count last_count Undefined)
        ∙ ap₂ (λ (one other : List Cell). one ++ other) (sym blanks_are)
        (sym (result_rows inside (slice_get program.headings body.routine)))
        ∙ sym (row_append inside blank_row last_row))
        ∙ sym (row_append inside given_row (blank_row ++ last_row))
        ∙ ap (flat_row inside) (sym (append_assoc given_row blank_row last_row))

-- the scene of what runs inside
module _ (program : TypedProgram) (layouts : Layouts) (locals layout : Layout) (variables : List Variable)
    (result : Option PasType) (kinds : Kinds) (at : IsAt program layouts locals variables result kinds)
    (heading : Heading) (body : Body) (is : IsRoutine program heading layout body) where
  pub at_inside : IsAt program layouts layout body.variables is.is_body.heading.result (kinds_inside program kinds body)
  at_inside = record {
    lawful = at.lawful;
    all_laid = at.all_laid;
    laid = is.laid;
    knows = knows_inside program at.lawful variables result kinds at.knows body is.is_body;
    global_row = get_or_append_left kinds (kinds_for program body ∷ []) [] 0 at.knows.some ∙ at.global_row;
    others = result_kinds (slice_get program.headings body.routine);
    top_row =
        get_or_push kinds (kinds_for program body) [] (length (kinds_inside program kinds body) - 1)
        (omega (arith, length-append kinds (kinds_for program body ∷ [])));
  }

  -- the begin of a body as something that is done
  pub does_open : (founds : List CodeArgument) (values : List Argument)
      → AreGiven program variables heading.parameters founds values → (machine now : MachineState)
      (given : List Cell) (count : ℕ)
      → ((ports : List PortState) (run : Run Store) → IsRun kinds ports machine run
      → given ≡ flat_row kinds (map (cell_of run.store) values))
      → count ≡ layout.cells + length (result_kinds (slice_get program.headings body.routine))
      → now ≡ record machine {
        activations = machine.activations
            ++ (take count given ++ replicate (count - length given) Undefined) ∷ [];
      }
      → (most : ℕ) → Does most kinds (kinds_inside program kinds body) Any
      (change (λ found. opened (cells_for program body values found) found)) machine now (Ok (tt {0}))
  does_open founds values are machine now given count given_is count_is same most = record {
    each = λ ports run stands within.
        let for_them = subst (λ (heading : Heading). AreFor program variables heading.parameters values)
        (sym is.is_heading) (given_for program variables at.lawful heading.parameters founds values are) in
        let row = opened_row program at.lawful variables result kinds at.knows run.store stands.stands body is.is_body
        layout is.laid values for_them given count (given_is ports run stands) count_is in
        record {
          value = tt {0};
          run = record run { store = opened (cells_for program body values run.store) run.store };
          same = refl;
          is = tt;
          stands = record {
            activations =
                ap (λ (machine : MachineState). machine.activations) same
                ∙ ap₂ (λ (rows : List (List Cell)) (row : List Cell). rows ++ row ∷ []) stands.activations row
                ∙ sym (flat-opened kinds (kinds_for program body) run.store (cells_for program body values run.store)
                stands.stands);
            stands = stands_inside program at.lawful variables result kinds at.knows body is.is_body values run.store
                for_them stands.stands;
            world = record {
              steps = ap (λ (machine : MachineState). machine.steps) same ∙ stands.world.steps;
              calls = ap (λ (machine : MachineState). machine.calls) same ∙ stands.world.calls;
              files = subst (λ (machine : MachineState).
                  AreFiles ports machine.files run.world.files)
                  (sym same) stands.world.files;
            };
          };
        };
  }

-- one argument more in a row of cells
pub row_more : (kinds : Kinds) (store : Store) (values : List Argument) (i : ℕ) (value : Argument)
    → take (i + 1) values ≡ take i values ++ value ∷ []
    → flat_row kinds (map (cell_of store) (take (i + 1) values))
    ≡ flat_row kinds (map (cell_of store) (take i values)) ++ flat_cell kinds (cell_of store value)
row_more kinds store values i value more =
    ap (λ (values : List Argument). flat_row kinds (map (cell_of store) values)) more
    ∙ ap (flat_row kinds) (map-append (cell_of store) (take i values) (value ∷ []))
    ∙ row_append kinds (map (cell_of store) (take i values)) (cell_of store value ∷ [])
    ∙ ap (λ (rest : List Cell). flat_row kinds (map (cell_of store) (take i values)) ++ rest)
    (append-nil (flat_cell kinds (cell_of store value)))

-- the cell of a variable parameter
module _ (program : TypedProgram) (layouts : Layouts) (locals : Layout) (variables : List Variable)
    (result : Option PasType) (kinds : Kinds) (at : IsAt program layouts locals variables result kinds)
    (parameter : Variable) (slot : CodeSlot) (behind : ℕ) where
  pub named_slot : (value : Argument) → IsGiven program variables parameter (code.Named slot behind) value
      → IsLawfulSlot program variables (slot_view slot)
  named_slot (copied datum) is = absurd is
  named_slot (meant place) is = place_slot program variables slot parameter.type behind place is.1

  pub named_given : (value : Argument) → IsGiven program variables parameter (code.Named slot behind) value
      → (ports : List PortState) (machine : MachineState) (run : Run Store) → IsRun kinds ports machine run
      → (home : Address) → home ≡ address_of kinds (home_of (slot_view slot) run.store)
      → (found : Address) → found ≡ behind_by behind home
      → flat_cell kinds (cell_of run.store value) ≡ Refers found ∷ []
  named_given (copied datum) is ports machine run stands home home_is found found_is = absurd is
  named_given (meant place) is ports machine run stands home home_is found found_is =
      ap (λ (address : Address). Refers address ∷ [])
      (sym (place_address program layouts locals variables result kinds at slot parameter.type behind place ports
      machine run stands is.1 home home_is) ∙ sym found_is)

-- the body of a routine and its layout
pub routine_found : (program : TypedProgram) (layouts : Layouts) → IsLawful program → AreLayouts program layouts
    → (routine : ℕ) (heading : Heading) → slice_get program.headings routine ≡ Some heading
    → (number : ℕ) (layout : Layout) (body : Body) → slice_get layouts.routines routine ≡ Some number
    → slice_get layouts.bodies number ≡ Some layout → slice_get program.bodies number ≡ Some body
    → IsRoutine program heading layout body × (body_of program routine ≡ Some body)
routine_found program layouts lawful laid routine heading there number layout body numbered layout_there body_there =
    let known = laid.routines routine heading there in
    let same_number : known.number ≡ number = same_Some _ _ (sym known.there ∙ numbered) in
    let same_body : known.body ≡ body =
    same_Some _ _ (sym known.found ∙ ap (slice_get program.bodies) same_number ∙ body_there) in
    let its : body_of program routine ≡ Some body = known.its ∙ ap Some same_body in
    let has = laid.bodies number body body_there in
    let same_layout : has.layout ≡ layout = same_Some _ _ (sym has.there ∙ layout_there) in
    let found = found_there (IsLawfulBody program) (λ (body : Body). body.routine == routine) program.bodies body
    lawful.bodies its in (
      record {
        is_body = found.0;
        is_heading = same_Some _ _ (sym found.0.there
            ∙ ap (slice_get program.headings) (eqb-true body.routine routine found.1) ∙ there);
        laid = subst (IsLayout program.types body.variables) same_layout has.is;
      },
      its,
    )

-- where there is no memory for what a run would find, or for what is found
pub does_not_found : {A T U : Type 0} (most : ℕ) (kinds later : Kinds) (Is : T → A → Type 0) (doing : Doing Store A)
    (before now : MachineState) (why : Stop) (P : Run Store → U → Type 0)
    → ((ports : List PortState) (run : Run Store) → IsRun kinds ports before run → IsFound (P run) (Err why))
    → Does {T = T} most kinds later Is doing before now (Err why)
does_not_found most kinds later Is doing before now stop.OutOfMemory P is =
    does_no_memory most kinds later Is doing before now
does_not_found most kinds later Is doing before now (stop.Halted status) P is =
    record { each = λ ports run stands within. absurd (is ports run stands) }
does_not_found most kinds later Is doing before now stop.Going P is =
    record { each = λ ports run stands within. absurd (is ports run stands) }
does_not_found most kinds later Is doing before now (stop.Wrong kind) P is =
    record { each = λ ports run stands within. absurd (is ports run stands) }
does_not_found most kinds later Is doing before now stop.TooDeep P is =
    record { each = λ ports run stands within. absurd (is ports run stands) }
does_not_found most kinds later Is doing before now stop.PortFailed P is =
    record { each = λ ports run stands within. absurd (is ports run stands) }

pub does_if_found : {A : Type 0} (most : ℕ) (kinds later : Kinds) (Is : Unit {0} → A → Type 0)
    (doing : Doing Store A) (before now : MachineState) (result : Result (Unit {0}) Stop) (P : Type 0)
    → IsFound (λ (done : Unit {0}). P) result
    → (P → Does most kinds later Is doing before now (Ok (tt {0}))) → Does most kinds later Is doing before now result
does_if_found most kinds later Is doing before now (Ok done) P is does = does is
does_if_found most kinds later Is doing before now (Err why) P is does =
    does_not_found most kinds later Is doing before now why (λ run (done : Unit {0}). P) (λ ports run stands.
    found_other (λ (done : Unit {0}). P) (λ (done : Unit {0}). P) why is)
