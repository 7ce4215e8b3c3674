-- The layouts of a program, as they are made.
use Rattle.std.proofs.Common.{◌≡◌, ◌==◌, ℕ, zero, suc, ◌+◌, ◌<◌, List, [], ◌∷◌, ◌++◌, length, map, get_or, arith}
use Rattle.std.proofs.Common.{refl, sym, ap, ◌∙◌, subst, Some, slice_get, option_map, length-append}
use Rattle.std.proofs.Common.{inl, inr, ◌⊎◌, ◌≤◌, Bool, true, false, if◌then◌else◌}
use Rattle.std.specs.List.{find, position, position_or_len}
use Rattle.std.proofs.lemmas.Bool.{cases_lt}
use Rattle.std.proofs.lemmas.Grind.{common_steps}
use Rattle.std.proofs.lemmas.List.{length-map, get_or_append_left, get_or_push}
use Rattle.std.proofs.lemmas.List.Folds.{find_at}
use Rattle.std.proofs.lemmas.List.Quantifiers.{position-Some}
use Rattle.std.proofs.lemmas.Option.{same_Some, slice_get-map, slice_get_within, slice_get_read, slice_get-get_or}
use Rattle.std.proofs.lemmas.Option.{get_or_from_slice_get}
use Rattle.pas_typed.specs.Types as types
use Rattle.pas_typed.specs.Types.{Table}
use Rattle.pas_typed.specs.Typed.{Heading, Body}
use Rattle.pas_typed.specs.Shapes.{Shape, size, IsLawfulTable}
use Rattle.pas_typed.specs.TypeViews.{type_view, table_view, counted}
use Rattle.pas_typed.specs.TypedViews.{mode_view, variable_view, body_view, heading_view, program_view}
use Rattle.pas_typed.specs.declared.typed.Mode.{Mode as CodeMode}
use Rattle.pas_typed.specs.declared.typed.Mode.TheVariants as code
use Rattle.pas_typed.specs.declared.typed.Variable.{Variable as CodeVariable}
use Rattle.pas_typed.specs.declared.types.PasType.TheVariants as code_type
use Rattle.pas_typed.specs.declared.types.Base.TheVariants as code_base
use Rattle.pas_typed.specs.declared.typed.Body.{Body as CodeBody}
use Rattle.pas_typed.specs.declared.typed.TypedProgram.{TypedProgram as CodeProgram}
use Rattle.pas_typed.proofs.ShapeLemmas.{size-shape_of}
use Rattle.pas_meaning.specs.Standing.{Kind, kind_by, kind_of}
use Rattle.pas_run.specs.declared.layouts.Layout.{Layout}
use Rattle.pas_run.specs.inner.FlatStore.{cells_for, cells_before}
use Rattle.pas_run.specs.inner.Scenes.{IsLayout, HasLayout, HasBody}
use Rattle.pas_run.specs.inner.Laying.{AreLaid, IsNumbered, AreNumbers}

-- how many cells a variable has
kind_size : (mode : CodeMode) (shape : Shape) → (mode ≡ code.Declared) ⊎ (mode ≡ code.ByValue)
    → cells_for (kind_by (mode_view mode) shape) ≡ size shape
kind_size code.Declared shape is = refl
kind_size code.ByValue shape is = refl
kind_size code.ByName shape (inl same) = absurd (cc)
kind_size code.ByName shape (inr same) = absurd (cc)

pub variable_cells : (program : CodeProgram) (variable : CodeVariable) (result : ℕ)
    → (variable.mode ≡ code.Declared) ⊎ (variable.mode ≡ code.ByValue)
    → ((spellings : List ℕ)
    → counted (types.cells_of (table_view spellings program.types) (type_view variable.pas_type)) ≡ result)
    → IsLawfulTable (program_view program).types
    → counted (cells_for (kind_of (program_view program).types (variable_view program.spellings variable))) ≡ result
variable_cells program variable result is cells lawful =
    ap counted (kind_size variable.mode _ is
    ∙ size-shape_of (program_view program).types (type_view variable.pas_type) lawful)
    ∙ cells program.spellings

-- what is there in a longer list
there_on : {A : Type 0} (xs ys : List A) (k : ℕ) (x : A) → slice_get xs k ≡ Some x → slice_get (xs ++ ys) k ≡ Some x
there_on xs ys k x is =
    let within = slice_get_within xs k x is in
    slice_get-get_or (xs ++ ys) k x (omega (arith, within, length-append xs ys))
    ∙ ap Some (get_or_append_left xs ys x k within ∙ get_or_from_slice_get xs k x x is)

there_last : {A : Type 0} (xs : List A) (y : A) (k : ℕ) → length xs ≡ k → slice_get (xs ++ y ∷ []) k ≡ Some y
there_last xs y k is =
    slice_get-get_or (xs ++ y ∷ []) k y (omega (arith, is, length-append xs (y ∷ [])))
    ∙ ap Some (get_or_push xs y y k is)

-- the layout of the first variables
pub record LaidSoFar (row : List Kind) (offsets : List ℕ) (cells i : ℕ) : Type 0 where
  pub many : length offsets ≡ i
  pub each : (number : ℕ) → number < i → get_or offsets number 0 ≡ cells_before row number
  pub all : cells ≡ cells_before row i

before_none : (row : List Kind) → cells_before row zero ≡ 0
before_none [] = refl
before_none (kind ∷ row) = refl

before_next : (row : List Kind) (i : ℕ) (kind : Kind) → slice_get row i ≡ Some kind
    → cells_before row (suc i) ≡ cells_before row i + cells_for kind
before_next [] i kind is = absurd (cc)
before_next (first ∷ row) zero kind is =
    omega (arith, before_none row, ap cells_for (same_Some first kind is))
before_next (first ∷ row) (suc i) kind is = omega (arith, before_next row i kind is)

pub laid_none : (row : List Kind) → LaidSoFar row [] 0 0
laid_none row = record {
  many = refl;
  each = λ number less. absurd (omega (arith, less));
  all = sym (before_none row);
}

pub laid_next : (row : List Kind) (offsets : List ℕ) (cells i next : ℕ) (kind : Kind) → slice_get row i ≡ Some kind
    → next ≡ cells + cells_for kind → LaidSoFar row offsets cells i → LaidSoFar row (offsets ++ cells ∷ []) next (i + 1)
laid_next row offsets cells i next kind there is before = record {
  many = omega (arith, length-append offsets (cells ∷ []), before.many);
  each = λ number less. each_by number less (cases_lt number i);
  all = is
      ∙ ap (λ (n : ℕ). n + cells_for kind) before.all
      ∙ sym (before_next row i kind there)
      ∙ ap (cells_before row) (omega arith);
}
  where
    each_by : (number : ℕ) → number < i + 1 → (number < i) ⊎ (i ≤ number)
        → get_or (offsets ++ cells ∷ []) number 0 ≡ cells_before row number
    each_by number less (inl earlier) =
        get_or_append_left offsets (cells ∷ []) 0 number (omega (arith, earlier, before.many))
        ∙ before.each number earlier
    each_by number less (inr last) =
        let same : number ≡ i = omega (arith, less, last) in
        get_or_push offsets cells 0 number (omega (arith, same, before.many))
        ∙ before.all
        ∙ ap (cells_before row) (sym same)

pub kind_there : (table : Table) (spellings : List ℕ) (variables items : List CodeVariable) (i : ℕ)
    (default : CodeVariable) → items ≡ variables → i < length items
    → slice_get (map (kind_of table) (map (variable_view spellings) variables)) i
    ≡ Some (kind_of table (variable_view spellings (get_or items i default)))
kind_there table spellings variables items i default same less =
    slice_get-map (kind_of table) (map (variable_view spellings) variables) i
    ∙ ap (option_map (kind_of table)) (slice_get-map (variable_view spellings) variables i
    ∙ ap (option_map (variable_view spellings)) (ap (λ (xs : List CodeVariable). slice_get xs i) (sym same)
    ∙ slice_get-get_or items i default less))

-- a variable where none is
abbrev pub no_variable : CodeVariable
no_variable = record {
  name = record { first = 0; count = 0 };
  mode = code.Declared;
  pas_type = code_type.Whole code_base.Integer;
}

pub laid_all : (table : Table) (spellings : List ℕ) (variables items : List CodeVariable) (layout : Layout) (i : ℕ)
    → items ≡ variables → i ≡ length items
    → LaidSoFar (map (kind_of table) (map (variable_view spellings) variables)) layout.offsets layout.cells i
    → IsLayout table (map (variable_view spellings) variables) layout
laid_all table spellings variables items layout i same last so_far =
    let long : i ≡ length (map (variable_view spellings) variables) =
    omega (arith, last, ap length same, length-map variables (variable_view spellings)) in
    record {
      many = so_far.many ∙ long;
      each = λ number less. so_far.each number (omega (arith, less, long));
      cells = so_far.all
          ∙ ap (cells_before (map (kind_of table) (map (variable_view spellings) variables))) long;
    }

-- the layouts of the first bodies
pub record BodiesSoFar (program : CodeProgram) (layouts : List Layout) (i : ℕ) : Type 0 where
  pub many : length layouts ≡ i
  pub each : (number : ℕ) → number < i → (body : Body) → slice_get (program_view program).bodies number ≡ Some body
      → HasLayout (program_view program).types layouts number body

module _ (program : CodeProgram) where
  pub bodies_none : BodiesSoFar program [] 0
  bodies_none = record { many = refl; each = λ number less. absurd (omega (arith, less)) }

  pub bodies_next : (layouts : List Layout) (layout : Layout) (items : List CodeBody) (i : ℕ) (x : CodeBody)
      → items ≡ program.bodies → i < length items → x ≡ get_or items i x
      → IsLayout (program_view program).types (map (variable_view program.spellings) x.variables) layout
      → BodiesSoFar program layouts i → BodiesSoFar program (layouts ++ layout ∷ []) (i + 1)
  bodies_next layouts layout items i x same there is laid before = record {
    many = omega (arith, length-append layouts (layout ∷ []), before.many);
    each = λ number less body found. each_by number less body found (cases_lt number i);
  }
    where
      each_by : (number : ℕ) → number < i + 1 → (body : Body)
          → slice_get (program_view program).bodies number ≡ Some body
          → (number < i) ⊎ (i ≤ number) → HasLayout (program_view program).types (layouts ++ layout ∷ []) number body
      each_by number less body found (inl earlier) =
          let had = before.each number earlier body found in
          record {
            layout = had.layout;
            there = there_on layouts (layout ∷ []) number had.layout had.there;
            is = had.is;
          }
      each_by number less body found (inr last) =
          let last_one : number ≡ i = omega (arith, less, last) in
          let here : slice_get (program_view program).bodies number ≡ Some (body_view program.spellings x) =
          slice_get-map (body_view program.spellings) program.bodies number
          ∙ ap (option_map (body_view program.spellings)) (ap (slice_get program.bodies) last_one
          ∙ ap (λ (xs : List CodeBody). slice_get xs i) (sym same)
          ∙ slice_get_read items (length items) i x refl there is) in
          record {
            layout = layout;
            there = there_last layouts layout number (omega (arith, last_one, before.many));
            is = subst (λ (body : Body). IsLayout (program_view program).types body.variables layout)
                (same_Some (body_view program.spellings x) body (sym here ∙ found)) laid;
          }

  pub bodies_all : (layouts : List Layout) (items : List CodeBody) (i : ℕ) → items ≡ program.bodies
      → length items ≤ i → BodiesSoFar program layouts i → AreLaid (program_view program) layouts
  bodies_all layouts items i same last so_far number body found =
      so_far.each number (omega (
        arith,
        last,
        ap length same,
        slice_get_within (program_view program).bodies number body found,
        length-map program.bodies (body_view program.spellings),
      )) body found

-- the numbers of the bodies of the first routines
pub record NumbersSoFar (program : CodeProgram) (numbers : List ℕ) (i : ℕ) : Type 0 where
  pub many : length numbers ≡ i
  pub each : (routine : ℕ) → routine < i → IsNumbered program numbers routine

module _ (program : CodeProgram) where
  pub numbers_none : NumbersSoFar program [] 0
  numbers_none = record { many = refl; each = λ routine less. absurd (omega (arith, less)) }

  pub numbers_next : (numbers : List ℕ) (i number : ℕ)
      → position (λ (body : CodeBody). body.routine == i) program.bodies ≡ Some number
      → NumbersSoFar program numbers i → NumbersSoFar program (numbers ++ number ∷ []) (i + 1)
  numbers_next numbers i number is before = record {
    many = omega (arith, length-append numbers (number ∷ []), before.many);
    each = λ routine less. each_by routine less (cases_lt routine i);
  }
    where
      each_by : (routine : ℕ) → routine < i + 1 → (routine < i) ⊎ (i ≤ routine)
          → IsNumbered program (numbers ++ number ∷ []) routine
      each_by routine less (inl earlier) =
          let had = before.each routine earlier in
          record {
            number = had.number;
            there = there_on numbers (number ∷ []) routine had.number had.there;
            first = had.first;
          }
      each_by routine less (inr last) =
          let same : routine ≡ i = omega (arith, less, last) in
          record {
            number = number;
            there = there_last numbers number routine (omega (arith, same, before.many));
            first = ap (λ (n : ℕ). position (λ (body : CodeBody). body.routine == n) program.bodies) same ∙ is;
          }

-- what is found by its place
find-map : {A B : Type 0} (f : A → B) (p : B → Bool) (xs : List A)
    → find p (map f xs) ≡ option_map f (find (λ x. p (f x)) xs)
find-map f p [] = refl
find-map f p (x ∷ xs) = by_test (p (f x)) refl (find-map f p xs)
  where
    by_test : (test : Bool) → p (f x) ≡ test → find p (map f xs) ≡ option_map f (find (λ x. p (f x)) xs)
        → find p (map f (x ∷ xs)) ≡ option_map f (find (λ x. p (f x)) (x ∷ xs))
    by_test true is on = ap (λ (test : Bool). if test then Some (f x) else find p (map f xs)) is
        ∙ sym (ap (λ (test : Bool). option_map f (if test then Some x else find (λ x. p (f x)) xs)) is)
    by_test false is on = ap (λ (test : Bool). if test then Some (f x) else find p (map f xs)) is
        ∙ on
        ∙ sym (ap (λ (test : Bool). option_map f (if test then Some x else find (λ x. p (f x)) xs)) is)

find-position : {A : Type 0} (p : A → Bool) (xs : List A) (i : ℕ) → position p xs ≡ Some i
    → find p xs ≡ slice_get xs i
find-position p xs i is =
    let at : position_or_len p xs ≡ i = grind (arith, common_steps) in
    find_at p xs ∙ ap (slice_get xs) at

position_there : {A : Type 0} (p : A → Bool) (xs : List A) (i : ℕ) → position p xs ≡ Some i
    → (x : A) × (slice_get xs i ≡ Some x)
position_there p [] i is = absurd (cc)
position_there p (x ∷ xs) i is =
    (get_or (x ∷ xs) i x, slice_get-get_or (x ∷ xs) i x (position-Some p (x ∷ xs) i x is).0)

pub bodies_found : (program : CodeProgram) (numbers : List ℕ) → AreNumbers program numbers → (routine : ℕ)
    (heading : Heading) → slice_get (program_view program).headings routine ≡ Some heading
    → HasBody (program_view program) numbers routine
bodies_found program numbers are routine heading there =
    let numbered = are routine (omega (
      arith,
      slice_get_within (program_view program).headings routine heading there,
      length-map program.headings (heading_view program.spellings),
    )) in
    let body = position_there (λ (body : CodeBody). body.routine == routine) program.bodies numbered.number
    numbered.first in
    record {
      number = numbered.number;
      there = numbered.there;
      body = body_view program.spellings body.0;
      found = slice_get-map (body_view program.spellings) program.bodies numbered.number
          ∙ ap (option_map (body_view program.spellings)) body.1;
      its = find-map (body_view program.spellings) (λ (body : Body). body.routine == routine) program.bodies
          ∙ ap (option_map (body_view program.spellings))
          (find-position (λ (body : CodeBody). body.routine == routine) program.bodies numbered.number numbered.first
          ∙ body.1);
    }
