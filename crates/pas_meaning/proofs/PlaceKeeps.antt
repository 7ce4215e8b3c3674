-- Places of a lawful program: where they are, what is read there and what may be stored there.
use Rattle.std.proofs.Common.{◌≡◌, ℕ, ◌-◌, ◌<◌, List, [], ◌∷◌, length, Option, Some, None}
use Rattle.std.proofs.Common.{is_some, ℤ, pos, slice_get, arith, refl, sym, ap, ◌∙◌, subst}
use Rattle.std.proofs.Common.{inl, inr, ◌⊎◌, All, option_map}
use Rattle.std.specs.Prelude.{⊤}
use Rattle.std.proofs.lemmas.Option.{slice_get_within, same_Some, get_or_from_slice_get, option_and_then_some}
use Rattle.pas_typed.specs.Types.{Range, Field, PasType, range_of, elements_of, fields_of, count_of}
use Rattle.pas_typed.specs.Typed as typed
use Rattle.pas_typed.specs.Typed.{Mode, Home, Slot, Variable, TypedProgram}
use Rattle.pas_typed.specs.Shapes.{Shape, Leads, shape_of}
use Rattle.pas_typed.specs.Lawful.{IsOrdinal, Takes, variables_of, IsLawfulSlot, IsLawful, field_type}
use Rattle.pas_typed.proofs.ShapeLemmas.{leads_on, shape_of-ordinal, element_leads, field_leads}
use Rattle.pas_meaning.specs.declared.errors.TheConstants.{OUT_OF_RANGE}
use Rattle.pas_meaning.specs.Answers.{then_answer}
use Rattle.pas_meaning.specs.Files as files
use Rattle.pas_meaning.specs.Outcome.{World, ask}
use Rattle.pas_meaning.specs.Store.{Datum, undefined, holds, Cell, own, refers, Store, cell_at, followed, home_by}
use Rattle.pas_meaning.specs.Store.{home_of, top_of, along, number_in, number_of, in_range, number_for}
use Rattle.pas_meaning.specs.Store.{fits_by, fits, put_at, defined_by}
use Rattle.pas_meaning.specs.Operands.{byte_of}
use Rattle.pas_meaning.specs.Run as run
use Rattle.pas_meaning.specs.Run.{Spot}
use Rattle.pas_meaning.specs.Cells.{IsShaped}
use Rattle.pas_meaning.specs.Standing.{kind_by, Kinds, kind_at, Aims, Matches, Stands, Keeps}
use Rattle.pas_meaning.specs.Standing.{Knows, IsOfType, IsSpot}
use Rattle.pas_meaning.proofs.StandingLemmas.{aims_along, fetched_shaped, stands_stored}
use Rattle.pas_meaning.proofs.KeepsLemmas.{Answered, answered_any, answered_then, keeps_bind, keeps_any, keeps_ask}
use Rattle.pas_meaning.proofs.KeepsLemmas.{keeps_changed, keeps_on_file, keeps_worldly}

pub all_get : {A : Type 0} (P : A → Type 0) (xs : List A) (number : ℕ) (x : A) → All P xs
    → slice_get xs number ≡ Some x → P x
all_get P xs number x all there =
    subst P (get_or_from_slice_get xs number x x there) (all number x (slice_get_within xs number x there))

-- data of a type
module _ (program : TypedProgram) (lawful : IsLawful program) where
  abbrev Sound : PasType → Datum → Type 0
  Sound type datum = IsOfType program.types type datum

  pub ordinal_holds : (type : PasType) (value : ℤ) → IsOrdinal program.types type → Sound type (holds value)
  ordinal_holds type value is =
      subst (λ shape. IsShaped shape (holds value)) (sym (shape_of-ordinal program.types type lawful.types is)) tt

  pub ordinal_undefined : (type : PasType) → IsOrdinal program.types type → Sound type undefined
  ordinal_undefined type is =
      subst (λ shape. IsShaped shape undefined) (sym (shape_of-ordinal program.types type lawful.types is)) tt

  ordinal_by : (type : PasType) (range : Range) → range_of program.types type ≡ Some range
      → IsOrdinal program.types type
  ordinal_by type range is = ap is_some is

  -- a datum that a target of a type may take
  abbrev pub MayTake : PasType → Datum → Type 0
  MayTake type datum = IsOrdinal program.types type ⊎ Sound type datum

  pub may_take : (type source : PasType) (datum : Datum) → Takes program.types type source → Sound source datum
      → MayTake type datum
  may_take type source datum (inl ordinal) sound = inl ordinal.0
  may_take type source datum (inr same) sound = inr (subst (λ type. Sound type datum) (sym same) sound)

  fits_sound_by : (type : PasType) (datum : Datum) (range : Option Range) → range_of program.types type ≡ range
      → MayTake type datum → Answered (Sound type) (fits_by range datum)
  fits_sound_by type datum None is (inl ordinal) = absurd (cc)
  fits_sound_by type datum None is (inr sound) = sound
  fits_sound_by type datum (Some range) is may = of_number (number_in datum)
    where
      of_number : (found : Option ℤ) → Answered (Sound type) (number_for range found)
      of_number None = tt
      of_number (Some value) =
          answered_then (λ checked. ⊤) (Sound type) (in_range OUT_OF_RANGE range value) _ (answered_any _)
          (λ checked is_checked. ordinal_holds type checked (ordinal_by type range is))

  -- what fits a type is of its shape
  pub fits_sound : (type : PasType) (datum : Datum) → MayTake type datum
      → Answered (Sound type) (fits program.types type datum)
  fits_sound type datum may = fits_sound_by type datum (range_of program.types type) refl may

  defined_sound : (type : PasType) (datum : Datum) (range : Option Range) → range_of program.types type ≡ range
      → Sound type datum → Answered (Sound type) (defined_by range datum)
  defined_sound type datum None is sound = sound
  defined_sound type datum (Some range) is sound =
      answered_then (λ value. ⊤) (Sound type) (number_of datum) _ (answered_any _)
      (λ value is_value. ordinal_holds type value (ordinal_by type range is))

  -- where a variable is
  abbrev shape : PasType → Shape
  shape type = shape_of program.types type

  followed_aims : (kinds : Kinds) (activation variable : ℕ) (mode : Mode) (part : Shape) (cell : Cell)
      → kind_at kinds activation variable ≡ Some (kind_by mode part) → Matches kinds activation (kind_by mode part) cell
      → Aims kinds (followed activation variable cell) part
  followed_aims kinds activation variable typed.declared part (own datum) there is =
      record { root = part; there = there; leads = refl }
  followed_aims kinds activation variable typed.declared part (refers reference) there is = absurd is
  followed_aims kinds activation variable typed.by_value part (own datum) there is =
      record { root = part; there = there; leads = refl }
  followed_aims kinds activation variable typed.by_value part (refers reference) there is = absurd is
  followed_aims kinds activation variable typed.by_name part (own datum) there is = absurd is
  followed_aims kinds activation variable typed.by_name part (refers reference) there is = is.0

  module _ (variables : List Variable) (result : Option PasType) (kinds : Kinds)
      (knows : Knows program variables result kinds) where
    home_aims : (home : Home) (number : ℕ) (variable : Variable) (store : Store) → Stands kinds store
        → slice_get (variables_of program variables home) number ≡ Some variable
        → Aims kinds (home_by home number store) (shape variable.type)
    home_aims typed.global number variable store stands there = record {
      root = shape variable.type;
      there = knows.globals number variable there
          ∙ ap (λ mode. Some (kind_by mode (shape variable.type)))
          (all_get (λ (found : Variable). found.mode ≡ typed.declared) program.globals number variable lawful.globals
          there);
      leads = refl;
    }
    home_aims typed.local number variable store stands there =
        let top : top_of store ≡ length kinds - 1 = ap (λ rows. rows - 1) stands.rows in
        let known = ap (λ activation. kind_at kinds activation number) top ∙ knows.locals number variable there in
        followed_aims kinds (top_of store) number variable.mode (shape variable.type)
        (cell_at (top_of store) number store) known (stands.cells (top_of store) number _ known)

    pub slot_aims : (slot : Slot) (store : Store) → Stands kinds store → IsLawfulSlot program variables slot
        → Aims kinds (home_of slot store) (shape slot.type)
    slot_aims slot store stands is =
        subst (λ type. Aims kinds (home_of slot store) (shape type)) is.type
        (home_aims slot.home slot.number is.variable store stands is.there)

    spot_on : (type part : PasType) (spot : Spot) (number : ℕ) → IsSpot program variables type spot
        → Leads (shape type) (number ∷ []) (shape part) → IsSpot program variables part (run.along_part spot number)
    spot_on type part (run.part slot path) number is leads =
        (is.0, leads_on path (number ∷ []) (shape slot.type) (shape type) (shape part) is.1 leads)
    spot_on type part (run.window slot of_component) number is leads =
        absurd (omega (
          arith,
          (subst (λ whole. Leads whole (number ∷ []) (shape part))
              (shape_of-ordinal program.types type lawful.types is.1) leads).0,
        ))

    pub element_spot : (type element : PasType) (range : Range) (spot : Spot) (number : ℕ)
        → IsSpot program variables type spot
        → elements_of program.types type ≡ Some (record { indexes = range; element = element })
        → number < count_of range → IsSpot program variables element (run.along_part spot number)
    element_spot type element range spot number is parts less =
        spot_on type element spot number is (element_leads program.types type _ lawful.types parts number less)

    pub field_spot : (type of_field : PasType) (spot : Spot) (number : ℕ) → IsSpot program variables type spot
        → field_type program.types type number ≡ Some of_field
        → IsSpot program variables of_field (run.along_part spot number)
    field_spot type of_field spot number is found =
        option_and_then_some (λ found. option_map (λ field. field.type) (slice_get found number))
        (fields_of program.types type) of_field found (λ fields are there. in_fields fields are
        (slice_get fields number) refl there)
      where
        in_fields : (fields : List Field) → fields_of program.types type ≡ Some fields → (field : Option Field)
            → slice_get fields number ≡ field → option_map (λ (field : Field). field.type) field ≡ Some of_field
            → IsSpot program variables of_field (run.along_part spot number)
        in_fields fields are None there typed_so = absurd (cc)
        in_fields fields are (Some field) there typed_so =
            spot_on type of_field spot number is
            (subst (λ part. Leads (shape type) (number ∷ []) (shape part)) (same_Some _ _ typed_so)
            (field_leads program.types type fields lawful.types are number field there))

    -- what is read there
    read_sound : (type : PasType) (spot : Spot) (store : Store) (world : World) → Stands kinds store
        → IsSpot program variables type spot
        → Answered (Sound type) (run.read_at program.types type spot store world)
    read_sound type (run.part slot path) store world stands is =
        defined_sound type _ (range_of program.types type) refl
        (fetched_shaped kinds store (along (home_of slot store) path) (shape type) stands
        (aims_along kinds (home_of slot store) (shape slot.type) (shape type) path
        (slot_aims slot store stands is.0) is.1))
    read_sound type (run.window slot of_component) store world stands is =
        subst (λ component. Answered (Sound type) (run.read_at program.types type
        (run.window slot component) store world))
        (sym is.0)
        (answered_then (λ byte. ⊤) (Sound type) (run.of_file slot files.buffer_read store world) _ (answered_any _)
        (λ byte is_byte. fits_sound type (holds (pos byte)) (inl is.1)))

    pub keeps_read : (type : PasType) (spot : Spot) → IsSpot program variables type spot
        → Keeps kinds kinds (Sound type) (ask (run.read_at program.types type spot))
    keeps_read type spot is =
        keeps_ask (run.read_at program.types type spot)
        (λ store world stands. read_sound type spot store world stands is)

    -- and what is stored there: in a buffer, whatever it is
    pub keeps_window : (type of_component : PasType) (file : Slot) (datum : Datum)
        → Keeps kinds kinds (λ value. ⊤) (run.store_at program.types type (run.window file of_component) datum)
    keeps_window type of_component file datum =
        keeps_bind (keeps_any (then_answer (fits program.types of_component datum) (byte_of OUT_OF_RANGE)))
        (λ byte is_byte. keeps_on_file file _ (λ number. keeps_worldly _))

    pub keeps_store : (type : PasType) (spot : Spot) (datum : Datum) → IsSpot program variables type spot
        → MayTake type datum
        → Keeps kinds kinds (λ value. ⊤) (run.store_at program.types type spot datum)
    keeps_store type (run.part slot path) datum is may =
        keeps_changed (λ store. put_at program.types type (along (home_of slot store) path) datum store)
        (λ store stands. answered_then (Sound type) (Stands kinds) (fits program.types type datum) _
        (fits_sound type datum may)
        (λ checked shaped. stands_stored kinds store (along (home_of slot store) path) (shape type) checked stands
        (aims_along kinds (home_of slot store) (shape slot.type) (shape type) path
        (slot_aims slot store stands is.0) is.1) shaped))
    keeps_store type (run.window slot of_component) datum is may =
        keeps_window type of_component slot datum
